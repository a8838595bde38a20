-- What a turn on a shard may ask for, and what it leaves.
use Rattle.std.specs.Prelude.{◌≡◌, ◌≢◌, ℕ, ◌<◌, ◌⊎◌, List, [], ◌∷◌, ◌++◌, Some, None, Ok, Err}
use Rattle.memo_core.specs.declared.event.Event.TheVariants.{Look as LookEvent, Keep as KeepEvent, Release as ReleaseEvent, Sweep as SweepEvent}
use Rattle.memo_core.specs.declared.event.LookAnswer.TheVariants.{Hit as HitAnswer, Absent as AbsentAnswer, Clash as ClashAnswer}
use Rattle.memo_core.specs.declared.event.KeepAnswer.TheVariants.{Stored as StoredAnswer, Found as FoundAnswer, Clash as KeepClashAnswer}
use Rattle.memo_server.specs.declared.turn.Turn.{Turn}
use Rattle.memo_server.specs.declared.turn.Turn.TheVariants.{Made, Empty}
use Rattle.memo_server.specs.declared.ops.ShardOp.{ShardOp}
use Rattle.memo_server.specs.declared.ops.ShardOp.TheVariants.{Look, Keep, Release, Sweep}
use Rattle.memo_server.specs.declared.ops.ShardReply.{ShardReply}
use Rattle.memo_server.specs.declared.ops.ShardReply.TheVariants.{Look as LookReply, Keep as KeepReply, Release as ReleaseReply, Sweep as SweepReply}
use Rattle.memo_server.specs.declared.answers.ShardLook.{ShardLook}
use Rattle.memo_server.specs.declared.answers.ShardLook.TheVariants.{Hit, Absent, Clash}
use Rattle.memo_server.specs.declared.answers.ShardKeep.{ShardKeep}
use Rattle.memo_server.specs.declared.answers.ShardKeep.TheVariants.{Stored, Found, Clash as KeepClash}
use Rattle.memo_server.specs.Shards.{ShardView}
use Rattle.memo_server.specs.Histories.{events}
use Rattle.memo_server.specs.Callers.{own_held, whose}

module _ {R I O : Type 0} (fits : I → O → Type 0) where
  -- What a caller with these turns under its number may ask for.
  abbrev pub May : List Turn → ShardOp R I O → Type 0
  May ts (Look run input) = Unit {0}
  May ts (Keep run input out) = fits input out
  May ts (Release id) = 0 < own_held id (events ts)
  May ts (Sweep horizon) = Unit {0}

  module _ (digest_of : I → List ℕ) where
    -- The turn of a look with its answer.
    abbrev pub LookAnswered : Turn → ℕ → ℕ → I → ShardLook R I O → Type 0
    LookAnswered e who run input Absent = e ≡ Made (LookEvent who run (digest_of input) AbsentAnswer)
    LookAnswered e who run input (Hit s) = (e ≡ Made (LookEvent who run (digest_of input) (HitAnswer s.id))) × (s.input ≡ input) × fits s.input s.out
    LookAnswered e who run input (Clash s) = (e ≡ Made (LookEvent who run (digest_of input) (ClashAnswer s.id))) × (s.input ≢ input) × (digest_of s.input ≡ digest_of input) × fits s.input s.out

    -- The turn of a keep with its answer.
    abbrev pub KeepAnswered : Turn → ℕ → ℕ → I → O → ShardKeep R I O → Type 0
    KeepAnswered e who run input out (Stored s) = (e ≡ Made (KeepEvent who run (digest_of input) (StoredAnswer s.id))) × (s.input ≡ input) × (s.out ≡ out)
    KeepAnswered e who run input out (Found s) = (e ≡ Made (KeepEvent who run (digest_of input) (FoundAnswer s.id))) × (s.input ≡ input) × fits s.input s.out
    KeepAnswered e who run input out (KeepClash s i o) = (e ≡ Made (KeepEvent who run (digest_of input) (KeepClashAnswer s.id))) × (i ≡ input) × (o ≡ out) × (s.input ≢ input) × (digest_of s.input ≡ digest_of input) × fits s.input s.out

    -- The turn of a look, which is empty out of memory.
    abbrev pub ToLook : Turn → ℕ → I → ShardReply R I O → Type 0
    ToLook e run input (LookReply (Ok answer)) = (who : ℕ) × LookAnswered e who run input answer
    ToLook e run input (LookReply (Err m)) = e ≡ Empty
    ToLook e run input _ = ⊥

    -- The turn of a keep, which is empty out of memory and hands everything back.
    abbrev pub ToKeep : Turn → ℕ → I → O → ShardReply R I O → Type 0
    ToKeep e run input out (KeepReply (Ok answer)) = (who : ℕ) × KeepAnswered e who run input out answer
    ToKeep e run input out (KeepReply (Err back)) = (e ≡ Empty) × (back.1 ≡ input) × (back.2 ≡ out)
    ToKeep e run input out _ = ⊥

    -- The turn of a release.
    abbrev pub ToRelease : Turn → ℕ → ShardReply R I O → Type 0
    ToRelease e id ReleaseReply = (who : ℕ) × (e ≡ Made (ReleaseEvent who id))
    ToRelease e id _ = ⊥

    -- The turn of a sweep, which is empty out of memory.
    abbrev pub ToSweep : Turn → ℕ → ShardReply R I O → Type 0
    ToSweep e horizon (SweepReply (Ok dropped)) = (who : ℕ) × (e ≡ Made (SweepEvent who horizon dropped))
    ToSweep e horizon (SweepReply (Err m)) = e ≡ Empty
    ToSweep e horizon _ = ⊥

    -- The turn that an operation with this reply leaves.
    abbrev pub AnswersOp : Turn → ShardOp R I O → ShardReply R I O → Type 0
    AnswersOp e (Look run input) reply = ToLook e run input reply
    AnswersOp e (Keep run input out) reply = ToKeep e run input out reply
    AnswersOp e (Release id) reply = ToRelease e id reply
    AnswersOp e (Sweep horizon) reply = ToSweep e horizon reply

    -- A play adds one turn, of its caller or of nobody.
    abbrev pub Plays : ℕ → ShardOp R I O → ShardReply R I O → ShardView I O → ShardView I O → Type 0
    Plays who op reply old new = (e : Turn) × (new.turns ≡ old.turns ++ e ∷ []) × AnswersOp e op reply × ((whose e ≡ Some who) ⊎ (whose e ≡ None))

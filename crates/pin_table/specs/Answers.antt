-- What the calls of a memo return, and what their caller then knows.
use Rattle.std.specs.Prelude.{◌≡◌, ◌≢◌, ℕ, ◌<◌, List, length}
use Rattle.memo_core.specs.declared.event.Event.TheVariants.{Look, Keep}
use Rattle.memo_core.specs.declared.event.LookAnswer.TheVariants.{Hit as HitAnswer, Absent as AbsentAnswer, Clash as ClashAnswer}
use Rattle.memo_core.specs.declared.event.KeepAnswer.TheVariants.{Stored as StoredAnswer, Found as FoundAnswer, Clash as KeepClashAnswer}
use Rattle.memo_core.specs.History.{held}
use Rattle.turn_lock.specs.declared.tokens.Turned.{Turned}
use Rattle.turn_lock.specs.declared.tokens.Turned.TheVariants.{Worn as WornTurn}
use Rattle.memo_server.specs.declared.turn.Turn.{Turn}
use Rattle.memo_server.specs.declared.turn.Turn.TheVariants.{Made, Empty}
use Rattle.memo_server.specs.declared.ops.ShardOp.{ShardOp}
use Rattle.memo_server.specs.declared.ops.ShardOp.TheVariants.{Look as LookOp, Keep as KeepOp, Release as ReleaseOp, Sweep as SweepOp}
use Rattle.memo_server.specs.declared.ops.ShardReply.{ShardReply}
use Rattle.memo_server.specs.Views.{EntryView}
use Rattle.memo_server.specs.Turns.{AnswersOp}
use Rattle.pin_table.specs.declared.answers.Looked.{Looked}
use Rattle.pin_table.specs.declared.answers.Looked.TheVariants.{Hit, Absent, Clash}
use Rattle.pin_table.specs.declared.answers.Kept.{Kept}
use Rattle.pin_table.specs.declared.answers.Kept.TheVariants.{Stored, Found, Clash as KeepClash}
use Rattle.pin_table.specs.declared.answers.MemoFault.{MemoFault}
use Rattle.pin_table.specs.declared.answers.MemoFault.TheVariants.{Worn, Mem}
use Rattle.pin_table.specs.Views.{ShardKnown, CallerView, PinView}
use Rattle.pin_table.specs.Known.{Gained, Missed, WornOut, AtShard}
use Rattle.pin_table.specs.Placing.{shard_at}

-- A fault at a shard: its lock was worn, or memory ran out.
abbrev pub Faults : MemoFault → ℕ → CallerView → CallerView → Type 0
Faults (Worn ticket) s old new = AtShard (WornOut ticket) s old new
Faults Mem s old new = AtShard (Missed old.number) s old new

-- The turn that was played: the caller's event, or an empty one.
abbrev pub Went : ℕ → Turn → ShardKnown → ShardKnown → Type 0
Went number (Made e) old new = Gained number e old new
Went number Empty old new = Missed number old new

module _ {I O : Type 0} (fits : I → O → Type 0) (digest_of : I → List ℕ) where
  -- A look gave this pin, on an entry of its input.
  abbrev pub HitAs : ℕ → ℕ → ℕ → I → PinView I O → ShardKnown → ShardKnown → Type 0
  HitAs number s run input p old new = (p.caller ≡ number) × (p.shard ≡ s) × (p.input ≡ input) × fits p.input p.out × Gained number (Look number run (digest_of input) (HitAnswer p.id)) old new

  -- A look met this entry, of another input with an equal digest.
  abbrev pub ClashAs : ℕ → ℕ → I → EntryView I O → ShardKnown → ShardKnown → Type 0
  ClashAs number run input e old new = (e.input ≢ input) × (digest_of e.input ≡ digest_of input) × fits e.input e.out × Gained number (Look number run (digest_of input) (ClashAnswer e.id)) old new

  -- A keep stored what was handed in, and gave this pin on it.
  abbrev pub StoredAs : ℕ → ℕ → ℕ → I → O → PinView I O → ShardKnown → ShardKnown → Type 0
  StoredAs number s run input out p old new = (p.caller ≡ number) × (p.shard ≡ s) × (p.input ≡ input) × (p.out ≡ out) × Gained number (Keep number run (digest_of input) (StoredAnswer p.id)) old new

  -- A keep found an entry of its input, and gave this pin on it.
  abbrev pub FoundAs : ℕ → ℕ → ℕ → I → PinView I O → ShardKnown → ShardKnown → Type 0
  FoundAs number s run input p old new = (p.caller ≡ number) × (p.shard ≡ s) × (p.input ≡ input) × fits p.input p.out × Gained number (Keep number run (digest_of input) (FoundAnswer p.id)) old new

  -- A keep met this entry, of another input with an equal digest, and gave back what was handed in.
  abbrev pub KeepClashAs : ℕ → ℕ → I → O → EntryView I O → I → O → ShardKnown → ShardKnown → Type 0
  KeepClashAs number run input out e i o old new = (i ≡ input) × (o ≡ out) × (e.input ≢ input) × (digest_of e.input ≡ digest_of input) × fits e.input e.out × Gained number (Keep number run (digest_of input) (KeepClashAnswer e.id)) old new

module _ {R I O : Type 0} (fits : I → O → Type 0) where
  -- What a caller may ask for, by its own events of the shard.
  abbrev pub MayAsk : ℕ → ShardKnown → ShardOp R I O → Type 0
  MayAsk number k (LookOp run input) = Unit {0}
  MayAsk number k (KeepOp run input out) = fits input out
  MayAsk number k (ReleaseOp id) = 0 < held number id k.mine
  MayAsk number k (SweepOp horizon) = Unit {0}

  module _ (digest_of : I → List ℕ) where
    -- A turn for this operation, with this reply.
    abbrev pub TookTurn : ShardOp R I O → ShardReply R I O → ℕ → ShardKnown → ShardKnown → Type 0
    TookTurn op reply number old new = (e : Turn) × AnswersOp fits digest_of e op reply × Went number e old new

    -- A refused turn gives the operation back.
    abbrev pub RefusedTurn : ShardOp R I O → Turned (ShardOp R I O) → ℕ → CallerView → CallerView → Type 0
    RefusedTurn op (WornTurn ticket back) s old new = (back ≡ op) × AtShard (WornOut ticket) s old new

    -- A look at the shard, by its answer.
    abbrev pub LookedAs : ℕ → ℕ → ℕ → I → Looked R I O → ShardKnown → ShardKnown → Type 0
    LookedAs number s run input (Hit p) old new = HitAs fits digest_of number s run input p old new
    LookedAs number s run input Absent old new = Gained number (Look number run (digest_of input) AbsentAnswer) old new
    LookedAs number s run input (Clash e) old new = ClashAs fits digest_of number run input e old new

    -- A keep at the shard, by its answer.
    abbrev pub KeptAs : ℕ → ℕ → ℕ → I → O → Kept R I O → ShardKnown → ShardKnown → Type 0
    KeptAs number s run input out (Stored p) old new = StoredAs fits digest_of number s run input out p old new
    KeptAs number s run input out (Found p) old new = FoundAs fits digest_of number s run input p old new
    KeptAs number s run input out (KeepClash e i o) old new = KeepClashAs fits digest_of number run input out e i o old new

    -- A look at the shard of its input.
    abbrev pub Looks : ℕ → I → Looked R I O → CallerView → CallerView → Type 0
    Looks run input looked old new = AtShard (LookedAs old.number (shard_at (digest_of input) (length old.locks)) run input looked) (shard_at (digest_of input) (length old.locks)) old new

    -- A keep at the shard of its input.
    abbrev pub Keeps : ℕ → I → O → Kept R I O → CallerView → CallerView → Type 0
    Keeps run input out kept old new = AtShard (KeptAs old.number (shard_at (digest_of input) (length old.locks)) run input out kept) (shard_at (digest_of input) (length old.locks)) old new

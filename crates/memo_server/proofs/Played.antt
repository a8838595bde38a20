-- A play's turn, from what the shard's call says.
use Rattle.std.proofs.Common.{◌≡◌, ℕ, ◌+◌, ◌-◌, ◌^◌, ◌<◌, ◌≤◌, inl, List, [], ◌∷◌, length, Option, Some, None, Ok, refl, ap, subst, arith}
use Rattle.std.specs.Option.{option_and_then}
use Rattle.memo_core.specs.declared.state.CoreState.{CoreState}
use Rattle.memo_core.specs.declared.event.Event.{Event}
use Rattle.memo_core.specs.declared.event.Event.TheVariants.{Look as LookEvent, Keep as KeepEvent, Release as ReleaseEvent, Sweep as SweepEvent}
use Rattle.memo_core.specs.declared.event.LookAnswer.TheVariants.{Hit as HitAnswer, Absent as AbsentAnswer, Clash as ClashAnswer}
use Rattle.memo_core.specs.declared.event.KeepAnswer.TheVariants.{Stored as StoredAnswer, Found as FoundAnswer, Clash as KeepClashAnswer}
use Rattle.memo_core.specs.Machine.{replayed, replayed_from, after_event, start}
use Rattle.memo_core.proofs.Invariant.{when_some}
use Rattle.memo_server.specs.declared.turn.Turn.{Turn}
use Rattle.memo_server.specs.declared.turn.Turn.TheVariants.{Made, Empty}
use Rattle.memo_server.specs.declared.ops.ShardOp.TheVariants.{Look, Keep}
use Rattle.memo_server.specs.declared.ops.ShardReply.TheVariants.{Look as LookReply, Keep as KeepReply}
use Rattle.memo_server.specs.declared.answers.ShardLook.{ShardLook}
use Rattle.memo_server.specs.declared.answers.ShardLook.TheVariants.{Hit, Absent, Clash}
use Rattle.memo_server.specs.declared.answers.ShardKeep.{ShardKeep}
use Rattle.memo_server.specs.declared.answers.ShardKeep.TheVariants.{Stored, Found, Clash as KeepClash}
use Rattle.memo_server.specs.Views.{EntryView}
use Rattle.memo_server.specs.Shards.{ShardView}
use Rattle.memo_server.specs.Calls.{LookGives, KeepGives}
use Rattle.memo_server.specs.Histories.{events}
use Rattle.memo_server.specs.Turns.{Plays}

module _ {R I O : Type 0} (fits : I → O → Type 0) (digest_of : I → List ℕ) (old new : ShardView I O) (who : ℕ) where
  pub plays-look : (run : ℕ) (input : I) (a : ShardLook R I O) → LookGives fits digest_of old who run input a new → Plays fits digest_of who (Look run input) (LookReply (Ok a)) old new
  plays-look run input Absent h = (Made (LookEvent who run (digest_of input) AbsentAnswer), h.1.adds.turns, (who, refl), inl refl)
  plays-look run input (Hit s) h = (Made (LookEvent who run (digest_of input) (HitAnswer s.id)), h.2.adds.turns, (who, (refl, h.1, h.0.made)), inl refl)
  plays-look run input (Clash s) h = (Made (LookEvent who run (digest_of input) (ClashAnswer s.id)), h.2.adds.turns, (who, (refl, h.1, h.0.keyed, h.0.made)), inl refl)

  pub plays-keep : (run : ℕ) (input : I) (out : O) (a : ShardKeep R I O) → KeepGives fits digest_of old who run input out a new → Plays fits digest_of who (Keep run input out) (KeepReply (Ok a)) old new
  plays-keep run input out (Stored s) h = (Made (KeepEvent who run (digest_of input) (StoredAnswer s.id)), h.1.adds.turns, (who, (refl, ap (λ (t : EntryView I O). t.input) h.1.same, ap (λ (t : EntryView I O). t.out) h.1.same)), inl refl)
  plays-keep run input out (Found s) h = (Made (KeepEvent who run (digest_of input) (FoundAnswer s.id)), h.2.adds.turns, (who, (refl, h.1, h.0.made)), inl refl)
  plays-keep run input out (KeepClash s i o) h = (Made (KeepEvent who run (digest_of input) (KeepClashAnswer s.id)), h.4.adds.turns, (who, (refl, h.2, h.3, h.1, h.0.keyed, h.0.made)), inl refl)

-- a state's next id is at most the number of events
after_event-next : (s t : CoreState) (e : Event) → after_event s e ≡ Some t → t.next ≤ s.next + 1
after_event-next s t (LookEvent c run d (HitAnswer id)) is = let w = ap (λ (u : CoreState). u.next) (when_some _ _ _ is).1 in omega (arith, w)
after_event-next s t (LookEvent c run d AbsentAnswer) is = let w = ap (λ (u : CoreState). u.next) (when_some _ _ _ is).1 in omega (arith, w)
after_event-next s t (LookEvent c run d (ClashAnswer id)) is = let w = ap (λ (u : CoreState). u.next) (when_some _ _ _ is).1 in omega (arith, w)
after_event-next s t (KeepEvent c run d (StoredAnswer id)) is = let w = ap (λ (u : CoreState). u.next) (when_some _ _ _ is).1 in omega (arith, w)
after_event-next s t (KeepEvent c run d (FoundAnswer id)) is = let w = ap (λ (u : CoreState). u.next) (when_some _ _ _ is).1 in omega (arith, w)
after_event-next s t (KeepEvent c run d (KeepClashAnswer id)) is = let w = ap (λ (u : CoreState). u.next) (when_some _ _ _ is).1 in omega (arith, w)
after_event-next s t (ReleaseEvent c id) is = let w = ap (λ (u : CoreState). u.next) (when_some _ _ _ is).1 in omega (arith, w)
after_event-next s t (SweepEvent c h n) is = let w = ap (λ (u : CoreState). u.next) (when_some _ _ _ is).1 in omega (arith, w)

replayed-next : (s t : CoreState) (es : List Event) → replayed_from s es ≡ Some t → t.next ≤ s.next + length es
replayed-next s t [] is = let w : s.next ≡ t.next = (let inj : (a b : CoreState) → Some a ≡ Some b → a ≡ b = λ a b q. cc in ap (λ (u : CoreState). u.next) (inj s t is)) in omega (arith, w)
replayed-next s t (e ∷ es) is = step_case (after_event s e) refl is (λ u. replayed-next u t es)
  where
    step_case : (o : Option CoreState) → after_event s e ≡ o → option_and_then (λ u. replayed_from u es) o ≡ Some t → ((u : CoreState) → replayed_from u es ≡ Some t → t.next ≤ u.next + length es) → t.next ≤ s.next + length (e ∷ es)
    step_case None stepped is ih = cc
    step_case (Some u) stepped is ih = let a = ih u is in let b = after_event-next s u e stepped in omega (arith, a, b)

few-events : (ts : List Turn) → length (events ts) ≤ length ts
few-events [] = omega arith
few-events (Made e ∷ ts) = let h = few-events ts in omega (arith, h)
few-events (Empty ∷ ts) = let h = few-events ts in omega (arith, h)

pub next-below : (ts : List Turn) (es : List Event) (s : CoreState) → events ts ≡ es → replayed es ≡ Some s → length ts < 2 ^ 63 → s.next < 2 ^ 64 - 1
next-below ts es s are is room =
    let a = replayed-next start s es is in let b : length es ≤ length ts = subst (λ (xs : List Event). length xs ≤ length ts) are (few-events ts) in omega (arith, a, b, room)

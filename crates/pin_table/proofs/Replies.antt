-- What a turn's reply says of its call.
use Rattle.std.proofs.Common.{◌≡◌, ℕ, ◌<◌, List, [], length, Ok, Err, refl, sym, ap, subst, ◌∙◌, arith, append-nil}
use lib.Seq.{set-get_or}
use Rattle.memo_core.specs.declared.event.Event.{Event}
use Rattle.memo_core.specs.declared.event.Event.TheVariants.{Look, Keep, Release, Sweep}
use Rattle.memo_core.specs.declared.event.LookAnswer.TheVariants.{Hit as HitAnswer, Absent as AbsentAnswer, Clash as ClashAnswer}
use Rattle.memo_core.specs.declared.event.KeepAnswer.TheVariants.{Stored as StoredAnswer, Found as FoundAnswer, Clash as KeepClashAnswer}
use Rattle.memo_core.specs.History.{held}
use Rattle.memo_server.specs.declared.turn.Turn.{Turn}
use Rattle.memo_server.specs.declared.turn.Turn.TheVariants.{Made, Empty}
use Rattle.memo_server.specs.declared.ops.ShardOp.TheVariants.{Look as LookOp, Keep as KeepOp, Release as ReleaseOp, Sweep as SweepOp}
use Rattle.memo_server.specs.declared.ops.ShardReply.TheVariants.{Look as LookReply, Keep as KeepReply, Release as ReleaseReply, Sweep as SweepReply}
use Rattle.memo_server.specs.declared.answers.ShardLook.{ShardLook}
use Rattle.memo_server.specs.declared.answers.ShardLook.TheVariants.{Hit as ShardHit, Absent as ShardAbsent, Clash as ShardClash}
use Rattle.memo_server.specs.declared.answers.ShardKeep.{ShardKeep}
use Rattle.memo_server.specs.declared.answers.ShardKeep.TheVariants.{Stored as ShardStored, Found as ShardFound, Clash as ShardKeepClash}
use Rattle.memo_server.specs.Views.{EntryView}
use Rattle.memo_server.specs.Callers.{caller_of}
use Rattle.pin_table.specs.declared.answers.Looked.{Looked}
use Rattle.pin_table.specs.declared.answers.Looked.TheVariants.{Hit, Absent, Clash}
use Rattle.pin_table.specs.declared.answers.Kept.{Kept}
use Rattle.pin_table.specs.declared.answers.Kept.TheVariants.{Stored, Found, Clash as KeepClash}
use Rattle.pin_table.specs.declared.answers.MemoFault.TheVariants.{Worn, Mem}
use Rattle.pin_table.specs.Views.{ShardKnown, CallerView, PinView, nothing}
use Rattle.pin_table.specs.Known.{Gained, Missed, WornOut, AtShard, CallerFits, known_at, held_at}
use Rattle.pin_table.specs.Answers.{Went, TookTurn, LookedAs, KeptAs, Looks, Keeps, Faults}
use Rattle.pin_table.specs.Placing.{shard_at}
use Rattle.pin_table.proofs.Places.{at-get, at-some}

-- The same shard's knowledge went on, stated otherwise.
pub at-map : (P Q : ShardKnown → ShardKnown → Type 0) (s : ℕ) (v w : CallerView) → ((k j : ShardKnown) → P k j → Q k j) → AtShard P s v w → AtShard Q s v w
at-map P Q s v w f h = record { next = h.next; inside = h.inside; goes = f (known_at s v) h.next h.goes; same = h.same }

module _ (n : ℕ) (k j : ShardKnown) where
  -- A turn that made an event made it as the caller's.
  pub gained-of : (event : ℕ → Event) → ((who : ℕ) → caller_of (event who) ≡ who) → (e : Turn) (who : ℕ) → e ≡ Made (event who) → Went n e k j → Gained n (event n) k j
  gained-of event own e who is h = let g : Gained n (event who) k j = subst (λ (t : Turn). Went n t k j) is h in subst (λ (m : ℕ). Gained n (event m) k j) (sym (own who) ∙ g.caller) g

  pub missed-of : (e : Turn) → e ≡ Empty → Went n e k j → Missed n k j
  missed-of e is h = subst (λ (t : Turn). Went n t k j) is h

-- Nothing happened at a shard.
pub missed-none : (s : ℕ) (v : CallerView) → CallerFits v → s < length v.locks → AtShard (Missed v.number) s v v
missed-none s v fits lt =
    let inside : s < length v.shards = subst (λ (n : ℕ). s < n) (sym fits.count) lt in
    record {
      next = known_at s v;
      inside = inside;
      goes = record {
        between = [];
        seen = sym (append-nil (known_at s v).seen);
        others = refl;
        legal = (fits.each s (known_at s v) (at-get v.shards s nothing inside)).legal;
        mine = refl;
        shown = refl;
      };
      same = ap (λ (ks : List ShardKnown). record { locks = v.locks; number = v.number; shards = ks }) (sym (set-get_or v.shards s nothing));
    }

-- A worn lock.
pub worn-at : (v w : CallerView) (s t : ℕ) → s ≡ t → (ticket : ℕ) → AtShard (WornOut ticket) s v w → Faults (Worn ticket) t v w
worn-at v w s t at ticket h = subst (λ (i : ℕ). AtShard (WornOut ticket) i v w) at h

-- The shard of an input, as it was computed.
pub placed : (d e : List ℕ) (n m : ℕ) (s : ℕ) → s ≡ shard_at e n → e ≡ d → n ≡ m → s ≡ shard_at d m
placed d e n m s is digest count = is ∙ (ap (λ (x : List ℕ). shard_at x n) digest ∙ ap (shard_at d) count)

-- What a caller holds is at one of its shards.
pub held-inside : (s id : ℕ) (v : CallerView) → 0 < held_at s id v → s < length v.shards
held-inside s id v h = at-some (λ (k : ShardKnown). 0 < held v.number id k.mine) v.shards s nothing (λ none. absurd (omega (arith, none))) h

module _ {I O : Type 0} where
  -- The pin on an entry.
  abbrev pub pin_of : ℕ → ℕ → EntryView I O → PinView I O
  pin_of number s e = record { caller = number; shard = s; id = e.id; input = e.input; out = e.out }

module _ {R I O : Type 0} where
  -- The memo's answer for a shard's.
  abbrev pub looked_of : ℕ → ℕ → ShardLook R I O → Looked R I O
  looked_of number s (ShardHit e) = Hit (pin_of number s e)
  looked_of number s ShardAbsent = Absent
  looked_of number s (ShardClash e) = Clash e

  abbrev pub kept_of : ℕ → ℕ → ShardKeep R I O → Kept R I O
  kept_of number s (ShardStored e) = Stored (pin_of number s e)
  kept_of number s (ShardFound e) = Found (pin_of number s e)
  kept_of number s (ShardKeepClash e i o) = KeepClash e i o

module _ {R I O : Type 0} (fits : I → O → Type 0) (digest_of : I → List ℕ) where
  module _ (n s run : ℕ) (input copy : I) (same : copy ≡ input) (k j : ShardKnown) where
    looked_as : (a : ShardLook R I O) → TookTurn fits digest_of (LookOp run copy) (LookReply (Ok a)) n k j → LookedAs fits digest_of n s run input (looked_of n s a) k j
    looked_as (ShardHit e) h = (refl, refl, h.1.1.1 ∙ same, h.1.1.2, subst (λ (i : I). Gained n (Look n run (digest_of i) (HitAnswer e.id)) k j) same (gained-of n k j (λ who. Look who run (digest_of copy) (HitAnswer e.id)) (λ who. refl) h.0 h.1.0 h.1.1.0 h.2))
    looked_as ShardAbsent h = subst (λ (i : I). Gained n (Look n run (digest_of i) AbsentAnswer) k j) same (gained-of n k j (λ who. Look who run (digest_of copy) AbsentAnswer) (λ who. refl) h.0 h.1.0 h.1.1 h.2)
    looked_as (ShardClash e) h = ((λ is. h.1.1.1 (is ∙ sym same)), h.1.1.2 ∙ ap digest_of same, h.1.1.3, subst (λ (i : I). Gained n (Look n run (digest_of i) (ClashAnswer e.id)) k j) same (gained-of n k j (λ who. Look who run (digest_of copy) (ClashAnswer e.id)) (λ who. refl) h.0 h.1.0 h.1.1.0 h.2))

  module _ (n s run : ℕ) (input : I) (out : O) (k j : ShardKnown) where
    kept_as : (a : ShardKeep R I O) → TookTurn fits digest_of (KeepOp run input out) (KeepReply (Ok a)) n k j → KeptAs fits digest_of n s run input out (kept_of n s a) k j
    kept_as (ShardStored e) h = (refl, refl, h.1.1.1, h.1.1.2, gained-of n k j (λ who. Keep who run (digest_of input) (StoredAnswer e.id)) (λ who. refl) h.0 h.1.0 h.1.1.0 h.2)
    kept_as (ShardFound e) h = (refl, refl, h.1.1.1, h.1.1.2, gained-of n k j (λ who. Keep who run (digest_of input) (FoundAnswer e.id)) (λ who. refl) h.0 h.1.0 h.1.1.0 h.2)
    kept_as (ShardKeepClash e i o) h = (h.1.1.1, h.1.1.2, h.1.1.3, h.1.1.4, h.1.1.5, gained-of n k j (λ who. Keep who run (digest_of input) (KeepClashAnswer e.id)) (λ who. refl) h.0 h.1.0 h.1.1.0 h.2)

  module _ (v w : CallerView) (s m run : ℕ) (numbered : m ≡ v.number) where
    -- A look's answer.
    pub look-answered : (input copy : I) → copy ≡ input → s ≡ shard_at (digest_of input) (length v.locks) → (a : ShardLook R I O) → AtShard (TookTurn fits digest_of (LookOp run copy) (LookReply (Ok a)) v.number) s v w → Looks fits digest_of run input (looked_of m s a) v w
    look-answered input copy same at a h =
        subst (λ (i : ℕ). AtShard (LookedAs fits digest_of v.number i run input (looked_of m s a)) i v w) at
        (subst (λ (i : ℕ). AtShard (LookedAs fits digest_of v.number s run input (looked_of i s a)) s v w) (sym numbered)
        (at-map (TookTurn fits digest_of (LookOp run copy) (LookReply (Ok a)) v.number) (LookedAs fits digest_of v.number s run input (looked_of v.number s a)) s v w (λ k j t. looked_as v.number s run input copy same k j a t) h))

    -- A keep's answer.
    pub keep-answered : (input : I) (out : O) → s ≡ shard_at (digest_of input) (length v.locks) → (a : ShardKeep R I O) → AtShard (TookTurn fits digest_of (KeepOp run input out) (KeepReply (Ok a)) v.number) s v w → Keeps fits digest_of run input out (kept_of m s a) v w
    keep-answered input out at a h =
        subst (λ (i : ℕ). AtShard (KeptAs fits digest_of v.number i run input out (kept_of m s a)) i v w) at
        (subst (λ (i : ℕ). AtShard (KeptAs fits digest_of v.number s run input out (kept_of i s a)) s v w) (sym numbered)
        (at-map (TookTurn fits digest_of (KeepOp run input out) (KeepReply (Ok a)) v.number) (KeptAs fits digest_of v.number s run input out (kept_of v.number s a)) s v w (λ k j t. kept_as v.number s run input out k j a t) h))

module _ (R : Type 0) {I O : Type 0} (fits : I → O → Type 0) (digest_of : I → List ℕ) (v w : CallerView) (s t : ℕ) (at : s ≡ t) where
  -- Out of memory within the turn.
  pub look-missed : (run : ℕ) (copy : I) (e : _) → AtShard (TookTurn {R = R} {I = I} {O = O} fits digest_of (LookOp run copy) (LookReply (Err e)) v.number) s v w → Faults Mem t v w
  look-missed run copy e h = subst (λ (i : ℕ). AtShard (Missed v.number) i v w) at (at-map (TookTurn {R = R} {I = I} {O = O} fits digest_of (LookOp run copy) (LookReply (Err e)) v.number) (Missed v.number) s v w (λ k j x. missed-of v.number k j x.0 x.1 x.2) h)

  pub keep-missed : (run : ℕ) (input : I) (out : O) (e : _) → AtShard (TookTurn {R = R} {I = I} {O = O} fits digest_of (KeepOp run input out) (KeepReply (Err e)) v.number) s v w → Faults Mem t v w
  keep-missed run input out e h = subst (λ (i : ℕ). AtShard (Missed v.number) i v w) at (at-map (TookTurn {R = R} {I = I} {O = O} fits digest_of (KeepOp run input out) (KeepReply (Err e)) v.number) (Missed v.number) s v w (λ k j x. missed-of v.number k j x.0 x.1.0 x.2) h)

  pub sweep-missed : (horizon : ℕ) (e : _) → AtShard (TookTurn {R = R} {I = I} {O = O} fits digest_of (SweepOp horizon) (SweepReply (Err e)) v.number) s v w → Faults Mem t v w
  sweep-missed horizon e h = subst (λ (i : ℕ). AtShard (Missed v.number) i v w) at (at-map (TookTurn {R = R} {I = I} {O = O} fits digest_of (SweepOp horizon) (SweepReply (Err e)) v.number) (Missed v.number) s v w (λ k j x. missed-of v.number k j x.0 x.1 x.2) h)

  -- A sweep's answer.
  pub swept : (horizon dropped : ℕ) → AtShard (TookTurn {R = R} {I = I} {O = O} fits digest_of (SweepOp horizon) (SweepReply (Ok dropped)) v.number) s v w → AtShard (Gained v.number (Sweep v.number horizon dropped)) s v w
  swept horizon dropped h = at-map (TookTurn {R = R} {I = I} {O = O} fits digest_of (SweepOp horizon) (SweepReply (Ok dropped)) v.number) (Gained v.number (Sweep v.number horizon dropped)) s v w (λ k j x. gained-of v.number k j (λ who. Sweep who horizon dropped) (λ who. refl) x.0 x.1.0 x.1.1 x.2) h

  -- A release.
  pub released : (id : ℕ) → AtShard (TookTurn {R = R} {I = I} {O = O} fits digest_of (ReleaseOp id) ReleaseReply v.number) s v w → AtShard (Gained v.number (Release v.number id)) s v w
  released id h = at-map (TookTurn {R = R} {I = I} {O = O} fits digest_of (ReleaseOp id) ReleaseReply v.number) (Gained v.number (Release v.number id)) s v w (λ k j x. gained-of v.number k j (λ who. Release who id) (λ who. refl) x.0 x.1.0 x.1.1 x.2) h

-- What one sweep changes in a collector, and what is known of sweeps that failed or were not begun.
use Rattle.std.proofs.Common.{◌≡◌, ℕ, zero, suc, ◌+◌, ◌<◌, ◌≤◌, ◌^◌, ◌⊎◌, inl, inr, ⊎_elim, Bool, true, false, true≢false, [], ◌∷◌, ◌++◌, length, refl, ap, sym, subst, ◌∙◌, arith, Result, Ok, Err, OnOk, OnErr}
use Rattle.std.specs.Prelude.{is_err, Option, Some, IsSome, option_map}
use Rattle.memo_core.specs.declared.event.Event.TheVariants.{Sweep}
use Rattle.pin_table.specs.Views.{CallerView, ShardKnown}
use Rattle.pin_table.specs.Known.{AtShard, Gained, Missed, WornOut, known_at, IsWorn}
use Rattle.pin_table.specs.Covers.{IsLater}
use Rattle.pin_table.proofs.Covering.{known-else, goes-there, later-same, later-then, later-gained, later-missed, later-worn}
use Rattle.collector.specs.Collectors.{CollectorView, horizon_of}
use Rattle.run_engine.specs.Sweeps.{IsSwept, IsSweptAt, SweptOnce, SweptAt, SweptAtMost, swept_by}

module _ (horizon shard : ℕ) (old new : CollectorView) where
  -- The shard was swept.
  pub swept-one : (dropped : ℕ) → new.keep ≡ old.keep → AtShard (Gained old.caller.number (Sweep old.caller.number horizon dropped)) shard old.caller new.caller → {A E : Type 0} (x : A) → IsSweptAt {A = A} {E = E} horizon shard old new (Ok x)
  swept-one dropped keep at x =
      let once : SweptOnce shard horizon old.caller new.caller = (dropped, (goes-there (Gained old.caller.number (Sweep old.caller.number horizon dropped)) shard old.caller new.caller at).mine) in
      record {
        keep = keep;
        later = later-gained old.caller.number shard (Sweep old.caller.number horizon dropped) old.caller new.caller at;
        done = inl once;
        some = inl once;
        others = known-else (Gained old.caller.number (Sweep old.caller.number horizon dropped)) shard old.caller new.caller at;
      }

  -- The shard's lock is worn.
  pub worn-one : (ticket : ℕ) → new.keep ≡ old.keep → AtShard (WornOut ticket) shard old.caller new.caller → {A E : Type 0} (x : A) → IsSweptAt {A = A} {E = E} horizon shard old new (Ok x)
  worn-one ticket keep at x =
      let worn = goes-there (WornOut ticket) shard old.caller new.caller at in
      record {
        keep = keep;
        later = later-worn ticket shard old.caller new.caller at;
        done = inr (worn.mine, subst (λ (n : ℕ). 2 ^ 62 ≤ n) (sym worn.shown) worn.limit);
        some = inr worn.mine;
        others = known-else (WornOut ticket) shard old.caller new.caller at;
      }

  -- Out of memory.
  pub missed-one : new.keep ≡ old.keep → AtShard (Missed old.caller.number) shard old.caller new.caller → {A E : Type 0} (e : E) → IsSweptAt {A = A} {E = E} horizon shard old new (Err e)
  missed-one keep at e =
      let missed = goes-there (Missed old.caller.number) shard old.caller new.caller at in
      record {
        keep = keep;
        later = later-missed old.caller.number shard old.caller new.caller at;
        done = tt;
        some = inr missed.mine;
        others = known-else (Missed old.caller.number) shard old.caller new.caller at;
      }

-- A sweep at the same horizon, restated.
pub at-horizon : {A E : Type 0} {r : Result A E} (g h shard : ℕ) (old new : CollectorView) → g ≡ h → IsSweptAt {A = A} {E = E} g shard old new r → IsSweptAt {A = A} {E = E} h shard old new r
at-horizon {A} {E} {r} g h shard old new same at = subst (λ (i : ℕ). IsSweptAt {A = A} {E = E} i shard old new r) same at

-- What the sweeps of the first shards leave.
pub record SweptUpTo (horizon n : ℕ) (old new : CollectorView) : Type 0 where
  pub keep : new.keep ≡ old.keep
  pub later : IsLater old.caller new.caller
  pub done : (s : ℕ) → s < n → SweptAt s horizon old.caller new.caller
  pub ahead : (s : ℕ) → n ≤ s → known_at s new.caller ≡ known_at s old.caller

pub swept-none : (horizon : ℕ) (old : CollectorView) → SweptUpTo horizon 0 old old
swept-none horizon old = record { keep = refl; later = later-same old.caller; done = λ s lt. absurd (omega (arith, lt)); ahead = λ s le. refl }

-- Swept at most once.
at-most : (s horizon : ℕ) (old new : CallerView) → SweptAt s horizon old new → SweptAtMost s horizon old new
at-most s horizon old new at = ⊎_elim (λ (o : SweptOnce s horizon old new). inl o) (λ (w : ((known_at s new).mine ≡ (known_at s old).mine) × IsWorn s new). inr w.0) at

decide : (s k : ℕ) → (s ≡ k) ⊎ (s ≡ k → ⊥)
decide zero zero = inl refl
decide zero (suc k) = inr (λ (e : zero ≡ suc k). omega (arith, e))
decide (suc s) zero = inr (λ (e : suc s ≡ zero). omega (arith, e))
decide (suc s) (suc k) = ⊎_elim (λ (e : s ≡ k). inl (ap suc e)) (λ (e : s ≡ k → ⊥). inr (λ (f : suc s ≡ suc k). e (omega (arith, f)))) (decide s k)

below : (s n : ℕ) → (s < n) ⊎ (n ≤ s)
below s zero = inr (omega arith)
below zero (suc n) = inl (omega arith)
below (suc s) (suc n) = ⊎_elim (λ (l : s < n). inl (omega (arith, l))) (λ (r : n ≤ s). inr (omega (arith, r))) (below s n)

-- A sweep of the next shard, seen from the beginning.
module _ (horizon n : ℕ) (old mid new : CollectorView) (so : SweptUpTo horizon n old mid) where
  once-since : (s : ℕ) → known_at s mid.caller ≡ known_at s old.caller → SweptOnce s horizon mid.caller new.caller → SweptOnce s horizon old.caller new.caller
  once-since s same once =
      (once.0, once.1 ∙ ap (λ (k : ShardKnown). k.mine ++ Sweep mid.caller.number horizon once.0 ∷ []) same ∙ ap (λ (who : ℕ). (known_at s old.caller).mine ++ Sweep who horizon once.0 ∷ []) so.later.number)

  at-since : (s : ℕ) → known_at s mid.caller ≡ known_at s old.caller → SweptAt s horizon mid.caller new.caller → SweptAt s horizon old.caller new.caller
  at-since s same at = ⊎_elim (λ (o : SweptOnce s horizon mid.caller new.caller). inl (once-since s same o)) (λ (w : ((known_at s new.caller).mine ≡ (known_at s mid.caller).mine) × IsWorn s new.caller). inr (w.0 ∙ ap (λ (k : ShardKnown). k.mine) same, w.1)) at

  most-since : (s : ℕ) → known_at s mid.caller ≡ known_at s old.caller → SweptAtMost s horizon mid.caller new.caller → SweptAtMost s horizon old.caller new.caller
  most-since s same at = ⊎_elim (λ (o : SweptOnce s horizon mid.caller new.caller). inl (once-since s same o)) (λ (w : (known_at s new.caller).mine ≡ (known_at s mid.caller).mine). inr (w ∙ ap (λ (k : ShardKnown). k.mine) same)) at

  -- A shard that was swept before is unchanged since.
  kept-since : (s : ℕ) → known_at s new.caller ≡ known_at s mid.caller → SweptAt s horizon old.caller mid.caller → SweptAt s horizon old.caller new.caller
  kept-since s same at =
      ⊎_elim (λ (o : SweptOnce s horizon old.caller mid.caller). inl (o.0, ap (λ (k : ShardKnown). k.mine) same ∙ o.1)) (λ (w : ((known_at s mid.caller).mine ≡ (known_at s old.caller).mine) × IsWorn s mid.caller). inr (ap (λ (k : ShardKnown). k.mine) same ∙ w.0, subst (λ (k : ShardKnown). 2 ^ 62 ≤ k.shown) (sym same) w.1)) at

  -- One shard more.
  pub swept-more : {A E : Type 0} (x : A) → IsSweptAt {A = A} {E = E} horizon n mid new (Ok x) → SweptUpTo horizon (n + 1) old new
  swept-more x one = record {
    keep = one.keep ∙ so.keep;
    later = later-then old.caller mid.caller new.caller so.later one.later;
    done = λ s lt. ⊎_elim (λ (e : s ≡ n). subst (λ (k : ℕ). SweptAt k horizon old.caller new.caller) (sym e) (at-since n (so.ahead n (omega arith)) one.done)) (λ (off : s ≡ n → ⊥). kept-since s (one.others s off) (so.done s (omega (arith, lt, off)))) (decide s n);
    ahead = λ s le. one.others s (λ (e : s ≡ n). omega (arith, le, e)) ∙ so.ahead s (omega (arith, le));
  }

  -- It ended with a failure at the next shard.
  pub swept-short : {A E : Type 0} (e : E) → IsSweptAt {A = A} {E = E} horizon n mid new (Err e) → IsSwept horizon old new true
  swept-short e one = record {
    keep = one.keep ∙ so.keep;
    later = later-then old.caller mid.caller new.caller so.later one.later;
    all = λ is. absurd (true≢false is);
    some = λ s lt. ⊎_elim (λ (e : s ≡ n). subst (λ (k : ℕ). SweptAtMost k horizon old.caller new.caller) (sym e) (most-since n (so.ahead n (omega arith)) one.some)) (λ (off : s ≡ n → ⊥). side s off) (decide s n);
  }
    where
      side : (s : ℕ) → (s ≡ n → ⊥) → SweptAtMost s horizon old.caller new.caller
      side s off = ⊎_elim (λ (l : s < n). at-most s horizon old.caller new.caller (kept-since s (one.others s off) (so.done s l))) (λ (r : n ≤ s). inr (ap (λ (k : ShardKnown). k.mine) (one.others s off ∙ so.ahead s r))) (below s n)

-- All shards were swept.
pub swept-all : (horizon n : ℕ) (old new : CollectorView) → SweptUpTo horizon n old new → length old.caller.locks ≤ n → IsSwept horizon old new false
swept-all horizon n old new so le = record {
  keep = so.keep;
  later = so.later;
  all = λ is s lt. so.done s (omega (arith, lt, le));
  some = λ s lt. at-most s horizon old.caller new.caller (so.done s (omega (arith, lt, le)));
}

-- Less is known of a sweep that may have failed.
pub sweep-failed : (horizon : ℕ) (old new : CollectorView) (failed : Bool) → IsSwept horizon old new failed → IsSwept horizon old new true
sweep-failed horizon old new failed s = record { keep = s.keep; later = s.later; all = λ is. absurd (true≢false is); some = s.some }

-- Nothing was swept.
pub sweep-idle : (horizon : ℕ) (old : CollectorView) → IsSwept horizon old old true
sweep-idle horizon old = record { keep = refl; later = later-same old.caller; all = λ is. absurd (true≢false is); some = λ s lt. inr refl }

-- What holds if a call did not fail.
pub ok-from : {A E : Type 0} (r : Result A E) (P : Type 0) → (is_err r ≡ false → P) → OnOk r P
ok-from (Ok x) P h = h refl
ok-from (Err e) P h = tt

-- The collector that was taken.
pub took-sweep : {S : Type 0} (f : S → CollectorView) (o : Option S) (last : S) → o ≡ Some last → swept_by (option_map f o) ≡ f last
took-sweep {S} f o last is = ap (λ (x : Option S). swept_by (option_map f x)) is

-- It is put back after its sweeps.
pub sweep-left : {S : Type 0} (f : S → CollectorView) (o : Option S) (last now : S) (run : ℕ) (failed : Bool) → o ≡ Some last → IsSwept (horizon_of (f last).keep run) (f last) (f now) failed
    → IsSome (Some now) × IsSwept (horizon_of (swept_by (option_map f o)).keep run) (swept_by (option_map f o)) (swept_by (option_map f (Some now))) failed
sweep-left f o last now run failed is s = (refl, subst (λ (c : CollectorView). IsSwept (horizon_of c.keep run) c (f now) failed) (sym (took-sweep f o last is)) s)

-- The sweep did not fail, or it may have.
pub sweep-well : (horizon : ℕ) (old new : CollectorView) (failed : Bool) → failed ≡ false → IsSwept horizon old new failed → IsSwept horizon old new false
sweep-well horizon old new failed is s = subst (IsSwept horizon old new) is s

-- What a call promised of a known result.
pub on-err : {A E P : Type 0} (r : Result A E) (e : E) → r ≡ Err e → OnErr r P → P
on-err {A} {E} {P} r e is h = subst (λ (x : Result A E). OnErr x P) is h

pub on-ok : {A E P : Type 0} (r : Result A E) (x : A) → r ≡ Ok x → OnOk r P → P
on-ok {A} {E} {P} r x is h = subst (λ (y : Result A E). OnOk y P) is h

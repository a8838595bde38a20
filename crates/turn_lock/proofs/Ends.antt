-- What is left after all passes are joined into one.
use Rattle.std.proofs.Common.{◌≡◌, ◌≢◌, ℕ, zero, suc, ◌+◌, ◌≤◌, List, [], ◌∷◌, ◌++◌, length, sym, refl, ap, ◌∙◌, subst, inl, inr, ⊎_elim, arith}
use Rattle.std.specs.Prelude.{Option, Some}
use mathlib.Core.Option.{some, some-injective, some-ne-none}
use mathlib.Core.Logic.{dite}
use native.Mathlib.Decide.{ℕ_discrete, dec_lt}
use lib.ListN.{get_elem?}
use Rattle.atomic_table.specs.Table.{State, Final, Seen}
use Rattle.turn_lock.specs.declared.knowledge.Known.{Known}
use Rattle.turn_lock.specs.declared.knowledge.View.{View}
use Rattle.turn_lock.specs.declared.knowledge.Stage.{Stage}
use Rattle.turn_lock.specs.declared.knowledge.Stage.TheVariants.{Idle}
use Rattle.turn_lock.specs.Passes.{Closes}
use Rattle.turn_lock.specs.Rule.{Live, IsServing, HasDrawn, parts, HasAll, Stands, KnownFits, SeatFits, Home, TurnRule}
use Rattle.turn_lock.proofs.Views.{at_both, part_live}
use Rattle.shared_seats.proofs.Lists.{at_second, same_at, two_of}
use Rattle.atomic_table.proofs.Lists.{at_longer}
use Rattle.turn_lock.proofs.Steps.{drawn_live, live_serving}

module _ {T E : Type 0} (history : T → List E) (whose : E → Option ℕ) (start callers : ℕ) where
  module _ (s : State (Option T) (View E)) (r : TurnRule history whose start callers s) (id : ℕ) (v : View E) (here : get_elem? s.views id ≡ some v) (idle : v.stage ≡ Idle) (count : length v.ended + 1 ≡ callers) where
    live : Live v.stage
    live = subst Live (sym idle) tt

    f : SeatFits whose start callers s.views r.log r.ticket id v
    f = r.seats id v here live

    -- no other view is left
    alone : (k : ℕ) (u : View E) → get_elem? s.views k ≡ some u → Live u.stage → k ≡ id
    alone k u at lv = dite (ℕ_discrete k id) (λ e. e) (λ ne.
        let two = two_of parts s.views id k v u here at ne in let a = part_live v.stage (v.gives + length v.ended + 1) live in let b = part_live u.stage (u.gives + length u.ended + 1) lv in
        let c = r.shared in absurd (omega arith))

    is_v : (k : ℕ) (u : View E) → get_elem? s.views k ≡ some u → Live u.stage → u ≡ v
    is_v k u at lv = same_at s.views k id u v at here (alone k u at lv)

    all_served : r.ticket ≤ start + length r.log
    all_served = dite (dec_lt (start + length r.log) r.ticket)
        (λ lt. let (k, u, at, d) = r.whom (start + length r.log) (omega arith) lt in
        absurd (subst (λ (st : Stage E). HasDrawn st (start + length r.log)) (ap (λ (z : View E). z.stage) (is_v k u at (drawn_live history whose start callers u.stage (start + length r.log) d)) ∙ idle) d))
        (λ ge. omega arith)

    abbrev every : List (Known E)
    every = v.ended ++ v.own ∷ []

    fits : (i : ℕ) (x : Known E) → get_elem? every i ≡ some x → KnownFits whose r.log r.ticket x
    fits i x at = ⊎_elim (λ a. (f.ended i x a).0) (λ b. ⊎_elim (λ e. subst (KnownFits whose r.log r.ticket) e f.own) (λ (j, a). absurd (some-ne-none x (sym a))) b) (at_both v.ended [] v.own x i at)

    own_in : (i : ℕ) × (get_elem? every i ≡ some v.own)
    own_in = at_second v.ended (v.own ∷ []) v.own zero refl

    last_in : (k : ℕ) (u : View E) → get_elem? s.views k ≡ some u → Live u.stage → HasAll r.log u → (i : ℕ) × (x : Known E) × (get_elem? every i ≡ some x) × (x.seen ≡ r.log)
    last_in k u at lv has = ⊎_elim (λ a. (own_in.0, v.own, own_in.1, a)) (λ (i, x, b, c). (i, x, at_longer v.ended (v.own ∷ []) i x b, c)) (subst (λ (z : View E). HasAll r.log z) (is_v k u at lv) has)

    number_in : (n : ℕ) → Stands s.views n → (i : ℕ) × (x : Known E) × (get_elem? every i ≡ some x) × (x.number ≡ n)
    number_in n (inl (u, at, lv)) = (own_in.0, v.own, own_in.1, f.number ∙ sym (alone n u at lv))
    number_in n (inr (k, u, i, x, at, lv, in_ended, is)) = (i, x, at_longer v.ended (v.own ∷ []) i x (subst (λ (z : View E). get_elem? z.ended i ≡ some x) (is_v k u at lv) in_ended), is)

    closes : Closes whose start r.log every
    closes = record {
      each = (λ i x at. let k = fits i x at in (k.seen, k.mine, (let a = k.read in let b = all_served in omega arith)));
      last = last_in r.last.0 r.last.1 r.last.2 r.last.3 r.last.4;
      numbers = (λ n some_entry. dite (dec_lt n (length s.views)) (λ lt. number_in n (r.all n lt)) (λ ge. absurd (some_entry (r.given n (omega arith)))));
    }

    at_home : Home history r.log s.homes
    at_home = ⊎_elim (λ h. h) (λ (away, (k, u, at, sv)). absurd (subst IsServing (ap (λ (z : View E). z.stage) (is_v k u at (live_serving history whose start callers u.stage sv)) ∙ idle) sv)) r.slot

  -- the state is at home, and its history is all
  pub ends : (id : ℕ) (v : View E) (words : List ℕ) (slots : List (Option T)) → v.stage ≡ Idle → length v.ended + 1 ≡ callers → Final (Seen (TurnRule history whose start callers) id v) words slots
      → (t : T) × (get_elem? slots 0 ≡ some (Some t)) × Closes whose start (history t) (v.ended ++ v.own ∷ [])
  ends id v words slots idle count (s, (r, here), ws, long, same) =
      let h = at_home s r id v here idle count in
      (h.0, same 0 (Some h.0) (ap (λ l. get_elem? l 0) h.1), subst (λ (l : List E). Closes whose start l (v.ended ++ v.own ∷ [])) (sym h.2) (closes s r id v here idle count))

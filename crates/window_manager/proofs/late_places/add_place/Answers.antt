use Rattle.std.proofs.Common.{◌++◌, ◌∷◌, ◌<◌, ℕ, [], List, All, length, take, arith, ap, sym, ◌∙◌, subst, append_assoc}
use Rattle.std.specs.Prelude.{nat_lt}
use Rattle.std.specs.List.{filter}
use Rattle.std.proofs.lemmas.List.{take_all}
use Rattle.window_manager.proofs.PlaceLaws.{filter_takes, filter_skips, all_first, all_push, rising_before, nat_below, nat_not_below}
use Rattle.window_manager.proofs.late_places.add_place.Goals.{then-place-other+in_ok-push-2, else-place-other}
use Rattle.window_manager.proofs.late_places.add_place.Goals as goal

pub places-preserved : goal.places-preserved
places-preserved c =
    let ps = c.args.places.now in let i = c.places.i in let p = c.get-other.result in let place = c.args.place in let inv = c.places.invariant in
    let prefix = filter (λ q. nat_lt q place) ps in let back = filter (λ q. nat_lt place q) (take i ps) in
    let lt : i < length ps = omega (arith, c.places-test.true, c.len-i-end.ensures.count) in
    elim c.if-place-other.branch [
      | then-place-other+in_ok-push-2 w ↦
          let pushed = w.more-is ∙ w.in_ok-push-2.ensures.ok in record {
            value = pushed ∙ ap (λ (l : List ℕ). l ++ p ∷ []) inv.value ∙ append_assoc prefix (place ∷ back) (p ∷ []) ∙ ap (λ (l : List ℕ). prefix ++ place ∷ l) (sym (filter_takes ps i p lt c.get-other.ensures (λ q. nat_lt place q) (nat_below place p (omega (arith, w.if-place-other)))));
            below = λ q above all.
                let f = all_first ps i p q lt c.get-other.ensures all in
                subst (λ (l : List ℕ). All (λ x. x < q) l) (sym pushed) (all_push q p c.places.more f.1 (inv.below q above f.0));
          }
      | else-place-other w ↦ record {
        value = w.more-is ∙ inv.value ∙ ap (λ (l : List ℕ). prefix ++ place ∷ l) (sym (filter_skips ps i p lt c.get-other.ensures (λ q. nat_lt place q) (nat_not_below place p (omega (arith, w.if-place-other)))));
        below = λ q above all.
            let f = all_first ps i p q lt c.get-other.ensures all in
            subst (λ (l : List ℕ). All (λ x. x < q) l) (sym w.more-is) (inv.below q above f.0);
      }
    ]

pub push-requires-then-place-other : goal.push-requires-then-place-other
push-requires-then-place-other c =
    let ps = c.args.places.now in let i = c.places.i in let p = c.get-other.result in
    let lt : i < length ps = omega (arith, c.places-test.true, c.len-i-end.ensures.count) in
    c.places.invariant.below p (omega (arith, c.if-place-other.true)) (subst (λ (q : ℕ). All (λ x. x < q) (take i ps)) (sym c.get-other.ensures) (rising_before ps c.len-i-end.ensures.rising i lt))

pub returns : goal.returns
returns c =
    let ps = c.args.places.now in let place = c.args.place in
    c.places.invariant.value ∙ ap (λ (l : List ℕ). filter (λ q. nat_lt q place) ps ++ place ∷ filter (λ q. nat_lt place q) l) (take_all c.places.i ps (omega (arith, c.places-test.false, c.len-i-end.ensures.count)))

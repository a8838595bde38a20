use Rattle.std.proofs.Common.{◌++◌, ◌∷◌, ◌+◌, ◌<◌, ℕ, [], List, All, length, get_or, arith, ap, sym, ◌∙◌, subst}
use Rattle.std.specs.Prelude.{nat_lt}
use Rattle.window_manager.proofs.PlaceLaws.{filter_takes, filter_skips, rises, all_less, all_push, nat_below, nat_not_below}
use Rattle.window_manager.proofs.late_places.places_below.Goals.{then-other-place+in_ok-push, else-other-place}
use Rattle.window_manager.proofs.late_places.places_below.Goals as goal

pub places-preserved : goal.places-preserved
places-preserved c =
    let ps = c.args.places.now in let i = c.places.i in let p = c.get-other.result in let place = c.args.place in let inv = c.places.invariant in
    let lt : i < length ps = omega (arith, c.places-test.true, c.len-i-end.ensures.count) in
    let below : All (λ x. x < p) c.places.below = subst (λ (q : ℕ). All (λ x. x < q) c.places.below) (sym c.get-other.ensures) (inv.next lt) in
    elim c.if-other-place.branch [
      | then-other-place+in_ok-push w ↦
          let pushed = w.below-is ∙ w.in_ok-push.ensures.ok in record {
            value = pushed ∙ ap (λ (l : List ℕ). l ++ p ∷ []) inv.value ∙ sym (filter_takes ps i p lt c.get-other.ensures (λ q. nat_lt q place) (nat_below p place (omega (arith, w.if-other-place))));
            next = λ on.
                let up = rises ps i p lt c.get-other.ensures c.len-i-end.ensures.rising on in
                subst (λ (l : List ℕ). All (λ x. x < get_or ps (i + 1) 0) l) (sym pushed) (all_push (get_or ps (i + 1) 0) p c.places.below up (all_less p (get_or ps (i + 1) 0) c.places.below (omega (arith, up)) below));
            all = subst (λ (l : List ℕ). All (λ x. x < place) l) (sym pushed) (all_push place p c.places.below (omega (arith, w.if-other-place)) inv.all);
          }
      | else-other-place w ↦ record {
        value = w.below-is ∙ inv.value ∙ sym (filter_skips ps i p lt c.get-other.ensures (λ q. nat_lt q place) (nat_not_below p place (omega (arith, w.if-other-place))));
        next = λ on.
            let up = rises ps i p lt c.get-other.ensures c.len-i-end.ensures.rising on in
            subst (λ (l : List ℕ). All (λ x. x < get_or ps (i + 1) 0) l) (sym w.below-is) (all_less p (get_or ps (i + 1) 0) c.places.below (omega (arith, up)) below);
        all = subst (λ (l : List ℕ). All (λ x. x < place) l) (sym w.below-is) inv.all;
      }
    ]

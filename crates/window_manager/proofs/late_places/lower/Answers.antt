use Rattle.std.proofs.Common.{◌++◌, ◌∷◌, ◌-◌, ◌+◌, ◌<◌, ℕ, [], List, All, length, get_or, arith, ap, sym, ◌∙◌, subst}
use Rattle.window_manager.proofs.PlaceLaws.{lowered_takes, lowered_skips, rises, all_on, all_more}
use Rattle.window_manager.proofs.late_places.lower.Goals.{then-by-place+in_ok-push, else-by-place}
use Rattle.window_manager.proofs.late_places.lower.Goals as goal

pub places-preserved : goal.places-preserved
places-preserved c =
    let ps = c.args.places.now in let i = c.places.i in let p = c.get-place.result in let by = c.args.by in let inv = c.places.invariant in
    let count = c.len-i-end.ensures.count in
    let lt : i < length ps = omega (arith, c.places-test.true, count) in
    let below : All (λ x. x + by < p) c.places.left = subst (λ (q : ℕ). All (λ x. x + by < q) c.places.left) (sym c.get-place.ensures) (inv.below lt) in
    elim c.if-by-place.branch [
      | then-by-place+in_ok-push w ↦
          let pushed = w.left-is ∙ w.in_ok-push.ensures.ok in record {
            value = pushed ∙ ap (λ (l : List ℕ). l ++ (p - by) ∷ []) inv.value ∙ sym (lowered_takes ps i p lt c.get-place.ensures by (omega (arith, w.if-by-place)));
            below = λ next. subst (λ (l : List ℕ). All (λ x. x + by < get_or ps (i + 1) 0) l) (sym pushed) (all_more by p (get_or ps (i + 1) 0) (p - by) c.places.left (rises ps i p lt c.get-place.ensures c.len-i-end.ensures.rising next) (omega (arith, w.if-by-place)) below);
          }
      | else-by-place w ↦ record {
        value = w.left-is ∙ inv.value ∙ sym (lowered_skips ps i p lt c.get-place.ensures by (omega (arith, w.if-by-place)));
        below = λ next. subst (λ (l : List ℕ). All (λ x. x + by < get_or ps (i + 1) 0) l) (sym w.left-is) (all_on by p (get_or ps (i + 1) 0) c.places.left (rises ps i p lt c.get-place.ensures c.len-i-end.ensures.rising next) below);
      }
    ]

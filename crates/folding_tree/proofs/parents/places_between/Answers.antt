use Rattle.std.proofs.Common.{◌≡◌, ℕ, suc, ◌+◌, ◌-◌, ◌≤◌, List, [], ◌∷◌, ◌++◌, sym, ap, ◌∙◌, arith}
use Rattle.folding_tree.specs.Levels.{places_from}
use Rattle.folding_tree.proofs.parents.places_between.Goals as goal

pub places-init : goal.places-init
places-init c = let none : c.args.low - c.args.low ≡ 0 = omega arith in c.new-places.ensures.items ∙ sym (ap (places_from c.args.low) none)

pub places-preserved : goal.places-preserved
places-preserved c =
    let low = c.args.low in
    let place = c.places.place in
    let le : low ≤ place = omega arith in
    let next : place + 1 - low ≡ suc (place - low) = omega (arith, le) in
    let here : low + (place - low) ≡ place = omega (arith, le) in
    c.in_ok-push.ensures.items ∙ ap (λ (xs : List ℕ). xs ++ place ∷ []) c.places.invariant
    ∙ ap (λ (p : ℕ). places_from low (place - low) ++ p ∷ []) (sym here)
    ∙ sym (ap (places_from low) next)

pub returns : goal.returns
returns c =
    let end : c.places.place ≡ c.args.high = omega arith in
    c.places.invariant ∙ ap (λ (p : ℕ). places_from c.args.low (p - c.args.low)) end

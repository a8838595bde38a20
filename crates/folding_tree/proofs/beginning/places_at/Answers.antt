use Rattle.std.proofs.Common.{◌+◌, ◌<◌, ◌++◌, ◌∷◌, [], length, map, take, get_or, sym, ap, ◌∙◌, arith}
use Rattle.std.proofs.lemmas.List.{map-append, take_more, take_all}
use Rattle.folding_tree.proofs.beginning.places_at.Goals as goal

pub changed-preserved : goal.changed-preserved
changed-preserved c =
    let ps = c.args.changed.now in
    let i = c.changed.i in
    let low = c.args.low in
    let lt : i < length ps = omega (arith, c.changed-test.true, c.len-i-end.ensures.count) in
    c.in_ok-push.ensures.items ∙ ap (λ xs. xs ++ (low + c.get.result) ∷ []) c.changed.invariant
    ∙ ap (λ p. map (λ q. low + q) (take i ps) ++ (low + p) ∷ []) c.get.ensures
    ∙ sym (ap (map (λ q. low + q)) (take_more ps i 0 lt) ∙ map-append (λ q. low + q) (take i ps) (get_or ps i 0 ∷ []))

pub overflow_add-low : goal.overflow_add-low
overflow_add-low c =
    let ps = c.args.changed.now in
    let i = c.changed.i in
    let lt : i < length ps = omega (arith, c.changed-test.true, c.len-i-end.ensures.count) in
    let w = c.requires i 0 lt in
    let at = c.get.ensures in
    omega (arith, w, at)

pub returns : goal.returns
returns c = c.changed.invariant ∙ ap (map (λ q. c.args.low + q)) (take_all c.changed.i c.args.changed.now (omega (arith, c.changed-test.false, c.len-i-end.ensures.count)))

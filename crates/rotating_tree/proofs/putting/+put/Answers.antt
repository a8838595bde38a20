use Rattle.std.proofs.Common.{rules, arith, ◌≡◌, ◌+◌, ◌<◌, length, sym, ◌∙◌, ap, ◌++◌, subst}
use Rattle.std.proofs.lemmas.List.{set-append_left, set-append_right}
use Rattle.rotating_tree.specs.Nodes.{IsStaged, taken, places, drafts}
use Rattle.rotating_tree.proofs.NodeLaws.{staged-below, length-places, size-taken}
use Rattle.rotating_tree.proofs.putting.+put.Goals as goal

pub put-put_below-requires : goal.put-put_below-requires
put-put_below-requires g t c κs within =
    let both = staged-below c.in-Fork.draft c.in-Fork.left.value c.in-Fork.right.value (drafts c.in-Fork.left.value + drafts c.in-Fork.right.value) (subst IsStaged c.in-Fork.is c.requires.staged) in
    (search rules, (search rules, (search rules, (search rules, ((subst IsStaged (sym c.deref_mut.ensures.value) both.0, subst IsStaged (sym c.deref_mut-in-Fork.ensures.value) both.1), (search rules, (search rules, search rules)))))))

pub put_below-returns-then-place-half-clause-places : goal.put_below-returns-then-place-half-clause-places
put_below-returns-then-place-half-clause-places g t c =
    let long : length (places (taken c.args.left.now)) ≡ c.args.half = length-places _ ∙ size-taken _ ∙ sym c.requires.half.0 in
    let lt : c.args.place < length (places (taken c.args.left.now)) = omega arith in
    ap (λ xs. xs ++ places (taken c.args.right.now)) c.put.ensures.places ∙ sym (set-append_left _ _ _ _ lt)

pub put_below-returns-else-place-half-clause-places : goal.put_below-returns-else-place-half-clause-places
put_below-returns-else-place-half-clause-places g t c =
    let long : length (places (taken c.args.left.now)) ≡ c.args.half = length-places _ ∙ size-taken _ ∙ sym c.requires.half.0 in
    ap (λ xs. places (taken c.args.left.now) ++ xs) c.put-else-place-half.ensures.places ∙ sym (set-append_right _ _ _ _ _ long c.if-place-half.false)

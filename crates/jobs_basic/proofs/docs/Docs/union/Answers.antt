use Rattle.std.proofs.Common.{◌≡◌, ◌++◌, ◌<◌, length, ◌∙◌, ap, sym, arith, append_assoc}
use Rattle.jobs_basic.specs.Index.{union}
use Rattle.jobs_basic.proofs.Documents.{union_left, union_right}
use Rattle.jobs_basic.proofs.docs.Docs.union.Goals as goal
use Rattle.jobs_basic.proofs.docs.Docs.union.Goals.{in_default, in_default-2}

pub returns : goal.returns
returns c =
    let left = c.both.left.now in
    let right = c.both.right.now in
    let ended : union left right ≡ left ++ right = elim c.if-left-lt1.branch [
      | in_default w ↦ (let low : length left < 1 = grind arith in union_left left right low)
      | in_default-2 w ↦ (let low : length right < 1 = grind arith in union_right left right low)
    ] in
    let docs = c.both.docs.items in
    let first : c.extend_from_slice.new.self.items ≡ docs ++ left = c.in_ok-extend_from_slice.ensures.items in
    let second : c.extend_from_slice-2.new.self.items ≡ c.extend_from_slice.new.self.items ++ right = c.in_ok-extend_from_slice-2.ensures.items in
    second
    ∙ ap (λ l. l ++ right) first
    ∙ append_assoc docs left right
    ∙ ap (λ l. docs ++ l) (sym ended)
    ∙ c.both.invariant

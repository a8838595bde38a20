use Rattle.rotating_tree.proofs.part.let_part_go.Goals as goal

pub returns : goal.returns
returns g c = λ ps. rw c.in-Merged.is (c.let_go.ensures ps)

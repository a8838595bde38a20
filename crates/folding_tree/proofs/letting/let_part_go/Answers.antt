use Rattle.folding_tree.proofs.letting.let_part_go.Goals as goal

pub returns : goal.returns
returns g c = λ ps. rw c.in-Merged.is (c.let_go.ensures ps)

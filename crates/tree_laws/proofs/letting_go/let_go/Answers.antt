use Rattle.pin_table.proofs.Covering.{balanced-same}
use Rattle.tree_laws.proofs.letting_go.let_go.Goals as goal

pub returns-in-Pinned : goal.returns-in-Pinned
returns-in-Pinned g c = λ ps. rw c.in-Pinned.is (c.give_up.ensures ps)

pub returns-in-Loose : goal.returns-in-Loose
returns-in-Loose g c = λ ps. rw c.in-Loose.is (balanced-same c.args.caller.now ps)

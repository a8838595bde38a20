use Rattle.pin_table.proofs.Covering.{balanced-same}
use Rattle.tree_laws.proofs.letting_go.let_some_go.Goals as goal

pub returns-in-Some : goal.returns-in-Some
returns-in-Some g c = λ ps. rw c.in-Some.is (c.let_go.ensures ps)

pub returns-in-None : goal.returns-in-None
returns-in-None g c = λ ps. rw c.in-None.is (balanced-same c.args.caller.now ps)

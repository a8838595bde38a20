use Rattle.std.proofs.Common.{subst}
use Rattle.record_text.specs.declared.command.Command.TheVariants.{File}
use Rattle.window_manager.specs.Splices.{DocumentView, IsAfter}
use Rattle.window_manager.proofs.DocumentLaws.{document_of, on_ok, selected}
use Rattle.window_manager.proofs.document.DocumentWindow.select.Goals as goal

pub returns-clause-ok : goal.returns-clause-ok
returns-clause-ok c =
    let d = c.self.inside in let name = c.args.name.now in
    on_ok c.select.result (λ is. subst (λ (v : DocumentView). IsAfter v (document_of d.places d.stood d.shift c.select.new.self) (File name)) c.self.view_is (selected d.places d.stood d.shift d.files c.select.new.self name is)) c.select.ensures.ok

use Rattle.std.proofs.Common.{arith}
use Rattle.chunk_store.specs.Files.{all_chunks}
use Rattle.window_manager.proofs.DocumentLaws.{kept_at_end}
use Rattle.window_manager.proofs.document.DocumentWindow.load.Goals as goal

pub splice_on-requires-clause-kept : goal.splice_on-requires-clause-kept
splice_on-requires-clause-kept c = omega (arith, c.chunk_count-old.ensures, c.chunk_count-new.ensures, kept_at_end (all_chunks c.self.inside.files.0) (all_chunks c.load.new.self.0) c.in-Ok.change c.in-Ok.ensures.splice)

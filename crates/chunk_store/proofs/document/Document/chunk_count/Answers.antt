use Rattle.std.proofs.Common.{◌≡◌, ℕ, List, sym, subst}
use Rattle.marker_chunker.specs.Cuts.{joined, chunks_of}
use Rattle.marker_chunker.proofs.CutLaws.{chunks_all}
use Rattle.chunk_store.proofs.document.Document.chunk_count.Goals as goal

pub returns-clause-chunks : goal.returns-clause-chunks
returns-clause-chunks c = subst (λ (x : List (List (List ℕ))). x ≡ chunks_of (joined x)) c.self.view_is (sym (chunks_all c.self.inside.chunks.items c.self.invariant.0))

use Rattle.std.proofs.Common.{◌≡◌, sym, ap, subst, ◌∙◌, true}
use Rattle.marker_chunker.specs.Cuts.{joined, AreChunks}
use Rattle.chunk_store.specs.Cutting.{Cutting, stops_at}
use Rattle.chunk_store.proofs.Cutting.{ends_all, joined_closed}
use Rattle.chunk_store.proofs.cutter.Cutter.finish.Goals as goal

pub returns-clause-records : goal.returns-clause-records
returns-clause-records c = rw (← c.self.view_is) (ap joined c.in_ok-done.ensures ∙ joined_closed c.self.inside.done.items c.self.inside.begun)

pub returns-clause-chunks : goal.returns-clause-chunks
returns-clause-chunks c next h = subst (λ x. AreChunks x next) (sym c.in_ok-done.ensures) (ends_all _ _ _ next c.self.invariant (subst (λ (s : Cutting). stops_at s.1 next ≡ true) (sym c.self.view_is) h))

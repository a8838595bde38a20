use Rattle.std.proofs.Common.{◌++◌, List, [], ◌∷◌, None, refl, ap, ◌∙◌, sym, append_assoc, inr}
use Rattle.std.proofs.lemmas.Grind.{replicate_next}
use Rattle.std.proofs.Math.ListN.{replicate}
use Rattle.turn_lock.specs.declared.tests.Addition.{Addition}
use Rattle.turn_lock.proofs.tests.SumTurns.play.Goals as goal

pub returns-else-self-eq0-clause-history : goal.returns-else-self-eq0-clause-history
returns-else-self-eq0-clause-history c =
    let lost : Addition = record { who = None; by = 0; sum = 0 } in let s = c.args.self.now in
    (lost, ap (λ (l : List Addition). s.noted.items ++ l) (replicate_next s.lost lost) ∙ sym (append_assoc s.noted.items (replicate s.lost lost) (lost ∷ [])), tt, inr refl)

use Rattle.std.proofs.Common.{List, ℕ, ◌∷◌, [], ◌++◌, ap, ◌∙◌}
use Rattle.sha2.specs.Sha256.{sha256}
use Rattle.map_tasks.specs.Inputs.{input_digest}
use Rattle.map_tasks.proofs.leaf_input.digest_of.Goals as goal

pub returns : goal.returns
unfolding input_digest
returns c =
    let d = c.finalize.ensures (([] ++ c.as_slice.result.now) ++ c.text.result.now) (c.update-2.ensures ([] ++ c.as_slice.result.now) (c.update.ensures [] c.new-hasher.ensures)) in
    d ∙ ap sha256 (ap (λ (s : List ℕ). ([] ++ s) ++ c.text.result.now) c.as_slice.ensures ∙ ap (λ (s : List ℕ). 0 ∷ s) c.text.ensures)

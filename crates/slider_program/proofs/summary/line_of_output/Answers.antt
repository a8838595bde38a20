use Rattle.std.proofs.Common.{◌≡◌, ◌∙◌, List, ℕ, subst, string_bytes}
use Rattle.std.specs.Prelude.{IfOk, ◌++◌, codes, decimal, length}
use Rattle.hex.specs.Hex.{encode_lower}
use Rattle.sha2.specs.Sha256.{sha256}
use Rattle.slider_program.proofs.summary.line_of_output.Goals as goal

pub returns : goal.returns
returns c =
    let digits : string_bytes c.in_ok-digest.digest ≡ encode_lower (sha256 c.args.output.now) = c.in_ok-digest.ensures ∙ (λ i. encode_lower (c.digest.ensures i)) in
    subst (λ (d : List ℕ). IfOk c.format.result (λ line. string_bytes line ≡ codes "runs " ++ decimal c.args.runs ++ (codes " bytes " ++ decimal (length c.args.output.now) ++ (codes " sha256 " ++ d ++ codes "\n")))) digits c.format.ensures.ok

use Rattle.definitions.proofs.TableLaws.{merged_comm}
use Rattle.job_laws.proofs.laws.merging_commutes.Goals as goal

pub returns : goal.returns
returns g c =
    let laws = g.met.J.Job in
    let swaps = g.met.J.Swaps in
    λ s t u gt gu. merged_comm (laws.join_laws s) (swaps.joined_comm s) t u gt gu

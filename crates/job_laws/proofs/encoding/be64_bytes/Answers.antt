use Rattle.std.proofs.Common.{rules}
use Rattle.job_laws.specs.Encoding.{be64}
use Rattle.job_laws.proofs.encoding.be64_bytes.Goals as goal

pub returns : goal.returns
unfolding be64
returns c = search rules

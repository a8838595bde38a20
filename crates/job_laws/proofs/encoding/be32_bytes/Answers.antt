use Rattle.std.proofs.Common.{rules}
use Rattle.job_laws.specs.Encoding.{be32}
use Rattle.job_laws.proofs.encoding.be32_bytes.Goals as goal

pub returns : goal.returns
unfolding be32
returns c = search rules

use Rattle.std.proofs.Common.{ap, ◌∙◌, map, [], ◌∷◌, ◌++◌}
use mathlib.Core.Option.{some}
use Rattle.worker_claims.proofs.spare.Spare.new.Goals as goal

pub new-requires : goal.new-requires
new-requires g c = (c.args.row, ap (map some) (c.push_reserved.ensures.items ∙ ap (λ l. l ++ c.args.row ∷ []) c.in-Ok.ensures.items), c.requires.0, c.requires.1)

use Rattle.std.proofs.Common.{◌≡◌, map, drop}
use Rattle.program_words.specs.WellFormed.{is_met}
use Rattle.program_words.proofs.scan.is_met.Given as goal

abbrev pub invariant-names : goal.invariant-names
invariant-names l = is_met (map (λ n. n.now) (drop l.met-index l.names)) l.fn.name ≡ is_met (map (λ n. n.now) l.names) l.fn.name

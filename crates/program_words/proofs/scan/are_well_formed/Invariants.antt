use Rattle.std.proofs.Common.{◌≡◌, map, is_some, option_map, string_bytes, drop}
use Rattle.program_words.specs.WellFormed.{scan, items_of}
use Rattle.program_words.proofs.scan.are_well_formed.Given as goal

-- the rest of the arguments is well formed after those that were read, exactly if all are
abbrev pub invariant-words : goal.invariant-words
invariant-words l =
    is_some (scan (map (λ n. n.now) l.scan.names.items) (option_map (λ n. n.now) l.scan.waiting) (map string_bytes (drop l.word-index l.words)))
    ≡ is_some (items_of (map string_bytes l.words))

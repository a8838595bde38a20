-- What the steps of the plain program make.
use Rattle.std.specs.Prelude.{ℕ, List, [], ◌∷◌, Option}
use Rattle.std.specs.declared.option.Option.TheVariants.{Some, None}
use Rattle.std.specs.FinMap.Entries.{by_order}
use Rattle.definitions.specs.Tables.{key_cmp}
use Rattle.record_text.specs.declared.script_fault.ScriptFault.{ScriptFault}
use Rattle.record_text.specs.Script.{Ending, Faulty}

-- A key inserted among keys in byte order, once.
abbrev pub key_among : List ℕ → List (List ℕ) → List (List ℕ)
key_among k [] = k ∷ []
key_among k (q ∷ qs) = by_order (key_cmp k q) (k ∷ q ∷ qs) (q ∷ qs) (q ∷ key_among k qs)

-- How a script ends: at a fault, or as its rest ends.
abbrev pub ending_of_rest : Option ScriptFault → Ending → Ending
ending_of_rest None ending = ending
ending_of_rest (Some fault) ending = Faulty fault.line fault.why

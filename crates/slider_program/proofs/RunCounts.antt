-- Counting the runs of a script, command by command.
use Rattle.std.proofs.Common.{◌≡◌, ℕ, ◌+◌, ◌≤◌, List, sym, ap, ◌∙◌, arith}
use Rattle.std.specs.Prelude.{Option, Ok}
use Rattle.std.specs.declared.option.Option.TheVariants.{Some, None}
use Rattle.definitions.specs.Outside.{Told}
use Rattle.definitions.proofs.ToldBytes.{told_same, told_then}
use Rattle.record_text.specs.declared.command.Command.{Command}
use Rattle.record_text.specs.declared.command.Command.TheVariants.{Bucket, Drop, Late, File, Remove, Edit, Load, Run}
use Rattle.record_text.specs.declared.reading.Reading.{Reading}
use Rattle.record_text.specs.Reading.{NextTold, to_come}
use Rattle.record_text.specs.Script.{Script, commands}
use Rattle.definitions.specs.Limits.{most_script}
use Rattle.slider_program.specs.Summaries.{runs_in, runs_of}

-- a command is at most one run
pub one_at_most : (c : Command) → runs_in c ≤ 1
one_at_most (Bucket records) = omega arith
one_at_most (Drop n) = omega arith
one_at_most (Late place more) = omega arith
one_at_most (File name) = omega arith
one_at_most (Remove name) = omega arith
one_at_most (Edit at del ins) = omega arith
one_at_most (Load records) = omega arith
one_at_most Run = omega arith

-- a number of runs were counted, and the rest are still to come
abbrev pub RunsCounted : ℕ → Reading → Option (List ℕ) → Option (List ℕ) → Type 0
RunsCounted runs r first left = Told first left (λ script rest. runs_of (commands most_script script) ≡ runs + runs_of (to_come r rest))

-- before the first command
pub none_counted : (r : Reading) (left : Option (List ℕ)) → ((script : List ℕ) → to_come r script ≡ commands most_script script) → RunsCounted 0 r left left
none_counted r left all = told_same left (λ script rest. runs_of (commands most_script script) ≡ 0 + runs_of (to_come r rest)) (λ script. ap runs_of (sym (all script)) ∙ none_before (runs_of (to_come r script)))
  where
    none_before : (n : ℕ) → n ≡ 0 + n
    none_before n = omega arith

module _ (runs : ℕ) (r next : Reading) (first left later : Option (List ℕ)) (counts : RunsCounted runs r first left) where
  -- a command was read
  pub one_counted : (c : Command) → Told left later (λ l m. NextTold (to_come r l) (to_come next m) next.last (Ok (Some c))) → RunsCounted (runs + runs_in c) next first later
  one_counted c told = told_then first left later (λ script l. runs_of (commands most_script script) ≡ runs + runs_of (to_come r l)) (λ l m. NextTold (to_come r l) (to_come next m) next.last (Ok (Some c)))
      (λ script m. runs_of (commands most_script script) ≡ (runs + runs_in c) + runs_of (to_come next m))
      (λ x y z p q. p ∙ ap (λ (t : Script). runs + runs_of t) q ∙ regrouped (runs_in c) (runs_of (to_come next z))) counts told
    where
      regrouped : (n m : ℕ) → runs + (n + m) ≡ (runs + n) + m
      regrouped n m = omega arith

  -- the script ended
  pub all_counted : Told left later (λ l m. NextTold (to_come r l) (to_come next m) next.last (Ok None)) → Told first later (λ script after. runs ≡ runs_of (commands most_script script))
  all_counted told = told_then first left later (λ script l. runs_of (commands most_script script) ≡ runs + runs_of (to_come r l)) (λ l m. NextTold (to_come r l) (to_come next m) next.last (Ok None))
      (λ script m. runs ≡ runs_of (commands most_script script))
      (λ x y z p q. sym (p ∙ ap (λ (t : Script). runs + runs_of t) q.0 ∙ no_more)) counts told
    where
      no_more : runs + 0 ≡ runs
      no_more = omega arith

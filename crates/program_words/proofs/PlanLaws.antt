-- What the arguments ask for, by their options.
use Rattle.std.proofs.Common.{◌≡◌, true, false, refl, sym, ap, true≢false, List, Option, Some, None, Err}
use Rattle.std.specs.Prelude.{is_some}
use Rattle.program_words.specs.declared.plan.Field.TheVariants as fields
use Rattle.program_words.specs.WellFormed.{Text, Item, items_of}
use Rattle.program_words.specs.Plans.{Given, demand, given_by, plan_by, plan_of}

-- arguments that are not well formed
pub plan_of-none : (words : List Text) → is_some (items_of words) ≡ false → plan_of words ≡ Err fields.Words
unfolding plan_of
plan_of-none words none = at (items_of words) none
  where
    at : (o : Option (List Item)) → is_some o ≡ false → demand fields.Words o (λ items. plan_by (given_by items)) ≡ Err fields.Words
    at None none = refl
    at (Some items) none = absurd (true≢false none)

-- arguments that are well formed, and give these values
pub plan_of-some : (words : List Text) (values : Given) → is_some (items_of words) ≡ true → ((items : List Item) → items_of words ≡ Some items → values ≡ given_by items) → plan_of words ≡ plan_by values
unfolding plan_of
plan_of-some words values some given = at (items_of words) some given
  where
    at : (o : Option (List Item)) → is_some o ≡ true → ((items : List Item) → o ≡ Some items → values ≡ given_by items) → demand fields.Words o (λ items. plan_by (given_by items)) ≡ plan_by values
    at None some given = absurd (true≢false (sym some))
    at (Some items) some given = ap plan_by (sym (given items refl))

-- What a caller gets while a draft is made.
use Rattle.std.proofs.Common.{◌≡◌, ◌⊎◌, inl, inr, ℕ, ◌||◌, Bool, true, false, List, [], ◌∷◌, ◌++◌, refl, sym, ap, subst, ◌∙◌, append-nil, append_assoc}
use Rattle.std.proofs.lemmas.List.Folds.{list_any-append}
use Rattle.std.proofs.lemmas.List.Concat.{flat_map-append}
use Rattle.pin_table.specs.Views.{CallerView}
use Rattle.pin_table.specs.Covers.{PinName}
use Rattle.pin_table.specs.OwnEvents.{Met}
use Rattle.pin_table.proofs.OwnEvents.{any-met-later, any-met-before}
use Rattle.tree_laws.specs.Pairs.{PairOf}
use Rattle.tree_laws.specs.Holds.{all_pins}
use Rattle.tree_laws.proofs.GetLaws.{gets-none, gets-then}
use Rattle.std.proofs.lemmas.Bool.{or_cases}
use Rattle.random_tree.specs.declared.group.Group.{Group}
use Rattle.random_tree.specs.Levels.{group_loose, groups_loose, groups_pins}
use Rattle.random_tree.specs.Steps.{GainsGroups}
use Rattle.tree_laws.specs.Trades.{Gets}

module _ {J V M : Type 0} (digest_of : PairOf V → List ℕ) where
  pub gains-none : (v : CallerView) (gs : List (Group J V M)) → GainsGroups digest_of v v gs gs
  gains-none v gs = record { more = []; is = sym (append-nil gs); gets = gets-none v; loose = λ is. absurd (let no : false ≡ true = is in cc) }

  -- A list with the same groups.
  pub gains-same : (v : CallerView) (old new : List (Group J V M)) → new ≡ old → GainsGroups digest_of v v old new
  gains-same v old new same = record { more = []; is = same ∙ sym (append-nil old); gets = gets-none v; loose = λ is. absurd (let no : false ≡ true = is in cc) }

  -- One group more.
  pub gains-group : (u v : CallerView) (old new : List (Group J V M)) (g : Group J V M) → new ≡ old ++ g ∷ [] → Gets u (all_pins digest_of g.holds.items) v → (group_loose g ≡ true → Met u v) → GainsGroups digest_of u v old new
  gains-group u v old new g is gets loose = record {
    more = g ∷ [];
    is = is;
    gets = subst (λ (ps : List PinName). Gets u ps v) (sym (append-nil (all_pins digest_of g.holds.items))) gets;
    loose = λ any. loose (last (group_loose g) any);
  }
    where
      last : (b : Bool) → (b || false) ≡ true → b ≡ true
      last true e = refl
      last false e = e

  pub gains-then : (u v w : CallerView) (old now new : List (Group J V M)) → GainsGroups digest_of u v old now → GainsGroups digest_of v w now new → GainsGroups digest_of u w old new
  gains-then u v w old now new a b = record {
    more = a.more ++ b.more;
    is = b.is ∙ (ap (λ (gs : List (Group J V M)). gs ++ b.more) a.is ∙ append_assoc old a.more b.more);
    gets = subst (λ (ps : List PinName). Gets u ps w) (sym (flat_map-append (λ (g : Group J V M). all_pins digest_of g.holds.items) a.more b.more)) (gets-then u v w (groups_pins digest_of a.more) (groups_pins digest_of b.more) a.gets b.gets);
    loose = λ is. go (or_cases (groups_loose a.more) (groups_loose b.more) (sym (list_any-append group_loose a.more b.more) ∙ is));
  }
    where
      go : (groups_loose a.more ≡ true) ⊎ (groups_loose b.more ≡ true) → Met u w
      go (inl one) = any-met-later u v w b.gets.0.later (a.loose one)
      go (inr one) = any-met-before u v w a.gets.0.later b.gets.0.later (b.loose one)

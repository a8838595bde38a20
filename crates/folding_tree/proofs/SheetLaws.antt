-- What holds of leaves and of merges holds of each node over them.
use Rattle.std.proofs.Common.{◌≡◌, ℕ, ◌+◌, ◌-◌, ◌*◌, sym, ap, ◌∙◌, refl, subst, Option, Some, None}
use Rattle.std.specs.List.{slice_get, All}
use Rattle.std.specs.Option.{option_map}
use Rattle.std.proofs.lemmas.Option.{slice_get-map, slice_get_within, get_or_from_slice_get}
use Rattle.sheets.specs.Sheets.{SheetOf}
use Rattle.tree_laws.specs.Pairs.{pair_of, merge_of}
use Rattle.folding_tree.specs.declared.part.Part.{Part}
use Rattle.folding_tree.specs.declared.part.Part.TheVariants.{Shared, Merged}
use Rattle.folding_tree.specs.Levels.{Row, part_at, sheet_at, part_sheet, sheets_of, IsMade, IsOver, EachSheet}
use Rattle.folding_tree.proofs.RowLaws.{at-behind, at-within}

same_in_some : {X : Type 0} (x y : X) → ◌≡◌ {A = Option X} (Some x) (Some y) → x ≡ y
same_in_some x y e = cc

module _ {J V M : Type 0} (joined : ℕ → V → V → V) (P : SheetOf V → Type 0) (merges : (a b : SheetOf V) → P a → P b → P (merge_of joined (pair_of a b))) where
  made-each : (a b : Option (SheetOf V)) (made : Option (Part J V M)) → ((s : SheetOf V) → a ≡ Some s → P s) → ((s : SheetOf V) → b ≡ Some s → P s) → IsMade joined a b made → (s : SheetOf V) → option_map part_sheet made ≡ Some s → P s
  made-each None None made x y h s e = absurd (let no : None ≡ Some s = sym (ap (option_map part_sheet) h) ∙ e in cc)
  made-each None (Some b) made x y h s e = subst P (same_in_some b s (sym (ap (option_map part_sheet) h) ∙ e)) (y b refl)
  made-each (Some a) None made x y h s e = subst P (same_in_some a s (sym (ap (option_map part_sheet) h) ∙ e)) (x a refl)
  made-each (Some a) (Some b) None x y h s e = absurd h
  made-each (Some a) (Some b) (Some (Shared t)) x y h s e = absurd h
  made-each (Some a) (Some b) (Some (Merged t)) x y h s e = subst P (sym h ∙ same_in_some (part_sheet {J = J} {V = V} {M = M} (Merged t)) s e) (merges a b (x a refl) (y b refl))

  pub each-over : (below above : Row J V M) → IsOver joined below above → EachSheet P below → EachSheet P above
  each-over below above over each place s is = made-each (sheet_at below (2 * place)) (sheet_at below (2 * place + 1)) (part_at above place) (each (2 * place)) (each (2 * place + 1)) (over.made place) s is

module _ {J V M : Type 0} (P : SheetOf V → Type 0) (row : Row J V M) where
  some-part : (o : Option (Part J V M)) (s : SheetOf V) → option_map part_sheet o ≡ Some s → (part : Part J V M) × (o ≡ Some part) × (part_sheet part ≡ s)
  some-part None s e = absurd (let no : None ≡ Some s = e in cc)
  some-part (Some part) s e = (part, refl, same_in_some (part_sheet part) s e)

  -- What holds of the sheets of a list holds at each place.
  pub each-all : All P (sheets_of row.parts) → EachSheet P row
  each-all all place s is =
      let there = some-part (part_at row place) s is in
      let le = at-within row place there.0 there.1 in
      let at : slice_get (sheets_of row.parts) (place - row.low) ≡ Some s =
      slice_get-map part_sheet row.parts (place - row.low) ∙ ap (option_map part_sheet) (sym (at-behind row place le.0)) ∙ is in
      subst P (get_or_from_slice_get (sheets_of row.parts) (place - row.low) s s at) (all (place - row.low) s (slice_get_within (sheets_of row.parts) (place - row.low) s at))

-- After a run the trees' tables are those of the window's leaves.
use Rattle.std.proofs.Common.{◌≡◌, ℕ, ◌+◌, List, [], ◌∷◌, ◌++◌, length, map, take, drop, refl, ap, sym, ◌∙◌}
use Rattle.std.specs.Prelude.{slice_set}
use Rattle.std.proofs.lemmas.List.{map-append, map-set, take-map, drop-map}
use Rattle.job_laws.specs.Meanings.{Meaning}
use Rattle.record_text.specs.Shifts.{put_at, shifted, first_after}
use Rattle.record_text.specs.declared.shift.Shift.{Shift}
use Rattle.record_text.specs.declared.shift.Shift.TheVariants.{Slide, Splice}
use Rattle.sheets.specs.Sheets.{SheetOf}
use Rattle.sheets.specs.United.{tables_of}
use Rattle.window_manager.specs.Windows.{Leaf}
use Rattle.tree_laws.specs.Trees.{Shape, TreeView, IsDrafted, settled}
use Rattle.run_engine.specs.Engines.{part_table, IsTreeOf}

module _ {X Y : Type 0} (f : X → Y) where
  map-put : (places : List ℕ) (news xs : List X) → map f (put_at places news xs) ≡ put_at places (map f news) (map f xs)
  map-put [] news xs = refl
  map-put (p ∷ ps) [] xs = refl
  map-put (p ∷ ps) (y ∷ ys) xs = map-put ps ys (slice_set xs p y) ∙ ap (put_at ps (map f ys)) (map-set f xs p y)

  -- A shift of a list of results is the list of results of the shifted list.
  pub map-shifted : (shift : Shift) (news old : List X) → map f (shifted shift news old) ≡ shifted shift (map f news) (map f old)
  map-shifted (Slide first gone places fresh) news old =
      map-append f (put_at places news (drop gone old)) (drop (length places) news)
      ∙ ap (λ (l : List Y). l ++ map f (drop (length places) news)) (map-put places news (drop gone old) ∙ ap (put_at places (map f news)) (sym (drop-map f gone old)))
      ∙ ap (λ (l : List Y). put_at places (map f news) (drop gone (map f old)) ++ l) (sym (drop-map f (length places) news))
  map-shifted (Splice first gone fresh) news old =
      map-append f (take first old ++ news) (drop (first + gone) old)
      ∙ ap (λ (l : List Y). l ++ map f (drop (first + gone) old)) (map-append f (take first old) news ∙ ap (λ (l : List Y). l ++ map f news) (sym (take-map f first old)))
      ∙ ap (λ (l : List Y). (take first (map f old) ++ map f news) ++ l) (sym (drop-map f (first + gone) old))

module _ {V : Type 0} (m : Meaning V) (setting parts places first : ℕ) (leaves : List Leaf) (part : ℕ) where
  -- A tree over the leaves that took a shift with the sheets of these leaves, and settled, is over the shifted leaves.
  pub tree-leads : (shift : Shift) (fresh : List Leaf) (shaped : Shape → Shift → Shape) (news : List (SheetOf V)) → tables_of news ≡ map (part_table m parts part) fresh
      → (old new : TreeView V) → IsTreeOf m setting parts places first leaves part old → IsDrafted shaped shift news old new → IsTreeOf m setting parts places (first_after shift first) (shifted shift fresh leaves) part (settled new)
  tree-leads shift fresh shaped news tables_are old new is drafted =
      let settles = ap settled drafted.is in
      record {
        setting_is = ap (λ (t : TreeView V). t.setting) settles ∙ is.setting_is;
        places_are = ap (λ (t : TreeView V). t.places) settles ∙ is.places_are;
        draft = ap (λ (t : TreeView V). t.draft) settles;
        first_is = ap (λ (t : TreeView V). t.leaves.first) settles ∙ drafted.of.first ∙ ap (first_after shift) is.first_is;
        tables = ap (λ (t : TreeView V). t.leaves.tables) settles ∙ drafted.of.tables
            ∙ ap (λ (ts : List (List (List ℕ × V))). shifted shift ts old.leaves.tables) tables_are
            ∙ ap (shifted shift (map (part_table m parts part) fresh)) is.tables
            ∙ sym (map-shifted (part_table m parts part) shift fresh leaves);
      }

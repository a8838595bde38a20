-- The sheets of the parts, one after the other.
use Rattle.std.proofs.Common.{◌≡◌, ◌<◌, ◌+◌, ℕ, zero, suc, List, [], ◌∷◌, ◌++◌, length, All, sym, ap, subst, ◌∙◌, length-append, arith}
use Rattle.std.specs.Prelude.{slice_index_or}
use Rattle.definitions.specs.Tables.{table_of}
use Rattle.definitions.specs.Answer.{pairs_of}
use Rattle.definitions.proofs.TableLaws.{table-nothing}
use Rattle.job_laws.specs.Meanings.{Meaning}
use Rattle.marker_chunker.specs.Cuts.{joined}
use Rattle.window_manager.specs.Windows.{Leaf}
use Rattle.sheets.specs.Sheets.{SheetOf}
use Rattle.sheets.specs.Parts.{AreSheets, in_part}

-- what holds of each element by its place holds with one more
pub pushed : {X : Type 0} (P : ℕ → X → Type 0) (xs : List X) (y : X) → ((i : ℕ) (d : X) → i < length xs → P i (slice_index_or xs i d)) → P (length xs) y
    → (i : ℕ) (d : X) → i < length (xs ++ y ∷ []) → P i (slice_index_or (xs ++ y ∷ []) i d)
pushed P [] y each last zero d h = last
pushed P [] y each last (suc i) d h = absurd (omega (arith, h))
pushed P (x ∷ xs) y each last zero d h = each zero d (omega arith)
pushed P (x ∷ xs) y each last (suc i) d h = pushed (λ k z. P (suc k) z) xs y (λ k e lt. each (suc k) e (omega (arith, lt))) last i d (omega (arith, h))

module _ {V : Type 0} (setting parts : ℕ) (t : List (List ℕ × V)) where
  -- the sheet of a part
  abbrev pub sheet_of : ℕ → SheetOf V
  sheet_of part = record { setting = setting; entries = in_part parts part t }

  -- there are sheets of the first n parts
  pub record AreFirst (n : ℕ) (sheets : List (SheetOf V)) : Type 0 where
    pub count : length sheets ≡ n
    pub each : (part : ℕ) (d : SheetOf V) → part < length sheets → slice_index_or sheets part d ≡ sheet_of part

  pub none_yet : (sheets : List (SheetOf V)) → sheets ≡ [] → AreFirst 0 sheets
  none_yet sheets none = record {
    count = ap (λ (l : List (SheetOf V)). length l) none;
    each = λ part d h. let zero = ap (λ (l : List (SheetOf V)). length l) none in absurd (omega (arith, h, zero));
  }

  -- the sheet of one part more
  pub one_more : (n : ℕ) (sheets after : List (SheetOf V)) (sheet : SheetOf V) → AreFirst n sheets → sheet ≡ sheet_of n → after ≡ sheets ++ sheet ∷ [] → AreFirst (n + 1) after
  one_more n sheets after sheet first is pushed_is =
      let c = first.count in
      let last : sheet ≡ sheet_of (length sheets) = is ∙ ap sheet_of (sym c) in
      subst (AreFirst (n + 1)) (sym pushed_is) (record {
        count = length-append sheets (sheet ∷ []) ∙ ap (λ (k : ℕ). k + 1) c;
        each = pushed (λ k s. s ≡ sheet_of k) sheets sheet first.each last;
      })

  -- the sheets of all parts
  pub all_parts : (sheets : List (SheetOf V)) → AreFirst parts sheets → AreSheets setting parts t sheets
  all_parts sheets first = record { count = first.count; each = λ part d h. let c = first.count in first.each part d (omega (arith, h, c)) }

  -- each sheet of all parts is set to the number
  pub all_set : (sheets : List (SheetOf V)) → AreSheets setting parts t sheets → All (λ s. s.setting ≡ setting) sheets
  all_set sheets are i d h = let n = are.count in ap (λ (s : SheetOf V). s.setting) (are.each i d (omega (arith, h, n)))

-- if there is no leaf, a sheet without entries is the sheet of each part
pub empty_part : {V : Type 0} (m : Meaning V) (setting parts part : ℕ) (leaves : List Leaf) (sheet : SheetOf V) → leaves ≡ [] → sheet.setting ≡ setting → sheet.entries ≡ [] → sheet ≡ sheet_of setting parts (table_of m.joined (pairs_of m.emits (joined leaves))) part
empty_part {V} m setting parts part leaves sheet none set empty =
    (λ i. record { setting = set i; entries = empty i })
    ∙ ap (λ (t : List (List ℕ × V)). sheet_of setting parts t part) (sym (table-nothing m.joined))
    ∙ ap (λ (l : List Leaf). sheet_of setting parts (table_of m.joined (pairs_of m.emits (joined l))) part) (sym none)

-- An advance as a whole: the places that stay, those that come, and the drafts over them.
use Rattle.std.proofs.Common.{◌≡◌, ◌⊎◌, inl, inr, ℕ, ◌+◌, ◌-◌, ◌*◌, ◌^◌, ◌<◌, ◌≤◌, arith, sym, ap, ◌∙◌, subst, List, ◌++◌, length, take, drop}
use Rattle.std.specs.List.{All}
use Rattle.std.proofs.lemmas.Bool.{cases_lt}
use Rattle.std.proofs.lemmas.List.{length-map}
use Rattle.job_laws.specs.declared.meter.Counts.{Counts}
use Rattle.job_laws.specs.Counted.{RoseBy}
use Rattle.sheets.specs.Sheets.{SheetOf}
use Rattle.sheets.specs.United.{tables_of}
use Rattle.record_text.specs.Shifts.{put_at}
use Rattle.tree_laws.specs.Trees.{Shape, IsLeaf, distinct_keys}
use Rattle.folding_tree.specs.declared.level.Level.{Level}
use Rattle.folding_tree.specs.declared.draft.Draft.{Draft}
use Rattle.folding_tree.specs.declared.standing.Standing.{Standing}
use Rattle.folding_tree.specs.declared.span.Span.{Span}
use Rattle.folding_tree.specs.Shapes.{without, with_fresh}
use Rattle.folding_tree.specs.Levels.{Row, sheets_of, part_sheet, IsTower}
use Rattle.folding_tree.specs.Folding.{rows_of, rows_after, span_shape, shape_of, IsMoved, IsAdvanced, AreFit, HaveRoom}
use Rattle.folding_tree.proofs.BuildLaws.{kept-whole}

module _ {J V M : Type 0} (at : Standing) (first gone came from : ℕ) (changed : List ℕ) (news : List (SheetOf V)) (olds : List (Level J V M)) (kept whole : Span) (from_is : from ≡ (rows_of olds 0).low + gone) (within : gone ≤ length (rows_of olds 0).parts)
    (shape : span_shape kept ≡ without gone (shape_of at.height (rows_of olds 0))) (count : kept.high ≡ kept.low + (length (rows_of olds 0).parts - gone)) (grown : span_shape whole ≡ with_fresh came (span_shape kept)) (added : whole.high ≡ kept.high + came) where
  abbrev row : Row J V M
  row = rows_of olds 0

  whole_shape : span_shape whole ≡ with_fresh came (without gone (shape_of at.height row))
  whole_shape = grown ∙ ap (with_fresh came) shape

  left : take (kept.high - kept.low) (drop (from - row.low) (sheets_of row.parts)) ≡ drop gone (sheets_of row.parts)
  left = kept-whole row.low gone from kept.low kept.high (sheets_of row.parts) from_is (let n = length-map row.parts part_sheet in omega (arith, count, n))

  -- What the drafts ask for.
  pub kept-stays : (gone < length row.parts → (j : ℕ) × (from ≡ kept.low + j * 2 ^ kept.height)) → kept.low < kept.high → IsMoved row from kept
  kept-stays moved some = (omega (arith, from_is), omega (arith, from_is, count, within), moved (omega (arith, count, some)))

  pub kept-starts : (length row.parts ≡ gone → kept.low ≡ 0) → kept.low ≡ kept.high → kept.low ≡ 0
  kept-starts none e = none (omega (arith, count, e, within))

  pub kept-places : All (λ (p : ℕ). p < length row.parts - gone) changed → All (λ (p : ℕ). kept.low + p < kept.high) changed
  kept-places all k d lt = let x = all k d lt in omega (arith, x, count)

  pub kept-grows : kept.height ≤ whole.height → (kept.height < whole.height → kept.high < whole.high) → (kept.height ≡ whole.height) ⊎ (kept.high < whole.high)
  kept-grows le doubled = elim (cases_lt kept.height whole.height) [
    | inl lt ↦ inr (doubled lt)
    | inr ge ↦ inl (omega (arith, le, ge))
  ]

  -- The merges in all.
  pub advanced-counted : (x y : Counts) → (let n = whole.high - kept.high + (2 + length changed) * whole.height in RoseBy 0 n (n * distinct_keys (tables_of (put_at changed news (take (kept.high - kept.low) (drop (from - row.low) (sheets_of row.parts))) ++ drop (length changed) news))) x y)
      → (let n = came + (2 + length changed) * (with_fresh came (without gone (shape_of at.height row))).height in RoseBy 0 n (n * distinct_keys (tables_of (put_at changed news (drop gone (sheets_of row.parts)) ++ drop (length changed) news))) x y)
  advanced-counted x y h =
      let a : whole.high - kept.high ≡ came = omega (arith, added) in
      let b : whole.height ≡ (with_fresh came (without gone (shape_of at.height row))).height = ap (λ (s : Shape). s.height) whole_shape in
      subst (λ (n : ℕ). RoseBy 0 n (n * distinct_keys (tables_of (put_at changed news (drop gone (sheets_of row.parts)) ++ drop (length changed) news))) x y) (λ i. a i + (2 + length changed) * b i)
      (subst (λ (xs : List (SheetOf V)). let n = whole.high - kept.high + (2 + length changed) * whole.height in RoseBy 0 n (n * distinct_keys (tables_of (put_at changed news xs ++ drop (length changed) news))) x y) left h)

  -- The drafts are those of the shifted leaves.
  module _ (good : ℕ → V → Type 0) (joined : ℕ → V → V → V) (setting : ℕ) (levels : List (Level J V M)) (drafts : List (Draft J V M)) (next : Standing) (first_is : next.first ≡ first) (height : next.height ≡ whole.height) (width : next.width ≡ whole.width) (wide : whole.width ≡ 2 ^ whole.height)
      (n : length drafts ≡ whole.height + 1) (deep : length drafts ≤ length levels) (fit : AreFit levels drafts) (room : HaveRoom levels drafts) (tower : IsTower joined whole.height (rows_after levels drafts))
      (leaves : sheets_of (rows_after levels drafts 0).parts ≡ put_at changed news (take (kept.high - kept.low) (drop (from - row.low) (sheets_of row.parts))) ++ drop (length changed) news)
      (sound : All (IsLeaf good setting) (sheets_of (rows_after levels drafts 0).parts)) (low : (rows_after levels drafts 0).low ≡ whole.low) (high : (rows_after levels drafts 0).low + length (rows_after levels drafts 0).parts ≡ whole.high) where
    pub advanced-is : IsAdvanced good joined setting at first gone changed came news olds levels drafts next
    advanced-is = record {
      first_is = first_is;
      draft = record {
        count = n ∙ ap (λ (h : ℕ). h + 1) (sym height);
        deep = deep;
        fit = fit;
        room = room;
        tree = record {
          tower = subst (λ (h : ℕ). IsTower joined h (rows_after levels drafts)) (sym height) tower;
          leaves_are = sound;
          wide = width ∙ wide ∙ ap (λ (h : ℕ). 2 ^ h) (sym height);
        };
      };
      leaves_are = leaves ∙ ap (λ (xs : List (SheetOf V)). put_at changed news xs ++ drop (length changed) news) left;
      shape_is = (λ i. record { height = height i; low = low i; high = high i }) ∙ whole_shape;
    }

use Rattle.std.proofs.Common.{subst, ◌≡◌, inl, inr, ◌<◌, ◌+◌, ◌-◌, ℕ, Some, length, get_or, refl, sym, ap, ◌∙◌, arith}
use Rattle.std.specs.Option.{option_map}
use Rattle.std.proofs.lemmas.Bool.{cases_lt}
use Rattle.std.proofs.lemmas.Option.{slice_get_read}
use Rattle.std.proofs.lemmas.List.Sorted.{searched}
use Rattle.std.specs.Prelude.{Ok, Err}
use Rattle.std.specs.Ordering.{nat_cmp}
use Rattle.std.specs.List.Sorted.{IsBinarySearchResult}
use Rattle.folding_tree.specs.Levels.{part_sheet, part_at, row_after}
use Rattle.folding_tree.specs.Folding.{row_of, ahead_of}
use Rattle.folding_tree.proofs.ListLaws.{rising-le}
use Rattle.folding_tree.proofs.RowLaws.{after-outside, after-fresh, after-changed, after-kept}
use Rattle.folding_tree.proofs.draft.next.Goals as goal

pub returns-then-place-draft : goal.returns-then-place-draft
returns-then-place-draft g c = sym (ap (option_map part_sheet) (after-outside (row_of c.args.level.now) (ahead_of c.args.draft.now) c.requires c.args.place (inl c.if-place-draft.true)))

pub returns-then-place-draft-2 : goal.returns-then-place-draft-2
returns-then-place-draft-2 g c = sym (ap (option_map part_sheet) (after-outside (row_of c.args.level.now) (ahead_of c.args.draft.now) c.requires c.args.place (inr c.if-place-draft-2.true)))

pub index-requires : goal.index-requires
index-requires g c =
    let fresh = c.requires.fresh in
    let lt = c.if-place-draft-2.false in
    let le = c.if-place-draft-3.true in
    let n = c.args.draft.now.fresh.ok.0 in
    omega (arith, fresh, lt, le, n)

pub returns-then-place-draft-3 : goal.returns-then-place-draft-3
returns-then-place-draft-3 g c =
    let fresh = c.requires.fresh in
    let lt = c.if-place-draft-2.false in
    let le = c.if-place-draft-3.true in
    let at = slice_get_read c.args.draft.now.fresh.items (length c.args.draft.now.fresh.items) (c.args.place - c.args.draft.now.mid) c.index.result.now refl (omega (arith, fresh, lt, le)) c.index.ensures in
    ap (λ s. Some s) c.sheet.ensures ∙ sym (ap (option_map part_sheet) (after-fresh (row_of c.args.level.now) (ahead_of c.args.draft.now) c.requires c.args.place le ∙ at))

pub index-requires-in-Ok : goal.index-requires-in-Ok
index-requires-in-Ok g c =
    let row = row_of c.args.level.now in
    let ahead = ahead_of c.args.draft.now in
    let places = c.args.draft.now.places.items in
    let i = c.in-Ok.i in
    let found = searched places c.args.place (Ok i) (subst (λ xs. IsBinarySearchResult (λ y. nat_cmp y c.args.place) xs (Ok i)) c.as_slice.ensures.value c.in-Ok.ensures.position) (rising-le places c.requires.rising) in
    let lt = found.0 in
    let changed = c.requires.changed in
    let n = c.args.draft.now.changed.ok.0 in
    omega (arith, lt, changed, n)

pub returns-in-Ok : goal.returns-in-Ok
returns-in-Ok g c =
    let row = row_of c.args.level.now in
    let ahead = ahead_of c.args.draft.now in
    let places = c.args.draft.now.places.items in
    let i = c.in-Ok.i in
    let found = searched places c.args.place (Ok i) (subst (λ xs. IsBinarySearchResult (λ y. nat_cmp y c.args.place) xs (Ok i)) c.as_slice.ensures.value c.in-Ok.ensures.position) (rising-le places c.requires.rising) in
    let lt = found.0 in
    let changed = c.requires.changed in
    let at = slice_get_read c.args.draft.now.changed.items (length c.args.draft.now.changed.items) i c.index-in-Ok.result.now refl (omega (arith, lt, changed)) c.index-in-Ok.ensures in
    let here : part_at (row_after row ahead) c.args.place ≡ Some c.index-in-Ok.result.now = ap (part_at (row_after row ahead)) (sym found.1) ∙ after-changed row ahead c.requires i lt ∙ at in
    ap (λ s. Some s) c.sheet-in-Ok.ensures ∙ sym (ap (option_map part_sheet) here)

pub overflow_sub-place-in-Err : goal.overflow_sub-place-in-Err
overflow_sub-place-in-Err g c = let le = c.if-place-draft.false in omega (arith, le)

pub overflow_add-gone : goal.overflow_add-gone
overflow_add-gone g c =
    let row = row_of c.args.level.now in
    let ahead = ahead_of c.args.draft.now in
    let places = c.args.draft.now.places.items in
    let i = c.in-Err.field-0 in
    let missed = searched places c.args.place (Err i) (subst (λ xs. IsBinarySearchResult (λ y. nat_cmp y c.args.place) xs (Err i)) c.as_slice.ensures.value c.in-Err.ensures.position) (rising-le places c.requires.rising) in
    let le = c.if-place-draft.false in
    let lt = c.if-place-draft-3.false in
    let gone = c.saturating_sub-gone.ensures in
    let enough = c.requires.enough in
    let ok = c.args.level.now.nodes.ok.0 in
    omega (arith, le, lt, gone, enough, ok)

pub index-requires-in-Err : goal.index-requires-in-Err
index-requires-in-Err g c =
    let row = row_of c.args.level.now in
    let ahead = ahead_of c.args.draft.now in
    let places = c.args.draft.now.places.items in
    let i = c.in-Err.field-0 in
    let missed = searched places c.args.place (Err i) (subst (λ xs. IsBinarySearchResult (λ y. nat_cmp y c.args.place) xs (Err i)) c.as_slice.ensures.value c.in-Err.ensures.position) (rising-le places c.requires.rising) in
    let le = c.if-place-draft.false in
    let lt = c.if-place-draft-3.false in
    let gone = c.saturating_sub-gone.ensures in
    let enough = c.requires.enough in
    let ok = c.args.level.now.nodes.ok.0 in
    omega (arith, le, lt, gone, enough, ok)

pub returns-in-Err : goal.returns-in-Err
returns-in-Err g c =
    let row = row_of c.args.level.now in
    let ahead = ahead_of c.args.draft.now in
    let places = c.args.draft.now.places.items in
    let i = c.in-Err.field-0 in
    let missed = searched places c.args.place (Err i) (subst (λ xs. IsBinarySearchResult (λ y. nat_cmp y c.args.place) xs (Err i)) c.as_slice.ensures.value c.in-Err.ensures.position) (rising-le places c.requires.rising) in
    let le = c.if-place-draft.false in
    let lt = c.if-place-draft-3.false in
    let gone = c.saturating_sub-gone.ensures in
    let enough = c.requires.enough in
    let off : (k : ℕ) → k < length places → get_or places k 0 ≡ c.args.place → ⊥ = λ k in_places e. elim (cases_lt k i) [
      | inl before ↦ (let x = missed.1 k before in omega (arith, x, e))
      | inr behind ↦ (let x = missed.2 k behind in_places in omega (arith, x, e))
    ] in
    let n : ℕ = c.args.draft.now.from - c.args.level.now.low + (c.args.place - c.args.draft.now.low) in
    let is : c.index-in-Err.result.now ≡ get_or c.args.level.now.nodes.items n c.index-in-Err.result.now = c.index-in-Err.ensures ∙ ap (λ k. get_or c.args.level.now.nodes.items (k + (c.args.place - c.args.draft.now.low)) c.index-in-Err.result.now) gone in
    let at = slice_get_read c.args.level.now.nodes.items (length c.args.level.now.nodes.items) n c.index-in-Err.result.now refl (omega (arith, le, lt, enough)) is in
    ap (λ s. Some s) c.sheet-in-Err.ensures ∙ sym (ap (option_map part_sheet) (after-kept row ahead c.requires c.args.place le lt off ∙ at))

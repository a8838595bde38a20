-- What stays known of a desk after a run.
use Rattle.std.proofs.Common.{◌≡◌, ℕ, ◌+◌, ◌-◌, ◌≤◌, List, [], ◌∷◌, ◌++◌, length, length-append, length-drop, length-take, map, take, drop, set, refl, sym, ap, subst, ◌∙◌, arith}
use Rattle.std.proofs.lemmas.List.{length-map, length-set}
use Rattle.record_text.specs.declared.kind.Kind.{Kind}
use Rattle.record_text.specs.declared.kind.Kind.TheVariants.{Buckets, Circle, Growing, Document}
use Rattle.record_text.specs.declared.shift.Shift.{Shift}
use Rattle.record_text.specs.declared.shift.Shift.TheVariants.{Slide, Splice}
use Rattle.record_text.specs.Shifts.{FitsShift, IsSlideOf, shifted, first_after, put_at}
use Rattle.sheets.specs.Sheets.{SheetOf}
use Rattle.sheets.specs.United.{tables_of}
use Rattle.pin_table.specs.Views.{MemoView, CallerView}
use Rattle.pin_table.specs.Covers.{PinName, Covered, Balanced}
use Rattle.tree_laws.specs.Trees.{Shape, TreeView, IsSettled}
use Rattle.tree_tests.specs.Desks.{count_after, IsSeated}

-- How many leaves there are after a shift.
put-count : {X : Type 0} (ps : List ℕ) (ns xs : List X) → length (put_at ps ns xs) ≡ length xs
put-count [] ns xs = refl
put-count (p ∷ ps) [] xs = refl
put-count (p ∷ ps) (n ∷ ns) xs = put-count ps ns (set xs p n) ∙ length-set xs p n

slide-count : {X : Type 0} (old count news first gone : ℕ) (places : List ℕ) (fresh : ℕ) (ns os : List X) → IsSlideOf old count news first gone places fresh → length ns ≡ news → length os ≡ count → length (put_at places ns (drop gone os) ++ drop (length places) ns) ≡ count - gone + fresh
slide-count old count news first gone places fresh ns os is n o =
    let a = length-append (put_at places ns (drop gone os)) (drop (length places) ns) in
    let b = put-count places ns (drop gone os) in
    let c = length-drop gone os in
    let d = length-drop (length places) ns in
    let e = is.news_are in
    omega (arith, a, b, c, d, e, n, o)

splice-count : {X : Type 0} (count news first gone fresh : ℕ) (ns os : List X) → first + gone ≤ count → fresh ≡ news → length ns ≡ news → length os ≡ count → length (take first os ++ ns ++ drop (first + gone) os) ≡ count - gone + fresh
splice-count count news first gone fresh ns os within is n o =
    let a = length-append (take first os ++ ns) (drop (first + gone) os) in
    let b = length-append (take first os) ns in
    let c = length-take first os in
    let d = length-drop (first + gone) os in
    omega (arith, a, b, c, d, within, is, n, o)

pub shifted-count : {X : Type 0} (kind : Kind) (most old count news : ℕ) (shift : Shift) (ns os : List X) → FitsShift kind most old count news shift → length ns ≡ news → length os ≡ count → length (shifted shift ns os) ≡ count_after shift count
shifted-count Growing most old count news (Slide first gone places fresh) ns os f n o = slide-count old count news first gone places fresh ns os f.0 n o
shifted-count Growing most old count news (Splice first gone fresh) ns os f n o = absurd f
shifted-count Buckets most old count news (Slide first gone places fresh) ns os f n o = slide-count old count news first gone places fresh ns os f n o
shifted-count Buckets most old count news (Splice first gone fresh) ns os f n o = absurd f
shifted-count Circle most old count news (Slide first gone places fresh) ns os f n o = slide-count old count news first gone places fresh ns os f.0 n o
shifted-count Circle most old count news (Splice first gone fresh) ns os f n o = absurd f
shifted-count Document most old count news (Slide first gone places fresh) ns os f n o = absurd f
shifted-count Document most old count news (Splice first gone fresh) ns os f n o = splice-count count news first gone fresh ns os f.0 f.1 n o

-- A tree without leaves, in addition to pins that are covered.
pub beside-none : (caller : CallerView) (pins others : List PinName) → pins ≡ [] → Covered caller others → Covered caller (pins ++ others)
beside-none caller pins others none covered = subst (λ (ps : List PinName). Covered caller (ps ++ others)) (sym none) covered

module _ {V : Type 0} (memo : MemoView) (u : CallerView) (ps : List PinName) (old : TreeView V) (setting places first count : ℕ) (s : IsSeated memo u ps old setting places first count) where
  module _ (w : CallerView) (qs : List PinName) (new : TreeView V) (covered : Covered w qs) where
    -- After a run that left the tree unchanged.
    pub seated-same : w.locks ≡ u.locks → new ≡ old → IsSeated memo w qs new setting places first count
    seated-same locks is = record {
      of = locks ∙ s.of;
      alone = s.alone;
      covered = covered;
      no_draft = ap (λ (t : TreeView V). t.draft) is ∙ s.no_draft;
      job = s.job ∙ sym (ap (λ (t : TreeView V). t.setting) is);
      places_are = ap (λ (t : TreeView V). t.places) is ∙ s.places_are;
      first_is = ap (λ (t : TreeView V). t.leaves.first) is ∙ s.first_is;
      count_is = ap (λ (t : TreeView V). length t.leaves.tables) is ∙ s.count_is;
    }

    -- After a run that took the shift.
    pub seated-run : (kind : Kind) (shaped : Shape → Shift → Shape) (shift : Shift) (news : List (SheetOf V)) (places2 first2 count2 : ℕ) → w.locks ≡ u.locks → FitsShift kind places first count (length news) shift → IsSettled shaped shift news old new → places2 ≡ places → first2 ≡ first_after shift first → count2 ≡ count_after shift count → IsSeated memo w qs new setting places2 first2 count2
    seated-run kind shaped shift news places2 first2 count2 locks f settled p q r = record {
      of = locks ∙ s.of;
      alone = s.alone;
      covered = covered;
      no_draft = ap (λ (t : TreeView V). t.draft) settled.is;
      job = s.job ∙ sym (ap (λ (t : TreeView V). t.setting) settled.is);
      places_are = ap (λ (t : TreeView V). t.places) settled.is ∙ (s.places_are ∙ sym p);
      first_is = ap (λ (t : TreeView V). t.leaves.first) settled.is ∙ (settled.of.first ∙ (ap (λ (n : ℕ). first_after shift n) s.first_is ∙ sym q));
      count_is =
          ap (λ (t : TreeView V). length t.leaves.tables) settled.is
          ∙ (ap (λ (ts : List (List (List ℕ × V))). length ts) settled.of.tables
          ∙ (shifted-count kind places first count (length news) shift (tables_of news) old.leaves.tables f (length-map news (λ (t : SheetOf V). t.entries)) s.count_is ∙ sym r));
    }

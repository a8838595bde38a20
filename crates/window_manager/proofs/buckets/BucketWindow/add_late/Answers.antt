use Rattle.std.proofs.Common.{rules, ◌≡◌, ◌≢◌, ◌≤◌, ◌<◌, ◌+◌, ◌++◌, [], ℕ, List, false, length, sym, ap, ◌∙◌, subst, arith}
use Rattle.std.specs.Prelude.{slice_set}
use Rattle.record_text.specs.declared.command.Command.TheVariants.{Late}
use Rattle.window_manager.specs.Windows.{Leaf, WindowState, is_large, window_after, with_late}
use Rattle.window_manager.specs.Slides.{FitsCount, slid_by, slid_after}
use Rattle.window_manager.specs.Buckets.{AreKept, BucketView, buckets_after, text_size}
use Rattle.window_manager.proofs.TextLaws.{size_late, count_late, late_set}
use Rattle.window_manager.proofs.BucketLaws.{late_none, late_kept, few_records, late_slid, marked, not_large}
use Rattle.window_manager.proofs.buckets.BucketWindow.add_late.Goals as goal

pub returns-then-is_empty-clause-ok : goal.returns-then-is_empty-clause-ok
returns-then-is_empty-clause-ok c =
    let none : c.args.more.now ≡ [] = search rules in
    late_none c.args.self.now c.args.place c.args.more.now none

pub joined_records-requires : goal.joined_records-requires
joined_records-requires c =
    let b = c.self.inside in let more = c.args.more.now in
    let within : c.args.place < length b.leaves.items = subst (λ (v : BucketView). c.args.place < length v.window.leaves) (sym c.self.view_is) c.requires.within in
    let small : text_size (with_late c.args.place more b.leaves.items) ≤ 268435456 = not_large (text_size (with_late c.args.place more b.leaves.items)) (subst (λ (v : BucketView). is_large (window_after v.window (Late c.args.place more)) ≡ false) (sym c.self.view_is) c.requires.large) in
    subst (λ (l : Leaf). length l + length more < 4294967296) (sym c.records.ensures) (few_records b.leaves.items c.args.place c.index.result.now more within c.index.ensures small)

pub overflow_add-self : goal.overflow_add-self
overflow_add-self c =
    let b = c.self.inside in let more = c.args.more.now in
    let within : c.args.place < length b.leaves.items = subst (λ (v : BucketView). c.args.place < length v.window.leaves) (sym c.self.view_is) c.requires.within in
    let small : text_size (with_late c.args.place more b.leaves.items) ≤ 268435456 = not_large (text_size (with_late c.args.place more b.leaves.items)) (subst (λ (v : BucketView). is_large (window_after v.window (Late c.args.place more)) ≡ false) (sym c.self.view_is) c.requires.large) in
    omega (arith, c.self.invariant.sized, c.text_len.ensures, size_late c.args.place more b.leaves.items within, small)

pub invariant_of-self-2 : goal.invariant_of-self-2
invariant_of-self-2 c =
    let b = c.self.inside in let more = c.args.more.now in let place = c.args.place in let leaves = b.leaves.items in
    let w : WindowState = record { kind = b.kind; places = b.places; leaves = leaves; files = []; current = [] } in
    let within : place < length leaves = subst (λ (v : BucketView). place < length v.window.leaves) (sym c.self.view_is) c.requires.within in
    let large : is_large (window_after w (Late place more)) ≡ false = subst (λ (v : BucketView). is_large (window_after v.window (Late place more)) ≡ false) (sym c.self.view_is) c.requires.large in
    let leaf : c.in_ok-bundle.bundle ≡ c.index.result.now ++ more = c.in_ok-bundle.ensures ∙ c.in_ok-records.ensures ∙ ap (λ (l : Leaf). l ++ more) c.records.ensures in
    let items : slice_set leaves place c.in_ok-bundle.bundle ≡ with_late place more leaves = ap (λ (l : Leaf). slice_set leaves place l) leaf ∙ sym (late_set place more leaves c.index.result.now within c.index.ensures) in
    let count : c.len.result ≡ length leaves = search rules in
    subst (λ (l : List Leaf). AreKept (record w { leaves = l }) (b.size + c.text_len.result) c.mark_late.new.shift) (sym items) record {
      window = late_kept w place more c.self.invariant.window large;
      sized = omega (arith, c.self.invariant.sized, c.text_len.ensures, size_late place more leaves within);
      fits = subst (λ (n : ℕ). FitsCount c.mark_late.new.shift n) (count ∙ sym (count_late place more leaves)) c.in_ok-mark_late.ensures.fits;
    }

pub returns-clause-ok : goal.returns-clause-ok
returns-clause-ok c =
    let b = c.self.inside in let more = c.args.more.now in let place = c.args.place in let leaves = b.leaves.items in
    let w : WindowState = record { kind = b.kind; places = b.places; leaves = leaves; files = []; current = [] } in
    let within : place < length leaves = subst (λ (v : BucketView). place < length v.window.leaves) (sym c.self.view_is) c.requires.within in
    let leaf : c.in_ok-bundle.bundle ≡ c.index.result.now ++ more = c.in_ok-bundle.ensures ∙ c.in_ok-records.ensures ∙ ap (λ (l : Leaf). l ++ more) c.records.ensures in
    let items : slice_set leaves place c.in_ok-bundle.bundle ≡ with_late place more leaves = ap (λ (l : Leaf). slice_set leaves place l) leaf ∙ sym (late_set place more leaves c.index.result.now within c.index.ensures) in
    let count : c.len.result ≡ length leaves = search rules in
    let some : more ≢ [] = search rules in
    let slid : slid_by c.mark_late.new.shift (length (with_late place more leaves)) ≡ slid_after w (Late place more) (slid_by b.shift (length leaves)) =
    ap (slid_by c.mark_late.new.shift) (count_late place more leaves)
    ∙ subst (λ (n : ℕ). slid_by c.mark_late.new.shift n ≡ late_slid (slid_by b.shift n) n place) count c.in_ok-mark_late.ensures.slid
    ∙ marked w (slid_by b.shift (length leaves)) place more some in
    (λ i. record { window = record w { leaves = items i }; slid = (ap (λ (l : List Leaf). slid_by c.mark_late.new.shift (length l)) items ∙ slid) i })
    ∙ ap (λ (v : BucketView). buckets_after v (Late place more)) c.self.view_is

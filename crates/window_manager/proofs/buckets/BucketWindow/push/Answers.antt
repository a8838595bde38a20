use Rattle.std.proofs.Common.{rules, ◌≡◌, ◌+◌, ◌-◌, ◌++◌, ◌∷◌, [], ℕ, List, false, length, drop, sym, ap, ◌∙◌, subst, arith}
use Rattle.record_text.specs.declared.command.Command.TheVariants.{Bucket}
use Rattle.window_manager.specs.Windows.{Leaf, WindowState, asks_too_many, is_large, window_after}
use Rattle.window_manager.specs.Slides.{FitsCount}
use Rattle.window_manager.specs.Buckets.{AreKept, BucketView, leaving, text_size}
use Rattle.window_manager.proofs.BucketLaws.{bucket_kept, count_with, leaf_after, size_with, not_large}
use Rattle.window_manager.proofs.buckets.BucketWindow.push.Goals as goal

pub overflow_add-size : goal.overflow_add-size
overflow_add-size c =
    let w = c.args.self.now.window in let leaf : Leaf = c.args.records in
    let size = size_with w c.kept.ensures.window leaf in
    let small = not_large (text_size (window_after w (Bucket leaf)).leaves) c.requires.large in
    omega (arith, c.kept.ensures.kept, c.text_len.ensures, size, small)

pub invariant_of-self-2 : goal.invariant_of-self-2
invariant_of-self-2 c =
    let b = c.self.inside in let leaf : Leaf = c.args.records in
    let w : WindowState = record { kind = b.kind; places = b.places; leaves = b.leaves.items; files = []; current = [] } in
    let is = c.self.invariant.window in
    let went : ℕ = leaving b.kind b.places (length b.leaves.items) in
    let many : asks_too_many w (Bucket leaf) ≡ false = subst (λ (v : BucketView). asks_too_many v.window (Bucket leaf) ≡ false) (sym c.self.view_is) c.requires.many in
    let large : is_large (window_after w (Bucket leaf)) ≡ false = subst (λ (v : BucketView). is_large (window_after v.window (Bucket leaf)) ≡ false) (sym c.self.view_is) c.requires.large in
    let n : c.len.result ≡ length b.leaves.items = search rules in
    let n2 : c.len-2.result ≡ length b.leaves.items = c.len-2.ensures ∙ c.in_ok-reserve.ensures.len ∙ sym c.len.ensures ∙ n in
    let goes : c.leaving-went.result ≡ went = c.leaving-went.ensures.leaves ∙ ap (leaving b.kind b.places) n in
    let items : c.push_back_reserved.new.self.items ≡ drop went b.leaves.items ++ leaf ∷ [] = c.push_back_reserved.ensures.items ∙ (λ i. (c.forget_oldest.ensures.items ∙ (λ j. drop (goes j) (c.in_ok-reserve.ensures.items j))) i ++ c.in_ok-bundle.ensures i ∷ []) in
    let kept : c.kept.result ≡ text_size (drop went b.leaves.items) = c.kept.ensures.kept ∙ ap (λ (v : BucketView). text_size (drop (leaving v.window.kind v.window.places (length v.window.leaves)) v.window.leaves)) (sym c.self.view_is) in
    subst (λ (l : List Leaf). AreKept (record w { leaves = l }) (c.kept.result + c.text_len.result) c.slide_on.new.shift) (sym items) record {
      window = bucket_kept w is leaf many large;
      sized = omega (arith, kept, c.text_len.ensures, size_with w is leaf, ap text_size (leaf_after w is leaf));
      fits = subst (λ (k : ℕ). FitsCount c.slide_on.new.shift k) ((λ i. n2 i + 1 - goes i) ∙ sym (count_with w is leaf)) c.in_ok-slide_on.ensures.fits;
    }

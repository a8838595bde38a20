use Rattle.std.proofs.Common.{◌≡◌, ◌+◌, ℕ, length, take, arith, ap, ◌∙◌}
use Rattle.definitions.specs.Records.{text_of}
use Rattle.window_manager.specs.Windows.{Leaf}
use Rattle.window_manager.specs.Buckets.{text_size}
use Rattle.window_manager.proofs.TextLaws.{size_prefix, size_cut}
use Rattle.window_manager.proofs.leaves.text_of_oldest.Goals as goal

pub overflow_add-size : goal.overflow_add-size
overflow_add-size c =
    let leaves = c.args.leaves.now.items in let i = c.leaves.i in
    let len : c.text_len-size.result ≡ length (text_of c.index.result.now) = c.text_len-size.ensures ∙ ap (λ (l : Leaf). length (text_of l)) c.records.ensures in
    let more = size_prefix leaves i c.index.result.now (omega (arith, c.leaves-test.true, c.requires.within)) c.index.ensures in
    omega (arith, c.leaves.invariant, len, more, size_cut (i + 1) leaves, c.requires.small)

pub leaves-preserved : goal.leaves-preserved
leaves-preserved c =
    let leaves = c.args.leaves.now.items in let i = c.leaves.i in
    let len : c.text_len-size.result ≡ length (text_of c.index.result.now) = c.text_len-size.ensures ∙ ap (λ (l : Leaf). length (text_of l)) c.records.ensures in
    let more = size_prefix leaves i c.index.result.now (omega (arith, c.leaves-test.true, c.requires.within)) c.index.ensures in
    omega (arith, c.leaves.invariant, len, more)

pub returns : goal.returns
returns c =
    let leaves = c.args.leaves.now.items in
    let end : c.leaves.i ≡ c.args.n = omega (arith, c.leaves-test.false, c.leaves.auto.i-end) in
    omega (arith, c.leaves.invariant ∙ ap (λ (n : ℕ). text_size (take n leaves)) end, size_cut c.args.n leaves)

use Rattle.std.proofs.Common.{◌<◌, ◌+◌, sym, arith}
use Rattle.definitions.specs.Limits.{most_text}
use Rattle.chunk_store.specs.Documents.{text_size}
use Rattle.chunk_store.proofs.Texts.{chunks_take}
use Rattle.window_manager.proofs.PlaceLaws.{nat_below}
use Rattle.window_manager.proofs.TextLaws.{size_prefix}
use Rattle.plain_program.proofs.refusing.is_large.Goals as goal

pub returns-then-more-size : goal.returns-then-more-size
returns-then-more-size c =
    let leaves = c.args.leaves.now in let i = c.leaves.i in
    let len = c.text_len-more.ensures in
    let next = size_prefix leaves i c.index-leaves-i.result c.leaves-test.true c.index-leaves-i.is in
    let large : most_text < text_size leaves = omega (arith, c.leaves.invariant.sized, c.leaves.invariant.small, len, next, chunks_take (i + 1) leaves, c.if-more-size.true) in
    sym (nat_below most_text (text_size leaves) large)

pub leaves-preserved : goal.leaves-preserved
leaves-preserved c =
    let leaves = c.args.leaves.now in let i = c.leaves.i in
    let len = c.text_len-more.ensures in
    let next = size_prefix leaves i c.index-leaves-i.result c.leaves-test.true c.index-leaves-i.is in
    record {
      small = omega (arith, c.leaves.invariant.small, c.if-more-size.false);
      sized = omega (arith, c.leaves.invariant.sized, len, next);
    }

use Rattle.std.proofs.Common.{◌+◌, ◌-◌, arith}
use Rattle.marker_chunker.specs.Cuts.{joined}
use Rattle.chunk_store.proofs.Texts.{spliced_text, text_take, prefix_text, count_size}
use Rattle.chunk_store.proofs.places.text_kept.Goals as goal

pub overflow_add-at : goal.overflow_add-at
overflow_add-at c = let count = count_size c.args.chunks.now in omega arith

pub overflow_sub-result : goal.overflow_sub-result
overflow_sub-result c = let most = text_take (c.args.at + c.args.del) (joined c.args.chunks.now) in omega arith

pub overflow_add-result : goal.overflow_add-result
overflow_add-result c =
    let prefix = prefix_text c.args.at c.args.del (joined c.args.chunks.now) in
    let most = text_take (c.args.at + c.args.del) (joined c.args.chunks.now) in
    omega arith

pub returns-clause-most : goal.returns-clause-most
returns-clause-most c =
    let prefix = prefix_text c.args.at c.args.del (joined c.args.chunks.now) in
    let most = text_take (c.args.at + c.args.del) (joined c.args.chunks.now) in
    omega arith

pub returns-clause-spliced : goal.returns-clause-spliced
returns-clause-spliced c ins = let all = spliced_text c.args.at c.args.del ins (joined c.args.chunks.now) in omega arith

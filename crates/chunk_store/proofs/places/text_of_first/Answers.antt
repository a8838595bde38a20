use Rattle.std.proofs.Common.{◌≡◌, ◌<◌, ◌+◌, length, ap, arith, get_or, []}
use Rattle.chunk_store.proofs.Texts.{text_more, text_take}
use Rattle.chunk_store.proofs.places.text_of_first.Goals as goal

pub overflow_add-size-in-sum : goal.overflow_add-size-in-sum
overflow_add-size-in-sum c =
    let l : c.sum.i < length c.args.records.now = omega arith in
    let size : length c.get.result.now ≡ length (get_or c.args.records.now c.sum.i []) = ap length c.get.ensures.value in
    let more = text_more c.args.records.now c.sum.i l in
    let part = text_take (c.sum.i + 1) c.args.records.now in
    omega arith

pub sum-preserved : goal.sum-preserved
sum-preserved c =
    let l : c.sum.i < length c.args.records.now = omega arith in
    let size : length c.get.result.now ≡ length (get_or c.args.records.now c.sum.i []) = ap length c.get.ensures.value in
    let more = text_more c.args.records.now c.sum.i l in
    omega arith

use Rattle.std.proofs.Common.{◌≡◌, ◌<◌, ◌+◌, ◌-◌, ◌∷◌, [], length, ap, ◌∙◌, arith, get_or, take}
use Rattle.definitions.specs.Records.{text_of}
use Rattle.std.proofs.lemmas.List.{get_or_read}
use Rattle.chunk_store.proofs.Reaches.{reach_more}
use Rattle.chunk_store.proofs.Texts.{count_size, chunks_take, chunks_more}
use Rattle.chunk_store.proofs.places.find.Goals as goal

pub overflow_add-next : goal.overflow_add-next
overflow_add-next c =
    let count = count_size (take c.finding.i c.args.chunks.now) in
    let part = chunks_take c.finding.i c.args.chunks.now in
    omega arith

pub returns-then-k-next-clause-more : goal.returns-then-k-next-clause-more
returns-then-k-next-clause-more c l =
    let size : c.len.result ≡ length (get_or c.args.chunks.now c.finding.i []) = c.len.ensures.count ∙ ap length (get_or_read _ _ _ l c.index-chunks-i.is []) in
    let more = reach_more c.finding.i c.args.chunks.now l in
    omega arith

pub overflow_add-text : goal.overflow_add-text
overflow_add-text c =
    let l : c.finding.i < length c.args.chunks.now = omega arith in
    let size : c.text_len-text.result ≡ length (text_of (get_or c.args.chunks.now c.finding.i [])) = c.text_len-text.ensures ∙ ap (λ x. length (text_of x)) (get_or_read _ _ _ l c.index-chunks-i.is []) in
    let more = chunks_more c.args.chunks.now c.finding.i l in
    let part = chunks_take (c.finding.i + 1) c.args.chunks.now in
    omega arith

pub finding-preserved : goal.finding-preserved
finding-preserved c =
    let l : c.finding.i < length c.args.chunks.now = omega arith in
    let size : c.len.result ≡ length (get_or c.args.chunks.now c.finding.i []) = c.len.ensures.count ∙ ap length (get_or_read _ _ _ l c.index-chunks-i.is []) in
    let bytes : c.text_len-text.result ≡ length (text_of (get_or c.args.chunks.now c.finding.i [])) = c.text_len-text.ensures ∙ ap (λ x. length (text_of x)) (get_or_read _ _ _ l c.index-chunks-i.is []) in
    let more = reach_more c.finding.i c.args.chunks.now l in
    let texts = chunks_more c.args.chunks.now c.finding.i l in
    record { start = omega arith; text = omega arith; holds = omega arith }

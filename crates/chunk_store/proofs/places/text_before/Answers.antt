use Rattle.std.proofs.Common.{◌≡◌, ◌<◌, ◌-◌, ℕ, List, [], length, take, get_or, ap, ◌∙◌, arith}
use Rattle.std.proofs.lemmas.List.{get_or_read}
use Rattle.definitions.specs.Records.{text_of}
use Rattle.marker_chunker.specs.Cuts.{joined, reach}
use Rattle.chunk_store.proofs.Reaches.{held, reach_more, take_at_chunk, take_whole}
use Rattle.chunk_store.proofs.Texts.{text_append, text_take}
use Rattle.chunk_store.proofs.places.text_before.Goals as goal

pub returns-then-spot-k : goal.returns-then-spot-k
returns-then-spot-k c =
    let whole : joined (take c.find-spot.result.chunk c.args.chunks.now) ≡ take c.args.k (joined c.args.chunks.now) = take_whole c.find-spot.result.chunk c.args.k c.args.chunks.now (omega arith) in
    c.find-spot.ensures.text ∙ ap (λ x. length (text_of x)) whole

pub text_of_first-requires : goal.text_of_first-requires
text_of_first-requires c =
    let l : c.find-spot.result.chunk < length c.args.chunks.now = held c.find-spot.result.chunk c.find-spot.result.start c.args.chunks.now (omega arith) (omega arith) in
    let is : c.records.result.now ≡ get_or c.args.chunks.now c.find-spot.result.chunk [] = c.records.ensures ∙ c.bundle.ensures ∙ get_or_read _ _ _ l c.index-chunks-spot.is [] in
    let size = ap length is in
    let more = reach_more c.find-spot.result.chunk c.args.chunks.now l in
    let top = c.find-spot.ensures.more l in
    omega arith

pub overflow_add-result : goal.overflow_add-result
overflow_add-result c =
    let l : c.find-spot.result.chunk < length c.args.chunks.now = held c.find-spot.result.chunk c.find-spot.result.start c.args.chunks.now (omega arith) (omega arith) in
    let is : c.records.result.now ≡ get_or c.args.chunks.now c.find-spot.result.chunk [] = c.records.ensures ∙ c.bundle.ensures ∙ get_or_read _ _ _ l c.index-chunks-spot.is [] in
    let top = c.find-spot.ensures.more l in
    let count : c.args.k - c.find-spot.result.start ≡ c.args.k - reach c.find-spot.result.chunk c.args.chunks.now = omega arith in
    let part : c.text_of_first.result ≡ length (text_of (take (c.args.k - reach c.find-spot.result.chunk c.args.chunks.now) (get_or c.args.chunks.now c.find-spot.result.chunk []))) =
    c.text_of_first.ensures ∙ ap (λ n. length (text_of (take n c.records.result.now))) count
    ∙ ap (λ (x : List (List ℕ)). length (text_of (take (c.args.k - reach c.find-spot.result.chunk c.args.chunks.now) x))) is in
    let sum = text_append (joined (take c.find-spot.result.chunk c.args.chunks.now)) (take (c.args.k - reach c.find-spot.result.chunk c.args.chunks.now) (get_or c.args.chunks.now c.find-spot.result.chunk [])) in
    let all = ap (λ (x : List (List ℕ)). length (text_of x)) (take_at_chunk c.find-spot.result.chunk c.args.k c.args.chunks.now l (omega arith) (omega arith)) in
    let most = text_take c.args.k (joined c.args.chunks.now) in
    omega arith

pub returns : goal.returns
returns c =
    let l : c.find-spot.result.chunk < length c.args.chunks.now = held c.find-spot.result.chunk c.find-spot.result.start c.args.chunks.now (omega arith) (omega arith) in
    let is : c.records.result.now ≡ get_or c.args.chunks.now c.find-spot.result.chunk [] = c.records.ensures ∙ c.bundle.ensures ∙ get_or_read _ _ _ l c.index-chunks-spot.is [] in
    let top = c.find-spot.ensures.more l in
    let count : c.args.k - c.find-spot.result.start ≡ c.args.k - reach c.find-spot.result.chunk c.args.chunks.now = omega arith in
    let part : c.text_of_first.result ≡ length (text_of (take (c.args.k - reach c.find-spot.result.chunk c.args.chunks.now) (get_or c.args.chunks.now c.find-spot.result.chunk []))) =
    c.text_of_first.ensures ∙ ap (λ n. length (text_of (take n c.records.result.now))) count
    ∙ ap (λ (x : List (List ℕ)). length (text_of (take (c.args.k - reach c.find-spot.result.chunk c.args.chunks.now) x))) is in
    let sum = text_append (joined (take c.find-spot.result.chunk c.args.chunks.now)) (take (c.args.k - reach c.find-spot.result.chunk c.args.chunks.now) (get_or c.args.chunks.now c.find-spot.result.chunk [])) in
    let all = ap (λ (x : List (List ℕ)). length (text_of x)) (take_at_chunk c.find-spot.result.chunk c.args.k c.args.chunks.now l (omega arith) (omega arith)) in
    omega arith

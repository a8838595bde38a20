use Rattle.std.proofs.Common.{◌≡◌, ◌<◌, ◌+◌, ◌-◌, ◌++◌, ◌∷◌, [], ℕ, List, length, ap, ◌∙◌, arith, get_or, take}
use Rattle.marker_chunker.specs.Cuts.{reach, joined}
use Rattle.chunk_store.specs.Cutting.{Cutting, records_of}
use Rattle.std.proofs.lemmas.List.{get_or_read}
use Rattle.chunk_store.proofs.Reaches.{reach_more, take_at_chunk, held}
use Rattle.chunk_store.proofs.recut.head.Goals as goal

pub feed-requires : goal.feed-requires
feed-requires c =
    let l : c.find-spot.result.chunk < length c.args.chunks.now = held c.find-spot.result.chunk (c.args.at - 1) c.args.chunks.now (omega arith) (omega arith) in
    let is : c.records-chunk.result.now ≡ get_or c.args.chunks.now c.find-spot.result.chunk [] = c.records-chunk.ensures ∙ c.bundle.ensures ∙ get_or_read _ _ _ l c.index-chunks-spot.is [] in
    let size = ap length is in
    let more = reach_more c.find-spot.result.chunk c.args.chunks.now l in
    let top = c.find-spot.ensures.more l in
    (omega arith, omega arith)

pub returns-clause-records : goal.returns-clause-records
returns-clause-records c =
    let l : c.find-spot.result.chunk < length c.args.chunks.now = held c.find-spot.result.chunk (c.args.at - 1) c.args.chunks.now (omega arith) (omega arith) in
    let is : c.records-chunk.result.now ≡ get_or c.args.chunks.now c.find-spot.result.chunk [] = c.records-chunk.ensures ∙ c.bundle.ensures ∙ get_or_read _ _ _ l c.index-chunks-spot.is [] in
    let top = c.find-spot.ensures.more l in
    let count : c.args.at - c.find-spot.result.start - 0 ≡ c.args.at - reach c.find-spot.result.chunk c.args.chunks.now = omega arith in
    let fed : records_of c.in_ok-cutter.cutter ≡ take (c.args.at - reach c.find-spot.result.chunk c.args.chunks.now) (get_or c.args.chunks.now c.find-spot.result.chunk []) =
    c.in_ok-cutter.ensures
    ∙ ap (λ (x : Cutting). records_of x ++ take (c.args.at - c.find-spot.result.start - 0) c.records-chunk.result.now) c.new-cutter.ensures
    ∙ ap (λ k. take k c.records-chunk.result.now) count
    ∙ ap (take (c.args.at - reach c.find-spot.result.chunk c.args.chunks.now)) is in
    ap (λ (x : List (List ℕ)). joined (take c.find-spot.result.chunk c.args.chunks.now) ++ x) fed ∙ take_at_chunk c.find-spot.result.chunk c.args.at c.args.chunks.now l (omega arith) (omega arith)

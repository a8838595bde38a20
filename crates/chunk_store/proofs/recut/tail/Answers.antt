use Rattle.std.proofs.Common.{◌≡◌, ◌<◌, ◌≤◌, ◌+◌, ◌-◌, ◌++◌, ◌∷◌, [], ℕ, List, length, ap, ◌∙◌, arith, get_or, below_more, append_assoc, take, drop, None}
use Rattle.marker_chunker.specs.Cuts.{reach, joined}
use Rattle.chunk_store.specs.Cutting.{records_of}
use Rattle.std.proofs.lemmas.List.{get_or_read, take_rest}
use Rattle.chunk_store.proofs.Reaches.{reach_more, reach_rises, drop_at_chunk, drop_whole, held}
use Rattle.chunk_store.proofs.recut.tail.Goals as goal

pub returns-then-spot-to-clause-records : goal.returns-then-spot-to-clause-records
returns-then-spot-to-clause-records c =
    ap (λ (x : List (List ℕ)). records_of c.args.cutter ++ x) (drop_whole c.find-spot.result.chunk c.args.to c.args.chunks.now (omega arith))

pub returns-then-spot-to-clause-before : goal.returns-then-spot-to-clause-before
returns-then-spot-to-clause-before c g l =
    let h = reach_rises c.args.chunks.now None g c.find-spot.result.chunk c.requires.chunks l (omega arith) in
    omega arith

pub feed-requires : goal.feed-requires
feed-requires c =
    let l : c.find-spot.result.chunk < length c.args.chunks.now = held c.find-spot.result.chunk c.find-spot.result.start c.args.chunks.now (omega arith) (omega arith) in
    let is : c.records-chunk.result.now ≡ get_or c.args.chunks.now c.find-spot.result.chunk [] = c.records-chunk.ensures ∙ c.bundle.ensures ∙ get_or_read _ _ _ l c.index-chunks-spot.is [] in
    let size = ap length is in
    let more = reach_more c.find-spot.result.chunk c.args.chunks.now l in
    let top = c.find-spot.ensures.more l in
    (omega arith, omega arith)

pub returns-clause-records : goal.returns-clause-records
returns-clause-records c =
    let l : c.find-spot.result.chunk < length c.args.chunks.now = held c.find-spot.result.chunk c.find-spot.result.start c.args.chunks.now (omega arith) (omega arith) in
    let is : c.records-chunk.result.now ≡ get_or c.args.chunks.now c.find-spot.result.chunk [] = c.records-chunk.ensures ∙ c.bundle.ensures ∙ get_or_read _ _ _ l c.index-chunks-spot.is [] in
    let top = c.find-spot.ensures.more l in
    let count : c.len.result - (c.args.to - c.find-spot.result.start) ≡ length c.records-chunk.result.now - (c.args.to - c.find-spot.result.start) = omega arith in
    let start : c.args.to - c.find-spot.result.start ≡ c.args.to - reach c.find-spot.result.chunk c.args.chunks.now = omega arith in
    let fed : records_of c.in_ok-cutter.cutter ≡ records_of c.args.cutter ++ drop (c.args.to - reach c.find-spot.result.chunk c.args.chunks.now) (get_or c.args.chunks.now c.find-spot.result.chunk []) =
    c.in_ok-cutter.ensures
    ∙ ap (λ (x : List (List ℕ)). records_of c.args.cutter ++ x)
    (ap (λ k. take k (drop (c.args.to - c.find-spot.result.start) c.records-chunk.result.now)) count
    ∙ take_rest c.records-chunk.result.now (c.args.to - c.find-spot.result.start)
    ∙ ap (λ k. drop k c.records-chunk.result.now) start
    ∙ ap (drop (c.args.to - reach c.find-spot.result.chunk c.args.chunks.now)) is) in
    ap (λ (x : List (List ℕ)). x ++ joined (drop (c.find-spot.result.chunk + 1) c.args.chunks.now)) fed
    ∙ append_assoc (records_of c.args.cutter) (drop (c.args.to - reach c.find-spot.result.chunk c.args.chunks.now) (get_or c.args.chunks.now c.find-spot.result.chunk [])) (joined (drop (c.find-spot.result.chunk + 1) c.args.chunks.now))
    ∙ ap (λ (x : List (List ℕ)). records_of c.args.cutter ++ x) (drop_at_chunk c.find-spot.result.chunk c.args.to c.args.chunks.now l (omega arith) (omega arith))

pub returns-clause-before : goal.returns-clause-before
returns-clause-before c g l =
    let bound : c.find-spot.result.chunk ≤ length c.args.chunks.now = omega arith in
    below_more (λ (k : ℕ). reach k c.args.chunks.now < c.args.to) c.find-spot.result.chunk
    (λ k m. let h = reach_rises c.args.chunks.now None k c.find-spot.result.chunk c.requires.chunks m bound in omega arith)
    (omega arith) g l

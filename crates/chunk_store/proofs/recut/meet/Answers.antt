use Rattle.std.proofs.Common.{◌≡◌, ◌<◌, ◌+◌, ◌-◌, ◌++◌, ◌∷◌, [], ℕ, List, length, sym, ap, subst, ◌∙◌, arith, get_or, append_assoc, take, drop, None, true, false}
use Rattle.marker_chunker.specs.Cuts.{chunks_of, reach, joined}
use Rattle.chunk_store.specs.Cutting.{records_of}
use Rattle.chunk_store.proofs.Cutting.{apart}
use Rattle.std.proofs.lemmas.List.{get_or_read, take_all}
use Rattle.chunk_store.proofs.Reaches.{chunk_at, first_at, stops_last, meets_more}
use Rattle.marker_chunker.proofs.CutLaws.{not_empty}
use Rattle.chunk_store.proofs.recut.meet.Goals as goal

pub get-requires : goal.get-requires
get-requires c =
    let l : c.meeting.place < length c.args.chunks.now = omega arith in
    let is : c.records-chunk.result.now ≡ get_or c.args.chunks.now c.meeting.place [] = c.records-chunk.ensures ∙ c.bundle.ensures ∙ get_or_read _ _ _ l c.index-chunks-place.is [] in
    let some = not_empty c.args.chunks.now None c.meeting.place c.requires.chunks l in
    rw is some

pub returns-then-stops_before-clause-stops : goal.returns-then-stops_before-clause-stops
returns-then-stops_before-clause-stops c =
    let l : c.meeting.place < length c.args.chunks.now = omega arith in
    let is : c.records-chunk.result.now ≡ get_or c.args.chunks.now c.meeting.place [] = c.records-chunk.ensures ∙ c.bundle.ensures ∙ get_or_read _ _ _ l c.index-chunks-place.is [] in
    let first : c.get.result.now ≡ get_or (get_or c.args.chunks.now c.meeting.place []) 0 [] = c.get.ensures.value ∙ ap (λ (x : List (List ℕ)). get_or x 0 []) is in
    rw (first_at c.meeting.place c.args.chunks.now c.requires.chunks l, ← first) (sym c.stops_before.ensures.stops ∙ c.if-stops_before.true)

pub returns-clause-stops : goal.returns-clause-stops
returns-clause-stops c = stops_last c.meeting.cutter.1 c.meeting.place c.args.chunks.now (omega arith)

pub meeting-preserved : goal.meeting-preserved
meeting-preserved c =
    let l : c.meeting.place < length c.args.chunks.now = omega arith in
    let is : c.records-chunk.result.now ≡ get_or c.args.chunks.now c.meeting.place [] = c.records-chunk.ensures ∙ c.bundle.ensures ∙ get_or_read _ _ _ l c.index-chunks-place.is [] in
    let first : c.get.result.now ≡ get_or (get_or c.args.chunks.now c.meeting.place []) 0 [] = c.get.ensures.value ∙ ap (λ (x : List (List ℕ)). get_or x 0 []) is in
    let all : take (c.len.result - 0) (drop 0 c.records-chunk.result.now) ≡ c.records-chunk.result.now = take_all (c.len.result - 0) c.records-chunk.result.now (omega arith) in
    let fed : records_of c.in_ok-cutter.cutter ≡ records_of c.meeting.cutter ++ get_or c.args.chunks.now c.meeting.place [] = c.in_ok-cutter.ensures ∙ ap (λ (x : List (List ℕ)). records_of c.meeting.cutter ++ x) (all ∙ is) in
    record {
      in_range = (omega arith, omega arith);
      records = ap (λ (x : List (List ℕ)). x ++ joined (drop (c.meeting.place + 1) c.args.chunks.now)) fed
          ∙ append_assoc (records_of c.meeting.cutter) (get_or c.args.chunks.now c.meeting.place []) (joined (drop (c.meeting.place + 1) c.args.chunks.now))
          ∙ ap (λ (x : List (List ℕ)). records_of c.meeting.cutter ++ x) (sym (chunk_at c.meeting.place c.args.chunks.now l))
          ∙ c.meeting.invariant.records;
      least = meets_more c.args.chunks.now c.args.from c.meeting.place (records_of c.meeting.cutter) (records_of c.args.cutter) c.requires.chunks l c.meeting.invariant.records
          (subst (λ (r : List ℕ). (rest : List (List ℕ)) (q : ℕ) → reach q (chunks_of (records_of c.meeting.cutter ++ r ∷ rest)) ≡ length (records_of c.meeting.cutter) → ⊥) first (c.stops_before.ensures.apart c.if-stops_before.false))
          c.meeting.invariant.least;
    }

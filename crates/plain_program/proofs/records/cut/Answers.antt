use Rattle.std.proofs.Common.{◌≡◌, ◌<◌, ◌+◌, ◌-◌, ◌++◌, ◌∷◌, List, ℕ, [], length, take, drop, sym, ap, ◌∙◌, append_assoc, append-nil, arith}
use Rattle.std.proofs.lemmas.List.{drop_all}
use Rattle.marker_chunker.specs.Cuts.{chunks_of}
use Rattle.marker_chunker.proofs.Parts.{next_cut}
use Rattle.chunk_store.proofs.Refusals.{chunks_none}
use Rattle.plain_program.proofs.PartLaws.{chunk_next}
use Rattle.plain_program.proofs.records.cut.Goals as goal

pub overflow_add-to : goal.overflow_add-to
overflow_add-to c =
    let n = next_cut c.args.records.now c.chunks.from c.first_cut.result (omega (arith, c.chunks-test.true, c.len.ensures.count)) c.first_cut.ensures in
    let within = n.1 in
    omega (arith, within, c.len.ensures.count, c.len.ensures.most)

pub append_part-requires : goal.append_part-requires
append_part-requires c =
    let n = next_cut c.args.records.now c.chunks.from c.first_cut.result (omega (arith, c.chunks-test.true, c.len.ensures.count)) c.first_cut.ensures in
    (omega arith, n.1)

pub chunks-smaller : goal.chunks-smaller
chunks-smaller c =
    let n = next_cut c.args.records.now c.chunks.from c.first_cut.result (omega (arith, c.chunks-test.true, c.len.ensures.count)) c.first_cut.ensures in
    let some = n.0 in let within = n.1 in
    omega (arith, some, within)

pub chunks-preserved : goal.chunks-preserved
chunks-preserved c =
    let records = c.args.records.now in let from = c.chunks.from in let size = c.first_cut.result in
    let done = c.chunks.chunks.items in let rest = chunks_of (drop (from + size) records) in
    let test : from < length records = omega (arith, c.chunks-test.true, c.len.ensures.count) in
    let n = next_cut records from size test c.first_cut.ensures in
    let piece = take (from + size - from) (drop from records) in
    let chunk : c.append_part.new.into ≡ piece = c.in-Ok.ensures ∙ ap (λ (l : List (List ℕ)). l ++ piece) c.new-chunk.ensures in
    record {
      within = n.1;
      cut = ap (λ (l : List (List (List ℕ))). l ++ rest) (c.in-Ok-push.ensures.items ∙ ap (λ (l : List (List ℕ)). done ++ l ∷ []) chunk)
          ∙ append_assoc done (piece ∷ []) rest
          ∙ ap (λ (l : List (List (List ℕ))). done ++ l) (sym (chunk_next records from size test c.first_cut.ensures))
          ∙ c.chunks.invariant.cut;
    }

pub returns : goal.returns
returns c =
    let records = c.args.records.now in let from = c.chunks.from in let done = c.chunks.chunks.items in
    let none : chunks_of (drop from records) ≡ [] = ap chunks_of (drop_all from records (omega (arith, c.chunks-test.false, c.len.ensures.count))) ∙ chunks_none in
    sym (append-nil done) ∙ ap (λ (l : List (List (List ℕ))). done ++ l) (sym none) ∙ c.chunks.invariant.cut

use Rattle.std.proofs.Common.{◌≡◌, ◌-◌, ◌++◌, take, drop, None, sym, ap, ◌∙◌, arith}
use Rattle.std.proofs.lemmas.List.{take_all}
use Rattle.marker_chunker.specs.Cuts.{chunks_of, AreChunks}
use Rattle.marker_chunker.proofs.CutLaws.{chunks_all}
use Rattle.chunk_store.specs.Cutting.{Cutting, records_of}
use Rattle.chunk_store.proofs.Cutting.{stops_at_end}
use Rattle.chunk_store.proofs.recut.cut_whole.Goals as goal

pub returns : goal.returns
returns c =
    let all : take (c.len.result - 0) (drop 0 c.args.records.now) ≡ c.args.records.now = take_all (c.len.result - 0) c.args.records.now (omega arith) in
    let fed : records_of c.in_ok-cutter.cutter ≡ c.args.records.now =
    c.in_ok-cutter.ensures ∙ ap (λ (x : Cutting). records_of x ++ take (c.len.result - 0) (drop 0 c.args.records.now)) c.new.ensures ∙ all in
    let are : AreChunks c.in_ok-chunks.chunks.items None = c.in_ok-chunks.ensures.chunks None (stops_at_end c.in_ok-cutter.cutter.1) in
    sym (chunks_all c.in_ok-chunks.chunks.items are) ∙ ap chunks_of (c.in_ok-chunks.ensures.records ∙ fed)

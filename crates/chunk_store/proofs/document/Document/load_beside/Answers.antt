use Rattle.std.proofs.Common.{◌≡◌, ◌-◌, ℕ, List, length, None, sym, ap, subst, ◌∙◌, arith}
use Rattle.definitions.specs.Records.{text_of}
use Rattle.marker_chunker.specs.Cuts.{joined, chunks_of, AreChunks}
use Rattle.marker_chunker.proofs.CutLaws.{chunks_are, joined_chunks}
use Rattle.chunk_store.proofs.document.Document.load_beside.Goals as goal

pub invariant_of-self : goal.invariant_of-self
invariant_of-self c =
    let cut : c.in-Ok.fresh.items ≡ chunks_of c.args.records.now = c.in-Ok.ensures in
    let records : c.args.records.now ≡ joined c.in-Ok.fresh.items = sym (ap joined cut ∙ joined_chunks c.args.records.now) in (
      subst (λ (x : List (List (List ℕ))). AreChunks x None) (sym cut) (chunks_are c.args.records.now),
      c.len-self-inside.ensures.count ∙ ap length records,
      c.text_len-self-inside.ensures ∙ ap (λ x. length (text_of x)) records,
      omega arith,
    )

use Rattle.std.proofs.Common.{◌+◌, ◌++◌, ◌∷◌, [], List, ℕ, drop, sym, ap, ◌∙◌, arith, append_assoc}
use Rattle.marker_chunker.specs.Cuts.{places, chunks_of}
use Rattle.marker_chunker.proofs.Parts.{next_cut, all_cut}
use Rattle.marker_chunker.proofs.cuts.cut_all.Goals as goal

pub overflow_add-from : goal.overflow_add-from
overflow_add-from c =
    let h = next_cut c.args.records.now c.cuts.from c.first_cut-from.result (omega arith) c.first_cut-from.ensures in
    let within = h.1 in
    omega arith

pub cuts-smaller : goal.cuts-smaller
cuts-smaller c =
    let h = next_cut c.args.records.now c.cuts.from c.first_cut-from.result (omega arith) c.first_cut-from.ensures in
    let some = h.0 in
    let within = h.1 in
    omega arith

pub cuts-preserved : goal.cuts-preserved
cuts-preserved c =
    let h = next_cut c.args.records.now c.cuts.from c.first_cut-from.result (omega arith) c.first_cut-from.ensures in
    let to = c.cuts.from + c.first_cut-from.result in
    record {
      within = h.1;
      cut = ap (λ (x : List ℕ). x ++ places to (chunks_of (drop to c.args.records.now))) c.in_ok-push.ensures.items
          ∙ append_assoc c.cuts.ends.items (to ∷ []) (places to (chunks_of (drop to c.args.records.now)))
          ∙ ap (λ (x : List ℕ). c.cuts.ends.items ++ x) (sym h.2)
          ∙ c.cuts.invariant.cut;
    }

pub returns : goal.returns
returns c = all_cut c.cuts.ends.items c.args.records.now c.cuts.from c.cuts.invariant.cut (omega arith)

use Rattle.std.proofs.Common.{◌≡◌, ◌≤◌, ◌+◌, ◌-◌, ◌++◌, ℕ, List, ap, ◌∙◌, arith, take, drop, None}
use Rattle.marker_chunker.specs.Cuts.{reach, first_or, joined}
use Rattle.chunk_store.specs.Cutting.{records_of}
use Rattle.chunk_store.proofs.Cutting.{begins}
use Rattle.std.proofs.lemmas.List.{take_all}
use Rattle.chunk_store.proofs.Reaches.{reach_grows}
use Rattle.chunk_store.proofs.Splices.{news_is, least, ordered}
use Rattle.chunk_store.proofs.Texts.{count_size}
use Rattle.chunk_store.proofs.recut.cut_again.Goals as goal

pub overflow_add-at : goal.overflow_add-at
overflow_add-at c = let count = count_size c.args.chunks.now in omega arith

pub returns-clause-news : goal.returns-clause-news
returns-clause-news c =
    let all : take (c.len.result - 0) (drop 0 c.args.ins.now) ≡ c.args.ins.now = take_all (c.len.result - 0) c.args.ins.now (omega arith) in
    news_is c.args.chunks.now c.in_ok-fresh.fresh.items c.in_ok-begun.begun.place c.in_ok-met.met.place c.in_ok-behind.behind.place c.args.at c.args.del c.args.ins.now
    (records_of c.in_ok-begun.begun.cutter) (records_of c.in_ok-behind.behind.cutter)
    c.requires.chunks c.requires.within c.in_ok-begun.ensures.begins (λ h. (c.in_ok-begun.ensures.holds h).0) c.in_ok-begun.ensures.records
    (c.in_ok-behind.ensures.records ∙ ap (λ (x : List (List ℕ)). x ++ drop (c.args.at + c.args.del) (joined c.args.chunks.now)) (c.in_ok-with_ins.ensures ∙ ap (λ (x : List (List ℕ)). records_of c.in_ok-begun.begun.cutter ++ x) all))
    (ap (λ (x : List (List ℕ)). x ++ joined (drop c.in_ok-met.met.place c.args.chunks.now)) c.in_ok-fresh.ensures.records ∙ c.in_ok-met.ensures.records)
    (c.in_ok-fresh.ensures.chunks (first_or None (joined (drop c.in_ok-met.met.place c.args.chunks.now))) c.in_ok-met.ensures.stops)

pub returns-clause-recut : goal.returns-clause-recut
returns-clause-recut c =
    let all : take (c.len.result - 0) (drop 0 c.args.ins.now) ≡ c.args.ins.now = take_all (c.len.result - 0) c.args.ins.now (omega arith) in
    let grows = reach_grows c.args.chunks.now c.in_ok-behind.behind.place c.in_ok-met.met.place c.in_ok-met.ensures.within.0 in
    let far : c.args.at + c.args.del ≤ reach c.in_ok-behind.behind.place c.args.chunks.now = c.in_ok-behind.ensures.within.1 in
    let reached : c.args.at + c.args.del ≤ reach c.in_ok-met.met.place c.args.chunks.now = omega arith in
    record {
      begins = c.in_ok-begun.ensures.begins;
      holds = c.in_ok-begun.ensures.holds;
      ordered = ordered c.args.chunks.now c.in_ok-begun.begun.place c.in_ok-met.met.place c.args.at c.args.del c.requires.chunks c.in_ok-begun.ensures.within c.in_ok-begun.ensures.begins (λ h. (c.in_ok-begun.ensures.holds h).0) reached;
      far = reached;
      least = least c.args.chunks.now c.in_ok-fresh.fresh.items c.in_ok-begun.begun.place c.in_ok-met.met.place c.in_ok-behind.behind.place c.args.at c.args.del c.args.ins.now
          (records_of c.in_ok-begun.begun.cutter) (records_of c.in_ok-behind.behind.cutter)
          c.requires.chunks c.requires.within c.in_ok-begun.ensures.begins (λ h. (c.in_ok-begun.ensures.holds h).0) c.in_ok-begun.ensures.records
          (c.in_ok-behind.ensures.records ∙ ap (λ (x : List (List ℕ)). x ++ drop (c.args.at + c.args.del) (joined c.args.chunks.now)) (c.in_ok-with_ins.ensures ∙ ap (λ (x : List (List ℕ)). records_of c.in_ok-begun.begun.cutter ++ x) all))
          (ap (λ (x : List (List ℕ)). x ++ joined (drop c.in_ok-met.met.place c.args.chunks.now)) c.in_ok-fresh.ensures.records ∙ c.in_ok-met.ensures.records)
          (c.in_ok-fresh.ensures.chunks (first_or None (joined (drop c.in_ok-met.met.place c.args.chunks.now))) c.in_ok-met.ensures.stops)
          c.in_ok-behind.ensures.before c.in_ok-met.ensures.least;
    }

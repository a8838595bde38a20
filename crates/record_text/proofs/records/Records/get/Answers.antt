use Rattle.std.proofs.Common.{◌≡◌, ◌<◌, ℕ, List, [], length, get_or, sym, ap, ◌∙◌, subst, arith, drop, take, ◌-◌}
use Rattle.definitions.specs.Records.{IsRecord}
use Rattle.record_text.specs.Spans.{cuts, cut}
use Rattle.record_text.proofs.SpanLaws.{get_cut, length_cuts}
use Rattle.record_text.proofs.records.Records.get.Goals as goal

pub returns-clause-record : goal.returns-clause-record
returns-clause-record c =
    let s = c.self.inside in let i = c.args.i in
    let n : length (cuts s.text.items s.spans.items) ≡ length c.args.self.now = ap (λ (l : List (List ℕ)). length l) c.self.view_is in
    let lt : i < length s.spans.items = omega (arith, n, c.requires, length_cuts s.text.items s.spans.items) in
    let is : IsRecord (get_or (cuts s.text.items s.spans.items) i []) = c.self.invariant.records i [] (omega (arith, n, c.requires)) in
    let at = get_cut s.text.items s.spans.items i c.index.result.now lt ∙ ap (cut s.text.items) (sym c.index.ensures) in
    let text : cut s.text.items c.index.result.now ≡ take (c.index.result.now.to - c.index.result.now.from) (drop c.index.result.now.from c.deref.result.now) = ap (λ (l : List ℕ). cut l c.index.result.now) (sym c.deref.ensures.value) in
    subst IsRecord (at ∙ text) is

use Rattle.std.proofs.Common.{sym, ap, ◌∙◌}
use Rattle.definitions.specs.Records.{text_of}
use Rattle.record_text.specs.Spans.{cuts}
use Rattle.record_text.proofs.LineLaws.{text_of-injective}
use Rattle.std.proofs.lemmas.Slice.Eq.{bytes_eq-Decides}
use Rattle.record_text.proofs.records.Records.same.Goals as goal

pub returns : goal.returns
returns c =
    let a = c.self.inside in let b = c.other.inside in
    let p = c.self.invariant in let q = c.other.invariant in (
      λ t. sym c.self.view_is
          ∙ text_of-injective (cuts a.text.items a.spans.items) (cuts b.text.items b.spans.items) p.records q.records
          (sym p.whole ∙ (bytes_eq-Decides a.text.items b.text.items).0 (sym c.eq.ensures ∙ t) ∙ q.whole)
          ∙ c.other.view_is,
      λ e. c.eq.ensures ∙ (bytes_eq-Decides a.text.items b.text.items).1 (p.whole ∙ ap text_of (c.self.view_is ∙ e ∙ sym c.other.view_is) ∙ sym q.whole),
    )

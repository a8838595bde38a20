use Rattle.std.proofs.Common.{◌≡◌, ◌+◌, ◌<◌, ◌++◌, ◌∷◌, [], ℕ, List, length, sym, ap, ◌∙◌, subst, arith}
use Rattle.record_text.specs.declared.records.Span.{Span}
use Rattle.record_text.specs.Spans.{IsText, cuts}
use Rattle.record_text.proofs.SpanLaws.{cuts-push, is_text-push, length_cuts}
use Rattle.record_text.proofs.records.Records.push.Goals as goal

text_is : (a b : List ℕ) (x y z : List ℕ) → a ≡ b ++ 10 ∷ [] → b ≡ x ++ y → x ≡ z → a ≡ z ++ y ++ 10 ∷ []
text_is a b x y z p q r = p ∙ ap (λ (l : List ℕ). l ++ 10 ∷ []) (q ∙ ap (λ (l : List ℕ). l ++ y) r)

pub invariant_of-self-2 : goal.invariant_of-self-2
invariant_of-self-2 c =
    let s = c.self.inside in let bytes = c.args.bytes.now in
    let span : Span = record { from = c.len-from.result; to = c.len-from.result + length bytes } in
    let text = text_is c.push_reserved.new.self.items c.extend_from_slice.new.self.items c.reserve-2.new.self.items bytes s.text.items c.push_reserved.ensures.items c.in-Ok.ensures.items c.reserve-2.ensures.items in
    let from : span.from ≡ length s.text.items = c.len-from.ensures ∙ s.text.ok.0 in
    let spans : c.push_reserved-2.new.self.items ≡ s.spans.items ++ span ∷ [] = c.push_reserved-2.ensures.items ∙ ap (λ (l : List Span). l ++ span ∷ []) c.reserve.ensures.items in
    let room : length s.spans.items < 4294967295 = omega (arith, c.requires.room, ap (λ (l : List (List ℕ)). length l) c.self.view_is, length_cuts s.text.items s.spans.items) in
    let is = is_text-push s.text.items s.spans.items c.self.invariant bytes span from (ap (λ (n : ℕ). n + length bytes) from) c.requires.record room in
    subst (λ (l : List ℕ). IsText l c.push_reserved-2.new.self.items) (sym text) (subst (λ (l : List Span). IsText (s.text.items ++ bytes ++ 10 ∷ []) l) (sym spans) is)

pub returns-clause-ok : goal.returns-clause-ok
returns-clause-ok c =
    let s = c.self.inside in let bytes = c.args.bytes.now in
    let span : Span = record { from = c.len-from.result; to = c.len-from.result + length bytes } in
    let text = text_is c.push_reserved.new.self.items c.extend_from_slice.new.self.items c.reserve-2.new.self.items bytes s.text.items c.push_reserved.ensures.items c.in-Ok.ensures.items c.reserve-2.ensures.items in
    let from : span.from ≡ length s.text.items = c.len-from.ensures ∙ s.text.ok.0 in
    let spans : c.push_reserved-2.new.self.items ≡ s.spans.items ++ span ∷ [] = c.push_reserved-2.ensures.items ∙ ap (λ (l : List Span). l ++ span ∷ []) c.reserve.ensures.items in
    (λ i. cuts (text i) (spans i))
    ∙ cuts-push s.text.items s.spans.items c.self.invariant bytes span from (ap (λ (n : ℕ). n + length bytes) from)
    ∙ ap (λ (l : List (List ℕ)). l ++ bytes ∷ []) c.self.view_is

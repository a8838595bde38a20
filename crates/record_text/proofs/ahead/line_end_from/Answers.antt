use Rattle.std.proofs.Common.{◌≡◌, ◌+◌, ◌-◌, ℕ, List, length, take, drop, get_or, sym, ap, ◌∙◌, arith, length-drop}
use Rattle.record_text.proofs.AheadLaws.{same_true, true_same, rest_is, none_beyond, get_drop}
use Rattle.record_text.proofs.ahead.line_end_from.Goals as goal

pub returns-in-Some : goal.returns-in-Some
returns-in-Some c =
    let bytes = c.args.bytes.now in let from = c.args.from in let i = c.in-Some.i in let e = c.in-Some.ensures in
    let r = rest_is from bytes in
    record {
      within = omega (arith, e.0.high, ap (λ (l : List ℕ). length l) r, length-drop from bytes);
      before = none_beyond bytes from i c.requires.none (λ k lt is. e.0.before k (omega arith) lt (same_true (get_or (take (length bytes - from) (drop from bytes)) k 0) 10 (ap (λ (l : List ℕ). get_or l k 0) r ∙ is)));
      found = λ lt. sym (get_drop from i bytes) ∙ ap (λ (l : List ℕ). get_or l i 0) (sym r) ∙ true_same (get_or (take (length bytes - from) (drop from bytes)) i 0) 10 e.1;
    }

pub returns-in-None : goal.returns-in-None
returns-in-None c =
    let bytes = c.args.bytes.now in let from = c.args.from in let e = c.in-None.ensures in
    let r = rest_is from bytes in
    let all : from + (length bytes - from) ≡ length bytes = omega (arith, c.requires.start) in
    record {
      within = omega arith;
      before = λ k lt. none_beyond bytes from (length bytes - from) c.requires.none (λ j less is. e j (omega arith) (omega (arith, less, ap (λ (l : List ℕ). length l) r, length-drop from bytes)) (same_true (get_or (take (length bytes - from) (drop from bytes)) j 0) 10 (ap (λ (l : List ℕ). get_or l j 0) r ∙ is))) k (omega (arith, lt, all));
      found = λ lt. absurd (omega arith);
    }

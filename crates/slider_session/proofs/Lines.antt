-- Lines that are tried on a device: none, and some after others.
use Rattle.std.proofs.Common.{◌≡◌, ℕ, ◌+◌, Bool, true, false, List, [], ◌∷◌, ◌++◌, length, refl, sym, ap, ◌∙◌, subst, append-nil, append_assoc, arith}
use Rattle.definitions.proofs.ToldBytes.{told_same, told_then}
use Rattle.slider_session.specs.Devices.{DeviceView, all_lines, AreCut, AreTried}
use Rattle.slider_session.specs.WorkLines.{work_line, work_lines, asked_lines}
use Rattle.slider_session.specs.declared.work.Work.{Work}

-- a prefix of each of these lines, and then of each of those
cut_append : (lines more : List (List ℕ)) (x y : List ℕ) → AreCut lines x → AreCut more y → AreCut (lines ++ more) (x ++ y)
cut_append [] more x y p q = subst (λ (l : List ℕ). AreCut more (l ++ y)) (sym p) q
cut_append (line ∷ lines) more x y p q = (p.0, p.1 ++ y, p.2, cut_append lines more p.1 y p.3 q, ap (λ (l : List ℕ). l ++ y) p.4 ∙ append_assoc p.0 p.1 y)

-- these lines, and then those
all_append : (lines more : List (List ℕ)) → all_lines (lines ++ more) ≡ all_lines lines ++ all_lines more
all_append [] more = refl
all_append (line ∷ lines) more = ap (λ (l : List ℕ). line ++ l) (all_append lines more) ∙ sym (append_assoc line (all_lines lines) (all_lines more))

-- no line was tried
pub tried_none : (Done : Type 0) (d : DeviceView) → AreTried Done [] d d
tried_none Done d = record {
  cut = told_same d.bytes (λ old new. (gain : List ℕ) × AreCut [] gain × (new ≡ old ++ gain)) (λ x. ([], refl, sym (append-nil x)));
  whole = λ done still. told_same d.bytes (λ old new. new ≡ old ++ []) (λ x. sym (append-nil x));
  later = omega arith;
}

-- lines that were tried, restated
pub tried_so : (Done : Type 0) (lines : List (List ℕ)) (before now : DeviceView) → AreTried (Unit {0}) lines before now → AreTried Done lines before now
tried_so Done lines before now t = record { cut = t.cut; whole = λ done still. t.whole tt still; later = t.later }

-- lines were tried to their end, and then more of them
pub tried_then : (Done : Type 0) (lines more : List (List ℕ)) (x y z : DeviceView) → AreTried (Unit {0}) lines x y → AreTried Done more y z → AreTried Done (lines ++ more) x z
tried_then Done lines more x y z s t =
    let early = s.later in
    let late = t.later in
    record {
      cut = told_then x.bytes y.bytes z.bytes (λ old new. (gain : List ℕ) × AreCut lines gain × (new ≡ old ++ gain)) (λ old new. (gain : List ℕ) × AreCut more gain × (new ≡ old ++ gain)) (λ old new. (gain : List ℕ) × AreCut (lines ++ more) gain × (new ≡ old ++ gain))
          (λ a b c p q. (p.0 ++ q.0, cut_append lines more p.0 q.0 p.1 q.1, q.2 ∙ ap (λ (l : List ℕ). l ++ q.0) p.2 ∙ append_assoc a p.0 q.0))
          s.cut t.cut;
      whole = λ done still. told_then x.bytes y.bytes z.bytes (λ old new. new ≡ old ++ all_lines lines) (λ old new. new ≡ old ++ all_lines more) (λ old new. new ≡ old ++ all_lines (lines ++ more))
          (λ a b c p q. q ∙ ap (λ (l : List ℕ). l ++ all_lines more) p ∙ append_assoc a (all_lines lines) (all_lines more) ∙ ap (λ (l : List ℕ). a ++ l) (sym (all_append lines more)))
          (s.whole tt (λ rose. still (omega (arith, rose, late))))
          (t.whole done (λ rose. still (omega (arith, rose, early))));
      later = omega (arith, early, late);
    }

-- no run has no work line
pub asked_none : (asked : Bool) (i : ℕ) → asked_lines asked i [] ≡ []
asked_none false i = refl
asked_none true i = refl

lines_append : (i : ℕ) (ws vs : List Work) → work_lines i (ws ++ vs) ≡ work_lines i ws ++ work_lines (i + length ws) vs
lines_append i [] vs = let same : i ≡ i + 0 = omega arith in ap (λ (n : ℕ). work_lines n vs) same
lines_append i (w ∷ ws) vs =
    let same : i + 1 + length ws ≡ i + length (w ∷ ws) = omega arith in
    ap (λ (ls : List (List ℕ)). work_line i w ∷ ls) (lines_append (i + 1) ws vs ∙ ap (λ (n : ℕ). work_lines (i + 1) ws ++ work_lines n vs) same)

-- the work lines of some runs, and then of others
pub asked_append : (asked : Bool) (i : ℕ) (ws vs : List Work) → asked_lines asked i (ws ++ vs) ≡ asked_lines asked i ws ++ asked_lines asked (i + length ws) vs
asked_append false i ws vs = refl
asked_append true i ws vs = lines_append i ws vs

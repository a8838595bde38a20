use Rattle.std.proofs.Common.{◌≡◌, ◌<◌, ◌+◌, List, ℕ, [], ◌∷◌, ◌++◌, take, drop, length, refl, sym, ap, ◌∙◌, arith, ◌⊎◌, inl, inr, false, true, ◌&&◌, nat_lt, Bool}
use Rattle.std.proofs.lemmas.Bool.{ltb-false, ltb-true}
use Rattle.std.proofs.lemmas.List.{take_all, drop_all}
use Rattle.marker_chunker.specs.Markers.{last_bytes, some_marks, marks}
use Rattle.marker_chunker.proofs.Windows.{window_more, passed_more, found_at, at_end, last_push}
use Rattle.marker_chunker.proofs.marker.is_marker.Goals as goal

either : (a b : Bool) → (a && b) ≡ false → (a ≡ false) ⊎ (b ≡ false)
either true b e = inr e
either false b e = inl refl

pub windows-preserved : goal.windows-preserved
windows-preserved c =
    let l : c.windows.i < length c.args.r.now = omega arith in
    let window : c.push.new.self ≡ last_bytes (take (c.windows.i + 1) c.args.r.now) = c.push.ensures ∙ window_more c.args.r.now c.windows.i c.windows.roll c.windows.invariant.window l in
    let no_test : (nat_lt 14 c.windows.i && marks c.push.new.self) ≡ false = sym c.marks_full.ensures ∙ c.if-marks_full.false in
    let which : (c.windows.i < 15) ⊎ (marks (last_bytes (take (c.windows.i + 1) c.args.r.now)) ≡ false) =
    elim (either _ _ no_test) [ inl e ↦ inl (let f = ltb-false 14 c.windows.i e in omega arith) | inr e ↦ inr (ap marks (sym window) ∙ e) ] in
    record { window = window; passed = c.windows.invariant.passed ∙ passed_more c.args.r.now c.windows.i l which }

both : (a b : Bool) → (a && b) ≡ true → (a ≡ true) × (b ≡ true)
both true b e = (refl, e)
both false b e = cc

pub returns-then-marks_full : goal.returns-then-marks_full
returns-then-marks_full c =
    let l : c.windows.i < length c.args.r.now = omega arith in
    let window : c.push.new.self ≡ last_bytes (take (c.windows.i + 1) c.args.r.now) = c.push.ensures ∙ window_more c.args.r.now c.windows.i c.windows.roll c.windows.invariant.window l in
    let h = both (nat_lt 14 c.windows.i) (marks c.push.new.self) (sym c.marks_full.ensures ∙ c.if-marks_full.true) in
    sym (found_at c.args.r.now c.windows.i (ltb-true 14 c.windows.i h.0) l c.windows.invariant.passed (ap marks (sym window) ∙ h.1))

pub returns : goal.returns
returns c =
    let all : take c.windows.i c.args.r.now ≡ c.args.r.now = take_all c.windows.i c.args.r.now (omega arith) in
    let none : drop c.windows.i c.args.r.now ≡ [] = drop_all c.windows.i c.args.r.now (omega arith) in
    let passed : some_marks [] (c.args.r.now ++ 10 ∷ []) ≡ some_marks c.args.r.now (10 ∷ []) =
    c.windows.invariant.passed ∙ ap (λ (x : List ℕ). some_marks x (drop c.windows.i c.args.r.now ++ 10 ∷ [])) all ∙ ap (λ (x : List ℕ). some_marks c.args.r.now (x ++ 10 ∷ [])) none in
    c.marks.ensures ∙ ap marks (c.push-2.ensures ∙ ap (λ (x : List ℕ). last_bytes (x ++ 10 ∷ [])) (c.windows.invariant.window ∙ ap last_bytes all) ∙ last_push c.args.r.now 10) ∙ sym (at_end c.args.r.now passed)

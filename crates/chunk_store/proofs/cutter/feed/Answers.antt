use Rattle.std.proofs.Common.{◌≡◌, ◌<◌, ◌≤◌, ◌+◌, ◌-◌, ◌++◌, ◌∷◌, [], ℕ, List, length, sym, ap, ◌∙◌, arith, get_or, append_assoc, take, drop}
use Rattle.chunk_store.specs.Cutting.{records_of}
use Rattle.std.proofs.lemmas.List.{take_more, get_or-drop, length-drop}
use Rattle.chunk_store.proofs.cutter.feed.Goals as goal

taken : (rs : List (List ℕ)) (from i : ℕ) → from ≤ i → i < length rs → take (i + 1 - from) (drop from rs) ≡ take (i - from) (drop from rs) ++ get_or rs i [] ∷ []
taken rs from i h l =
    let more : i + 1 - from ≡ i - from + 1 = omega arith in
    let here : from + (i - from) ≡ i = omega arith in
    let lt : i - from < length (drop from rs) = omega (arith, length-drop from rs) in
    ap (λ k. take k (drop from rs)) more ∙ take_more (drop from rs) (i - from) [] lt
    ∙ ap (λ r. take (i - from) (drop from rs) ++ r ∷ []) (get_or-drop from rs (i - from) [] ∙ ap (λ k. get_or rs k []) here)

pub feeding-preserved : goal.feeding-preserved
feeding-preserved c =
    let e = taken c.args.records.now c.args.from c.feeding.i (omega arith) (omega arith) in
    c.in_ok-cutter.ensures ∙ ap (λ (x : List (List ℕ)). x ++ c.get.result.now ∷ []) c.feeding.invariant ∙ append_assoc (records_of c.args.cutter) (take (c.feeding.i - c.args.from) (drop c.args.from c.args.records.now)) (c.get.result.now ∷ [])
    ∙ ap (λ (r : List ℕ). records_of c.args.cutter ++ (take (c.feeding.i - c.args.from) (drop c.args.from c.args.records.now) ++ r ∷ [])) c.get.ensures.value
    ∙ ap (λ (x : List (List ℕ)). records_of c.args.cutter ++ x) (sym e)

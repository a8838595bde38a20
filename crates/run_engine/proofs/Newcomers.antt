-- What holds of an engine that is made from new memos.
use Rattle.std.proofs.Common.{◌≡◌, ℕ, zero, suc, ◌+◌, ◌<◌, ◌==◌, cond, Bool, true, false, List, [], ◌∷◌, ◌++◌, length, refl, ap, sym, ◌∙◌, arith}
use Rattle.std.specs.Prelude.{slice_index_or}
use Rattle.std.proofs.lemmas.Option.{slice_get-get_or}
use Rattle.std.proofs.lemmas.List.{get_or_append_left, length_push, get_or_push}
use Rattle.std.proofs.lemmas.List.Elements.{All-nil}
use Rattle.atomic_table.specs.Seated.{TableId}
use Rattle.memo_core.specs.History.{held}
use Rattle.pin_table.specs.Views.{CallerView, ShardKnown, newcomer, nothing}
use Rattle.pin_table.specs.Known.{known_at, held_at}
use Rattle.pin_table.specs.Covers.{Backed}
use Rattle.pin_table.specs.Ends.{AreNewcomers}
use Rattle.pin_table.proofs.Covering.{backed-none}
use Rattle.map_tasks.specs.Texts.{TextView, IsQuiet, IsMappedSo}
use Rattle.map_tasks.specs.Inputs.{input_digest, lane_at}
use Rattle.run_engine.specs.Engines.{IsLaneOf, bare_lane}

-- A caller that made no call knows nothing and holds nothing.
pub knows-nothing : (locks : List TableId) (number s : ℕ) → known_at s (newcomer locks number) ≡ nothing
knows-nothing [] number s = refl
knows-nothing (x ∷ locks) number zero = refl
knows-nothing (x ∷ locks) number (suc s) = knows-nothing locks number s

pub holds-nothing : (locks : List TableId) (number s id : ℕ) → held_at s id (newcomer locks number) ≡ 0
holds-nothing locks number s id = ap (λ (k : ShardKnown). held number id k.mine) (knows-nothing locks number s)

-- A lane that holds no text is over no leaves.
pub lane-bare : (parts setting : ℕ) (locks : List TableId) (k number : ℕ) → IsLaneOf parts setting [] k (bare_lane (newcomer locks number))
lane-bare parts setting locks k number = record {
  used = λ t. none (lane_at (input_digest t) 16 == k);
  quiet = All-nil IsQuiet;
  some = All-nil (λ (e : TextView). 0 < e.used);
  mapped = All-nil (IsMappedSo parts setting);
  once = record {
    once = λ s shown id. let h = holds-nothing locks number s id in omega (arith, h);
    owned = λ s shown id some. absurd (let h = holds-nothing locks number s id in omega (arith, h, some));
  };
  spare = refl;
}
  where
    none : (b : Bool) → ◌≡◌ {A = ℕ} 0 (cond b 0 0)
    none true = refl
    none false = refl

-- A new caller holds no pins.
pub backed-bare : (locks : List TableId) (number : ℕ) → Backed (newcomer locks number) []
backed-bare locks number = backed-none (newcomer locks number) (λ s id. holds-nothing locks number s id)

-- A caller at a place of newcomers.
pub newcomer-at : (locks : List TableId) (cs : List CallerView) → AreNewcomers locks cs → (k : ℕ) (d : CallerView) → k < length cs → slice_index_or cs k d ≡ newcomer locks k
newcomer-at locks cs fresh k d lt = fresh k (slice_index_or cs k d) (slice_get-get_or cs k d lt)

-- The newcomers but the last, and the last.
pub but-last : (locks : List TableId) (cs rest : List CallerView) (last : CallerView) → cs ≡ rest ++ last ∷ [] → AreNewcomers locks cs → ((k : ℕ) (d : CallerView) → k < length rest → slice_index_or rest k d ≡ newcomer locks k) × (last ≡ newcomer locks (length rest))
but-last locks cs rest last is fresh = (λ k d lt. sym (get_or_append_left rest (last ∷ []) d k lt) ∙ ap (λ (l : List CallerView). slice_index_or l k d) (sym is) ∙ newcomer-at locks cs fresh k d (inside k lt), sym (at-end rest last last) ∙ ap (λ (l : List CallerView). slice_index_or l (length rest) last) (sym is) ∙ newcomer-at locks cs fresh (length rest) last end)
  where
    count : length cs ≡ length rest + 1
    count = ap length is ∙ length_push rest last

    inside : (k : ℕ) → k < length rest → k < length cs
    inside k lt = let n = count in omega (arith, lt, n)

    end : length rest < length cs
    end = let n = count in omega (arith, n)

    at-end : (xs : List CallerView) (y d : CallerView) → slice_index_or (xs ++ y ∷ []) (length xs) d ≡ y
    at-end xs y d = get_or_push xs y d (length xs) refl

-- The pins of a tree are those of its inputs, which its caller knows by them.
use Rattle.std.proofs.Common.{◌≡◌, ◌⊎◌, inl, inr, ℕ, suc, zero, ◌-◌, ◌*◌, ◌^◌, ◌<◌, ◌≤◌, ◌||◌, Bool, true, false, List, [], ◌∷◌, ◌++◌, length, map, refl, sym, ap, subst, ◌∙◌, arith, length-append}
use Rattle.std.proofs.lemmas.Nat.{pow_pos}
use Rattle.std.specs.Prelude.{Contains}
use Rattle.std.specs.List.{list_any}
use Rattle.std.proofs.lemmas.List.{map-append}
use Rattle.definitions.specs.Tables.{merged}
use Rattle.pin_table.specs.Views.{CallerView}
use Rattle.pin_table.specs.Covers.{PinName, Covered}
use Rattle.pin_table.specs.OwnEvents.{IsKnown}
use Rattle.pin_table.proofs.Covering.{covered-right}
use Rattle.pin_table.proofs.Knowing.{covered-known}
use Rattle.tree_laws.specs.Pairs.{PairOf, pair_digest}
use Rattle.tree_laws.specs.Holds.{is_loose, hold_pins, all_pins}
use Rattle.tree_laws.specs.declared.hold.Hold.{Hold}
use Rattle.tree_laws.specs.declared.hold.Hold.TheVariants.{Pinned, Loose}
use Rattle.random_tree.specs.declared.group.Group.{Group}
use Rattle.random_tree.specs.Groups.{Members, alone, groups_of, next, inputs_from}
use Rattle.random_tree.specs.Inputs.{pair_at, is_marked, input_of, tree_inputs}
use Rattle.random_tree.specs.Levels.{group_loose, groups_loose, groups_pins, stands_pins, IsKept, AreMerges, AreOver, AreLevels, IsTree}
use Rattle.random_tree.specs.Steps.{inputs_at, inputs_in, inputs_up}
use Rattle.random_tree.proofs.GroupLaws.{groups-some}
use Rattle.random_tree.proofs.InputLaws.{inputs-none, length-next, count-inputs}
use Rattle.random_tree.proofs.PayLaws.{contains_cons}
use Rattle.random_tree.proofs.DraftLaws.{tree-levels}
use Rattle.random_tree.proofs.RegroupLaws.{few_or_two}

-- Each digest of a covered pin is known.
pub pins-known : (v : CallerView) (ps : List PinName) → Covered v ps → (d : List ℕ) → Contains (map (λ p. p.digest) ps) d → IsKnown d v
pins-known v [] covered d (k, lt, e) = absurd (omega (arith, lt))
pins-known v (p ∷ ps) covered d c = elim (contains_cons p.digest d (map (λ q. q.digest) ps) c) [
  | inl same ↦ subst (λ (e : List ℕ). IsKnown e v) same (covered-known v p ps covered)
  | inr more ↦ pins-known v ps (covered-right v (p ∷ []) ps covered) d more
]

both-false : (a b : Bool) → (a || b) ≡ false → (a ≡ false) × (b ≡ false)
both-false true b e = absurd (let no : true ≡ false = e in cc)
both-false false b e = (refl, e)

below-power : (n : ℕ) → n ≤ 2 ^ n
below-power zero = omega arith
below-power (suc n) = let a = below-power n in let two : 2 ^ (suc n) ≡ 2 * 2 ^ n = omega arith in let one = pow_pos n in omega (arith, a, two, one)

alone-inputs : {V : Type 0} (joined : ℕ → V → V → V) (setting : ℕ) (encoded : V → List ℕ) (ts : List (List (List ℕ × V))) → inputs_in joined setting encoded (map alone ts) ≡ []
alone-inputs joined setting encoded [] = refl
alone-inputs joined setting encoded (t ∷ ts) = alone-inputs joined setting encoded ts

module _ {J V M : Type 0} (joined : ℕ → V → V → V) (setting : ℕ) (encoded : V → List ℕ) where
  hold-digest : (pair : PairOf V) (h : Hold J V M) → IsKept pair h → is_loose h ≡ false → map (λ p. p.digest) (hold_pins (pair_digest encoded) h) ≡ pair_digest encoded pair ∷ []
  hold-digest pair (Pinned p) kept tight = ap (λ (i : PairOf V). pair_digest encoded i ∷ []) kept
  hold-digest pair (Loose s) kept tight = absurd (let no : true ≡ false = tight in cc)

  hold-few : (h : Hold J V M) → length (hold_pins (pair_digest encoded) h) ≤ 1
  hold-few (Pinned p) = omega arith
  hold-few (Loose s) = omega arith

  merges-digests : (t : List (List ℕ × V)) (us : List (List (List ℕ × V))) (hs : List (Hold J V M)) → AreMerges joined setting t us hs → list_any is_loose hs ≡ false → map (λ p. p.digest) (all_pins (pair_digest encoded) hs) ≡ inputs_from (merged (joined setting)) (input_of encoded setting) t us
  merges-digests t [] [] are tight = refl
  merges-digests t [] (h ∷ hs) are tight = absurd are
  merges-digests t (u ∷ us) [] are tight = absurd are
  merges-digests t (u ∷ us) (h ∷ hs) are tight =
      let both = both-false (is_loose h) (list_any is_loose hs) tight in
      map-append (λ (p : PinName). p.digest) (hold_pins (pair_digest encoded) h) (all_pins (pair_digest encoded) hs)
      ∙ ((λ i. hold-digest (pair_at setting t u) h are.1 both.0 i ++ map (λ (p : PinName). p.digest) (all_pins (pair_digest encoded) hs))
      ∙ ap (λ (ds : List (List ℕ)). input_of encoded setting t u ∷ ds) (merges-digests (merged (joined setting) t u) us hs are.2 both.1))

  merges-few : (t : List (List ℕ × V)) (us : List (List (List ℕ × V))) (hs : List (Hold J V M)) → AreMerges joined setting t us hs → length (all_pins (pair_digest encoded) hs) ≤ length (inputs_from (merged (joined setting)) (input_of encoded setting) t us)
  merges-few t [] [] are = omega arith
  merges-few t [] (h ∷ hs) are = absurd are
  merges-few t (u ∷ us) [] are = absurd are
  merges-few t (u ∷ us) (h ∷ hs) are = let a = length-append (hold_pins (pair_digest encoded) h) (all_pins (pair_digest encoded) hs) in let b = hold-few h in let c = merges-few (merged (joined setting) t u) us hs are.2 in omega (arith, a, b, c)

  groups-digests : (mss : List (Members (List (List ℕ × V)))) (gs : List (Group J V M)) → AreOver joined setting encoded mss gs → groups_loose gs ≡ false → map (λ p. p.digest) (groups_pins (pair_digest encoded) gs) ≡ inputs_in joined setting encoded mss
  groups-digests [] [] are tight = refl
  groups-digests [] (g ∷ gs) are tight = absurd are
  groups-digests (ms ∷ mss) [] are tight = absurd are
  groups-digests (ms ∷ mss) (g ∷ gs) are tight =
      let both = both-false (group_loose g) (groups_loose gs) tight in
      let head = merges-digests ms.first ms.others g.holds.items are.0.holds_are both.0 in
      let rest = groups-digests mss gs are.1 both.1 in
      map-append (λ (p : PinName). p.digest) (all_pins (pair_digest encoded) g.holds.items) (groups_pins (pair_digest encoded) gs) ∙ (λ i. head i ++ rest i)

  groups-few : (mss : List (Members (List (List ℕ × V)))) (gs : List (Group J V M)) → AreOver joined setting encoded mss gs → length (groups_pins (pair_digest encoded) gs) ≤ length (inputs_in joined setting encoded mss)
  groups-few [] [] are = omega arith
  groups-few [] (g ∷ gs) are = absurd are
  groups-few (ms ∷ mss) [] are = absurd are
  groups-few (ms ∷ mss) (g ∷ gs) are =
      let a = length-append (all_pins (pair_digest encoded) g.holds.items) (groups_pins (pair_digest encoded) gs) in
      let b = length-append (inputs_at joined setting encoded ms) (inputs_in joined setting encoded mss) in
      let c = merges-few ms.first ms.others g.holds.items are.0.holds_are in
      let d = groups-few mss gs are.1 in
      omega (arith, a, b, c, d)

  -- All levels together have all inputs.
  levels-inputs : (us : List (List (List ℕ × V))) (levels : List (List (Group J V M))) (k : ℕ) → AreLevels joined setting encoded (groups_of (is_marked encoded) us) levels → length us ≤ 2 ^ k → inputs_up joined setting encoded (length levels) us ≡ inputs_up joined setting encoded k us
  levels-inputs us [] k are le = sym (inputs-none (merged (joined setting)) (input_of encoded setting) (is_marked encoded) k us (go (few_or_two (length us))))
    where
      go : (length us ≤ 1) ⊎ (2 ≤ length us) → length us ≤ 1
      go (inl few) = few
      go (inr two) = let n = ap length are in let m = groups-some (is_marked encoded) us two in absurd (omega (arith, n, m))
  levels-inputs us (gs ∷ levels) zero are le = inputs-none (merged (joined setting)) (input_of encoded setting) (is_marked encoded) (length (gs ∷ levels)) us (omega (arith, le))
  levels-inputs us (gs ∷ levels) (suc k) are le =
      ap (λ (ds : List (List ℕ)). inputs_in joined setting encoded (groups_of (is_marked encoded) us) ++ ds)
      (levels-inputs (next (is_marked encoded) (merged (joined setting)) us) levels k are.1 (length-next (merged (joined setting)) (input_of encoded setting) (is_marked encoded) k us le))

  stands-digests : (us : List (List (List ℕ × V))) (levels : List (List (Group J V M))) → AreLevels joined setting encoded (groups_of (is_marked encoded) us) levels → list_any groups_loose levels ≡ false → map (λ p. p.digest) (stands_pins (pair_digest encoded) levels) ≡ inputs_up joined setting encoded (length levels) us
  stands-digests us [] are tight = refl
  stands-digests us (gs ∷ levels) are tight =
      let both = both-false (groups_loose gs) (list_any groups_loose levels) tight in
      let head = groups-digests (groups_of (is_marked encoded) us) gs are.0 both.0 in
      let rest = stands-digests (next (is_marked encoded) (merged (joined setting)) us) levels are.1 both.1 in
      map-append (λ (p : PinName). p.digest) (groups_pins (pair_digest encoded) gs) (stands_pins (pair_digest encoded) levels) ∙ (λ i. head i ++ rest i)

  stands-few : (us : List (List (List ℕ × V))) (levels : List (List (Group J V M))) → AreLevels joined setting encoded (groups_of (is_marked encoded) us) levels → length (stands_pins (pair_digest encoded) levels) ≤ length (inputs_up joined setting encoded (length levels) us)
  stands-few us [] are = omega arith
  stands-few us (gs ∷ levels) are =
      let a = length-append (groups_pins (pair_digest encoded) gs) (stands_pins (pair_digest encoded) levels) in
      let b = length-append (inputs_in joined setting encoded (groups_of (is_marked encoded) us)) (inputs_up joined setting encoded (length levels) (next (is_marked encoded) (merged (joined setting)) us)) in
      let c = groups-few (groups_of (is_marked encoded) us) gs are.0 in
      let d = stands-few (next (is_marked encoded) (merged (joined setting)) us) levels are.1 in
      omega (arith, a, b, c, d)

  -- The pins of a tree if no merge is loose, by their digests.
  pub tree-digests : (ts : List (List (List ℕ × V))) (levels : List (List (Group J V M))) → 0 < length levels → IsTree joined setting encoded ts levels → list_any groups_loose levels ≡ false → map (λ p. p.digest) (stands_pins (pair_digest encoded) levels) ≡ tree_inputs encoded joined setting ts
  tree-digests ts [] some tree tight = absurd (omega (arith, some))
  tree-digests ts (gs ∷ levels) some tree tight =
      let parts = tree-levels joined setting encoded ts gs levels tree in
      let both = both-false (groups_loose gs) (list_any groups_loose levels) tight in
      let above : AreLevels joined setting encoded (groups_of (is_marked encoded) ts) levels = subst (λ (us : List (List (List ℕ × V))). AreLevels joined setting encoded (groups_of (is_marked encoded) us) levels) parts.1 parts.2 in
      let head = groups-digests (map alone ts) gs parts.0 both.0 ∙ alone-inputs joined setting encoded ts in
      let rest = stands-digests ts levels above both.1 in
      map-append (λ (p : PinName). p.digest) (groups_pins (pair_digest encoded) gs) (stands_pins (pair_digest encoded) levels)
      ∙ ((λ i. head i ++ rest i) ∙ levels-inputs ts levels (length ts) above (below-power (length ts)))

  -- A tree over m leaves has at most m - 1 pins.
  pub tree-few : (ts : List (List (List ℕ × V))) (levels : List (List (Group J V M))) → 0 < length levels → IsTree joined setting encoded ts levels → length (stands_pins (pair_digest encoded) levels) ≤ length ts - 1
  tree-few ts [] some tree = absurd (omega (arith, some))
  tree-few ts (gs ∷ levels) some tree =
      let parts = tree-levels joined setting encoded ts gs levels tree in
      let above : AreLevels joined setting encoded (groups_of (is_marked encoded) ts) levels = subst (λ (us : List (List (List ℕ × V))). AreLevels joined setting encoded (groups_of (is_marked encoded) us) levels) parts.1 parts.2 in
      let a = length-append (groups_pins (pair_digest encoded) gs) (stands_pins (pair_digest encoded) levels) in
      let b = groups-few (map alone ts) gs parts.0 in
      let c = ap length (alone-inputs joined setting encoded ts) in
      let d = stands-few ts levels above in
      let e = ap length (levels-inputs ts levels (length ts) above (below-power (length ts))) in
      let f = count-inputs (merged (joined setting)) (input_of encoded setting) (is_marked encoded) ts in
      omega (arith, a, b, c, d, e, f)

-- All lanes and all parts after a run that is kept, and after one that is undone.
use Rattle.std.proofs.Common.{◌≡◌, ℕ, ◌+◌, ◌<◌, ◌⊎◌, inl, true, List, length, map, All, refl, ap, sym, subst, ◌∙◌, arith}
use Rattle.std.specs.Prelude.{Option, IsSome, slice_index_or}
use Rattle.atomic_table.specs.Seated.{TableId}
use Rattle.job_laws.specs.Meanings.{Meaning}
use Rattle.record_text.specs.Shifts.{shifted, first_after}
use Rattle.record_text.specs.declared.shift.Shift.{Shift}
use Rattle.pin_table.specs.Covers.{PinName, IsLater}
use Rattle.pin_table.specs.OwnEvents.{Met}
use Rattle.pin_table.proofs.Covering.{later-then}
use Rattle.window_manager.specs.Windows.{Leaf}
use Rattle.map_tasks.specs.Texts.{Reverts}
use Rattle.tree_laws.specs.Trees.{Shape, TreeView, Leaves}
use Rattle.run_engine.specs.declared.lane_seat.LaneSeat.{LaneSeat}
use Rattle.run_engine.specs.declared.part_seat.PartSeat.{PartSeat}
use Rattle.run_engine.specs.InPlace.{EachAt, EachPair}
use Rattle.run_engine.specs.NewTexts.{times}
use Rattle.run_engine.specs.Engines.{IsLaneSeat, IsPartSeat, IsTreeOf, seat_view}
use Rattle.run_engine.specs.Finishing.{MaySettle, MayRevert, SettlesLane, RevertsLane, SettlesTree, RevertsTree}
use Rattle.run_engine.specs.Phases.{IsTriedLane, IsBroughtLane, IsTriedPart, IsShiftedPart}
use Rattle.run_engine.proofs.InPlaceSteps.{pairs-then, pairs-mapped}
use Rattle.run_engine.proofs.RunSteps.{lane-settled, lane-reverted, lane-undone, part-settled, part-shaped, part-reverted, seat-backed, loose-settled}

module _ {J V M : Type 0} (parts setting : ℕ) (locks : List TableId) (leaves : List Leaf) (old mid new : List (LaneSeat J V M)) where
  -- All lanes are over the new leaves.
  pub lanes-settled : (fresh gone now : List Leaf) → EachAt (IsLaneSeat parts setting locks leaves) old → EachPair (λ k s t. IsTriedLane parts setting s.lane t.lane) old mid → EachAt (λ k s. IsBroughtLane fresh gone k s.lane) mid → EachPair (λ k s t. SettlesLane s.lane t.lane t.fresh.items t.gone.items) mid new
      → ((t : Leaf) → times t now + times t gone ≡ times t leaves + times t fresh) → EachAt (IsLaneSeat parts setting locks now) new
  lanes-settled fresh gone now seats tried brought settles balance k d lt =
      let n = tried.count in
      let o = settles.count in
      let lm : k < length mid = omega (arith, lt, o) in
      let lo : k < length old = omega (arith, lm, n) in
      let s = seats k d lo in
      let t = tried.each k d d lo in
      let b = brought k d lm in
      let f = settles.each k d d lm in
      record {
        of = f.finished.later.locks ∙ t.later.locks ∙ s.of;
        holds = lane-settled parts setting leaves k fresh gone now (slice_index_or old k d).lane (slice_index_or mid k d).lane (slice_index_or new k d).lane s.holds t b f.texts f.finished balance;
        no_fresh = f.fresh_done;
        no_gone = f.gone_done;
      }

  -- All lanes are over the old leaves.
  pub lanes-reverted : EachAt (IsLaneSeat parts setting locks leaves) old → EachPair (λ k s t. IsTriedLane parts setting s.lane t.lane) old mid → EachPair (λ k s t. RevertsLane s.lane t.lane t.fresh.items t.gone.items) mid new → EachAt (IsLaneSeat parts setting locks leaves) new
  lanes-reverted seats tried reverts k d lt =
      let n = tried.count in
      let o = reverts.count in
      let lm : k < length mid = omega (arith, lt, o) in
      let lo : k < length old = omega (arith, lm, n) in
      let s = seats k d lo in
      let t = tried.each k d d lo in
      let f = reverts.each k d d lm in
      record {
        of = f.finished.later.locks ∙ t.later.locks ∙ s.of;
        holds = lane-reverted parts setting leaves k (slice_index_or old k d).lane (slice_index_or mid k d).lane (slice_index_or new k d).lane s.holds t f.texts f.finished;
        no_fresh = f.fresh_done;
        no_gone = f.gone_done;
      }

  pub lanes-undone : EachPair (λ k s t. IsTriedLane parts setting s.lane t.lane) old mid → EachPair (λ k s t. RevertsLane s.lane t.lane t.fresh.items t.gone.items) mid new → EachPair (λ k s t. Reverts s.texts t.texts) (map (λ s. s.lane) old) (map (λ s. s.lane) new)
  lanes-undone tried reverts =
      pairs-mapped (λ (s : LaneSeat J V M). s.lane) (λ k s t. Reverts s.lane.texts t.lane.texts) (λ k s t. Reverts s.texts t.texts) old new (λ k s t r. r)
      (pairs-then (λ k (s t : LaneSeat J V M). IsTriedLane parts setting s.lane t.lane) (λ k (s t : LaneSeat J V M). RevertsLane s.lane t.lane t.fresh.items t.gone.items) (λ k (s t : LaneSeat J V M). Reverts s.lane.texts t.lane.texts) old mid new
      (λ k s t u a b. lane-undone parts setting s.lane t.lane u.lane a b.texts) tried reverts)

  pub lanes-later : (Q : ℕ → LaneSeat J V M → LaneSeat J V M → Type 0) → ((k : ℕ) (s t : LaneSeat J V M) → Q k s t → IsLater s.lane.caller t.lane.caller) → EachPair (λ k s t. IsTriedLane parts setting s.lane t.lane) old mid → EachPair Q mid new → EachPair (λ k s t. IsLater s.caller t.caller) (map (λ s. s.lane) old) (map (λ s. s.lane) new)
  lanes-later Q go tried ends =
      pairs-mapped (λ (s : LaneSeat J V M). s.lane) (λ k s t. IsLater s.lane.caller t.lane.caller) (λ k s t. IsLater s.caller t.caller) old new (λ k s t r. r)
      (pairs-then (λ k (s t : LaneSeat J V M). IsTriedLane parts setting s.lane t.lane) Q (λ k (s t : LaneSeat J V M). IsLater s.lane.caller t.lane.caller) old mid new
      (λ k s t u a b. later-then s.lane.caller t.lane.caller u.lane.caller a.later (go k t u b)) tried ends)

module _ {J T V M : Type 0} (m : Meaning V) (setting parts : ℕ) (view : T → TreeView V) (pins : T → List PinName) (most : T → ℕ) where
  module _ (places first : ℕ) (locks : List TableId) (leaves : List Leaf) (old mid new : List (PartSeat J T V M)) where
    -- All trees are over the new leaves.
    pub parts-settled : (shaped : Shape → Shift → Shape) (shift : Shift) (fresh : List Leaf) → EachAt (IsPartSeat m view pins most setting parts places first locks leaves) old → EachPair (λ p s t. IsTriedPart view pins s.tree s.caller t.tree t.caller) old mid → EachPair (λ p s t. IsShiftedPart view m parts shaped shift fresh p s.tree t.tree) old mid
        → EachPair (λ p s t. SettlesTree view pins most s.tree s.caller t.tree t.caller t.fresh.items) mid new → EachAt (IsPartSeat m view pins most setting parts places (first_after shift first) locks (shifted shift fresh leaves)) new
    parts-settled shaped shift fresh seats tried took settles p d lt =
        let n = tried.count in
        let o = settles.count in
        let lm : p < length mid = omega (arith, lt, o) in
        let lo : p < length old = omega (arith, lm, n) in
        let s = seats p d lo in
        let t = tried.each p d d lo in
        let k = took.each p d d lo in
        let f = settles.each p d d lm in
        record {
          of = f.balanced.later.locks ∙ t.balanced.later.locks ∙ s.of;
          stands = part-settled m setting parts view pins places first leaves fresh p shaped shift (slice_index_or old p d).tree (slice_index_or mid p d).tree (slice_index_or new p d).tree s.stands k f.settled_is;
          backed = seat-backed m setting parts view pins (slice_index_or old p d).tree (slice_index_or mid p d).tree (slice_index_or new p d).tree (slice_index_or old p d).caller (slice_index_or mid p d).caller (slice_index_or new p d).caller s.backed t f.covered f.balanced;
          few = f.few;
          no_fresh = f.fresh_done;
        }

    -- All trees have the shape that the shift makes of the old one.
    pub shapes-settled : (shaped : Shape → Shift → Shape) (shift : Shift) (fresh : List Leaf) → EachPair (λ p s t. IsShiftedPart view m parts shaped shift fresh p s.tree t.tree) old mid → EachPair (λ p s t. SettlesTree view pins most s.tree s.caller t.tree t.caller t.fresh.items) mid new
        → EachPair (λ p s t. (view t.tree).leaves.shape ≡ shaped (view s.tree).leaves.shape shift) (map seat_view old) (map seat_view new)
    shapes-settled shaped shift fresh took settles =
        pairs-mapped seat_view (λ p s t. (view t.tree).leaves.shape ≡ shaped (view s.tree).leaves.shape shift) (λ p s t. (view t.tree).leaves.shape ≡ shaped (view s.tree).leaves.shape shift) old new (λ p s t r. r)
        (pairs-then (λ p (s t : PartSeat J T V M). IsShiftedPart view m parts shaped shift fresh p s.tree t.tree) (λ p (s t : PartSeat J T V M). SettlesTree view pins most s.tree s.caller t.tree t.caller t.fresh.items) (λ p (s t : PartSeat J T V M). (view t.tree).leaves.shape ≡ shaped (view s.tree).leaves.shape shift) old mid new
        (λ p s t u a b. part-shaped m setting parts view pins fresh p shaped shift s.tree t.tree u.tree a b.settled_is) took settles)

    -- All trees are over the old leaves.
    pub parts-reverted : EachAt (IsPartSeat m view pins most setting parts places first locks leaves) old → EachPair (λ p s t. IsTriedPart view pins s.tree s.caller t.tree t.caller) old mid → EachPair (λ p s t. RevertsTree view pins most s.tree s.caller t.tree t.caller t.fresh.items) mid new
        → EachAt (IsPartSeat m view pins most setting parts places first locks leaves) new
    parts-reverted seats tried reverts p d lt =
        let n = tried.count in
        let o = reverts.count in
        let lm : p < length mid = omega (arith, lt, o) in
        let lo : p < length old = omega (arith, lm, n) in
        let s = seats p d lo in
        let t = tried.each p d d lo in
        let f = reverts.each p d d lm in
        let same = part-reverted m setting parts view pins (slice_index_or old p d).tree (slice_index_or mid p d).tree (slice_index_or new p d).tree (slice_index_or old p d).caller (slice_index_or mid p d).caller t f.reverted_is in
        record {
          of = f.balanced.later.locks ∙ t.balanced.later.locks ∙ s.of;
          stands = subst (IsTreeOf m setting parts places first leaves p) (sym same) s.stands;
          backed = seat-backed m setting parts view pins (slice_index_or old p d).tree (slice_index_or mid p d).tree (slice_index_or new p d).tree (slice_index_or old p d).caller (slice_index_or mid p d).caller (slice_index_or new p d).caller s.backed t f.covered f.balanced;
          few = f.few;
          no_fresh = f.fresh_done;
        }

    pub trees-undone : EachPair (λ p s t. IsTriedPart view pins s.tree s.caller t.tree t.caller) old mid → EachPair (λ p s t. RevertsTree view pins most s.tree s.caller t.tree t.caller t.fresh.items) mid new → EachPair (λ p s t. view t.tree ≡ view s.tree) (map seat_view old) (map seat_view new)
    trees-undone tried reverts =
        pairs-mapped seat_view (λ p s t. view t.tree ≡ view s.tree) (λ p s t. view t.tree ≡ view s.tree) old new (λ p s t r. r)
        (pairs-then (λ p (s t : PartSeat J T V M). IsTriedPart view pins s.tree s.caller t.tree t.caller) (λ p (s t : PartSeat J T V M). RevertsTree view pins most s.tree s.caller t.tree t.caller t.fresh.items) (λ p (s t : PartSeat J T V M). view t.tree ≡ view s.tree) old mid new
        (λ p s t u a b. part-reverted m setting parts view pins s.tree t.tree u.tree s.caller t.caller a b.reverted_is) tried reverts)

    pub parts-later : (Q : ℕ → PartSeat J T V M → PartSeat J T V M → Type 0) → ((p : ℕ) (s t : PartSeat J T V M) → Q p s t → IsLater s.caller t.caller) → EachPair (λ p s t. IsTriedPart view pins s.tree s.caller t.tree t.caller) old mid → EachPair Q mid new → EachPair (λ p s t. IsLater s.caller t.caller) (map seat_view old) (map seat_view new)
    parts-later Q go tried ends =
        pairs-mapped seat_view (λ p s t. IsLater s.caller t.caller) (λ p s t. IsLater s.caller t.caller) old new (λ p s t r. r)
        (pairs-then (λ p (s t : PartSeat J T V M). IsTriedPart view pins s.tree s.caller t.tree t.caller) Q (λ p (s t : PartSeat J T V M). IsLater s.caller t.caller) old mid new
        (λ p s t u a b. later-then s.caller t.caller u.caller a.balanced.later (go p t u b)) tried ends)

-- All lanes that tried are of the memo.
pub lanes-of : {J V M : Type 0} (parts setting : ℕ) (locks : List TableId) (leaves : List Leaf) (old mid : List (LaneSeat J V M)) → EachAt (IsLaneSeat parts setting locks leaves) old → EachPair (λ k s t. IsTriedLane parts setting s.lane t.lane) old mid → All (λ s. s.lane.caller.locks ≡ locks) mid
lanes-of parts setting locks leaves old mid seats tried k d lt =
    let n = tried.count in
    let lo : k < length old = omega (arith, lt, n) in
    (tried.each k d d lo).later.locks ∙ (seats k d lo).of

module _ {J T V M : Type 0} (m : Meaning V) (setting parts : ℕ) (view : T → TreeView V) (pins : T → List PinName) (most : T → ℕ) (places first : ℕ) (locks : List TableId) (leaves : List Leaf) (old mid : List (PartSeat J T V M)) (seats : EachAt (IsPartSeat m view pins most setting parts places first locks leaves) old) where
  -- All trees that tried may be reverted.
  pub may-revert : EachPair (λ p s t. IsTriedPart view pins s.tree s.caller t.tree t.caller) old mid → All (λ s. MayRevert pins locks s.tree s.caller) mid
  may-revert tried p d lt =
      let n = tried.count in
      let lo : p < length old = omega (arith, lt, n) in
      let t = tried.each p d d lo in
      record { of = t.balanced.later.locks ∙ (seats p d lo).of; covered = t.covered }

  -- All trees that took the shift may be settled.
  pub may-settle : (shaped : Shape → Shift → Shape) (shift : Shift) (fresh : List Leaf) → EachPair (λ p s t. IsTriedPart view pins s.tree s.caller t.tree t.caller) old mid → EachPair (λ p s t. IsShiftedPart view m parts shaped shift fresh p s.tree t.tree) old mid → All (λ s. MaySettle view pins locks s.tree s.caller) mid
  may-settle shaped shift fresh tried took p d lt =
      let n = tried.count in
      let lo : p < length old = omega (arith, lt, n) in
      let t = tried.each p d d lo in
      let k = took.each p d d lo in
      record { of = t.balanced.later.locks ∙ (seats p d lo).of; covered = t.covered; draft = subst (λ (o : Option (Leaves V)). IsSome o) (sym (ap (λ (v : TreeView V). v.draft) k.drafted.is)) refl }

  -- If a run is kept, a tree is loose only if it may be.
  pub loose-stands : (shaped : Shape → Shift → Shape) (shift : Shift) (fresh : List Leaf) (now : List (PartSeat J T V M)) → EachPair (λ p s t. IsTriedPart view pins s.tree s.caller t.tree t.caller) old mid → EachPair (λ p s t. IsShiftedPart view m parts shaped shift fresh p s.tree t.tree) old mid → EachPair (λ p s t. SettlesTree view pins most s.tree s.caller t.tree t.caller t.fresh.items) mid now
      → (p : ℕ) (d e : PartSeat J T V M) → p < length old → (view (slice_index_or now p e).tree).leaves.loose ≡ true → ((view (slice_index_or old p d).tree).leaves.loose ≡ true) ⊎ Met (slice_index_or old p d).caller (slice_index_or now p e).caller
  loose-stands shaped shift fresh now tried took settles p d e lt =
      let n = tried.count in
      let t = tried.each p d d lt in
      let k = took.each p d d lt in
      let f = settles.each p d e (omega (arith, lt, n)) in
      loose-settled m setting parts view pins (slice_index_or old p d).tree (slice_index_or mid p d).tree (slice_index_or now p e).tree (slice_index_or old p d).caller (slice_index_or mid p d).caller (slice_index_or now p e).caller k.drafted.draft t.loose (ap (λ (v : TreeView V). v.draft) k.drafted.is) f.settled_is f.balanced.later

  -- If a run is undone, a tree is as loose as before.
  pub loose-undone : (now : List (PartSeat J T V M)) → EachPair (λ p s t. IsTriedPart view pins s.tree s.caller t.tree t.caller) old mid → EachPair (λ p s t. RevertsTree view pins most s.tree s.caller t.tree t.caller t.fresh.items) mid now
      → (p : ℕ) (d e : PartSeat J T V M) → p < length old → (view (slice_index_or now p e).tree).leaves.loose ≡ true → ((view (slice_index_or old p d).tree).leaves.loose ≡ true) ⊎ Met (slice_index_or old p d).caller (slice_index_or now p e).caller
  loose-undone now tried reverts p d e lt is =
      let n = tried.count in
      let t = tried.each p d d lt in
      let f = reverts.each p d e (omega (arith, lt, n)) in
      inl (ap (λ (v : TreeView V). v.leaves.loose) (sym (part-reverted m setting parts view pins (slice_index_or old p d).tree (slice_index_or mid p d).tree (slice_index_or now p e).tree (slice_index_or old p d).caller (slice_index_or mid p d).caller t f.reverted_is)) ∙ is)

-- Holds that a merge gave, lists of holds, and their pins.
use Rattle.std.proofs.Common.{◌≡◌, ℕ, ◌+◌, true, false, List, [], ◌∷◌, ◌++◌, refl, sym, ap, subst, ◌∙◌, inl, inr, arith, append_assoc, append-nil}
use Rattle.std.specs.List.{list_any}
use Rattle.memo_core.specs.declared.event.Event.{Event}
use Rattle.sheets.specs.Sheets.{SheetOf}
use Rattle.pin_table.specs.Views.{CallerView, PinView}
use Rattle.pin_table.specs.Known.{Gained, AtShard}
use Rattle.pin_table.specs.Covers.{PinName, AreGiven, Covered, Balanced, Got, IsLater, count, gave, name_of}
use Rattle.pin_table.specs.OwnEvents.{MetAt, there, gained, Quiet}
use Rattle.pin_table.proofs.Covering.{count-append, balanced-from, got-then, all-given-later, given-append, covered-right, less-covered}
use Rattle.pin_table.proofs.OwnEvents.{any-later, gain-one, gained-then, there-later, met-before}
use Rattle.tree_laws.specs.Pairs.{PairOf}
use Rattle.tree_laws.specs.Holds.{hold_pins, all_pins, IsPinOf, IsHeld}
use Rattle.tree_laws.specs.declared.hold.Hold.{Hold}
use Rattle.tree_laws.specs.declared.hold.Hold.TheVariants.{Pinned, Loose}

module _ {J V M : Type 0} (digest_of : PairOf V → List ℕ) where
  -- A hold by the pin that an event gave.
  pub pinned-held : (pair : PairOf V) (e : Event) (v w : CallerView) (p : PinView (PairOf V) (SheetOf V)) → Got v (name_of digest_of p ∷ []) w × AreGiven w (name_of digest_of p ∷ []) → p.input ≡ pair → gave p.id (digest_of pair) e ≡ true → AtShard (Gained v.number e) (there (digest_of pair) v) v w
      → IsHeld {J = J} {V = V} {M = M} digest_of pair v w (Pinned p)
  pinned-held pair e v w p got same given at = record {
    got = got.0;
    given = got.1;
    pinned = (same, ap (list_any (gave p.id (digest_of pair))) (gain-one v.number (there (digest_of pair) v) e v w at) ∙ rw given refl);
    loose = λ h. absurd (let no : false ≡ true = h in cc);
  }

  -- A hold on a sheet that the memo did not take.
  pub loose-held : (pair : PairOf V) (s : SheetOf V) (v w : CallerView) → Got v [] w → MetAt (there (digest_of pair) v) v w → IsHeld {J = J} {V = V} {M = M} digest_of pair v w (Loose s)
  loose-held pair s v w got met = record { got = got; given = tt; pinned = tt; loose = λ _. met }

  pin-after : (pair : PairOf V) (u v w : CallerView) (h : Hold J V M) → IsLater u v → IsLater v w → IsPinOf digest_of pair v w h → IsPinOf digest_of pair u w h
  pin-after pair u v w (Pinned p) a b k = (k.0, ap (list_any (gave p.id (digest_of pair))) (gained-then (digest_of pair) u v w a b) ∙ any-later (gave p.id (digest_of pair)) (gained (digest_of pair) u v) (gained (digest_of pair) v w) k.1)
  pin-after pair u v w (Loose s) a b k = tt

  -- A hold that comes after a call that gave none.
  pub held-after : (pair : PairOf V) (es : List Event) (u v w : CallerView) (h : Hold J V M) → Quiet (digest_of pair) es u v → IsHeld digest_of pair v w h → IsHeld digest_of pair u w h
  held-after pair es u v w h q k = record {
    got = got-then u v w [] (hold_pins digest_of h) q.got k.got;
    given = k.given;
    pinned = pin-after pair u v w h q.got.later k.got.later k.pinned;
    loose = λ is. subst (λ (s : ℕ). MetAt s u w) (there-later (digest_of pair) u v q.got.later) (met-before (there (digest_of pair) v) u v w q.got.later k.got.later (k.loose is));
  }

  -- One hold more.
  pub all_pins-push : (hs : List (Hold J V M)) (h : Hold J V M) → all_pins digest_of (hs ++ h ∷ []) ≡ all_pins digest_of hs ++ hold_pins digest_of h
  all_pins-push [] h = append-nil (hold_pins digest_of h)
  all_pins-push (g ∷ hs) h = ap (λ (ps : List PinName). hold_pins digest_of g ++ ps) (all_pins-push hs h) ∙ sym (append_assoc (hold_pins digest_of g) (all_pins digest_of hs) (hold_pins digest_of h))

  -- A hold that comes after those of a list.
  pub got-push : (pair : PairOf V) (u v w : CallerView) (hs : List (Hold J V M)) (h : Hold J V M) → Got u (all_pins digest_of hs) v × AreGiven v (all_pins digest_of hs) → IsHeld digest_of pair v w h → Got u (all_pins digest_of (hs ++ h ∷ [])) w × AreGiven w (all_pins digest_of (hs ++ h ∷ []))
  got-push pair u v w hs h before held =
      let is = sym (all_pins-push hs h) in (
        subst (λ (ps : List PinName). Got u ps w) is (got-then u v w (all_pins digest_of hs) (hold_pins digest_of h) before.0 held.got),
        subst (AreGiven w) is (given-append w (all_pins digest_of hs) (hold_pins digest_of h) (all-given-later v w (all_pins digest_of hs) held.got.later before.1) held.given),
      )

  -- The last hold of a list is given up.
  module _ (v w : CallerView) (hs rest : List (Hold J V M)) (h : Hold J V M) (is : hs ≡ rest ++ h ∷ []) where
    pins_are : all_pins digest_of hs ≡ all_pins digest_of rest ++ hold_pins digest_of h
    pins_are = ap (all_pins digest_of) is ∙ all_pins-push rest h

    pub last-covered : Covered v (all_pins digest_of hs) → Covered v (hold_pins digest_of h)
    last-covered c = covered-right v (all_pins digest_of rest) (hold_pins digest_of h) (subst (Covered v) pins_are c)

    module _ (gone : (ps : List PinName) → Balanced v (hold_pins digest_of h ++ ps) w ps) where
      pub rest-covered : Covered v (all_pins digest_of hs) → Covered w (all_pins digest_of rest)
      rest-covered c = less-covered v w (all_pins digest_of rest) (hold_pins digest_of h) (subst (Covered v) pins_are c) (subst (λ (ps : List PinName). Balanced v ps w []) (append-nil (hold_pins digest_of h)) (gone []))

      pub rest-balanced : (ps : List PinName) → Balanced v (all_pins digest_of hs ++ ps) w (all_pins digest_of rest ++ ps)
      rest-balanced ps = balanced-from v w (all_pins digest_of hs ++ ps) (hold_pins digest_of h ++ (all_pins digest_of rest ++ ps)) (all_pins digest_of rest ++ ps) (λ s id.
          let a = count-append s id (all_pins digest_of hs) ps in
          let b = ap (count s id) pins_are in
          let c = count-append s id (all_pins digest_of rest) (hold_pins digest_of h) in
          let d = count-append s id (hold_pins digest_of h) (all_pins digest_of rest ++ ps) in
          let e = count-append s id (all_pins digest_of rest) ps in
          omega (arith, a, b, c, d, e)) (gone (all_pins digest_of rest ++ ps))

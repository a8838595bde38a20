-- What the shard's edits mean for the machine, for the keys and for the count of pins.
use Rattle.std.proofs.Common.{◌≡◌, ℕ, zero, suc, ◌+◌, ◌<◌, Bool, true, false, cond, not, ◌||◌, ◌&&◌, ◌==◌, nat_lt, List, [], ◌∷◌, ◌++◌, length, filter, Some, slice_get, refl, sym, ap, subst, ◌∙◌, arith, length-append}
use Rattle.std.specs.List.{list_any}
use Rattle.std.proofs.lemmas.Bool.{eqb-true}
use Rattle.memo_core.specs.declared.entries.CoreEntry.{CoreEntry}
use Rattle.memo_core.specs.Machine.{at_id, pinned, released, is_swept, has_pin, without_first}
use Rattle.memo_core.proofs.Invariant.{and_true}
use Rattle.memo_server.specs.Views.{LiveView, AreKeyed, at_live, update_at, pinned_view, released_view, has_pin_view, is_stale, total_pins, core_entries}
use Rattle.memo_server.proofs.Places.{same_some}

length-without_first : (c : ℕ) (ps : List ℕ) → list_any (λ x. x == c) ps ≡ true → length (without_first c ps) + 1 ≡ length ps
length-without_first c [] h = cc
length-without_first c (p ∷ ps) h = pin_case (p == c) h (length-without_first c ps)
  where
    pin_case : (b : Bool) → (b || list_any (λ x. x == c) ps) ≡ true → (list_any (λ x. x == c) ps ≡ true → length (without_first c ps) + 1 ≡ length ps) → length (cond b ps (p ∷ without_first c ps)) + 1 ≡ length (p ∷ ps)
    pin_case true h ih = omega arith
    pin_case false h ih = omega (arith, ih h)

no_length : (ps : List ℕ) (b : Bool) → ((length ps == 0) && b) ≡ true → length ps ≡ 0
no_length ps b h = eqb-true (length ps) 0 (and_true (length ps == 0) b h).0

module _ {I O : Type 0} where
  -- A pin.
  pub core-pinned : (c run id : ℕ) (es : List (List ℕ × LiveView I O)) → core_entries (at_live id (pinned_view c run) es) ≡ at_id id (pinned c run) (core_entries es)
  core-pinned c run id [] = refl
  core-pinned c run id (e ∷ es) = elim (e.1.id == id) as (λ b. core_entries ((e.0, cond b (pinned_view c run e.1) e.1) ∷ at_live id (pinned_view c run) es) ≡ cond b (pinned c run (record { id = e.1.id; digest = e.0; used = e.1.used; pins = e.1.pins })) (record { id = e.1.id; digest = e.0; used = e.1.used; pins = e.1.pins }) ∷ at_id id (pinned c run) (core_entries es)) [
    | true ↦ ap (λ (cs : List CoreEntry). pinned c run (record { id = e.1.id; digest = e.0; used = e.1.used; pins = e.1.pins }) ∷ cs) (core-pinned c run id es)
    | false ↦ ap (λ (cs : List CoreEntry). record { id = e.1.id; digest = e.0; used = e.1.used; pins = e.1.pins } ∷ cs) (core-pinned c run id es)
  ]

  -- A pin that goes.
  pub core-released : (c id : ℕ) (es : List (List ℕ × LiveView I O)) → core_entries (at_live id (released_view c) es) ≡ at_id id (released c) (core_entries es)
  core-released c id [] = refl
  core-released c id (e ∷ es) = elim (e.1.id == id) as (λ b. core_entries ((e.0, cond b (released_view c e.1) e.1) ∷ at_live id (released_view c) es) ≡ cond b (released c (record { id = e.1.id; digest = e.0; used = e.1.used; pins = e.1.pins })) (record { id = e.1.id; digest = e.0; used = e.1.used; pins = e.1.pins }) ∷ at_id id (released c) (core_entries es)) [
    | true ↦ ap (λ (cs : List CoreEntry). released c (record { id = e.1.id; digest = e.0; used = e.1.used; pins = e.1.pins }) ∷ cs) (core-released c id es)
    | false ↦ ap (λ (cs : List CoreEntry). record { id = e.1.id; digest = e.0; used = e.1.used; pins = e.1.pins } ∷ cs) (core-released c id es)
  ]

  -- A last entry.
  pub core-append : (es : List (List ℕ × LiveView I O)) (e : List ℕ × LiveView I O) → core_entries (es ++ e ∷ []) ≡ core_entries es ++ record { id = e.1.id; digest = e.0; used = e.1.used; pins = e.1.pins } ∷ []
  core-append [] e = refl
  core-append (x ∷ es) e = ap (λ (cs : List CoreEntry). record { id = x.1.id; digest = x.0; used = x.1.used; pins = x.1.pins } ∷ cs) (core-append es e)

  -- A sweep.
  pub core-swept : (h : ℕ) (es : List (List ℕ × LiveView I O)) → core_entries (filter (λ e. not (is_stale h e.1)) es) ≡ filter (λ e. not (is_swept h e)) (core_entries es)
  core-swept h [] = refl
  core-swept h (e ∷ es) = elim (is_stale h e.1) as (λ b. core_entries (cond (not b) (e ∷ filter (λ x. not (is_stale h x.1)) es) (filter (λ x. not (is_stale h x.1)) es)) ≡ cond (not b) (record { id = e.1.id; digest = e.0; used = e.1.used; pins = e.1.pins } ∷ filter (λ x. not (is_swept h x)) (core_entries es)) (filter (λ x. not (is_swept h x)) (core_entries es))) [
    | true ↦ core-swept h es
    | false ↦ ap (λ (cs : List CoreEntry). record { id = e.1.id; digest = e.0; used = e.1.used; pins = e.1.pins } ∷ cs) (core-swept h es)
  ]

  -- As many entries are dropped as are stale.
  pub swept-count : (h : ℕ) (es : List (List ℕ × LiveView I O)) → length (filter (λ e. not (is_stale h e.1)) es) + length (filter (λ e. is_stale h e.1) es) ≡ length es
  swept-count h [] = refl
  swept-count h (e ∷ es) = elim (is_stale h e.1) as (λ b. length (cond (not b) (e ∷ filter (λ x. not (is_stale h x.1)) es) (filter (λ x. not (is_stale h x.1)) es)) + length (cond b (e ∷ filter (λ x. is_stale h x.1) es) (filter (λ x. is_stale h x.1) es)) ≡ length (e ∷ es)) [
    | true ↦ omega (arith, swept-count h es)
    | false ↦ omega (arith, swept-count h es)
  ]

  -- The machine counts the same.
  pub core-stale : (h : ℕ) (es : List (List ℕ × LiveView I O)) → length (filter (is_swept h) (core_entries es)) ≡ length (filter (λ e. is_stale h e.1) es)
  core-stale h [] = refl
  core-stale h (e ∷ es) = elim (is_stale h e.1) as (λ b. length (cond b (record { id = e.1.id; digest = e.0; used = e.1.used; pins = e.1.pins } ∷ filter (is_swept h) (core_entries es)) (filter (is_swept h) (core_entries es))) ≡ length (cond b (e ∷ filter (λ x. is_stale h x.1) es) (filter (λ x. is_stale h x.1) es))) [
    | true ↦ ap suc (core-stale h es)
    | false ↦ core-stale h es
  ]

  -- One more pin in all.
  pub total-pinned : (c run : ℕ) (es : List (List ℕ × LiveView I O)) (i : ℕ) → i < length es → total_pins (update_at i (pinned_view c run) es) ≡ total_pins es + 1
  total-pinned c run [] i lt = absurd (omega (arith, lt))
  total-pinned c run (e ∷ es) zero lt = omega (arith, length-append e.1.pins (c ∷ []))
  total-pinned c run (e ∷ es) (suc i) lt = omega (arith, total-pinned c run es i (omega (arith, lt)))

  -- One pin less in all.
  pub total-released : (c : ℕ) (es : List (List ℕ × LiveView I O)) (i : ℕ) (k : List ℕ) (l : LiveView I O) → slice_get es i ≡ Some (k, l) → list_any (λ x. x == c) l.pins ≡ true → total_pins (update_at i (released_view c) es) + 1 ≡ total_pins es
  total-released c [] i k l at has = cc
  total-released c (e ∷ es) zero k l at has =
      let here : list_any (λ x. x == c) e.1.pins ≡ true = subst (λ (p : List ℕ × LiveView I O). list_any (λ x. x == c) p.1.pins ≡ true) (sym (same_some e (k, l) at)) has in
      omega (arith, length-without_first c e.1.pins here)
  total-released c (e ∷ es) (suc i) k l at has = omega (arith, total-released c es i k l at has)

  pub total-append : (es : List (List ℕ × LiveView I O)) (e : List ℕ × LiveView I O) → total_pins (es ++ e ∷ []) ≡ total_pins es + length e.1.pins
  total-append [] e = omega arith
  total-append (x ∷ es) e = omega (arith, total-append es e)

  -- What is swept has no pins.
  pub total-swept : (h : ℕ) (es : List (List ℕ × LiveView I O)) → total_pins (filter (λ e. not (is_stale h e.1)) es) ≡ total_pins es
  total-swept h [] = refl
  total-swept h (e ∷ es) = stale_case (is_stale h e.1) refl (total-swept h es)
    where
      stale_case : (b : Bool) → is_stale h e.1 ≡ b → total_pins (filter (λ x. not (is_stale h x.1)) es) ≡ total_pins es → total_pins (cond (not b) (e ∷ filter (λ x. not (is_stale h x.1)) es) (filter (λ x. not (is_stale h x.1)) es)) ≡ length e.1.pins + total_pins es
      stale_case true is ih = omega (arith, ih, no_length e.1.pins (nat_lt e.1.used h) is)
      stale_case false is ih = omega (arith, ih)

  module _ (digest_of : I → List ℕ) where
    -- Edits of runs and pins leave the keys.
    pub keys-update : (f : LiveView I O → LiveView I O) → ((l : LiveView I O) → (f l).input ≡ l.input) → (es : List (List ℕ × LiveView I O)) (i : ℕ) → AreKeyed digest_of es → AreKeyed digest_of (update_at i f es)
    keys-update f same [] i keys = keys
    keys-update f same (e ∷ es) zero keys = (ap digest_of (same e.1) ∙ keys.0, keys.1)
    keys-update f same (e ∷ es) (suc i) keys = (keys.0, keys-update f same es i keys.1)

    pub keys-append : (es : List (List ℕ × LiveView I O)) (e : List ℕ × LiveView I O) → AreKeyed digest_of es → digest_of e.1.input ≡ e.0 → AreKeyed digest_of (es ++ e ∷ [])
    keys-append [] e keys same = (same, tt)
    keys-append (x ∷ es) e keys same = (keys.0, keys-append es e keys.1 same)

    pub keys-filter : (p : List ℕ × LiveView I O → Bool) (es : List (List ℕ × LiveView I O)) → AreKeyed digest_of es → AreKeyed digest_of (filter p es)
    keys-filter p [] keys = keys
    keys-filter p (e ∷ es) keys = elim (p e) as (λ b. AreKeyed digest_of (cond b (e ∷ filter p es) (filter p es))) [ true ↦ (keys.0, keys-filter p es keys.1) | false ↦ keys-filter p es keys.1 ]

    pub key-at : (es : List (List ℕ × LiveView I O)) (i : ℕ) (k : List ℕ) (l : LiveView I O) → AreKeyed digest_of es → slice_get es i ≡ Some (k, l) → digest_of l.input ≡ k
    key-at [] i k l keys at = cc
    key-at (e ∷ es) zero k l keys at = subst (λ (p : List ℕ × LiveView I O). digest_of p.1.input ≡ p.0) (same_some e (k, l) at) keys.0
    key-at (e ∷ es) (suc i) k l keys at = key-at es i k l keys.1 at

  -- The caller's pin is one on the entry of the id.
  pub pin-at : (c id : ℕ) (es : List (List ℕ × LiveView I O)) → list_any (has_pin c id) (core_entries es) ≡ true → (i : ℕ) × (k : List ℕ) × (l : LiveView I O) × (slice_get es i ≡ Some (k, l)) × (l.id ≡ id) × (list_any (λ x. x == c) l.pins ≡ true)
  pin-at c id [] h = cc
  pin-at c id (e ∷ es) h = pin_case ((e.1.id == id) && list_any (λ x. x == c) e.1.pins) refl h (pin-at c id es)
    where
      pin_case : (b : Bool) → ((e.1.id == id) && list_any (λ x. x == c) e.1.pins) ≡ b → (b || list_any (has_pin c id) (core_entries es)) ≡ true
          → (list_any (has_pin c id) (core_entries es) ≡ true → (i : ℕ) × (k : List ℕ) × (l : LiveView I O) × (slice_get es i ≡ Some (k, l)) × (l.id ≡ id) × (list_any (λ x. x == c) l.pins ≡ true))
          → (i : ℕ) × (k : List ℕ) × (l : LiveView I O) × (slice_get (e ∷ es) i ≡ Some (k, l)) × (l.id ≡ id) × (list_any (λ x. x == c) l.pins ≡ true)
      pin_case true is h ih = (zero, e.0, e.1, refl, eqb-true e.1.id id (and_true (e.1.id == id) _ is).0, (and_true (e.1.id == id) _ is).1)
      pin_case false is h ih = let rest = ih h in (suc rest.0, rest.1, rest.2, rest.3, rest.4, rest.5)

  -- The machine's test of a pin is the shard's.
  pub core-has_pin : (c id : ℕ) (es : List (List ℕ × LiveView I O)) → list_any (λ e. has_pin_view c id e.1) es ≡ list_any (has_pin c id) (core_entries es)
  core-has_pin c id [] = refl
  core-has_pin c id (e ∷ es) = ap (λ (b : Bool). has_pin_view c id e.1 || b) (core-has_pin c id es)

use Rattle.std.proofs.Common.{◌≡◌, ℕ, ◌+◌, ◌-◌, ◌<◌, ◌==◌, inl, inr, ◌↔◌, Bool, true, false, cond, ◌||◌, not, List, [], ◌∷◌, length, Option, Some, None, IsSome, IfSome, refl, sym, ap, subst, ◌∙◌, arith}
use Rattle.std.specs.List.{list_any}
use Rattle.std.specs.Str.{bytes_eq}
use Rattle.std.proofs.lemmas.Bool.Decides.{nat_tests}
use Rattle.memo_core.specs.declared.entries.CoreEntry.{CoreEntry}
use Rattle.memo_core.specs.declared.state.CoreState.{CoreState}
use Rattle.memo_core.specs.declared.event.Event.{Event}
use Rattle.memo_core.specs.Machine.{find_id, when, replayed, taken_away, has_digest, is_swept}
use Rattle.memo_core.specs.History.{held, how_many, latest_run, stores, stores_id}
use Rattle.memo_core.specs.Laws.{PinnedIsLive, GivenBeforeReleased, IdsOnce, SweepExact, AbsentExact}
use Rattle.memo_core.proofs.Apart.{ids-apart, digests-apart}
use Rattle.memo_core.proofs.Lists.{RisingIds, keep_if, find_id-above, find_id-filter, has_digest-found}
use Rattle.memo_core.proofs.Invariant.{Fits, Fits-replayed, pins_in, IsLiveWith, when_some, and_true}
use Rattle.std.proofs.lemmas.Slice.Eq.{bytes_eq-Decides}
use Rattle.std.proofs.lemmas.Bool.{eqb-true, ltb-true}

held_is : (g r p : ℕ) → g ≡ p + r → g - r ≡ p
held_is g r p h = omega arith

-- a digest that is live has an entry that is found by its id
live_entry : (d : List ℕ) (es : List CoreEntry) → RisingIds es → has_digest d es ≡ true → (id : ℕ) × IsLiveWith id d es
live_entry d [] r h = cc
live_entry d (e ∷ es) r h = entry_case (bytes_eq e.digest d) refl h (live_entry d es r.1)
  where
    entry_case : (b : Bool) → bytes_eq e.digest d ≡ b → (b || has_digest d es) ≡ true → (has_digest d es ≡ true → (id : ℕ) × IsLiveWith id d es) → (id : ℕ) × IsLiveWith id d (e ∷ es)
    entry_case true same h ih = (e.id, (e, (let b : (e.id == e.id) ≡ true = grind (arith, nat_tests) in rw b refl), same))
    entry_case false same h ih =
        let found = ih h in
        (found.0, (found.1.0, (let apart : (e.id == found.0) ≡ false = grind (arith, nat_tests, find_id-above e.id found.0 es r.0, found.1.1) in rw apart found.1.1), found.1.2))

no_pins : (ps : List ℕ) → ((c : ℕ) → how_many (λ y. y == c) ps ≡ 0) → (length ps == 0) ≡ true
no_pins [] h = refl
no_pins (p ∷ ps) h = absurd (let n = h p in grind (arith, nat_tests, n))

no_count : (c : ℕ) (ps : List ℕ) → (length ps == 0) ≡ true → how_many (λ y. y == c) ps ≡ 0
no_count c [] h = refl
no_count c (p ∷ ps) h = absurd (omega (arith, eqb-true (length (p ∷ ps)) 0 h))

module _ (events : List Event) (s : CoreState) (fits : Fits events s) where
  held_pins : (c id : ℕ) → held c id events ≡ pins_in c (find_id id s.entries)
  held_pins c id = held_is _ _ _ (fits.pins c id)

  pinned : PinnedIsLive events s
  pinned caller id positive = found_case (find_id id s.entries) refl (held_pins caller id)
    where
      found_case : (o : Option CoreEntry) → find_id id s.entries ≡ o → held caller id events ≡ pins_in caller o → (e : CoreEntry) × (find_id id s.entries ≡ Some e) × (how_many (λ c. c == caller) e.pins ≡ held caller id events)
      found_case None found pins = absurd (omega (arith, pins))
      found_case (Some e) found pins = (e, found, sym pins)

  once : IdsOnce events s
  once = record { stored_once = fits.once; below_next = below; ids_apart = ids-apart s.entries fits.rising; digests_apart = digests-apart s.entries fits.digests }
    where
      below : (id : ℕ) → 0 < how_many (stores_id id) events → id < s.next
      below id positive = grind (arith, fits.fresh id)

  given : GivenBeforeReleased events
  given caller id = omega (arith, fits.pins caller id)

  swept : SweepExact events s
  swept caller horizon dropped id t stepped live =
      let w = when_some _ _ _ stepped in
      let found : find_id id t.entries ≡ keep_if (λ e. not (is_swept horizon e)) (find_id id s.entries) = ap (λ (u : CoreState). find_id id u.entries) (sym w.1) ∙ find_id-filter (λ e. not (is_swept horizon e)) id s.entries fits.rising in
      found_case (find_id id s.entries) live (λ c. held_pins c id) (λ x h. fits.runs id x h) found
    where
      found_case : (o : Option CoreEntry) → IsSome o → ((c : ℕ) → held c id events ≡ pins_in c o) → ((x : CoreEntry) → o ≡ Some x → latest_run id events ≡ Some x.used) → find_id id t.entries ≡ keep_if (λ e. not (is_swept horizon e)) o → (find_id id t.entries ≡ None) ↔ (((c : ℕ) → held c id events ≡ 0) × IfSome (latest_run id events) (λ run. run < horizon))
      found_case None live pins runs found = cc
      found_case (Some x) live pins runs found = swept_case (is_swept horizon x) refl found
        where
          swept_case : (b : Bool) → is_swept horizon x ≡ b → find_id id t.entries ≡ cond (not b) (Some x) None → (find_id id t.entries ≡ None) ↔ (((c : ℕ) → held c id events ≡ 0) × IfSome (latest_run id events) (λ run. run < horizon))
          swept_case true is found =
              let parts = and_true (length x.pins == 0) _ is in
              (λ _. (λ c. pins c ∙ no_count c x.pins parts.0, rw (runs x refl) (ltb-true x.used horizon parts.1)), λ _. found)
          swept_case false is found = (
            λ none. absurd (let both : Some x ≡ None = sym found ∙ none in cc),
            λ free. absurd (let all = no_pins x.pins (λ c. sym (pins c) ∙ free.0 c) in let run : x.used < horizon = rw (runs x refl) at free.1 in grind (arith, nat_tests, all, run)),
          )

  absent : AbsentExact events s
  absent caller run digest = absent_case (has_digest digest s.entries) refl
    where
      absent_case : (b : Bool) → has_digest digest s.entries ≡ b → IsSome (when (not b) s) ↔ ((id : ℕ) → list_any (stores id digest) events ≡ true → taken_away id events ≡ true)
      absent_case true has = (
        λ h. cc,
        λ all. let live = live_entry digest s.entries fits.rising has in
            let same : live.1.0.digest ≡ digest = (bytes_eq-Decides live.1.0.digest digest).0 live.1.2 in
            let stored : list_any (stores live.0 digest) events ≡ true = subst (λ d. list_any (stores live.0 d) events ≡ true) same (fits.made live.0 live.1.0 live.1.1) in
            absurd (let gone = (fits.taken live.0 (all live.0 stored)).0 in let found = live.1.1 in cc),
      )
      absent_case false has = (λ _ id stored. elim (fits.gone id digest stored) [ inl live ↦ absurd (let no = has_digest-found id digest s.entries live.0 live.1 has in let yes = live.2 in cc) | inr gone ↦ gone ], λ _. refl)

module _ (events : List Event) (s : CoreState) (is : replayed events ≡ Some s) where
  pub pinned_is_live : PinnedIsLive events s
  pinned_is_live = pinned events s (Fits-replayed events s is)

  pub given_before_released : GivenBeforeReleased events
  given_before_released = given events s (Fits-replayed events s is)

  pub ids_once : IdsOnce events s
  ids_once = once events s (Fits-replayed events s is)

  pub sweep_exact : SweepExact events s
  sweep_exact = swept events s (Fits-replayed events s is)

  pub absent_exact : AbsentExact events s
  absent_exact = absent events s (Fits-replayed events s is)

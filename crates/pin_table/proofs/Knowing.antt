-- Which inputs a caller knows by what it holds, and what a call for one returns.
use Rattle.std.proofs.Common.{◌≡◌, ℕ, ◌<◌, ◌⊎◌, inl, inr, true, false, cond, ◌&&◌, ◌==◌, List, ◌∷◌, ◌++◌, refl, sym, ap, subst, ◌∙◌, arith}
use Rattle.std.proofs.lemmas.Bool.Decides.{nat_tests}
use Rattle.std.proofs.lemmas.Cmp.{nat_list_eq_equiv}
use Rattle.std.specs.List.{list_any}
use Rattle.std.specs.Str.{bytes_eq}
use Rattle.memo_core.specs.declared.event.Event.{Event}
use Rattle.memo_core.specs.declared.event.Event.TheVariants.{Look, Keep}
use Rattle.memo_core.specs.declared.event.LookAnswer.TheVariants.{Hit as HitAnswer, Absent as AbsentAnswer}
use Rattle.memo_core.specs.declared.event.KeepAnswer.TheVariants.{Stored as StoredAnswer, Found as FoundAnswer}
use Rattle.memo_core.specs.History.{says}
use Rattle.memo_core.proofs.Invariant.{and_true}
use Rattle.memo_core.proofs.SaidDigests.{live-digest}
use Rattle.memo_server.specs.Callers.{caller_of, gives, frees}
use Rattle.pin_table.specs.Views.{CallerView, PinView, nothing}
use Rattle.pin_table.specs.Known.{KnownFits, CallerFits, Gained, AtShard, known_at, held_at}
use Rattle.pin_table.specs.Answers.{Looks, Keeps, HitAs, StoredAs, FoundAs}
use Rattle.pin_table.specs.declared.answers.Looked.{Looked}
use Rattle.pin_table.specs.declared.answers.Looked.TheVariants.{Hit, Absent, Clash}
use Rattle.pin_table.specs.declared.answers.Kept.{Kept}
use Rattle.pin_table.specs.declared.answers.Kept.TheVariants.{Stored, Found, Clash as KeepClash}
use Rattle.pin_table.specs.Covers.{PinName, gave, IsGiven, Covered, IsLater, Got, name_of}
use Rattle.pin_table.specs.OwnEvents.{there, MetAt, IsKnown}
use Rattle.pin_table.proofs.Places.{at-get}
use Rattle.pin_table.proofs.Replies.{held-inside}
use Rattle.pin_table.proofs.Holds.{held-live, held-found, list_any-filter}
use Rattle.pin_table.proofs.Covering.{goes-there, still-any, last-any, covered-right, covered-held}
use Rattle.pin_table.proofs.Answering.{got-one}
use Rattle.pin_table.proofs.OwnEvents.{any-weaker, there-later, hit-event, stored-event, found-event, clash-met, keep-clash-met}

-- What gave a pin with a digest said the digest.
gave-says : (id : ℕ) (digest : List ℕ) (e : Event) → gave id digest e ≡ true → says id digest e ≡ true
gave-says id digest e h = (and_true (gives id e) (says id digest e) h).1

-- A covered pin's input is known.
pub covered-known : (v : CallerView) (p : PinName) (ps : List PinName) → Covered v (p ∷ ps) → IsKnown p.digest v
covered-known v p ps covered =
    let given = covered.given.0 in
    record {
      id = p.id;
      held = subst (λ (s : ℕ). 0 < held_at s p.id v) given.shard (covered-held v p ps covered);
      said = subst (λ (s : ℕ). list_any (says p.id p.digest) (known_at s v).mine ≡ true) given.shard (any-weaker (gave p.id p.digest) (says p.id p.digest) (gave-says p.id p.digest) (known_at p.shard v).mine given.given);
    }

-- Wherever it is in the list.
pub covered-known-at : (v : CallerView) (os : List PinName) (p : PinName) (ps : List PinName) → Covered v (os ++ p ∷ ps) → IsKnown p.digest v
covered-known-at v os p ps covered = covered-known v p ps (covered-right v os (p ∷ ps) covered)

-- It stays known while the caller holds the id.
pub known-later : (digest : List ℕ) (v w : CallerView) → IsLater v w → (k : IsKnown digest v) → 0 < held_at (there digest v) k.id w → IsKnown digest w
known-later digest v w later k still =
    let same = sym (there-later digest v w later) in
    record {
      id = k.id;
      held = subst (λ (s : ℕ). 0 < held_at s k.id w) same still;
      said = subst (λ (s : ℕ). list_any (says k.id digest) (known_at s w).mine ≡ true) same (ap (list_any (says k.id digest)) (later.mine (there digest v)).1 ∙ still-any (says k.id digest) (known_at (there digest v) v).mine (later.mine (there digest v)).0 k.said);
    }

-- The same after a call that gives up no pin.
pub known-got : (digest : List ℕ) (v w : CallerView) (ps : List PinName) → Got v ps w → IsKnown digest v → IsKnown digest w
known-got digest v w ps got k = known-later digest v w got.later k (let x = got.held (there digest v) k.id in let y = k.held in omega (arith, x, y))

-- Answers.

-- What a caller knows of the shard if it holds an id.
fits-at : (s id : ℕ) (c : CallerView) → CallerFits c → 0 < held_at s id c → KnownFits c.number (known_at s c)
fits-at s id c fits held = fits.each s (known_at s c) (at-get c.shards s nothing (held-inside s id c held))

-- A look for what is known does not return Absent.
pub known-not-absent : (n run : ℕ) (digest : List ℕ) (v w : CallerView) → CallerFits v → n ≡ v.number → IsKnown digest v → AtShard (Gained n (Look n run digest AbsentAnswer)) (there digest v) v w → ⊥
known-not-absent n run digest v w fits numbered k h =
    let s = there digest v in
    (held-found v.number k.id run digest (known_at s v) (known_at s w) (fits-at s k.id v fits k.held) k.held k.said).0 AbsentAnswer (subst (λ (m : ℕ). Gained m (Look m run digest AbsentAnswer) (known_at s v) (known_at s w)) numbered (goes-there (Gained n (Look n run digest AbsentAnswer)) s v w h)) refl

-- Nor does a keep of it return Stored.
pub known-not-stored : (n run id : ℕ) (digest : List ℕ) (v w : CallerView) → CallerFits v → n ≡ v.number → IsKnown digest v → AtShard (Gained n (Keep n run digest (StoredAnswer id))) (there digest v) v w → ⊥
known-not-stored n run id digest v w fits numbered k h =
    let s = there digest v in
    (held-found v.number k.id run digest (known_at s v) (known_at s w) (fits-at s k.id v fits k.held) k.held k.said).1 (StoredAnswer id) id (subst (λ (m : ℕ). Gained m (Keep m run digest (StoredAnswer id)) (known_at s v) (known_at s w)) numbered (goes-there (Gained n (Keep n run digest (StoredAnswer id))) s v w h)) refl

module _ (v w : CallerView) (known : CallerFits v) {I O : Type 0} (fits : I → O → Type 0) (digest_of : I → List ℕ) (run : ℕ) (input : I) where
  module _ {R : Type 0} where
    -- It hits, or a clash was gained.
    pub known-looked : (a : Looked R I O) → IsKnown (digest_of input) v → Looks fits digest_of run input a v w → ((p : PinView I O) × (a ≡ Hit p)) ⊎ MetAt (there (digest_of input) v) v w
    known-looked (Hit p) k h = inl (p, refl)
    known-looked Absent k h = absurd (known-not-absent v.number run (digest_of input) v w known refl k h)
    known-looked (Clash e) k h = inr (clash-met fits digest_of run input v w e h)

    -- So with a keep, which finds it.
    pub known-kept : (out : O) (a : Kept R I O) → IsKnown (digest_of input) v → Keeps fits digest_of run input out a v w → ((p : PinView I O) × (a ≡ Found p)) ⊎ MetAt (there (digest_of input) v) v w
    known-kept out (Stored p) k h = absurd (known-not-stored v.number run p.id (digest_of input) v w known refl k (stored-event fits digest_of run input v w out p h))
    known-kept out (Found p) k h = inl (p, refl)
    known-kept out (KeepClash e i o) k h = inr (keep-clash-met fits digest_of run input v w out e i o h)

  -- What was hit, stored or found is known.
  pub pin-known : (e : Event) (p : PinView I O) → p.shard ≡ there (digest_of input) v → p.input ≡ input → ((id : ℕ) → gives id e ≡ (p.id == id)) → ((id : ℕ) → frees id e ≡ false) → says p.id (digest_of input) e ≡ true → AtShard (Gained v.number e) (there (digest_of input) v) v w → IsKnown (digest_of input) w
  pin-known e p place same one free said at =
      let s = there (digest_of input) v in
      let got = got-one v.number e v w (name_of digest_of p) known refl one free (subst (λ (i : ℕ). AtShard (Gained v.number e) i v w) (sym place) at) in
      let there_is = sym (there-later (digest_of input) v w got.later) in
      record {
        id = p.id;
        held = subst (λ (i : ℕ). 0 < held_at i p.id w) (place ∙ there_is) (let x = got.held p.shard p.id in let y = one_there p.shard p.id in omega (arith, x, y));
        said = subst (λ (i : ℕ). list_any (says p.id (digest_of input)) (known_at i w).mine ≡ true) there_is (ap (list_any (says p.id (digest_of input))) (goes-there (Gained v.number e) s v w at).mine ∙ last-any (says p.id (digest_of input)) (known_at s v).mine e said);
      }
    where
      one_there : (s id : ℕ) → ◌≡◌ {A = ℕ} (cond ((s == s) && (id == id)) 1 0) 1
      one_there s id = let a : (s == s) ≡ true = grind (arith, nat_tests) in let b : (id == id) ≡ true = grind (arith, nat_tests) in rw (a, b) refl

  same_said : (id : ℕ) → ((id == id) && bytes_eq (digest_of input) (digest_of input)) ≡ true
  same_said id = let a : (id == id) ≡ true = grind (arith, nat_tests) in rw (a, nat_list_eq_equiv.refl (digest_of input)) refl

  pub hit-known : (p : PinView I O) → AtShard (HitAs fits digest_of v.number (there (digest_of input) v) run input p) (there (digest_of input) v) v w → IsKnown (digest_of input) w
  hit-known p h = pin-known (Look v.number run (digest_of input) (HitAnswer p.id)) p h.goes.1 h.goes.2 (λ id. refl) (λ id. refl) (same_said p.id) (hit-event fits digest_of run input v w p h)

  pub stored-known : (out : O) (p : PinView I O) → AtShard (StoredAs fits digest_of v.number (there (digest_of input) v) run input out p) (there (digest_of input) v) v w → IsKnown (digest_of input) w
  stored-known out p h = pin-known (Keep v.number run (digest_of input) (StoredAnswer p.id)) p h.goes.1 h.goes.2 (λ id. refl) (λ id. refl) (same_said p.id) (stored-event fits digest_of run input v w out p h)

  pub found-known : (p : PinView I O) → AtShard (FoundAs fits digest_of v.number (there (digest_of input) v) run input p) (there (digest_of input) v) v w → IsKnown (digest_of input) w
  found-known p h = pin-known (Keep v.number run (digest_of input) (FoundAnswer p.id)) p h.goes.1 h.goes.2 (λ id. refl) (λ id. refl) (same_said p.id) (found-event fits digest_of run input v w p h)

-- One digest for an id.

-- Pins of one caller in one shard with one id have one digest, while the id is held.
pub one-digest : (c : CallerView) (p q : PinName) → CallerFits c → IsGiven c p → IsGiven c q → p.shard ≡ q.shard → p.id ≡ q.id → 0 < held_at p.shard p.id c → p.digest ≡ q.digest
one-digest c p q fits a b same_shard same_id held =
    let k = known_at p.shard c in
    let keeps : KnownFits c.number k = fits-at p.shard p.id c fits held in
    let live = held-live c.number p.id k keeps held in
    let told : (digest : List ℕ) → list_any (gave p.id digest) k.mine ≡ true → live.1.digest ≡ digest = (λ digest given.
    live-digest k.seen live.0 live.2 p.id digest live.1
    (list_any-filter (says p.id digest) (λ e. caller_of e == c.number) k.seen (subst (λ (es : List Event). list_any (says p.id digest) es ≡ true) (sym keeps.same) (any-weaker (gave p.id digest) (says p.id digest) (gave-says p.id digest) k.mine given)))
    live.3) in
    sym (told p.digest a.given) ∙ told q.digest (subst (λ (i : ℕ). list_any (gave i q.digest) k.mine ≡ true) (sym same_id) (subst (λ (s : ℕ). list_any (gave q.id q.digest) (known_at s c).mine ≡ true) (sym same_shard) b.given))

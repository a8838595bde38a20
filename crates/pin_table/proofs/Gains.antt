-- What a turn of a pass adds to what its caller knows.
use Rattle.std.proofs.Common.{◌≡◌, ℕ, ◌^◌, ◌<◌, ◌≤◌, ◌⊎◌, inl, inr, Bool, true, false, cond, nat_lt, ◌==◌, List, [], ◌∷◌, ◌++◌, Option, Some, None, IsSome, refl, sym, ap, subst, ◌∙◌, arith, append-nil}
use Rattle.std.proofs.lemmas.Bool.Decides.{nat_tests}
use Rattle.std.specs.Option.{option_and_then}
use Rattle.turn_lock.specs.declared.knowledge.Known.{Known}
use Rattle.turn_lock.specs.Under.{under}
use Rattle.turn_lock.specs.Passes.{Played, WornOut as WornPass}
use Rattle.memo_core.specs.declared.state.CoreState.{CoreState}
use Rattle.memo_core.specs.declared.event.Event.{Event}
use Rattle.memo_core.specs.Machine.{replayed, replayed_from, after_event, start}
use Rattle.memo_core.specs.History.{held}
use Rattle.memo_server.specs.declared.turn.Turn.{Turn}
use Rattle.memo_server.specs.declared.turn.Turn.TheVariants.{Made, Empty}
use Rattle.memo_server.specs.Callers.{caller_of, own_held, whose, own, IsLegal}
use Rattle.memo_server.specs.Histories.{events}
use Rattle.memo_server.proofs.OwnTurns.{events-under, own_held-own}
use Rattle.pin_table.specs.Views.{known_of, PassFits}
use Rattle.pin_table.specs.Known.{KnownFits, WornOut}
use Rattle.pin_table.specs.Answers.{Went}

pub events-append : (ts us : List Turn) → events (ts ++ us) ≡ events ts ++ events us
events-append [] us = refl
events-append (Made e ∷ ts) us = ap (λ es. e ∷ es) (events-append ts us)
events-append (Empty ∷ ts) us = events-append ts us

-- The last event of a legal history is legal.
pub replay-back : (s0 : CoreState) (es : List Event) (e : Event) → IsSome (replayed_from s0 (es ++ e ∷ [])) → (s : CoreState) × (t : CoreState) × (replayed_from s0 es ≡ Some s) × (after_event s e ≡ Some t)
replay-back s0 [] e h = last_case (after_event s0 e) refl h
  where
    last_case : (o : Option CoreState) → after_event s0 e ≡ o → IsSome (option_and_then (λ t. Some t) o) → (s : CoreState) × (t : CoreState) × (Some s0 ≡ Some s) × (after_event s e ≡ Some t)
    last_case None is h = cc
    last_case (Some t) is h = (s0, t, refl, is)
replay-back s0 (x ∷ es) e h = first_case (after_event s0 x) refl h (λ u. replay-back u es e)
  where
    first_case : (o : Option CoreState) → after_event s0 x ≡ o → IsSome (option_and_then (λ u. replayed_from u (es ++ e ∷ [])) o) → ((u : CoreState) → IsSome (replayed_from u (es ++ e ∷ [])) → (s : CoreState) × (t : CoreState) × (replayed_from u es ≡ Some s) × (after_event s e ≡ Some t)) → (s : CoreState) × (t : CoreState) × (option_and_then (λ u. replayed_from u es) o ≡ Some s) × (after_event s e ≡ Some t)
    first_case None is h ih = cc
    first_case (Some u) is h ih = ih u h

same-shown : (v w : Known Turn) → w.read < 2 ^ 62 → v.read ≤ w.read → (known_of w).shown ≡ (known_of v).shown
same-shown v w low grows = let a : nat_lt w.read (2 ^ 62) ≡ true = grind (arith, nat_tests) in let b : nat_lt v.read (2 ^ 62) ≡ true = grind (arith, nat_tests) in rw (a, b) refl

caller-is : (n : ℕ) (e : Turn) (ev : Event) → e ≡ Made ev → (whose e ≡ Some n) ⊎ (whose e ≡ None) → caller_of ev ≡ n
caller-is n e ev is (inl h) = let inj : (a b : ℕ) → Some a ≡ Some b → a ≡ b = λ a b q. cc in inj (caller_of ev) n (sym (ap whose is) ∙ h)
caller-is n e ev is (inr h) = absurd (let both : Some (caller_of ev) ≡ None = sym (ap whose is) ∙ h in cc)

module _ {O P : Type 0} (answers : Turn → O → P → Type 0) (op : O) (reply : P) (v w : Known Turn) (p : Played whose answers IsLegal op reply v w) (n : ℕ) (numbered : v.number ≡ n) where
  others-none : own n (events p.between) ≡ []
  others-none = ap (λ k. own k (events p.between)) (sym numbered) ∙ (sym (events-under v.number p.between) ∙ ap events p.others)

  seen-is : (e : Turn) → p.entry ≡ e → events w.seen ≡ (events v.seen ++ events p.between) ++ events (e ∷ [])
  seen-is e is = ap events p.seen ∙ (events-append (v.seen ++ p.between) (p.entry ∷ []) ∙ (ap (λ es. es ++ events (p.entry ∷ [])) (events-append v.seen p.between) ∙ ap (λ x. (events v.seen ++ events p.between) ++ events (x ∷ [])) is))

  mine-is : (e : Turn) → p.entry ≡ e → events w.mine ≡ events v.mine ++ events (under whose v.number (e ∷ []))
  mine-is e is = ap events p.mine ∙ (events-append v.mine (under whose v.number (p.entry ∷ [])) ∙ ap (λ x. events v.mine ++ events (under whose v.number (x ∷ []))) is)

  -- A turn that made an event, or ran out of memory.
  pub went : (e : Turn) → p.entry ≡ e → Went n e (known_of v) (known_of w)
  went (Made ev) is =
      let seen = seen-is (Made ev) is in
      let parts = replay-back start (events v.seen ++ events p.between) ev (subst (λ es. IsSome (replayed es)) seen p.lawful) in
      let who : caller_of ev ≡ n = caller-is n p.entry ev is (subst (λ (k : ℕ). (whose p.entry ≡ Some k) ⊎ (whose p.entry ≡ None)) numbered p.stands) in
      let alone : events (under whose v.number (Made ev ∷ [])) ≡ ev ∷ [] = (let test : (caller_of ev == v.number) ≡ true = (let e : caller_of ev ≡ v.number = who ∙ sym numbered in grind (arith, nat_tests)) in ap (λ b. events (cond b (Made ev ∷ []) [])) test) in
      record {
        between = events p.between;
        state = parts.0;
        after = parts.1;
        seen = seen;
        others = others-none;
        caller = who;
        replayed = parts.2;
        legal = parts.3;
        mine = mine-is (Made ev) is ∙ ap (λ es. events v.mine ++ es) alone;
        shown = same-shown v w p.read p.grows;
      }
  went Empty is = record {
    between = events p.between;
    seen = seen-is Empty is ∙ append-nil (events v.seen ++ events p.between);
    others = others-none;
    legal = p.lawful;
    mine = mine-is Empty is ∙ append-nil (events v.mine);
    shown = same-shown v w p.read p.grows;
  }

-- A refused turn changes only the number that the caller was shown.
pub worn : (ticket : ℕ) (v w : Known Turn) → WornPass ticket v w → WornOut ticket (known_of v) (known_of w)
worn ticket v w h = record {
  limit = h.limit;
  seen = ap events h.seen;
  mine = ap events h.mine;
  shown = (let past : nat_lt w.read (2 ^ 62) ≡ false = (let a = h.limit in let b = h.read in grind (arith, nat_tests)) in ap (λ (b : Bool). cond b 0 w.read) past) ∙ h.read;
}

-- What a pass keeps, for its caller.
pub known-fits : (n : ℕ) (k : Known Turn) → PassFits n k → KnownFits n (known_of k)
known-fits n k fits = record {
  legal = fits.legal;
  same = sym (events-under n k.seen) ∙ ap events fits.same;
  shown = shown_case (nat_lt k.read (2 ^ 62)) refl;
}
  where
    shown_case : (b : Bool) → nat_lt k.read (2 ^ 62) ≡ b → (◌≡◌ {A = ℕ} (cond b 0 k.read) 0) ⊎ (2 ^ 62 ≤ cond b 0 k.read)
    shown_case true is = inl refl
    shown_case false is = inr (grind (arith, nat_tests))

-- What a pass may release.
pub may-release : (n id : ℕ) (k : Known Turn) → PassFits n k → 0 < held n id (events k.mine) → 0 < own_held id (events (under whose k.number k.mine))
may-release n id k fits h = subst (λ m. 0 < m) (sym (ap (own_held id) (ap (λ m. events (under whose m k.mine)) fits.numbered ∙ events-under n k.mine) ∙ own_held-own n id (events k.mine))) h

-- What a caller's own turns say of the state.
use Rattle.std.proofs.Common.{◌≡◌, ℕ, ◌+◌, ◌<◌, Bool, true, false, cond, ◌&&◌, ◌||◌, ◌==◌, List, [], ◌∷◌, Some, refl, sym, ap, subst, ◌∙◌, arith, zero-add}
use Rattle.std.specs.List.{list_any}
use Rattle.memo_core.specs.declared.entries.CoreEntry.{CoreEntry}
use Rattle.memo_core.specs.declared.state.CoreState.{CoreState}
use Rattle.memo_core.specs.declared.event.Event.{Event}
use Rattle.memo_core.specs.declared.event.Event.TheVariants.{Look, Keep, Release, Sweep}
use Rattle.memo_core.specs.declared.event.LookAnswer.TheVariants.{Hit, Absent, Clash}
use Rattle.memo_core.specs.declared.event.KeepAnswer.TheVariants.{Stored, Found, Clash as KeepClash}
use Rattle.memo_core.specs.Machine.{replayed, find_id, has_pin}
use Rattle.memo_core.specs.History.{held, how_many, gives_pin, is_release}
use Rattle.memo_core.proofs.HistoryLaws.{pinned_is_live}
use Rattle.turn_lock.specs.Under.{under}
use Rattle.memo_server.specs.declared.turn.Turn.{Turn}
use Rattle.memo_server.specs.declared.turn.Turn.TheVariants.{Made, Empty}
use Rattle.memo_server.specs.Callers.{caller_of, gives, frees, own_held, whose, own}
use Rattle.memo_server.specs.Histories.{events}

and_false : (b : Bool) → false ≡ (b && false)
and_false true = refl
and_false false = refl

pub gives-of : (c id : ℕ) (e : Event) → gives_pin c id e ≡ ((caller_of e == c) && gives id e)
gives-of c id (Look who run digest (Hit i)) = refl
gives-of c id (Look who run digest Absent) = and_false (who == c)
gives-of c id (Look who run digest (Clash i)) = and_false (who == c)
gives-of c id (Keep who run digest (Stored i)) = refl
gives-of c id (Keep who run digest (Found i)) = refl
gives-of c id (Keep who run digest (KeepClash i)) = and_false (who == c)
gives-of c id (Release who i) = and_false (who == c)
gives-of c id (Sweep who horizon dropped) = and_false (who == c)

pub frees-of : (c id : ℕ) (e : Event) → is_release c id e ≡ ((caller_of e == c) && frees id e)
frees-of c id (Look who run digest answer) = and_false (who == c)
frees-of c id (Keep who run digest answer) = and_false (who == c)
frees-of c id (Release who i) = refl
frees-of c id (Sweep who horizon dropped) = and_false (who == c)

-- counting one caller's events is counting among its own
pub count-own : (c : ℕ) (test : Event → Bool) (both : Event → Bool) → ((e : Event) → both e ≡ ((caller_of e == c) && test e)) → (es : List Event) → how_many test (own c es) ≡ how_many both es
count-own c test both is [] = refl
count-own c test both is (e ∷ es) = rw (is e) (elim (caller_of e == c) as (λ b. how_many test (cond b (e ∷ own c es) (own c es)) ≡ cond (b && test e) 1 0 + how_many both es) [ true ↦ ap (λ n. cond (test e) 1 0 + n) (count-own c test both is es) | false ↦ count-own c test both is es ∙ sym (zero-add (how_many both es)) ])

-- the events under a number are the caller's own
pub events-under : (c : ℕ) (ts : List Turn) → events (under whose c ts) ≡ own c (events ts)
events-under c [] = refl
events-under c (Made e ∷ ts) = elim (caller_of e == c) as (λ b. events (cond b (Made e ∷ under whose c ts) (under whose c ts)) ≡ cond b (e ∷ own c (events ts)) (own c (events ts))) [ true ↦ ap (λ es. e ∷ es) (events-under c ts) | false ↦ events-under c ts ]
events-under c (Empty ∷ ts) = events-under c ts

pub own_held-own : (c id : ℕ) (es : List Event) → own_held id (own c es) ≡ held c id es
own_held-own c id es = rw (count-own c (gives id) (gives_pin c id) (gives-of c id) es, count-own c (frees id) (is_release c id) (frees-of c id) es) refl

pub pin-there : (c id : ℕ) (es : List CoreEntry) (x : CoreEntry) → find_id id es ≡ Some x → 0 < how_many (λ y. y == c) x.pins → list_any (has_pin c id) es ≡ true
pin-there c id [] x found h = cc
pin-there c id (e ∷ es) x found h = entry_case (e.id == id) refl found (pin-there c id es x)
  where
    some_pin : (ps : List ℕ) → 0 < how_many (λ y. y == c) ps → list_any (λ y. y == c) ps ≡ true
    some_pin [] h = absurd (omega (arith, h))
    some_pin (p ∷ ps) h = elim (p == c) as (λ b. 0 < cond b 1 0 + how_many (λ y. y == c) ps → (b || list_any (λ y. y == c) ps) ≡ true) [ true ↦ λ h. refl | false ↦ λ h. some_pin ps (omega (arith, h)) ] h

    or_true : (b : Bool) → (b || true) ≡ true
    or_true true = refl
    or_true false = refl

    entry_case : (b : Bool) → (e.id == id) ≡ b → cond b (Some e) (find_id id es) ≡ Some x → (find_id id es ≡ Some x → 0 < how_many (λ y. y == c) x.pins → list_any (has_pin c id) es ≡ true) → list_any (has_pin c id) (e ∷ es) ≡ true
    entry_case true is found ih = let same : e ≡ x = (let inj : (a b : CoreEntry) → Some a ≡ Some b → a ≡ b = λ a b q. cc in inj e x found) in rw is (rw (some_pin e.pins (subst (λ (z : CoreEntry). 0 < how_many (λ y. y == c) z.pins) (sym same) h)) refl)
    entry_case false is found ih = rw is (ih found h)

-- a caller that holds an id by its own turns has a pin on the live entry
pub may-release : (c id : ℕ) (ts : List Turn) (s : CoreState) → replayed (events ts) ≡ Some s → 0 < own_held id (events (under whose c ts)) → list_any (has_pin c id) s.entries ≡ true
may-release c id ts s is h =
    let positive : 0 < held c id (events ts) = subst (λ n. 0 < n) (ap (own_held id) (events-under c ts) ∙ own_held-own c id (events ts)) h in
    let live = pinned_is_live (events ts) s is c id positive in
    pin-there c id s.entries live.0 live.1 (subst (λ n. 0 < n) (sym live.2) positive)

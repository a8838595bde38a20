-- What a caller holds, from turn to turn.
use Rattle.std.proofs.Common.{◌≡◌, ℕ, ◌+◌, ◌-◌, ◌^◌, ◌<◌, ◌≤◌, ◌⊎◌, Bool, true, false, cond, not, ◌&&◌, ◌||◌, ◌==◌, List, [], ◌∷◌, ◌++◌, Option, Some, None, IsSome, refl, sym, ap, subst, ◌∙◌, arith, append-nil}
use Rattle.std.proofs.lemmas.Bool.{eqb-true}
use Rattle.std.proofs.lemmas.Bool.Decides.{nat_tests}
use Rattle.std.proofs.lemmas.Cmp.{nat_list_eq_equiv}
use Rattle.std.proofs.lemmas.Slice.Eq.{bytes_eq-Decides}
use Rattle.std.specs.List.{list_any, filter}
use Rattle.std.specs.Str.{bytes_eq}
use Rattle.memo_core.specs.declared.entries.CoreEntry.{CoreEntry}
use Rattle.memo_core.specs.declared.state.CoreState.{CoreState}
use Rattle.memo_core.specs.declared.event.Event.{Event}
use Rattle.memo_core.specs.declared.event.Event.TheVariants.{Look, Keep}
use Rattle.memo_core.specs.declared.event.LookAnswer.{LookAnswer}
use Rattle.memo_core.specs.declared.event.LookAnswer.TheVariants.{Hit, Absent, Clash}
use Rattle.memo_core.specs.declared.event.KeepAnswer.{KeepAnswer}
use Rattle.memo_core.specs.declared.event.KeepAnswer.TheVariants.{Stored, Found, Clash as KeepClash}
use Rattle.memo_core.specs.Machine.{replayed, start, find_id, names, has_digest}
use Rattle.memo_core.specs.History.{held, how_many, gives_pin, is_release, says}
use Rattle.memo_core.proofs.Lists.{RisingIds, find_id-above, has_digest-found, how_many-push}
use Rattle.memo_core.proofs.Invariant.{Fits-replayed, replayed-push, when_some, and_true, second_true}
use Rattle.memo_core.proofs.HistoryLaws.{pinned_is_live, given_before_released}
use Rattle.memo_core.proofs.SaidDigests.{live-digest}
use Rattle.memo_server.specs.Callers.{caller_of, gives, frees, own_held, own}
use Rattle.memo_server.proofs.OwnTurns.{gives-of, frees-of, count-own, own_held-own}
use Rattle.pin_table.specs.Views.{ShardKnown}
use Rattle.pin_table.specs.Known.{KnownFits, Gained}
use Rattle.pin_table.specs.Lasting.{IsLive, IsAbsent, LookSays, KeepSays, TurnKeeps, HeldFollows, HeldIsLive, HeldIsFound, AnswersAreExact}

pub own-append : (n : ℕ) (xs ys : List Event) → own n (xs ++ ys) ≡ own n xs ++ own n ys
own-append n [] ys = refl
own-append n (x ∷ xs) ys = elim (caller_of x == n) as (λ b. cond b (x ∷ own n (xs ++ ys)) (own n (xs ++ ys)) ≡ cond b (x ∷ own n xs) (own n xs) ++ own n ys) [ true ↦ ap (λ es. x ∷ es) (own-append n xs ys) | false ↦ own-append n xs ys ]

own-again : (n : ℕ) (es : List Event) → own n (own n es) ≡ own n es
own-again n [] = refl
own-again n (e ∷ es) = own_case (caller_of e == n) refl (own-again n es)
  where
    own_case : (b : Bool) → (caller_of e == n) ≡ b → own n (own n es) ≡ own n es → own n (cond b (e ∷ own n es) (own n es)) ≡ cond b (e ∷ own n es) (own n es)
    own_case true is ih = rw is (ap (λ xs. e ∷ xs) ih)
    own_case false is ih = ih

-- What a caller holds by its own events it holds by all that it has seen.
held-own : (n id : ℕ) (es : List Event) → held n id (own n es) ≡ held n id es
held-own n id es = sym (own_held-own n id (own n es)) ∙ (ap (own_held id) (own-again n es) ∙ own_held-own n id es)

-- All that was seen before the call has the caller's earlier events.
past-own : (n : ℕ) (e : Event) (v w : ShardKnown) (g : Gained n e v w) → own n v.seen ≡ v.mine → own n (v.seen ++ g.between) ≡ v.mine
past-own n e v w g same = own-append n v.seen g.between ∙ (ap (λ es. own n v.seen ++ es) g.others ∙ (append-nil (own n v.seen) ∙ same))

own-one : (n : ℕ) (e : Event) → caller_of e ≡ n → own n (e ∷ []) ≡ e ∷ []
own-one n e who = let test : (caller_of e == n) ≡ true = grind (arith, nat_tests) in ap (λ b. cond b (e ∷ []) []) test

pub turn-keeps : TurnKeeps
turn-keeps n e v w fits g = record {
  legal = let is : replayed w.seen ≡ Some g.after = ap replayed g.seen ∙ replayed-push start (v.seen ++ g.between) g.state g.after e g.replayed g.legal in rw is refl;
  same = ap (own n) g.seen ∙ (own-append n (v.seen ++ g.between) (e ∷ []) ∙ (ap (λ es. es ++ own n (e ∷ [])) (past-own n e v w g fits.same) ∙ (ap (λ es. v.mine ++ es) (own-one n e g.caller) ∙ sym g.mine)));
  shown = subst (λ (m : ℕ). (m ≡ 0) ⊎ (2 ^ 62 ≤ m)) (sym g.shown) fits.shown;
}

and_again : (a b : Bool) → (a && b) ≡ (a && (a && b))
and_again true b = refl
and_again false b = refl

-- A caller never releases more pins than it was given.
fewer : (n id : ℕ) (k : ShardKnown) → KnownFits n k → how_many (is_release n id) k.mine ≤ how_many (gives_pin n id) k.mine
fewer n id k fits = some_case (replayed k.seen) refl fits.legal
  where
    got : how_many (gives_pin n id) k.mine ≡ how_many (gives_pin n id) k.seen
    got = ap (how_many (gives_pin n id)) (sym fits.same) ∙ count-own n (gives_pin n id) (gives_pin n id) (λ e. gives-of n id e ∙ (and_again (caller_of e == n) (gives id e) ∙ ap (λ b. (caller_of e == n) && b) (sym (gives-of n id e)))) k.seen

    gave : how_many (is_release n id) k.mine ≡ how_many (is_release n id) k.seen
    gave = ap (how_many (is_release n id)) (sym fits.same) ∙ count-own n (is_release n id) (is_release n id) (λ e. frees-of n id e ∙ (and_again (caller_of e == n) (frees id e) ∙ ap (λ b. (caller_of e == n) && b) (sym (frees-of n id e)))) k.seen

    some_case : (o : Option CoreState) → replayed k.seen ≡ o → IsSome o → how_many (is_release n id) k.mine ≤ how_many (gives_pin n id) k.mine
    some_case None is some = cc
    some_case (Some s) is some = let few = given_before_released k.seen s is n id in omega (arith, few, got, gave)

sums : (g r g' r' a b : ℕ) → r ≤ g → r' ≤ g' → g' ≡ g + a → r' ≡ r + b → (g' - r') + b ≡ (g - r) + a
sums g r g' r' a b few few' more less = omega (arith, few, few', more, less)

pub held-follows : HeldFollows
held-follows n id e v w fits g =
    let test : (caller_of e == n) ≡ true = (let who = g.caller in grind (arith, nat_tests)) in
    let a : gives_pin n id e ≡ gives id e = gives-of n id e ∙ ap (λ b. b && gives id e) test in
    let b : is_release n id e ≡ frees id e = frees-of n id e ∙ ap (λ b. b && frees id e) test in
    let more : how_many (gives_pin n id) w.mine ≡ how_many (gives_pin n id) v.mine + cond (gives id e) 1 0 = ap (how_many (gives_pin n id)) g.mine ∙ (how_many-push (gives_pin n id) v.mine e ∙ ap (λ b. how_many (gives_pin n id) v.mine + cond b 1 0) a) in
    let less : how_many (is_release n id) w.mine ≡ how_many (is_release n id) v.mine + cond (frees id e) 1 0 = ap (how_many (is_release n id)) g.mine ∙ (how_many-push (is_release n id) v.mine e ∙ ap (λ c. how_many (is_release n id) v.mine + cond c 1 0) b) in
    sums _ _ _ _ _ _ (fewer n id v fits) (fewer n id w (turn-keeps n e v w fits g)) more less

pub held-live : HeldIsLive
held-live n id k fits h = some_case (replayed k.seen) refl fits.legal
  where
    same : held n id k.mine ≡ held n id k.seen
    same = ap (held n id) (sym fits.same) ∙ held-own n id k.seen

    some_case : (o : Option CoreState) → replayed k.seen ≡ o → IsSome o → (s : CoreState) × (e : CoreEntry) × (replayed k.seen ≡ Some s) × (find_id id s.entries ≡ Some e) × (how_many (λ c. c == n) e.pins ≡ held n id k.mine)
    some_case None is some = cc
    some_case (Some s) is some = let live = pinned_is_live k.seen s is n id (subst (λ m. 0 < m) same h) in (s, live.0, is, live.1, live.2 ∙ sym same)

pub list_any-filter : {X : Type 0} (test p : X → Bool) (xs : List X) → list_any test (filter p xs) ≡ true → list_any test xs ≡ true
list_any-filter test p [] h = h
list_any-filter test p (x ∷ xs) h = filter_case (p x) h (list_any-filter test p xs)
  where
    filter_case : (b : Bool) → list_any test (cond b (x ∷ filter p xs) (filter p xs)) ≡ true → (list_any test (filter p xs) ≡ true → list_any test xs ≡ true) → (test x || list_any test xs) ≡ true
    filter_case true h ih = elim (test x) as (λ b. (b || list_any test (filter p xs)) ≡ true → (b || list_any test xs) ≡ true) [ true ↦ λ h. refl | false ↦ λ h. ih h ] h
    filter_case false h ih = second_true (test x) (list_any test xs) (ih h)

not_true : (b : Bool) → not b ≡ true → b ≡ false
not_true true h = cc
not_true false h = refl

-- What the caller holds is live before its call, with the digest that an event of its own said.
live-before : (n id : ℕ) (digest : List ℕ) (e : Event) (v w : ShardKnown) (g : Gained n e v w) → KnownFits n v → 0 < held n id v.mine → list_any (says id digest) v.mine ≡ true → IsLive g.state id digest
live-before n id digest e v w g fits h said =
    let past = v.seen ++ g.between in
    let mine : own n past ≡ v.mine = past-own n e v w g fits.same in
    let positive : 0 < held n id past = subst (λ m. 0 < m) (sym (ap (held n id) mine) ∙ held-own n id past) h in
    let live = pinned_is_live past g.state g.replayed n id positive in
    let told : list_any (says id digest) past ≡ true = list_any-filter (says id digest) (λ e. caller_of e == n) past (subst (λ (es : List Event). list_any (says id digest) es ≡ true) (sym mine) said) in
    (live.0, live.1, live-digest past g.state g.replayed id digest live.0 told live.1)

-- What is live with a digest is not absent.
not-both : (s : CoreState) (id : ℕ) (digest : List ℕ) → IsLive s id digest → IsAbsent s digest → ⊥
not-both s id digest live none =
    let off : bytes_eq live.0.digest digest ≡ false = has_digest-found id digest s.entries live.0 live.1 none in
    let on : bytes_eq live.0.digest digest ≡ true = subst (λ (d : List ℕ). bytes_eq live.0.digest d ≡ true) live.2 (nat_list_eq_equiv.refl live.0.digest) in
    let both : true ≡ false = sym on ∙ off in cc

named-live : (id : ℕ) (d : List ℕ) (es : List CoreEntry) → RisingIds es → list_any (names id d) es ≡ true → (e : CoreEntry) × (find_id id es ≡ Some e) × (e.digest ≡ d)
named-live id d [] r h = cc
named-live id d (e ∷ es) r h = id_case (e.id == id) refl (bytes_eq e.digest d) refl h (named-live id d es r.1)
  where
    id_case : (b : Bool) → (e.id == id) ≡ b → (c : Bool) → bytes_eq e.digest d ≡ c → ((b && c) || list_any (names id d) es) ≡ true → (list_any (names id d) es ≡ true → (x : CoreEntry) × (find_id id es ≡ Some x) × (x.digest ≡ d)) → (x : CoreEntry) × (find_id id (e ∷ es) ≡ Some x) × (x.digest ≡ d)
    id_case true same true eq h ih = (e, (rw same refl), (bytes_eq-Decides e.digest d).0 eq)
    id_case true same false eq h ih = absurd (let live = ih h in let none : find_id id es ≡ None = find_id-above e.id id es r.0 (let q : e.id ≡ id = eqb-true e.id id same in omega (arith, q)) in let both : None ≡ Some live.0 = sym none ∙ live.1 in cc)
    id_case false same c eq h ih = let live = ih h in (live.0, (rw same live.1), live.2)

module _ (n run : ℕ) (digest : List ℕ) (v w : ShardKnown) where
  live-named : (e : Event) (g : Gained n e v w) (id : ℕ) → list_any (names id digest) g.state.entries ≡ true → IsLive g.state id digest
  live-named e g id h = named-live id digest g.state.entries (Fits-replayed (v.seen ++ g.between) g.state g.replayed).rising h

  pub look-says : (a : LookAnswer) (g : Gained n (Look n run digest a) v w) → LookSays g.state digest a
  look-says (Hit id) g = live-named _ g id (when_some _ _ _ g.legal).0
  look-says Absent g = not_true (has_digest digest g.state.entries) (when_some _ _ _ g.legal).0
  look-says (Clash id) g = live-named _ g id (when_some _ _ _ g.legal).0

  pub keep-says : (a : KeepAnswer) (g : Gained n (Keep n run digest a) v w) → KeepSays g.state digest a
  keep-says (Stored id) g = not_true (has_digest digest g.state.entries) (and_true (not (has_digest digest g.state.entries)) (id == g.state.next) (and_true (not (has_digest digest g.state.entries) && (id == g.state.next)) _ (when_some _ _ _ g.legal).0).0).0
  keep-says (Found id) g = live-named _ g id (when_some _ _ _ g.legal).0
  keep-says (KeepClash id) g = live-named _ g id (when_some _ _ _ g.legal).0

pub answers-exact : AnswersAreExact
answers-exact n run digest v w = (look-says n run digest v w, keep-says n run digest v w)

pub held-found : HeldIsFound
held-found n id run digest v w fits h said = (
  λ a g is. not-both g.state id digest (live-before n id digest _ v w g fits h said) (subst (λ (x : LookAnswer). LookSays g.state digest x) is (look-says n run digest v w a g)),
  λ a i g is. not-both g.state id digest (live-before n id digest _ v w g fits h said) (subst (λ (x : KeepAnswer). KeepSays g.state digest x) is (keep-says n run digest v w a g)),
)

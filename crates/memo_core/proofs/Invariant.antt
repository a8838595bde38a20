-- What every legal history keeps.
use Rattle.std.proofs.Common.{◌≡◌, ℕ, ◌+◌, ◌-◌, ◌^◌, ◌<◌, ◌≤◌, ◌⊎◌, inl, inr, Bool, true, false, cond, ◌||◌, ◌&&◌, not, ◌==◌, nat_lt, List, [], ◌∷◌, ◌++◌, length, Option, Some, None, is_some, is_none, refl, sym, ap, subst, ◌∙◌, arith, lit≤, append-nil, append_assoc}
use Rattle.std.specs.List.{list_any, filter}
use Rattle.std.specs.Option.{option_map, option_map_or, option_and_then}
use Rattle.std.specs.Str.{bytes_eq}
use Rattle.std.proofs.lemmas.Bool.Decides.{nat_tests}
use Rattle.std.proofs.lemmas.Bool.{eqb-true}
use Rattle.std.proofs.lemmas.Cmp.{nat_list_eq_equiv}
use Rattle.memo_core.specs.declared.entries.CoreEntry.{CoreEntry}
use Rattle.memo_core.specs.declared.state.CoreState.{CoreState}
use Rattle.memo_core.specs.declared.event.Event.{Event}
use Rattle.memo_core.specs.declared.event.Event.TheVariants.{Look, Keep, Release, Sweep}
use Rattle.memo_core.specs.declared.event.LookAnswer.TheVariants.{Hit, Absent, Clash}
use Rattle.memo_core.specs.declared.event.KeepAnswer.TheVariants.{Stored, Found, Clash as KeepClash}
use Rattle.memo_core.specs.Machine.{at_id, find_id, has_digest, after_event, when, replayed_from, replayed, start, pinned, released, without_first, has_pin, is_swept, stored, is_sweep, takes_away, taken_from, taken_away}
use Rattle.memo_core.specs.History.{gives_pin, is_release, how_many, run_of, larger, latest_run, stores, stores_id}
use Rattle.memo_core.proofs.Lists.{how_many-push, IdsAbove, RisingIds, IdsBelow, DistinctDigests, keep_if, find_id-below, IdsBelow-found, RisingIds-filter, IdsBelow-filter, DistinctDigests-filter, find_id-filter, RisingIds-at_id, IdsBelow-at_id, DistinctDigests-at_id, find_id-at_id, find_id-append, find_id-append_found, IdsBelow-append, RisingIds-append, DistinctDigests-append, live_from_names}

-- how many pins of the caller the entry has
abbrev pub pins_in : ℕ → Option CoreEntry → ℕ
pins_in c None = 0
pins_in c (Some e) = how_many (λ x. x == c) e.pins

-- the id is live, with the digest
abbrev pub IsLiveWith : ℕ → List ℕ → List CoreEntry → Type 0
IsLiveWith id d es = (e : CoreEntry) × (find_id id es ≡ Some e) × (bytes_eq e.digest d ≡ true)

pub record Fits (past : List Event) (s : CoreState) : Type 0 where
  pub replays : replayed past ≡ Some s
  pub rising : RisingIds s.entries
  pub below : IdsBelow s.next s.entries
  pub digests : DistinctDigests s.entries
  pub pins : (c id : ℕ) → how_many (gives_pin c id) past ≡ pins_in c (find_id id s.entries) + how_many (is_release c id) past
  pub runs : (id : ℕ) (e : CoreEntry) → find_id id s.entries ≡ Some e → latest_run id past ≡ Some e.used
  pub unused : (id : ℕ) → s.next ≤ id → latest_run id past ≡ None
  pub once : (id : ℕ) → how_many (stores_id id) past ≤ 1
  pub fresh : (id : ℕ) → s.next ≤ id → how_many (stores_id id) past ≡ 0
  pub gone : (id : ℕ) (d : List ℕ) → list_any (stores id d) past ≡ true → IsLiveWith id d s.entries ⊎ (taken_away id past ≡ true)
  pub taken : (id : ℕ) → taken_away id past ≡ true → (find_id id s.entries ≡ None) × (id < s.next)
  pub made : (id : ℕ) (e : CoreEntry) → find_id id s.entries ≡ Some e → (list_any (stores id e.digest) past ≡ true)

pub when_some : (b : Bool) (s t : CoreState) → when b s ≡ Some t → (b ≡ true) × (s ≡ t)
when_some true s t h = (refl, cc)
when_some false s t h = cc

pub and_true : (a b : Bool) → (a && b) ≡ true → (a ≡ true) × (b ≡ true)
and_true true b h = (refl, h)
and_true false b h = cc

-- A test is not both.
never : false ≡ true → ⊥
never h = cc

larger_none : (a : Option ℕ) → larger a None ≡ a
larger_none None = refl
larger_none (Some a) = refl

larger_assoc : (a b c : Option ℕ) → larger (larger a b) c ≡ larger a (larger b c)
larger_assoc None b c = refl
larger_assoc (Some a) None c = refl
larger_assoc (Some a) (Some b) None = refl
larger_assoc (Some a) (Some b) (Some c) = ap Some (omega arith)

latest_run-push : (id : ℕ) (past : List Event) (e : Event) → latest_run id (past ++ e ∷ []) ≡ larger (latest_run id past) (run_of id e)
latest_run-push id [] e = larger_none (run_of id e)
latest_run-push id (x ∷ past) e = ap (larger (run_of id x)) (latest_run-push id past e) ∙ sym (larger_assoc (run_of id x) (latest_run id past) (run_of id e))

list_any-push : {X : Type 0} (test : X → Bool) (xs : List X) (x : X) → list_any test (xs ++ x ∷ []) ≡ (list_any test xs || test x)
list_any-push test [] x = or_false (test x)
  where
    or_false : (b : Bool) → (b || false) ≡ b
    or_false true = refl
    or_false false = refl
list_any-push test (y ∷ xs) x = elim (test y) as (λ b. (b || list_any test (xs ++ x ∷ [])) ≡ ((b || list_any test xs) || test x)) [ true ↦ refl | false ↦ list_any-push test xs x ]

some_same : (s t : CoreState) → Some s ≡ Some t → s ≡ t
some_same s t h = cc

pub replayed-push : (s0 : CoreState) (past : List Event) (s t : CoreState) (e : Event) → replayed_from s0 past ≡ Some s → after_event s e ≡ Some t → replayed_from s0 (past ++ e ∷ []) ≡ Some t
replayed-push s0 [] s t e h is = rw (some_same s0 s h, is) refl
replayed-push s0 (x ∷ past) s t e h is = elim (after_event s0 x) as (λ o. option_and_then (λ u. replayed_from u past) o ≡ Some s → option_and_then (λ u. replayed_from u (past ++ e ∷ [])) o ≡ Some t) [ None ↦ λ h. cc | Some u ↦ λ h. replayed-push u past s t e h is ] h

or_false : (b : Bool) → (b || false) ≡ b
or_false true = refl
or_false false = refl

or_assoc : (a b c : Bool) → (a || (b || c)) ≡ ((a || b) || c)
or_assoc true b c = refl
or_assoc false b c = refl

taken-push : (id : ℕ) (s0 : CoreState) (past : List Event) (s t : CoreState) (e : Event) → replayed_from s0 past ≡ Some s → after_event s e ≡ Some t → taken_from id s0 (past ++ e ∷ []) ≡ (taken_from id s0 past || takes_away id s e t)
taken-push id s0 [] s t e h is = rw (some_same s0 s h, is) (or_false (takes_away id s e t))
taken-push id s0 (x ∷ past) s t e h is =
    elim (after_event s0 x) as (λ o. option_and_then (λ u. replayed_from u past) o ≡ Some s → option_map_or (λ u. takes_away id s0 x u || taken_from id u (past ++ e ∷ [])) o false ≡ (option_map_or (λ u. takes_away id s0 x u || taken_from id u past) o false || takes_away id s e t)) [
      | None ↦ λ h. cc
      | Some u ↦ λ h. ap (λ b. takes_away id s0 x u || b) (taken-push id u past s t e h is) ∙ or_assoc (takes_away id s0 x u) (taken_from id u past) (takes_away id s e t)
    ] h

either_true : (a b : Bool) → (a || b) ≡ true → (a ≡ true) ⊎ (b ≡ true)
either_true true b h = inl refl
either_true false b h = inr h

pub first_true : (a b : Bool) → a ≡ true → (a || b) ≡ true
first_true true b h = refl
first_true false b h = cc

pub second_true : (a b : Bool) → b ≡ true → (a || b) ≡ true
second_true true b h = refl
second_true false b h = h

skip : {X : Type 0} (test : X → Bool) (xs : List X) (x : X) → test x ≡ false → how_many test (xs ++ x ∷ []) ≡ how_many test xs
skip test xs x h = how_many-push test xs x ∙ rw h (omega arith)

count : {X : Type 0} (test : X → Bool) (xs : List X) (x : X) → test x ≡ true → how_many test (xs ++ x ∷ []) ≡ how_many test xs + 1
count test xs x h = how_many-push test xs x ∙ rw h refl

module _ (past : List Event) (s t : CoreState) (e : Event) (fits : Fits past s) (is : after_event s e ≡ Some t) where
  next_replayed : replayed (past ++ e ∷ []) ≡ Some t
  next_replayed = replayed-push start past s t e fits.replays is

  taken_before : (id : ℕ) → taken_away id past ≡ true → taken_away id (past ++ e ∷ []) ≡ true
  taken_before id h = taken-push id start past s t e fits.replays is ∙ first_true _ _ h

  taken_now : (id : ℕ) → takes_away id s e t ≡ true → taken_away id (past ++ e ∷ []) ≡ true
  taken_now id h = taken-push id start past s t e fits.replays is ∙ second_true (taken_away id past) _ h

  taken_cases : (id : ℕ) → taken_away id (past ++ e ∷ []) ≡ true → (taken_away id past ≡ true) ⊎ (takes_away id s e t ≡ true)
  taken_cases id h = either_true _ _ (sym (taken-push id start past s t e fits.replays is) ∙ h)

record IsQuiet (e : Event) : Type 0 where
  gives : (c id : ℕ) → gives_pin c id e ≡ false
  releases : (c id : ℕ) → is_release c id e ≡ false
  run : (id : ℕ) → run_of id e ≡ None
  stores_none : (id : ℕ) (d : List ℕ) → stores id d e ≡ false
  stores_no_id : (id : ℕ) → stores_id id e ≡ false

not_taken : (o : Option CoreEntry) → (is_some o && is_none o) ≡ true → ⊥
not_taken None h = cc
not_taken (Some e) h = cc

Fits-quiet : (past : List Event) (s : CoreState) (e : Event) → IsQuiet e → after_event s e ≡ Some s → Fits past s → Fits (past ++ e ∷ []) s
Fits-quiet past s e quiet is fits = record {
  replays = next_replayed past s s e fits is;
  rising = fits.rising;
  below = fits.below;
  digests = fits.digests;
  pins = λ c id. rw (skip _ past e (quiet.gives c id), skip _ past e (quiet.releases c id)) (fits.pins c id);
  runs = λ id x found. latest_run-push id past e ∙ rw (quiet.run id) (larger_none (latest_run id past) ∙ fits.runs id x found);
  unused = λ id le. latest_run-push id past e ∙ rw (quiet.run id) (larger_none (latest_run id past) ∙ fits.unused id le);
  once = λ id. rw (skip _ past e (quiet.stores_no_id id)) (fits.once id);
  fresh = λ id le. skip _ past e (quiet.stores_no_id id) ∙ fits.fresh id le;
  gone = λ id d h. elim (fits.gone id d (sym (or_false (list_any (stores id d) past)) ∙ (ap (λ b. list_any (stores id d) past || b) (sym (quiet.stores_none id d)) ∙ (sym (list_any-push (stores id d) past e) ∙ h)))) [ inl live ↦ inl live | inr gone ↦ inr (taken_before past s s e fits is id gone) ];
  taken = λ id h. elim (taken_cases past s s e fits is id h) [ inl before ↦ fits.taken id before | inr now ↦ absurd (not_taken (find_id id s.entries) (and_true (is_sweep e) _ now).1) ];
  made = λ id x found. list_any-push (stores id x.digest) past e ∙ first_true _ _ (fits.made id x found);
}

record IsPin (e : Event) (who now i : ℕ) : Type 0 where
  gives : (c id : ℕ) → gives_pin c id e ≡ ((who == c) && (i == id))
  releases : (c id : ℕ) → is_release c id e ≡ false
  run : (id : ℕ) → run_of id e ≡ cond (i == id) (Some now) None
  stores_none : (id : ℕ) (d : List ℕ) → stores id d e ≡ false
  stores_no_id : (id : ℕ) → stores_id id e ≡ false

pins-pinned : (c id i who run : ℕ) (o : Option CoreEntry) → (id ≡ i → is_some o ≡ true) → pins_in c (cond (id == i) (option_map (pinned who run) o) o) ≡ pins_in c o + cond ((who == c) && (i == id)) 1 0
pins-pinned c id i who run None live = grind (arith, nat_tests)
pins-pinned c id i who run (Some x) live = grind (arith, nat_tests, how_many-push (λ y. y == c) x.pins who)

runs-pinned : (id i who run : ℕ) (o : Option CoreEntry) (x : CoreEntry) (before : Option ℕ) → ((y : CoreEntry) → o ≡ Some y → before ≡ Some y.used) → cond (id == i) (option_map (pinned who run) o) o ≡ Some x → larger before (cond (i == id) (Some run) None) ≡ Some x.used
runs-pinned id i who run None x before was found = grind (arith, nat_tests)
runs-pinned id i who run (Some y) x before was found = rw (was y refl) (grind (arith, nat_tests))

module _ (i : ℕ) (f : CoreEntry → CoreEntry) (same_id : (e : CoreEntry) → (f e).id ≡ e.id) (same_digest : (e : CoreEntry) → (f e).digest ≡ e.digest) where
  live-at_id : (id : ℕ) (d : List ℕ) (es : List CoreEntry) → IsLiveWith id d es → IsLiveWith id d (at_id i f es)
  live-at_id id d es live = (
    cond (id == i) (f live.0) live.0,
    find_id-at_id i f same_id same_digest id es ∙ rw live.1 (elim (id == i) as (λ b. cond b (Some (f live.0)) (Some live.0) ≡ Some (cond b (f live.0) live.0)) [ true ↦ refl | false ↦ refl ]),
    elim (id == i) as (λ b. bytes_eq (cond b (f live.0) live.0).digest d ≡ true) [ true ↦ rw same_digest live.2 | false ↦ live.2 ],
  )

  none-at_id : (b : Bool) (o : Option CoreEntry) → o ≡ None → cond b (option_map f o) o ≡ None
  none-at_id true o h = rw h refl
  none-at_id false o h = h

  not_taken-at_id : (b : Bool) (o : Option CoreEntry) → (is_some o && is_none (cond b (option_map f o) o)) ≡ true → ⊥
  not_taken-at_id true None h = cc
  not_taken-at_id true (Some e) h = cc
  not_taken-at_id false None h = cc
  not_taken-at_id false (Some e) h = cc

  made-at_id : (P : List ℕ → Type 0) (b : Bool) (o : Option CoreEntry) (x : CoreEntry) → ((y : CoreEntry) → o ≡ Some y → P y.digest) → cond b (option_map f o) o ≡ Some x → P x.digest
  made-at_id P true None x h is = cc
  made-at_id P true (Some y) x h is = subst P (sym (same_digest y) ∙ ap (λ (z : CoreEntry). z.digest) (same_entry (f y) x is)) (h y refl)
    where
      same_entry : (a b : CoreEntry) → Some a ≡ Some b → a ≡ b
      same_entry a b h = cc
  made-at_id P false o x h is = h x is

unused-pinned : (id i now : ℕ) → i < id → larger None (cond (i == id) (Some now) None) ≡ None
unused-pinned id i now lt = grind (arith, nat_tests)

live_below : (i : ℕ) (es : List CoreEntry) (n : ℕ) → IdsBelow n es → is_some (find_id i es) ≡ true → i < n
live_below i es n below live = some_below (find_id i es) live (λ x is. IdsBelow-found n i es x below is)
  where
    some_below : (o : Option CoreEntry) → is_some o ≡ true → ((x : CoreEntry) → o ≡ Some x → i < n) → i < n
    some_below None h f = cc
    some_below (Some x) h f = f x refl

Fits-pin : (past : List Event) (s : CoreState) (e : Event) (who now i : ℕ) → IsPin e who now i → is_some (find_id i s.entries) ≡ true → after_event s e ≡ Some (record s { entries = at_id i (pinned who now) s.entries }) → Fits past s → Fits (past ++ e ∷ []) (record s { entries = at_id i (pinned who now) s.entries })
Fits-pin past s e who now i pin live is fits =
    let f : CoreEntry → CoreEntry = pinned who now in
    let t : CoreState = record s { entries = at_id i (pinned who now) s.entries } in
    let found : (id : ℕ) → find_id id (at_id i f s.entries) ≡ cond (id == i) (option_map f (find_id id s.entries)) (find_id id s.entries) = λ id. find_id-at_id i f (λ _. refl) (λ _. refl) id s.entries in
    record {
      replays = next_replayed past s t e fits is;
      rising = RisingIds-at_id i f (λ _. refl) (λ _. refl) s.entries fits.rising;
      below = IdsBelow-at_id i f (λ _. refl) (λ _. refl) s.next s.entries fits.below;
      digests = DistinctDigests-at_id i f (λ _. refl) (λ _. refl) s.entries fits.digests;
      pins = λ c id. rw (how_many-push (gives_pin c id) past e, pin.gives c id, skip (is_release c id) past e (pin.releases c id), found id, pins-pinned c id i who now (find_id id s.entries) (λ (same : id ≡ i). ap (λ j. is_some (find_id j s.entries)) same ∙ live)) (omega (arith, fits.pins c id));
      runs = λ id x is_x. latest_run-push id past e ∙ rw (pin.run id) (runs-pinned id i who now (find_id id s.entries) x (latest_run id past) (λ y h. fits.runs id y h) (sym (found id) ∙ is_x));
      unused = λ id le. latest_run-push id past e ∙ rw (pin.run id, fits.unused id le) (unused-pinned id i now (omega (arith, le, live_below i s.entries s.next fits.below live)));
      once = λ id. rw (skip _ past e (pin.stores_no_id id)) (fits.once id);
      fresh = λ id le. skip _ past e (pin.stores_no_id id) ∙ fits.fresh id le;
      gone = λ id d h. elim (fits.gone id d (sym (or_false (list_any (stores id d) past)) ∙ (ap (λ b. list_any (stores id d) past || b) (sym (pin.stores_none id d)) ∙ (sym (list_any-push (stores id d) past e) ∙ h)))) [ inl was ↦ inl (live-at_id i f (λ _. refl) (λ _. refl) id d s.entries was) | inr gone ↦ inr (taken_before past s t e fits is id gone) ];
      taken = λ id h. elim (taken_cases past s t e fits is id h) [ inl before ↦ (found id ∙ none-at_id i f (λ _. refl) (λ _. refl) (id == i) (find_id id s.entries) (fits.taken id before).0, (fits.taken id before).1) | inr now ↦ absurd (not_taken-at_id i f (λ _. refl) (λ _. refl) (id == i) (find_id id s.entries) (sym (ap (λ o. is_some (find_id id s.entries) && is_none o) (found id)) ∙ (and_true (is_sweep e) _ now).1)) ];
      made = λ id x is_x. list_any-push (stores id x.digest) past e ∙ first_true _ _ (made-at_id i f (λ _. refl) (λ _. refl) (λ d. list_any (stores id d) past ≡ true) (id == i) (find_id id s.entries) x (λ y h. fits.made id y h) (sym (found id) ∙ is_x));
    }

-- -- release
how_many-without_first : (c c0 : ℕ) (ps : List ℕ) → 0 < how_many (λ y. y == c0) ps → how_many (λ y. y == c) (without_first c0 ps) + cond (c0 == c) 1 0 ≡ how_many (λ y. y == c) ps
how_many-without_first c c0 [] h = absurd (omega arith)
how_many-without_first c c0 (p ∷ ps) h = grind (arith, nat_tests, how_many-without_first c c0 ps)

pins-released : (c id i c0 : ℕ) (o : Option CoreEntry) → (id ≡ i → 0 < pins_in c0 o) → pins_in c (cond (id == i) (option_map (released c0) o) o) + cond ((c0 == c) && (i == id)) 1 0 ≡ pins_in c o
pins-released c id i c0 None live = grind (arith, nat_tests)
pins-released c id i c0 (Some x) live = grind (arith, nat_tests, how_many-without_first c c0 x.pins)

used-released : (b : Bool) (c0 : ℕ) (o : Option CoreEntry) (x : CoreEntry) (u : Option ℕ) → ((y : CoreEntry) → o ≡ Some y → u ≡ Some y.used) → cond b (option_map (released c0) o) o ≡ Some x → u ≡ Some x.used
used-released true c0 None x u h is = cc
used-released true c0 (Some y) x u h is = h y refl ∙ ap Some (let same : (released c0 y) ≡ x = cc in ap (λ (z : CoreEntry). z.used) same)
used-released false c0 o x u h is = h x is

some_pin : (c : ℕ) (ps : List ℕ) → list_any (λ y. y == c) ps ≡ true → 0 < how_many (λ y. y == c) ps
some_pin c [] h = cc
some_pin c (p ∷ ps) h = grind (arith, nat_tests, some_pin c ps)

no_pin_above : (c i : ℕ) (es : List CoreEntry) → IdsAbove i es → list_any (has_pin c i) es ≡ false
no_pin_above c i [] h = refl
no_pin_above c i (e ∷ es) h = grind (arith, nat_tests, h.0, no_pin_above c i es h.1)

has_pin-found : (c i : ℕ) (es : List CoreEntry) → RisingIds es → list_any (has_pin c i) es ≡ true → 0 < pins_in c (find_id i es)
has_pin-found c i [] h any = cc
has_pin-found c i (e ∷ es) h any = pin_case (e.id == i) refl (list_any (λ y. y == c) e.pins) refl any (has_pin-found c i es h.1) (λ (same : e.id ≡ i). no_pin_above c i es (subst (λ n. IdsAbove n es) same h.0))
  where
    pin_case : (b : Bool) → (e.id == i) ≡ b → (p : Bool) → list_any (λ y. y == c) e.pins ≡ p → ((b && p) || list_any (has_pin c i) es) ≡ true → (list_any (has_pin c i) es ≡ true → 0 < pins_in c (find_id i es)) → (e.id ≡ i → list_any (has_pin c i) es ≡ false) → 0 < pins_in c (cond b (Some e) (find_id i es))
    pin_case true same true pin any ih none = some_pin c e.pins pin
    pin_case true same false pin any ih none = let eq : e.id ≡ i = grind (arith, nat_tests) in let no = none eq in cc
    pin_case false same p pin any ih none = ih any

Fits-release : (past : List Event) (s : CoreState) (c0 i : ℕ) → list_any (has_pin c0 i) s.entries ≡ true → Fits past s → Fits (past ++ Release c0 i ∷ []) (record s { entries = at_id i (released c0) s.entries })
Fits-release past s c0 i has fits =
    let e : Event = Release c0 i in
    let f : CoreEntry → CoreEntry = released c0 in
    let t : CoreState = record s { entries = at_id i (released c0) s.entries } in
    let is : after_event s e ≡ Some t = ap (λ b. when b t) has in
    let found : (id : ℕ) → find_id id (at_id i f s.entries) ≡ cond (id == i) (option_map f (find_id id s.entries)) (find_id id s.entries) = λ id. find_id-at_id i f (λ _. refl) (λ _. refl) id s.entries in
    record {
      replays = next_replayed past s t e fits is;
      rising = RisingIds-at_id i f (λ _. refl) (λ _. refl) s.entries fits.rising;
      below = IdsBelow-at_id i f (λ _. refl) (λ _. refl) s.next s.entries fits.below;
      digests = DistinctDigests-at_id i f (λ _. refl) (λ _. refl) s.entries fits.digests;
      pins = λ c id. rw (skip (gives_pin c id) past e refl, how_many-push (is_release c id) past e, found id) (omega (arith, fits.pins c id, pins-released c id i c0 (find_id id s.entries) (λ (same : id ≡ i). rw same (has_pin-found c0 i s.entries fits.rising has))));
      runs = λ id x is_x. latest_run-push id past e ∙ larger_none (latest_run id past) ∙ used-released (id == i) c0 (find_id id s.entries) x (latest_run id past) (λ y h. fits.runs id y h) (sym (found id) ∙ is_x);
      unused = λ id le. latest_run-push id past e ∙ larger_none (latest_run id past) ∙ fits.unused id le;
      once = λ id. rw (skip (stores_id id) past e refl) (fits.once id);
      fresh = λ id le. skip (stores_id id) past e refl ∙ fits.fresh id le;
      gone = λ id d h. elim (fits.gone id d (sym (or_false (list_any (stores id d) past)) ∙ (sym (list_any-push (stores id d) past e) ∙ h))) [ inl was ↦ inl (live-at_id i f (λ _. refl) (λ _. refl) id d s.entries was) | inr gone ↦ inr (taken_before past s t e fits is id gone) ];
      taken = λ id h. elim (taken_cases past s t e fits is id h) [ inl before ↦ (found id ∙ none-at_id i f (λ _. refl) (λ _. refl) (id == i) (find_id id s.entries) (fits.taken id before).0, (fits.taken id before).1) | inr now ↦ absurd (never now) ];
      made = λ id x is_x. list_any-push (stores id x.digest) past e ∙ first_true _ _ (made-at_id i f (λ _. refl) (λ _. refl) (λ d. list_any (stores id d) past ≡ true) (id == i) (find_id id s.entries) x (λ y h. fits.made id y h) (sym (found id) ∙ is_x));
    }

-- -- store
not_true : (b : Bool) → not b ≡ true → b ≡ false
not_true true h = cc
not_true false h = refl

found-append : (id : ℕ) (es : List CoreEntry) (new : CoreEntry) → find_id new.id es ≡ None → find_id id (es ++ new ∷ []) ≡ cond (new.id == id) (Some new) (find_id id es)
found-append id es new none = append_case (find_id id es) refl (new.id == id) refl
  where
    append_case : (o : Option CoreEntry) → find_id id es ≡ o → (b : Bool) → (new.id == id) ≡ b → find_id id (es ++ new ∷ []) ≡ cond b (Some new) o
    append_case None is true same = find_id-append id es new is ∙ rw same refl
    append_case None is false same = find_id-append id es new is ∙ rw same refl
    append_case (Some x) is true same = let eq : new.id ≡ id = grind (arith, nat_tests) in let both : None ≡ Some x = sym none ∙ (ap (λ j. find_id j es) eq ∙ is) in cc
    append_case (Some x) is false same = find_id-append_found id es new x is

pins-stored : (c id n c0 : ℕ) (run : ℕ) (d : List ℕ) (o : Option CoreEntry) → (n ≡ id → o ≡ None) → pins_in c (cond (n == id) (Some (stored c0 run n d)) o) ≡ pins_in c o + cond ((c0 == c) && (n == id)) 1 0
pins-stored c id n c0 run d None none = grind (arith, nat_tests)
pins-stored c id n c0 run d (Some x) none = let apart : n ≡ id → ⊥ = λ same. (let h : Some x ≡ None = none same in cc) in grind (arith, nat_tests, apart)

some_is : (b : Bool) (new x : CoreEntry) (o : Option CoreEntry) (P : CoreEntry → Type 0) → (b ≡ true → P new) → ((y : CoreEntry) → o ≡ Some y → P y) → cond b (Some new) o ≡ Some x → P x
some_is true new x o P a h is = subst P (let same : new ≡ x = cc in same) (a refl)
some_is false new x o P a h is = h x is

bytes_eq_refl : (d : List ℕ) → bytes_eq d d ≡ true
bytes_eq_refl d = nat_list_eq_equiv.refl d

Fits-store : (past : List Event) (s : CoreState) (c0 run : ℕ) (d : List ℕ) (n : ℕ) → (not (has_digest d s.entries) && (n == s.next) && nat_lt s.next (2 ^ 64 - 1)) ≡ true → Fits past s → Fits (past ++ Keep c0 run d (Stored n) ∷ []) (record { entries = s.entries ++ stored c0 run n d ∷ []; next = s.next + 1 })
Fits-store past s c0 run d n test fits =
    let e : Event = Keep c0 run d (Stored n) in
    let new : CoreEntry = stored c0 run n d in
    let t : CoreState = record { entries = s.entries ++ stored c0 run n d ∷ []; next = s.next + 1 } in
    let is : after_event s e ≡ Some t = ap (λ b. when b t) test in
    let tests = and_true _ _ test in
    let tests0 = and_true _ _ tests.0 in
    let no_digest : has_digest d s.entries ≡ false = not_true _ tests0.0 in
    let is_next : n ≡ s.next = eqb-true n s.next tests0.1 in
    let none : find_id n s.entries ≡ None = find_id-below s.next n s.entries fits.below (omega arith) in
    let found : (id : ℕ) → find_id id (s.entries ++ new ∷ []) ≡ cond (n == id) (Some new) (find_id id s.entries) = λ id. found-append id s.entries new none in
    record {
      replays = next_replayed past s t e fits is;
      rising = RisingIds-append s.entries new fits.rising (subst (λ m. IdsBelow m s.entries) (sym is_next) fits.below);
      below = IdsBelow-append s.next s.entries new fits.below is_next;
      digests = DistinctDigests-append s.entries new fits.digests no_digest;
      pins = λ c id. rw (how_many-push (gives_pin c id) past e, skip (is_release c id) past e refl, found id, pins-stored c id n c0 run d (find_id id s.entries) (λ (same : n ≡ id). ap (λ j. find_id j s.entries) (sym same) ∙ none)) (omega (arith, fits.pins c id));
      runs = λ id x is_x. latest_run-push id past e ∙ some_is (n == id) new x (find_id id s.entries) (λ y. larger (latest_run id past) (cond (n == id) (Some run) None) ≡ Some y.used) (λ same. rw (fits.unused id (grind (arith, nat_tests)), same) refl) (λ y h. rw (fits.runs id y h) (let lt : id < s.next = IdsBelow-found s.next id s.entries y fits.below h in grind (arith, nat_tests))) (sym (found id) ∙ is_x);
      unused = λ id le. latest_run-push id past e ∙ rw (fits.unused id (omega arith)) (unused-pinned id n run (omega arith));
      once = λ id. rw (how_many-push (stores_id id) past e) (grind (arith, nat_tests, fits.once id, fits.fresh id));
      fresh = λ id le. how_many-push (stores_id id) past e ∙ (grind (arith, nat_tests, fits.fresh id));
      gone = λ id q h. elim (either_true _ _ (sym (list_any-push (stores id q) past e) ∙ h)) [
        | inl before ↦ elim (fits.gone id q before) [ inl was ↦ inl (was.0, find_id-append_found id s.entries new was.0 was.1, was.2) | inr gone ↦ inr (taken_before past s t e fits is id gone) ]
        | inr now ↦ inl (new, found id ∙ rw (and_true (n == id) _ now).0 refl, (and_true (n == id) _ now).1)
      ];
      taken = λ id h. elim (taken_cases past s t e fits is id h) [ inl before ↦ (found id ∙ rw (fits.taken id before).0 (let lt : id < s.next = (fits.taken id before).1 in grind (arith, nat_tests)), omega (arith, (fits.taken id before).1)) | inr now ↦ absurd (never now) ];
      made = λ id x is_x. list_any-push (stores id x.digest) past e ∙ some_is (n == id) new x (find_id id s.entries) (λ y. (list_any (stores id y.digest) past || stores id y.digest e) ≡ true) (λ same. second_true (list_any (stores id d) past) _ (rw same (bytes_eq_refl d))) (λ y h. first_true _ _ (fits.made id y h)) (sym (found id) ∙ is_x);
    }

-- -- sweep
pins-kept : (c h : ℕ) (o : Option CoreEntry) → pins_in c (keep_if (λ e. not (is_swept h e)) o) ≡ pins_in c o
pins-kept c h None = refl
pins-kept c h (Some x) = pins_case (is_swept h x) refl
  where
    no_pins : (ps : List ℕ) → (length ps == 0) ≡ true → how_many (λ y. y == c) ps ≡ 0
    no_pins [] is = refl
    no_pins (p ∷ ps) is = absurd (omega (arith, eqb-true (length (p ∷ ps)) 0 is))

    pins_case : (b : Bool) → is_swept h x ≡ b → pins_in c (cond (not b) (Some x) None) ≡ how_many (λ y. y == c) x.pins
    pins_case true is = sym (no_pins x.pins (and_true _ _ is).0)
    pins_case false is = refl

kept_some : (p : CoreEntry → Bool) (o : Option CoreEntry) (x : CoreEntry) → keep_if p o ≡ Some x → o ≡ Some x
kept_some p None x h = h
kept_some p (Some y) x h = elim (p y) as (λ b. cond b (Some y) None ≡ Some x → Some y ≡ Some x) [ true ↦ λ h. h | false ↦ λ h. cc ] h

kept_or_taken : (p : CoreEntry → Bool) (o : Option CoreEntry) (y : CoreEntry) → o ≡ Some y → (keep_if p o ≡ Some y) ⊎ ((is_some o && is_none (keep_if p o)) ≡ true)
kept_or_taken p None y h = cc
kept_or_taken p (Some z) y h = elim (p z) as (λ b. (cond b (Some z) None ≡ Some y) ⊎ (is_none (cond {A = Option CoreEntry} b (Some z) None) ≡ true)) [ true ↦ inl h | false ↦ inr refl ]

is_taken : (p : CoreEntry → Bool) (o : Option CoreEntry) → (is_some o && is_none (keep_if p o)) ≡ true → (is_some o ≡ true) × (keep_if p o ≡ None)
is_taken p None h = cc
is_taken p (Some y) h = (refl, elim (p y) as (λ b. is_none (cond {A = Option CoreEntry} b (Some y) None) ≡ true → cond {A = Option CoreEntry} b (Some y) None ≡ None) [ true ↦ λ h. cc | false ↦ λ h. refl ] h)

Fits-sweep : (past : List Event) (s : CoreState) (c0 h n : ℕ) → (n == length (filter (is_swept h) s.entries)) ≡ true → Fits past s → Fits (past ++ Sweep c0 h n ∷ []) (record s { entries = filter (λ e. not (is_swept h e)) s.entries })
Fits-sweep past s c0 h n test fits =
    let e : Event = Sweep c0 h n in
    let keep : CoreEntry → Bool = λ e. not (is_swept h e) in
    let t : CoreState = record s { entries = filter (λ e. not (is_swept h e)) s.entries } in
    let is : after_event s e ≡ Some t = ap (λ b. when b t) test in
    let found : (id : ℕ) → find_id id (filter keep s.entries) ≡ keep_if keep (find_id id s.entries) = λ id. find_id-filter keep id s.entries fits.rising in
    record {
      replays = next_replayed past s t e fits is;
      rising = RisingIds-filter keep s.entries fits.rising;
      below = IdsBelow-filter keep s.next s.entries fits.below;
      digests = DistinctDigests-filter keep s.entries fits.digests;
      pins = λ c id. rw (skip (gives_pin c id) past e refl, skip (is_release c id) past e refl, found id, pins-kept c h (find_id id s.entries)) (fits.pins c id);
      runs = λ id x is_x. latest_run-push id past e ∙ larger_none (latest_run id past) ∙ fits.runs id x (kept_some keep (find_id id s.entries) x (sym (found id) ∙ is_x));
      unused = λ id le. latest_run-push id past e ∙ larger_none (latest_run id past) ∙ fits.unused id le;
      once = λ id. rw (skip (stores_id id) past e refl) (fits.once id);
      fresh = λ id le. skip (stores_id id) past e refl ∙ fits.fresh id le;
      gone = λ id d any. elim (fits.gone id d (sym (or_false (list_any (stores id d) past)) ∙ (sym (list_any-push (stores id d) past e) ∙ any))) [
        | inl was ↦ elim (kept_or_taken keep (find_id id s.entries) was.0 was.1) [ inl kept ↦ inl (was.0, found id ∙ kept, was.2) | inr now ↦ inr (taken_now past s t e fits is id (ap (λ o. is_some (find_id id s.entries) && is_none o) (found id) ∙ now)) ]
        | inr gone ↦ inr (taken_before past s t e fits is id gone)
      ];
      taken = λ id any. elim (taken_cases past s t e fits is id any) [
        | inl before ↦ (found id ∙ rw (fits.taken id before).0 refl, (fits.taken id before).1)
        | inr now ↦ let both = is_taken keep (find_id id s.entries) (sym (ap (λ o. is_some (find_id id s.entries) && is_none o) (found id)) ∙ now) in (found id ∙ both.1, live_below id s.entries s.next fits.below both.0)
      ];
      made = λ id x is_x. list_any-push (stores id x.digest) past e ∙ first_true _ _ (fits.made id x (kept_some keep (find_id id s.entries) x (sym (found id) ∙ is_x)));
    }

-- -- every legal event
pub Fits-step : (past : List Event) (s t : CoreState) (e : Event) → after_event s e ≡ Some t → Fits past s → Fits (past ++ e ∷ []) t
Fits-step past s t (Look c run d (Hit id)) is fits =
    let w = when_some _ _ _ is in
    let next : CoreState = record s { entries = at_id id (pinned c run) s.entries } in
    subst (Fits (past ++ Look c run d (Hit id) ∷ [])) {x = next} w.1 (Fits-pin past s (Look c run d (Hit id)) c run id (record { gives = λ _ _. refl; releases = λ _ _. refl; run = λ _. refl; stores_none = λ _ _. refl; stores_no_id = λ _. refl }) (live_from_names id d s.entries w.0) (is ∙ ap Some (sym w.1)) fits)
Fits-step past s t (Look c run d Absent) is fits =
    let w = when_some _ _ _ is in
    subst (Fits (past ++ Look c run d Absent ∷ [])) w.1 (Fits-quiet past s (Look c run d Absent) (record { gives = λ _ _. refl; releases = λ _ _. refl; run = λ _. refl; stores_none = λ _ _. refl; stores_no_id = λ _. refl }) (is ∙ ap Some (sym w.1)) fits)
Fits-step past s t (Look c run d (Clash id)) is fits =
    let w = when_some _ _ _ is in
    subst (Fits (past ++ Look c run d (Clash id) ∷ [])) w.1 (Fits-quiet past s (Look c run d (Clash id)) (record { gives = λ _ _. refl; releases = λ _ _. refl; run = λ _. refl; stores_none = λ _ _. refl; stores_no_id = λ _. refl }) (is ∙ ap Some (sym w.1)) fits)
Fits-step past s t (Keep c run d (Stored n)) is fits =
    let w = when_some _ _ _ is in
    subst (Fits (past ++ Keep c run d (Stored n) ∷ [])) w.1 (Fits-store past s c run d n w.0 fits)
Fits-step past s t (Keep c run d (Found id)) is fits =
    let w = when_some _ _ _ is in
    subst (Fits (past ++ Keep c run d (Found id) ∷ [])) w.1 (Fits-pin past s (Keep c run d (Found id)) c run id (record { gives = λ _ _. refl; releases = λ _ _. refl; run = λ _. refl; stores_none = λ _ _. refl; stores_no_id = λ _. refl }) (live_from_names id d s.entries w.0) (is ∙ ap Some (sym w.1)) fits)
Fits-step past s t (Keep c run d (KeepClash id)) is fits =
    let w = when_some _ _ _ is in
    subst (Fits (past ++ Keep c run d (KeepClash id) ∷ [])) w.1 (Fits-quiet past s (Keep c run d (KeepClash id)) (record { gives = λ _ _. refl; releases = λ _ _. refl; run = λ _. refl; stores_none = λ _ _. refl; stores_no_id = λ _. refl }) (is ∙ ap Some (sym w.1)) fits)
Fits-step past s t (Release c id) is fits =
    let w = when_some _ _ _ is in
    subst (Fits (past ++ Release c id ∷ [])) w.1 (Fits-release past s c id w.0 fits)
Fits-step past s t (Sweep c h n) is fits =
    let w = when_some _ _ _ is in
    subst (Fits (past ++ Sweep c h n ∷ [])) w.1 (Fits-sweep past s c h n w.0 fits)

pub Fits-start : Fits [] start
Fits-start = record { replays = refl; rising = tt; below = tt; digests = tt; pins = λ _ _. refl; runs = λ id x h. cc; unused = λ _ _. refl; once = λ _. lit≤ tt; fresh = λ _ _. refl; gone = λ id d h. cc; taken = λ id h. cc; made = λ id x h. cc }

Fits-from : (past events : List Event) (s t : CoreState) → Fits past s → replayed_from s events ≡ Some t → Fits (past ++ events) t
Fits-from past [] s t fits is = subst (Fits (past ++ [])) (some_same s t is) (subst (λ es. Fits es s) (sym (append-nil past)) fits)
Fits-from past (e ∷ events) s t fits is = from_step (after_event s e) refl is (λ u. Fits-from (past ++ e ∷ []) events u t)
  where
    from_step : (o : Option CoreState) → after_event s e ≡ o → option_and_then (λ u. replayed_from u events) o ≡ Some t → ((u : CoreState) → Fits (past ++ e ∷ []) u → replayed_from u events ≡ Some t → Fits ((past ++ e ∷ []) ++ events) t) → Fits (past ++ e ∷ events) t
    from_step None stepped is ih = cc
    from_step (Some u) stepped is ih = subst (λ es. Fits es t) (append_assoc past (e ∷ []) events) (ih u (Fits-step past s u e stepped fits) is)

-- every legal history fits the state that it replays to
pub Fits-replayed : (events : List Event) (s : CoreState) → replayed events ≡ Some s → Fits events s
Fits-replayed events s is = Fits-from [] events start s Fits-start is

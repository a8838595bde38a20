-- How pins stay covered and backed: over one call after another, and in addition to pins that stay.
use Rattle.std.proofs.Common.{◌≡◌, ℕ, ◌+◌, ◌^◌, ◌<◌, ◌≤◌, Bool, true, false, cond, ◌&&◌, ◌||◌, ◌==◌, List, [], ◌∷◌, ◌++◌, length, refl, sym, ap, subst, ◌∙◌, arith, append_assoc, append-nil}
use lib.ListN.{length-set}
use lib.Seq.{get_or-set_same, get_or-set_other}
use Rattle.std.proofs.lemmas.Bool.Decides.{nat_tests}
use Rattle.std.specs.List.{list_any}
use Rattle.memo_core.specs.declared.event.Event.{Event}
use Rattle.memo_core.proofs.Invariant.{second_true}
use Rattle.pin_table.specs.Views.{ShardKnown, CallerView, PinView, nothing}
use Rattle.pin_table.specs.Known.{Gained, Missed, WornOut, AtShard, known_at, held_at}
use Rattle.pin_table.specs.Placing.{shard_at}
use Rattle.pin_table.specs.Covers.{PinName, count, gave, IsGiven, AreGiven, Covered, IsLater, Got, Balanced, Backed, name_of, names_of}
use Rattle.pin_table.proofs.Places.{map-push}

-- What is known of a shard after a call at one.

module _ (Goes : ShardKnown → ShardKnown → Type 0) (s : ℕ) (v w : CallerView) (at : AtShard Goes s v w) where
  pub known-there : known_at s w ≡ at.next
  known-there = ap (known_at s) at.same ∙ get_or-set_same v.shards s at.next nothing at.inside

  pub known-else : (i : ℕ) → (i ≡ s → ⊥) → known_at i w ≡ known_at i v
  known-else i off = ap (known_at i) at.same ∙ get_or-set_other v.shards s i at.next nothing off

  pub goes-there : Goes (known_at s v) (known_at s w)
  goes-there = subst (λ (k : ShardKnown). Goes (known_at s v) k) (sym known-there) at.goes

  -- A fact of each shard, once it is known of the one that changed.
  pub each-shard : (P : ShardKnown → ShardKnown → Type 0) → ((k : ShardKnown) → P k k) → ((k j : ShardKnown) → Goes k j → P k j) → (i : ℕ) → P (known_at i v) (known_at i w)
  each-shard P same goes i = place_case (i == s) refl
    where
      place_case : (b : Bool) → (i == s) ≡ b → P (known_at i v) (known_at i w)
      place_case true is = (let e : s ≡ i = grind (arith, nat_tests) in subst (λ (k : ℕ). P (known_at k v) (known_at k w)) e (goes (known_at s v) (known_at s w) goes-there))
      place_case false is = subst (λ (k : ShardKnown). P (known_at i v) k) (sym (known-else i (λ e. let yes : (i == s) ≡ true = grind (arith, nat_tests) in let both : true ≡ false = sym yes ∙ is in cc))) (same (known_at i v))

  later-at : ((k j : ShardKnown) → Goes k j → ((gain : List Event) × (j.seen ≡ k.seen ++ gain)) × ((gain : List Event) × (j.mine ≡ k.mine ++ gain)) × (j.shown ≡ 0 → k.shown ≡ 0) × (2 ^ 62 ≤ k.shown → 2 ^ 62 ≤ j.shown)) → IsLater v w
  later-at goes = record {
    locks = ap (λ (c : CallerView). c.locks) at.same;
    number = ap (λ (c : CallerView). c.number) at.same;
    count = ap (λ (c : CallerView). length c.shards) at.same ∙ length-set v.shards s at.next;
    seen = each-shard (λ k j. (gain : List Event) × (j.seen ≡ k.seen ++ gain)) (λ k. ([], sym (append-nil k.seen))) (λ k j h. (goes k j h).0);
    mine = each-shard (λ k j. (gain : List Event) × (j.mine ≡ k.mine ++ gain)) (λ k. ([], sym (append-nil k.mine))) (λ k j h. (goes k j h).1);
    shown = each-shard (λ k j. j.shown ≡ 0 → k.shown ≡ 0) (λ k h. h) (λ k j h. (goes k j h).2);
    worn = each-shard (λ k j. 2 ^ 62 ≤ k.shown → 2 ^ 62 ≤ j.shown) (λ k h. h) (λ k j h. (goes k j h).3);
  }

pub later-gained : (n s : ℕ) (e : Event) (v w : CallerView) → AtShard (Gained n e) s v w → IsLater v w
later-gained n s e v w at = later-at (Gained n e) s v w at (λ k j g. ((g.between ++ e ∷ [], g.seen ∙ append_assoc k.seen g.between (e ∷ [])), (e ∷ [], g.mine), (λ h. sym g.shown ∙ h), λ h. subst (λ (n : ℕ). 2 ^ 62 ≤ n) (sym g.shown) h))

pub later-missed : (n s : ℕ) (v w : CallerView) → AtShard (Missed n) s v w → IsLater v w
later-missed n s v w at = later-at (Missed n) s v w at (λ k j g. ((g.between, g.seen), ([], g.mine ∙ sym (append-nil k.mine)), (λ h. sym g.shown ∙ h), λ h. subst (λ (n : ℕ). 2 ^ 62 ≤ n) (sym g.shown) h))

pub later-worn : (ticket s : ℕ) (v w : CallerView) → AtShard (WornOut ticket) s v w → IsLater v w
later-worn ticket s v w at = later-at (WornOut ticket) s v w at (λ k j g. (([], g.seen ∙ sym (append-nil k.seen)), ([], g.mine ∙ sym (append-nil k.mine)), (λ h. absurd (let a = g.limit in let b = g.shown in omega (arith, a, b, h))), λ h. subst (λ (n : ℕ). 2 ^ 62 ≤ n) (sym g.shown) g.limit))

pub later-same : (v : CallerView) → IsLater v v
later-same v = record { locks = refl; number = refl; count = refl; seen = λ s. ([], sym (append-nil (known_at s v).seen)); mine = λ s. ([], sym (append-nil (known_at s v).mine)); shown = λ s h. h; worn = λ s h. h }

pub later-then : (u v w : CallerView) → IsLater u v → IsLater v w → IsLater u w
later-then u v w a b = record {
  locks = b.locks ∙ a.locks;
  number = b.number ∙ a.number;
  count = b.count ∙ a.count;
  seen = λ s. ((a.seen s).0 ++ (b.seen s).0, (b.seen s).1 ∙ (ap (λ es. es ++ (b.seen s).0) (a.seen s).1 ∙ append_assoc (known_at s u).seen (a.seen s).0 (b.seen s).0));
  mine = λ s. ((a.mine s).0 ++ (b.mine s).0, (b.mine s).1 ∙ (ap (λ es. es ++ (b.mine s).0) (a.mine s).1 ∙ append_assoc (known_at s u).mine (a.mine s).0 (b.mine s).0));
  shown = λ s h. a.shown s (b.shown s h);
  worn = λ s h. b.worn s (a.worn s h);
}

-- Lists of pins.

pub count-append : (s id : ℕ) (ps qs : List PinName) → count s id (ps ++ qs) ≡ count s id ps + count s id qs
count-append s id [] qs = omega arith
count-append s id (p ∷ ps) qs = let h = count-append s id ps qs in omega (arith, h)

-- Counts depend on nothing but the order's choice.
pub count-swap : (s id : ℕ) (ps qs : List PinName) → count s id (ps ++ qs) ≡ count s id (qs ++ ps)
count-swap s id ps qs = let a = count-append s id ps qs in let b = count-append s id qs ps in omega (arith, a, b)

-- A balance.

-- One call after another.
pub balanced-then : (u v w : CallerView) (ps qs rs : List PinName) → Balanced u ps v qs → Balanced v qs w rs → Balanced u ps w rs
balanced-then u v w ps qs rs a b = record {
  later = later-then u v w a.later b.later;
  least = λ s id. let x = a.least s id in let y = b.least s id in omega (arith, x, y);
  exact = λ s shown id. let x = a.exact s (b.later.shown s shown) id in let y = b.exact s shown id in omega (arith, x, y);
}

-- In addition to pins that stay.
pub balanced-beside : (v w : CallerView) (os ps qs : List PinName) → Balanced v ps w qs → Balanced v (os ++ ps) w (os ++ qs)
balanced-beside v w os ps qs a = record {
  later = a.later;
  least = λ s id. let x = a.least s id in let y = count-append s id os ps in let z = count-append s id os qs in omega (arith, x, y, z);
  exact = λ s shown id. let x = a.exact s shown id in let y = count-append s id os ps in let z = count-append s id os qs in omega (arith, x, y, z);
}

-- Before pins that stay where they are.
pub balanced-before : (v w : CallerView) (os ps qs : List PinName) → Balanced v ps w qs → Balanced v (ps ++ os) w (qs ++ os)
balanced-before v w os ps qs a = record {
  later = a.later;
  least = λ s id. let x = a.least s id in let y = count-append s id ps os in let z = count-append s id qs os in omega (arith, x, y, z);
  exact = λ s shown id. let x = a.exact s shown id in let y = count-append s id ps os in let z = count-append s id qs os in omega (arith, x, y, z);
}

pub balanced-same : (v : CallerView) (ps : List PinName) → Balanced v ps v ps
balanced-same v ps = record { later = later-same v; least = λ s id. omega arith; exact = λ s _ id. refl }

-- The same pins in another order.
pub balanced-order : (v w : CallerView) (ps qs rs : List PinName) → ((s id : ℕ) → count s id qs ≡ count s id rs) → Balanced v ps w qs → Balanced v ps w rs
balanced-order v w ps qs rs same a = record {
  later = a.later;
  least = λ s id. let x = a.least s id in let y = same s id in omega (arith, x, y);
  exact = λ s shown id. let x = a.exact s shown id in let y = same s id in omega (arith, x, y);
}

-- The same pins in another order before.
pub balanced-from : (v w : CallerView) (ps qs rs : List PinName) → ((s id : ℕ) → count s id ps ≡ count s id qs) → Balanced v qs w rs → Balanced v ps w rs
balanced-from v w ps qs rs same a = record {
  later = a.later;
  least = λ s id. let x = a.least s id in let y = same s id in omega (arith, x, y);
  exact = λ s shown id. let x = a.exact s shown id in let y = same s id in omega (arith, x, y);
}

-- Pins that were got.

-- One call after another.
pub got-then : (u v w : CallerView) (ps qs : List PinName) → Got u ps v → Got v qs w → Got u (ps ++ qs) w
got-then u v w ps qs a b = record {
  later = later-then u v w a.later b.later;
  held = λ s id. let x = a.held s id in let y = b.held s id in let z = count-append s id ps qs in omega (arith, x, y, z);
}

pub got-same : (v : CallerView) → Got v [] v
got-same v = record { later = later-same v; held = λ s id. omega arith }

-- The same pins in another order.
pub got-order : (v w : CallerView) (ps qs : List PinName) → ((s id : ℕ) → count s id ps ≡ count s id qs) → Got v ps w → Got v qs w
got-order v w ps qs same a = record { later = a.later; held = λ s id. let x = a.held s id in let y = same s id in omega (arith, x, y) }

-- New pins are in addition to those before.
pub got-balanced : (v w : CallerView) (ps qs : List PinName) → Got v qs w → Balanced v ps w (ps ++ qs)
got-balanced v w ps qs a = record {
  later = a.later;
  least = λ s id. let x = a.held s id in let y = count-append s id ps qs in omega (arith, x, y);
  exact = λ s _ id. let x = a.held s id in let y = count-append s id ps qs in omega (arith, x, y);
}

pub got-nothing : (v w : CallerView) (ps : List PinName) → Got v [] w → Balanced v ps w ps
got-nothing v w ps a = record { later = a.later; least = λ s id. let x = a.held s id in omega (arith, x); exact = λ s _ id. let x = a.held s id in omega (arith, x) }

-- Pins that were given.

pub still-any : (test : Event → Bool) (es gain : List Event) → list_any test es ≡ true → list_any test (es ++ gain) ≡ true
still-any test [] gain h = cc
still-any test (e ∷ es) gain h = elim (test e) as (λ b. (b || list_any test es) ≡ true → (b || list_any test (es ++ gain)) ≡ true) [ true ↦ λ h. refl | false ↦ λ h. still-any test es gain h ] h

pub last-any : (test : Event → Bool) (es : List Event) (e : Event) → test e ≡ true → list_any test (es ++ e ∷ []) ≡ true
last-any test [] e h = rw h refl
last-any test (x ∷ es) e h = second_true (test x) _ (last-any test es e h)

pub given-later : (v w : CallerView) (p : PinName) → IsLater v w → IsGiven v p → IsGiven w p
given-later v w p later h = record {
  caller = h.caller ∙ sym later.number;
  shard = h.shard ∙ ap (λ ls. shard_at p.digest (length ls)) (sym later.locks);
  given = ap (list_any (gave p.id p.digest)) (later.mine p.shard).1 ∙ still-any (gave p.id p.digest) (known_at p.shard v).mine (later.mine p.shard).0 h.given;
}

pub all-given-later : (v w : CallerView) (ps : List PinName) → IsLater v w → AreGiven v ps → AreGiven w ps
all-given-later v w [] later h = tt
all-given-later v w (p ∷ ps) later h = (given-later v w p later h.0, all-given-later v w ps later h.1)

pub given-append : (v : CallerView) (ps qs : List PinName) → AreGiven v ps → AreGiven v qs → AreGiven v (ps ++ qs)
given-append v [] qs a b = b
given-append v (p ∷ ps) qs a b = (a.0, given-append v ps qs a.1 b)

pub given-left : (v : CallerView) (ps qs : List PinName) → AreGiven v (ps ++ qs) → AreGiven v ps
given-left v [] qs h = tt
given-left v (p ∷ ps) qs h = (h.0, given-left v ps qs h.1)

pub given-right : (v : CallerView) (ps qs : List PinName) → AreGiven v (ps ++ qs) → AreGiven v qs
given-right v [] qs h = h
given-right v (p ∷ ps) qs h = given-right v ps qs h.1

-- A cover.

-- A balance keeps a cover, once the new pins are given.
pub covered-then : (v w : CallerView) (ps qs : List PinName) → Covered v ps → Balanced v ps w qs → AreGiven w qs → Covered w qs
covered-then v w ps qs c b given = record { given = given; held = λ s id. let x = b.least s id in let y = c.held s id in omega (arith, x, y) }

pub covered-same : (v w : CallerView) (ps : List PinName) → Covered v ps → Balanced v ps w ps → Covered w ps
covered-same v w ps c b = covered-then v w ps ps c b (all-given-later v w ps b.later c.given)

-- Parts of a cover.
pub covered-left : (v : CallerView) (ps qs : List PinName) → Covered v (ps ++ qs) → Covered v ps
covered-left v ps qs c = record { given = given-left v ps qs c.given; held = λ s id. let x = c.held s id in let y = count-append s id ps qs in omega (arith, x, y) }

pub covered-right : (v : CallerView) (ps qs : List PinName) → Covered v (ps ++ qs) → Covered v qs
covered-right v ps qs c = record { given = given-right v ps qs c.given; held = λ s id. let x = c.held s id in let y = count-append s id ps qs in omega (arith, x, y) }

pub covered-none : (v : CallerView) → Covered v []
covered-none v = record { given = tt; held = λ s id. omega arith }

-- The same pins in another order.
pub covered-order : (v : CallerView) (ps qs : List PinName) → ((s id : ℕ) → count s id ps ≡ count s id qs) → AreGiven v qs → Covered v ps → Covered v qs
covered-order v ps qs same given c = record { given = given; held = λ s id. let x = c.held s id in let y = same s id in omega (arith, x, y) }

-- While some pins become others, a cover of them and of pins that stay is kept.
pub covered-beside : (v w : CallerView) (os ps qs : List PinName) → Covered v (os ++ ps) → Balanced v ps w qs → AreGiven w qs → Covered w (os ++ qs)
covered-beside v w os ps qs c b given = covered-then v w (os ++ ps) (os ++ qs) c (balanced-beside v w os ps qs b) (given-append w os qs (all-given-later v w os b.later (given-left v os ps c.given)) given)

-- The last pins are given up.
pub less-balanced : (v w : CallerView) (os ps : List PinName) → Balanced v ps w [] → Balanced v (os ++ ps) w os
less-balanced v w os ps b = subst (λ (qs : List PinName). Balanced v (os ++ ps) w qs) (append-nil os) (balanced-beside v w os ps [] b)

pub less-covered : (v w : CallerView) (os ps : List PinName) → Covered v (os ++ ps) → Balanced v ps w [] → Covered w os
less-covered v w os ps c b = subst (Covered w) (append-nil os) (covered-beside v w os ps [] c b tt)

-- A covered pin is held.
pub covered-held : (v : CallerView) (p : PinName) (ps : List PinName) → Covered v (p ∷ ps) → 0 < held_at p.shard p.id v
covered-held v p ps c =
    let h = c.held p.shard p.id in
    let here : ((p.shard == p.shard) && (p.id == p.id)) ≡ true = both_same p.shard p.id in
    let one : ◌≡◌ {A = ℕ} (cond ((p.shard == p.shard) && (p.id == p.id)) 1 0) 1 = ap (λ (b : Bool). cond {A = ℕ} b 1 0) here in
    omega (arith, h, one)
  where
    both_same : (s id : ℕ) → ((s == s) && (id == id)) ≡ true
    both_same s id = let a : (s == s) ≡ true = grind (arith, nat_tests) in let b : (id == id) ≡ true = grind (arith, nat_tests) in rw (a, b) refl

-- Backed pins.

-- A balance keeps pins backed, once the new pins are given.
pub backed-then : (v w : CallerView) (ps qs : List PinName) → Backed v ps → Balanced v ps w qs → AreGiven w qs → Backed w qs
backed-then v w ps qs b bal given = record {
  covered = covered-then v w ps qs b.covered bal given;
  exact = λ s shown id. let x = bal.exact s shown id in let y = b.exact s (bal.later.shown s shown) id in omega (arith, x, y);
}

-- The same pins in another order.
pub backed-order : (v : CallerView) (ps qs : List PinName) → ((s id : ℕ) → count s id ps ≡ count s id qs) → AreGiven v qs → Backed v ps → Backed v qs
backed-order v ps qs same given b = record {
  covered = covered-order v ps qs same given b.covered;
  exact = λ s shown id. b.exact s shown id ∙ same s id;
}

-- New pins are backed in addition to those before.
pub backed-got : (v w : CallerView) (ps qs : List PinName) → Backed v ps → Got v qs w → AreGiven w qs → Backed w (ps ++ qs)
backed-got v w ps qs b a given = backed-then v w ps (ps ++ qs) b (got-balanced v w ps qs a) (given-append w ps qs (all-given-later v w ps a.later b.covered.given) given)

-- A caller that holds nothing backs nothing.
pub backed-none : (v : CallerView) → ((s id : ℕ) → held_at s id v ≡ 0) → Backed v []
backed-none v none = record { covered = covered-none v; exact = λ s shown id. none s id }

-- Pins in a list that grows and shrinks at its end.
module _ {I O : Type 0} (digest_of : I → List ℕ) where
  pub names-push : (qs rs : List (PinView I O)) (p : PinView I O) → qs ≡ rs ++ p ∷ [] → names_of digest_of qs ≡ names_of digest_of rs ++ name_of digest_of p ∷ []
  names-push qs rs p is = ap (names_of digest_of) is ∙ map-push (name_of digest_of) rs p

  module _ (w : CallerView) where
    pub covered-push : (ps qs rs : List (PinView I O)) (p : PinView I O) → qs ≡ rs ++ p ∷ [] → rs ≡ ps → Covered w (names_of digest_of ps ++ name_of digest_of p ∷ []) → Covered w (names_of digest_of qs)
    covered-push ps qs rs p is same h = subst (Covered w) (sym (names-push qs rs p is ∙ ap (λ (xs : List (PinView I O)). names_of digest_of xs ++ name_of digest_of p ∷ []) same)) h

    pub covered-kept : (ps rs : List (PinView I O)) → rs ≡ ps → Covered w (names_of digest_of ps ++ []) → Covered w (names_of digest_of rs)
    covered-kept ps rs same h = subst (Covered w) (append-nil (names_of digest_of ps) ∙ ap (names_of digest_of) (sym same)) h

    pub covered-pop : (ps rs : List (PinView I O)) (p : PinView I O) → ps ≡ rs ++ p ∷ [] → Covered w (names_of digest_of ps) → Covered w (names_of digest_of rs ++ name_of digest_of p ∷ [])
    covered-pop ps rs p is h = subst (Covered w) (names-push ps rs p is) h

-- How the pins of a lane stay backed, and what the caller then holds.
use Rattle.std.proofs.Common.{◌≡◌, ℕ, zero, suc, ◌+◌, ◌<◌, ◌≤◌, ◌⊎◌, inl, inr, ⊎_elim, nat_lt, Bool, true, false, cond, ◌&&◌, ◌||◌, ◌==◌, List, [], ◌∷◌, ◌++◌, length, refl, sym, ap, subst, ◌∙◌, arith, append-nil, slice_get, Some}
use Rattle.std.specs.List.{list_any, All, IsAmong}
use Rattle.std.specs.List.Sorted.{IsPermutation}
use Rattle.std.specs.Str.{bytes_eq}
use Rattle.std.proofs.lemmas.Bool.Decides.{nat_tests}
use Rattle.std.proofs.lemmas.Cmp.{nat_list_eq_equiv}
use Rattle.std.proofs.lemmas.List.{get_or_past}
use Rattle.std.proofs.lemmas.List.Elements.{All-nil, All-cons, All-head, All-tail}
use Rattle.memo_core.specs.declared.event.Event.{Event}
use Rattle.memo_core.specs.declared.event.Event.TheVariants.{Look, Keep, Release, Sweep}
use Rattle.memo_core.specs.History.{held, how_many, gives_pin, is_release, says}
use Rattle.memo_core.proofs.Invariant.{and_true}
use Rattle.memo_server.specs.Callers.{gives, frees}
use Rattle.atomic_table.specs.Seated.{TableId}
use Rattle.pin_table.specs.Views.{ShardKnown, CallerView, nothing, newcomer}
use Rattle.pin_table.specs.Ends.{AreNewcomers}
use Rattle.pin_table.specs.Known.{CallerFits, known_at, held_at, IsWorn}
use Rattle.pin_table.specs.Covers.{PinName, is_on, count, gave, IsGiven, AreGiven, Covered, IsLater, Got, Balanced, Backed}
use Rattle.pin_table.specs.OwnEvents.{gain_at}
use Rattle.pin_table.proofs.Places.{at-get}
use Rattle.pin_table.proofs.OwnEvents.{gain-is, any-weaker}
use Rattle.pin_table.proofs.Knowing.{one-digest}
use Rattle.pin_table.proofs.Covering.{covered-order, covered-then, covered-right, count-append, count-swap, given-append, given-left, given-right, all-given-later, balanced-order, balanced-from, balanced-same, balanced-before, balanced-then, backed-order, backed-then, backed-got, backed-none}
use Rattle.map_tasks.specs.Texts.{TextView, TextFits, AreSound, pins_in, digest_of_input}
use Rattle.map_tasks.specs.Table.{SplitsPins}
use Rattle.map_tasks.specs.Lanes.{BelongsToText, HoldsOnce}
use Rattle.map_tasks.proofs.Pins.{count-moved, given-moved}

-- Texts in another order keep pins backed.
pub backed-moved : (v : CallerView) (es fs : List TextView) (ps : List PinName) → IsPermutation es fs → Backed v (pins_in es ++ ps) → Backed v (pins_in fs ++ ps)
backed-moved v es fs ps moved b =
    backed-order v (pins_in es ++ ps) (pins_in fs ++ ps)
    (λ s id. let a = count-append s id (pins_in es) ps in let c = count-append s id (pins_in fs) ps in let m = count-moved s id es fs moved in omega (arith, a, c, m))
    (given-append v (pins_in fs) ps (given-moved v es fs moved (given-left v (pins_in es) ps b.covered.given)) (given-right v (pins_in es) ps b.covered.given)) b

-- A change of a text's numbers keeps its pins.
pub backed-changed : (v : CallerView) (es fs rest : List TextView) (e f : TextView) (ps : List PinName) → f.pins ≡ e.pins → IsPermutation es (e ∷ rest) → IsPermutation fs (f ∷ rest) → IsPermutation (f ∷ rest) fs → Backed v (pins_in es ++ ps) → Backed v (pins_in fs ++ ps)
backed-changed v es fs rest e f ps same before after back b =
    backed-moved v (f ∷ rest) fs ps back
    (subst (λ (qs : List PinName). Backed v ((qs ++ pins_in rest) ++ ps)) (sym same) (backed-moved v es (e ∷ rest) ps before b))

-- One text's notes made final.

-- Its pins stay, if the text stays.
pub pins-kept : (c : CallerView) (es fs rest : List TextView) (e f : TextView) → f.pins ≡ e.pins → IsPermutation es (e ∷ rest) → IsPermutation fs (f ∷ rest) → IsPermutation (f ∷ rest) fs → Covered c (pins_in es) → Balanced c (pins_in es) c (pins_in fs) × Covered c (pins_in fs)
pins-kept c es fs rest e f still before after back covered =
    let one : (s id : ℕ) → count s id (pins_in (e ∷ rest)) ≡ count s id (pins_in (f ∷ rest)) = (λ s id. ap (λ (ps : List PinName). count s id (ps ++ pins_in rest)) (sym still)) in
    let same : (s id : ℕ) → count s id (pins_in es) ≡ count s id (pins_in fs) = (λ s id. count-moved s id es (e ∷ rest) before ∙ (one s id ∙ sym (count-moved s id fs (f ∷ rest) after))) in
    let given : AreGiven c (pins_in fs) = given-moved c (f ∷ rest) fs back (subst (λ (ps : List PinName). AreGiven c (ps ++ pins_in rest)) (sym still) (given-moved c es (e ∷ rest) before covered.given)) in
    (balanced-order c c (pins_in es) (pins_in es) (pins_in fs) same (balanced-same c (pins_in es)), covered-order c (pins_in es) (pins_in fs) same given covered)

-- If it is removed, its pins are given up, or it had none.
module _ (v w : CallerView) (es fs : List TextView) (e : TextView) (before : IsPermutation es (e ∷ fs)) (covered : Covered v (pins_in es)) where
  pub apart : Covered v (e.pins ++ pins_in fs)
  apart = covered-order v (pins_in es) (e.pins ++ pins_in fs) (λ s id. count-moved s id es (e ∷ fs) before) (given-moved v es (e ∷ fs) before covered.given) covered

  pub pins-gone : Balanced v (e.pins ++ pins_in fs) w (pins_in fs) → Balanced v (pins_in es) w (pins_in fs) × Covered w (pins_in fs)
  pins-gone b =
      let a : Balanced v (pins_in es) w (pins_in fs) = balanced-from v w (pins_in es) (e.pins ++ pins_in fs) (pins_in fs) (λ s id. count-moved s id es (e ∷ fs) before) b in
      (a, covered-then v w (pins_in es) (pins_in fs) covered a (all-given-later v w (pins_in fs) b.later (given-right v e.pins (pins_in fs) apart.given)))

-- All notes made final, and the spare pins given up.
module _ (u v : CallerView) (ps qs ss : List PinName) (backed : Backed u (ps ++ ss)) (balanced : Balanced u ps v qs) (covered : Covered v qs) where
  both : Balanced u (ps ++ ss) v (qs ++ ss)
  both = balanced-before u v ss ps qs balanced

  pub spare-covered : Covered v ss
  spare-covered = covered-right v qs ss (covered-then u v (ps ++ ss) (qs ++ ss) backed.covered both (given-append v qs ss covered.given (all-given-later u v ss balanced.later (given-right u ps ss backed.covered.given))))

  pub finished-pins : (w : CallerView) → ((rs : List PinName) → Balanced v (ss ++ rs) w rs) → Balanced u (ps ++ ss) w qs × Backed w qs
  finished-pins w up =
      let last : Balanced v (qs ++ ss) w qs = balanced-from v w (qs ++ ss) (ss ++ qs) qs (λ s id. count-swap s id qs ss) (up qs) in
      let all : Balanced u (ps ++ ss) w qs = balanced-then u v w (ps ++ ss) (qs ++ ss) qs both last in
      (all, backed-then u w (ps ++ ss) qs backed all (all-given-later v w qs last.later covered.given))

-- A lane that begins.
pub backed-start : (c : CallerView) → ((s : ℕ) → (known_at s c).mine ≡ []) → Backed c []
backed-start c unused = backed-none c (λ s id. ap (held c.number id) (unused s))

-- What a caller holds decreases only by its releases.

pub many-events : (test : Event → Bool) (xs ys : List Event) → how_many test (xs ++ ys) ≡ how_many test xs + how_many test ys
many-events test [] ys = omega arith
many-events test (x ∷ xs) ys = let h = many-events test xs ys in omega (arith, h)

not-release : (n id : ℕ) (e : Event) → frees id e ≡ false → is_release n id e ≡ false
not-release n id (Look who run d answer) h = refl
not-release n id (Keep who run d answer) h = refl
not-release n id (Release who i) h = second_false (who == n) (i == id) h
  where
    second_false : (a b : Bool) → b ≡ false → (a && b) ≡ false
    second_false true b h = h
    second_false false b h = refl
not-release n id (Sweep who horizon dropped) h = refl

none-released : (n id : ℕ) (es : List Event) → list_any (frees id) es ≡ false → how_many (is_release n id) es ≡ 0
none-released n id [] h = refl
none-released n id (e ∷ es) h =
    let first = or_false (frees id e) (list_any (frees id) es) h in
    let a : ◌≡◌ {A = ℕ} (cond (is_release n id e) 1 0) 0 = ap (λ (b : Bool). cond {A = ℕ} b 1 0) (not-release n id e first.0) in
    let b = none-released n id es first.1 in
    omega (arith, a, b)
  where
    or_false : (a b : Bool) → (a || b) ≡ false → (a ≡ false) × (b ≡ false)
    or_false true b h = cc
    or_false false b h = (refl, h)

pub fell-released : (v w : CallerView) → IsLater v w → (s id : ℕ) → held_at s id w < held_at s id v → list_any (frees id) (gain_at s v w) ≡ true
fell-released v w later s id fell = test_case (list_any (frees id) (gain_at s v w)) refl
  where
    test_case : (b : Bool) → list_any (frees id) (gain_at s v w) ≡ b → list_any (frees id) (gain_at s v w) ≡ true
    test_case true is = is
    test_case false is =
        let more = (later.mine s).0 in
        let gain : gain_at s v w ≡ more = gain-is s v w more (later.mine s).1 in
        let none = none-released v.number id more (ap (list_any (frees id)) (sym gain) ∙ is) in
        let mine : held_at s id w ≡ held v.number id ((known_at s v).mine ++ more) = ap (λ (n : ℕ). held n id (known_at s w).mine) later.number ∙ ap (held v.number id) (later.mine s).1 in
        let g = many-events (gives_pin v.number id) (known_at s v).mine more in
        let r = many-events (is_release v.number id) (known_at s v).mine more in
        absurd (omega (arith, fell, mine, none, g, r))

-- A shard was not shown worn, or it was.
pub shown-or-worn : (c : CallerView) → CallerFits c → (s : ℕ) → ((known_at s c).shown ≡ 0) ⊎ IsWorn s c
shown-or-worn c fits s = inside_case (nat_lt s (length c.shards)) refl
  where
    inside_case : (b : Bool) → nat_lt s (length c.shards) ≡ b → ((known_at s c).shown ≡ 0) ⊎ IsWorn s c
    inside_case true is = (fits.each s (known_at s c) (at-get c.shards s nothing (grind (arith, nat_tests)))).shown
    inside_case false is = inl (ap (λ (k : ShardKnown). k.shown) (get_or_past c.shards s nothing (grind (arith, nat_tests))))

pub released-all : (v w : CallerView) (ps qs : List PinName) → Balanced v ps w qs → CallerFits w → (s id : ℕ) → count s id qs < count s id ps → (list_any (frees id) (gain_at s v w) ≡ true) ⊎ IsWorn s w
released-all v w ps qs b fits s id less =
    ⊎_elim (λ (shown : (known_at s w).shown ≡ 0). inl (fell-released v w b.later s id (let x = b.exact s shown id in omega (arith, x, less)))) (λ (worn : IsWorn s w). inr worn) (shown-or-worn w fits s)

-- An id that is held is held once.

on-parts : (s id : ℕ) (p : PinName) → is_on s id p ≡ true → (p.shard ≡ s) × (p.id ≡ id)
on-parts s id p on =
    let both = and_true (p.shard == s) (p.id == id) on in
    let a = both.0 in
    let b = both.1 in
    (grind (arith, nat_tests), grind (arith, nat_tests))

-- The first pin on an id, and what is known of each.
first-on : (P : PinName → Type 0) (s id : ℕ) (ps : List PinName) → All P ps → (count s id ps ≡ 0) ⊎ ((p : PinName) × (is_on s id p ≡ true) × P p)
first-on P s id [] all = inl refl
first-on P s id (p ∷ ps) all = on_case (is_on s id p) refl (first-on P s id ps (All-tail P p ps all))
  where
    on_case : (b : Bool) → is_on s id p ≡ b → (count s id ps ≡ 0) ⊎ ((q : PinName) × (is_on s id q ≡ true) × P q) → (count s id (p ∷ ps) ≡ 0) ⊎ ((q : PinName) × (is_on s id q ≡ true) × P q)
    on_case true is rest = inr (p, is, All-head P p ps all)
    on_case false is rest =
        ⊎_elim (λ (none : count s id ps ≡ 0). inl (let a : ◌≡◌ {A = ℕ} (cond (is_on s id p) 1 0) 0 = ap (λ (b : Bool). cond {A = ℕ} b 1 0) is in omega (arith, a, none))) (λ (q : (q : PinName) × (is_on s id q ≡ true) × P q). inr q) rest

given-all : (c : CallerView) (ps : List PinName) → AreGiven c ps → All (IsGiven c) ps
given-all c [] h = All-nil (IsGiven c)
given-all c (p ∷ ps) h = All-cons (IsGiven c) p ps h.0 (given-all c ps h.1)

-- Pins on one id have one digest, so there are no more of them than pins with the digest.
one-digest-all : (c : CallerView) (s id : ℕ) (p : PinName) → CallerFits c → IsGiven c p → is_on s id p ≡ true → 0 < held_at s id c → (ps : List PinName) → AreGiven c ps → count s id ps ≤ how_many (λ q. bytes_eq p.digest q.digest) ps
one-digest-all c s id p fits given on held [] all = omega arith
one-digest-all c s id p fits given on held (q ∷ ps) all =
    let rest = one-digest-all c s id p fits given on held ps all.1 in
    let first = on_case (is_on s id q) refl in
    omega (arith, rest, first)
  where
    on_case : (b : Bool) → is_on s id q ≡ b → ◌≤◌ (cond b 1 0) (cond (bytes_eq p.digest q.digest) 1 0)
    on_case false is = omega arith
    on_case true is =
        let at_p = on-parts s id p on in
        let at_q = on-parts s id q is in
        let same : p.digest ≡ q.digest = one-digest c p q fits given all.0 (at_p.0 ∙ sym at_q.0) (at_p.1 ∙ sym at_q.1) (subst (λ (i : ℕ). 0 < held_at i p.id c) (sym at_p.0) (subst (λ (i : ℕ). 0 < held_at s i c) (sym at_p.1) held)) in
        let yes : bytes_eq p.digest q.digest ≡ true = ap (bytes_eq p.digest) (sym same) ∙ nat_list_eq_equiv.refl p.digest in
        let one : ◌≡◌ {A = ℕ} (cond (bytes_eq p.digest q.digest) 1 0) 1 = ap (λ (b : Bool). cond {A = ℕ} b 1 0) yes in
        omega (arith, one)

count-once : (c : CallerView) (s id : ℕ) (ps : List PinName) → CallerFits c → Covered c ps → ((d : List ℕ) → how_many (λ q. bytes_eq d q.digest) ps ≤ 1) → count s id ps ≤ 1
count-once c s id ps fits covered few =
    ⊎_elim (λ (none : count s id ps ≡ 0). let r : count s id ps ≤ 1 = omega (arith, none) in r)
    (λ (f : (p : PinName) × (is_on s id p ≡ true) × IsGiven c p). held_case f (held_at s id c) refl)
    (first-on (IsGiven c) s id ps (given-all c ps covered.given))
  where
    held_case : ((p : PinName) × (is_on s id p ≡ true) × IsGiven c p) → (n : ℕ) → held_at s id c ≡ n → count s id ps ≤ 1
    held_case f zero is = let h = covered.held s id in omega (arith, h, is)
    held_case f (suc n) is =
        let a = one-digest-all c s id f.0 fits f.2 f.1 (omega (arith, is)) ps covered.given in
        let b = few f.0.digest in
        omega (arith, a, b)

-- The text of a pin on an id.
owner : (c : CallerView) (s id : ℕ) (es : List TextView) → All TextFits es → AreGiven c (pins_in es) → 0 < count s id (pins_in es) → BelongsToText s id c es
owner c s id [] fits given some = absurd (omega (arith, some))
owner c s id (e ∷ es) fits given some =
    let named = (All-head TextFits e es fits).named in
    let own = given-left c e.pins (pins_in es) given in
    let total = count-append s id e.pins (pins_in es) in
    ⊎_elim
    (λ (none : count s id e.pins ≡ 0).
    let rest = owner c s id es (All-tail TextFits e es fits) (given-right c e.pins (pins_in es) given) (omega (arith, none, total, some)) in
    let among : IsAmong (e ∷ es) rest.text = (suc rest.among.0, (let i = rest.among.1.0 in omega (arith, i), rest.among.1.1)) in
    record { text = rest.text; among = among; said = rest.said })
    (λ (f : (p : PinName) × (is_on s id p ≡ true) × (IsGiven c p × (p.digest ≡ digest_of_input e.input))).
    let at = on-parts s id f.0 f.1 in
    record {
      text = e;
      among = (0, (omega arith, refl));
      said = subst (λ (d : List ℕ). list_any (says id d) (known_at s c).mine ≡ true) f.2.1
          (subst (λ (i : ℕ). list_any (says i f.0.digest) (known_at s c).mine ≡ true) at.1
          (subst (λ (i : ℕ). list_any (says f.0.id f.0.digest) (known_at i c).mine ≡ true) at.0
          (any-weaker (gave f.0.id f.0.digest) (says f.0.id f.0.digest) (λ x h. (and_true (gives f.0.id x) (says f.0.id f.0.digest x) h).1) (known_at f.0.shard c).mine f.2.0.given)));
    })
    (first-on (λ p. IsGiven c p × (p.digest ≡ digest_of_input e.input)) s id e.pins (all-both e.pins own named))
  where
    all-both : (ps : List PinName) → AreGiven c ps → All (λ p. p.digest ≡ digest_of_input e.input) ps → All (λ p. IsGiven c p × (p.digest ≡ digest_of_input e.input)) ps
    all-both [] own named = All-nil (λ (p : PinName). IsGiven c p × (p.digest ≡ digest_of_input e.input))
    all-both (p ∷ ps) own named = All-cons (λ (p : PinName). IsGiven c p × (p.digest ≡ digest_of_input e.input)) p ps (own.0, All-head (λ (q : PinName). q.digest ≡ digest_of_input e.input) p ps named) (all-both ps own.1 (All-tail (λ (q : PinName). q.digest ≡ digest_of_input e.input) p ps named))

pub holds-once : (c : CallerView) (es : List TextView) → CallerFits c → Backed c (pins_in es) → AreSound es → HoldsOnce c es
holds-once c es fits backed sound = record {
  once = λ s shown id. let a = backed.exact s shown id in let b = count-once c s id (pins_in es) fits backed.covered sound.pinned in omega (arith, a, b);
  owned = λ s shown id some. owner c s id es sound.fits backed.covered.given (let a = backed.exact s shown id in omega (arith, a, some));
}

-- New pins, of which some became a text's and some were left.
pub backed-brought : (v w : CallerView) (ps left : List PinName) (old new : List TextView) (ss : List PinName) → Got v ps w → AreGiven w ps → SplitsPins ps left old new → Backed v (pins_in old ++ ss) → Backed w (pins_in new ++ (ss ++ left))
backed-brought v w ps left old new ss got given splits b =
    let all : Backed w ((pins_in old ++ ss) ++ (splits.own ++ left)) = subst (λ (qs : List PinName). Backed w ((pins_in old ++ ss) ++ qs)) (sym splits.split) (backed-got v w (pins_in old ++ ss) ps b got given) in
    let here : AreGiven w (splits.own ++ left) = subst (AreGiven w) (sym splits.split) given in
    let was = all-given-later v w (pins_in old ++ ss) got.later b.covered.given in
    let ended : Backed w ((pins_in old ++ splits.own) ++ (ss ++ left)) = backed-order w ((pins_in old ++ ss) ++ (splits.own ++ left)) ((pins_in old ++ splits.own) ++ (ss ++ left))
    (λ s id.
    let a = count-append s id (pins_in old ++ ss) (splits.own ++ left) in
    let c = count-append s id (pins_in old) ss in
    let d = count-append s id splits.own left in
    let e = count-append s id (pins_in old ++ splits.own) (ss ++ left) in
    let f = count-append s id (pins_in old) splits.own in
    let h = count-append s id ss left in
    omega (arith, a, c, d, e, f, h))
    (given-append w (pins_in old ++ splits.own) (ss ++ left)
    (given-append w (pins_in old) splits.own (given-left w (pins_in old) ss was) (given-left w splits.own left here))
    (given-append w ss left (given-right w (pins_in old) ss was) (given-right w splits.own left here))) all in
    subst (λ (qs : List PinName). Backed w (qs ++ (ss ++ left))) (sym splits.texts) ended

-- New pins that were all left.
pub backed-left : (v w : CallerView) (ps left : List PinName) (es : List TextView) (ss : List PinName) → Got v ps w → AreGiven w ps → left ≡ ps → Backed v (pins_in es ++ ss) → Backed w (pins_in es ++ (ss ++ left))
backed-left v w ps left es ss got given same b = backed-brought v w ps left es es ss got given (record { own = []; split = same; texts = sym (append-nil (pins_in es)) }) b

-- The callers of a new memo made no call.
none-known : (locks : List TableId) (s : ℕ) → known_at s (newcomer locks 0) ≡ nothing
none-known [] s = refl
none-known (x ∷ locks) zero = refl
none-known (x ∷ locks) (suc s) = none-known locks s

pub newcomers-unused : (locks : List TableId) (cs : List CallerView) → AreNewcomers locks cs → (i : ℕ) (c : CallerView) → slice_get cs i ≡ Some c → (s : ℕ) → (known_at s c).mine ≡ []
newcomers-unused locks cs fresh i c at s = ap (λ (d : CallerView). (known_at s d).mine) (fresh i c at) ∙ ap (λ (k : ShardKnown). k.mine) (none-known locks s)

at-last : (xs ys : List CallerView) (c : CallerView) → slice_get ((xs ++ c ∷ []) ++ ys) (length xs) ≡ Some c
at-last [] ys c = refl
at-last (x ∷ xs) ys c = at-last xs ys c

-- A caller of a new memo, between others.
pub newcomer-among : (locks : List TableId) (cs xs ys : List CallerView) (c : CallerView) → AreNewcomers locks cs → cs ≡ (xs ++ c ∷ []) ++ ys → (c.locks ≡ locks) × ((s : ℕ) → (known_at s c).mine ≡ [])
newcomer-among locks cs xs ys c fresh is =
    let at : slice_get cs (length xs) ≡ Some c = ap (λ (ds : List CallerView). slice_get ds (length xs)) is ∙ at-last xs ys c in
    (ap (λ (d : CallerView). d.locks) (fresh (length xs) c at), newcomers-unused locks cs fresh (length xs) c at)

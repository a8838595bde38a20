-- What each answer changes in what the caller holds, and in the pins that are covered.
use Rattle.std.proofs.Common.{◌≡◌, ℕ, ◌+◌, ◌<◌, Bool, true, false, cond, ◌&&◌, ◌==◌, List, [], ◌∷◌, ◌++◌, length, refl, sym, ap, subst, ◌∙◌, arith, append-nil}
use Rattle.std.proofs.lemmas.Bool.Decides.{nat_tests}
use Rattle.std.proofs.lemmas.Cmp.{nat_list_eq_equiv}
use Rattle.std.specs.List.{list_any}
use Rattle.std.specs.Str.{bytes_eq}
use Rattle.memo_core.specs.declared.event.Event.{Event}
use Rattle.memo_core.specs.declared.event.Event.TheVariants.{Look, Keep, Release, Sweep}
use Rattle.memo_core.specs.declared.event.LookAnswer.TheVariants.{Hit as HitAnswer, Absent as AbsentAnswer, Clash as ClashAnswer}
use Rattle.memo_core.specs.declared.event.KeepAnswer.TheVariants.{Stored as StoredAnswer, Found as FoundAnswer, Clash as KeepClashAnswer}
use Rattle.memo_core.specs.History.{held}
use Rattle.memo_server.specs.Callers.{gives, frees}
use Rattle.pin_table.specs.Views.{ShardKnown, CallerView, PinView, nothing}
use Rattle.pin_table.specs.Known.{KnownFits, CallerFits, Gained, Missed, WornOut, AtShard, known_at, held_at}
use Rattle.pin_table.specs.Placing.{shard_at}
use Rattle.pin_table.specs.Answers.{Looks, Keeps, HitAs, ClashAs, StoredAs, FoundAs, KeepClashAs, Faults}
use Rattle.pin_table.specs.declared.answers.Looked.{Looked}
use Rattle.pin_table.specs.declared.answers.Looked.TheVariants.{Hit, Absent, Clash}
use Rattle.pin_table.specs.declared.answers.Kept.{Kept}
use Rattle.pin_table.specs.declared.answers.Kept.TheVariants.{Stored, Found, Clash as KeepClash}
use Rattle.pin_table.specs.declared.answers.MemoFault.{MemoFault}
use Rattle.pin_table.specs.declared.answers.MemoFault.TheVariants.{Worn, Mem}
use Rattle.pin_table.specs.Covers.{PinName, is_on, count, gave, IsGiven, AreGiven, Covered, Got, Balanced, name_of, looked_pins, kept_pins}
use Rattle.pin_table.proofs.Places.{at-get}
use Rattle.pin_table.proofs.Replies.{at-map}
use Rattle.pin_table.proofs.Holds.{held-follows}
use Rattle.pin_table.proofs.Covering.{goes-there, known-else, each-shard, later-gained, later-missed, later-worn, got-balanced, got-nothing, all-given-later, given-append, given-right, last-any, covered-then, covered-same, covered-right, covered-beside, covered-held}

-- An event's gain at its shard, and none elsewhere.
pub move : (n s : ℕ) (e : Event) (v w : CallerView) → CallerFits v → n ≡ v.number → (at : AtShard (Gained n e) s v w) → (i id : ℕ) → held_at i id w + cond ((s == i) && frees id e) 1 0 ≡ held_at i id v + cond ((s == i) && gives id e) 1 0
move n s e v w fits numbered at i id = place_case (s == i) refl
  where
    number : w.number ≡ v.number
    number = ap (λ (c : CallerView). c.number) at.same

    place_case : (b : Bool) → (s == i) ≡ b → held_at i id w + cond (b && frees id e) 1 0 ≡ held_at i id v + cond (b && gives id e) 1 0
    place_case true is =
        let e_is : s ≡ i = grind (arith, nat_tests) in
        subst (λ (j : ℕ). held_at j id w + cond (frees id e) 1 0 ≡ held_at j id v + cond (gives id e) 1 0) e_is
        (ap (λ (m : ℕ). held m id (known_at s w).mine + cond (frees id e) 1 0) (number ∙ sym numbered)
        ∙ (held-follows n id e (known_at s v) (known_at s w) (subst (λ (m : ℕ). KnownFits m (known_at s v)) (sym numbered) (fits.each s (known_at s v) (at-get v.shards s nothing at.inside))) (goes-there (Gained n e) s v w at)
        ∙ ap (λ (m : ℕ). held m id (known_at s v).mine + cond (gives id e) 1 0) numbered))
    place_case false is =
        let off : i ≡ s → ⊥ = (λ q. let yes : (s == i) ≡ true = grind (arith, nat_tests) in let both : true ≡ false = sym yes ∙ is in cc) in
        ap (λ (m : ℕ). held m id (known_at i w).mine + 0) number ∙ ap (λ (k : ShardKnown). held v.number id k.mine + 0) (known-else (Gained n e) s v w at i off)

nothing_moves : (b c : Bool) → c ≡ false → ◌≡◌ {A = ℕ} (cond (b && c) 1 0) 0
nothing_moves true c is = ap (λ (x : Bool). cond {A = ℕ} x 1 0) is
nothing_moves false c is = refl

-- A turn of the caller's that moves no pin.
pub got-quiet : (n s : ℕ) (e : Event) (v w : CallerView) → CallerFits v → n ≡ v.number → ((id : ℕ) → gives id e ≡ false) → ((id : ℕ) → frees id e ≡ false) → AtShard (Gained n e) s v w → Got v [] w
got-quiet n s e v w fits numbered none free at = record {
  later = later-gained n s e v w at;
  held = λ i id. let x = move n s e v w fits numbered at i id in let a = nothing_moves (s == i) (frees id e) (free id) in let b = nothing_moves (s == i) (gives id e) (none id) in omega (arith, x, a, b);
}

-- A turn of the caller's that gives a pin.
pub got-one : (n : ℕ) (e : Event) (v w : CallerView) (p : PinName) → CallerFits v → n ≡ v.number → ((id : ℕ) → gives id e ≡ (p.id == id)) → ((id : ℕ) → frees id e ≡ false) → AtShard (Gained n e) p.shard v w → Got v (p ∷ []) w
got-one n e v w p fits numbered one free at = record {
  later = later-gained n p.shard e v w at;
  held = λ i id. let x = move n p.shard e v w fits numbered at i id in let a = nothing_moves (p.shard == i) (frees id e) (free id) in let b = ap (λ (c : Bool). cond {A = ℕ} ((p.shard == i) && c) 1 0) (one id) in omega (arith, x, a, b);
}

-- A turn that ran out of memory.
pub got-missed : (n s : ℕ) (v w : CallerView) → AtShard (Missed n) s v w → Got v [] w
got-missed n s v w at = record {
  later = later-missed n s v w at;
  held = λ i id. let x : held_at i id w ≡ held_at i id v = ap (λ (m : ℕ). held m id (known_at i w).mine) (ap (λ (c : CallerView). c.number) at.same) ∙ ap (held v.number id) (each-shard (Missed n) s v w at (λ k j. j.mine ≡ k.mine) (λ k. refl) (λ k j g. g.mine) i) in omega (arith, x);
}

-- A call that found the lock worn.
pub got-worn : (ticket s : ℕ) (v w : CallerView) → AtShard (WornOut ticket) s v w → Got v [] w
got-worn ticket s v w at = record {
  later = later-worn ticket s v w at;
  held = λ i id. let x : held_at i id w ≡ held_at i id v = ap (λ (m : ℕ). held m id (known_at i w).mine) (ap (λ (c : CallerView). c.number) at.same) ∙ ap (held v.number id) (each-shard (WornOut ticket) s v w at (λ k j. j.mine ≡ k.mine) (λ k. refl) (λ k j g. g.mine) i) in omega (arith, x);
}

-- A call that failed.
pub faults-got : (f : MemoFault) (s : ℕ) (v w : CallerView) → Faults f s v w → Got v [] w
faults-got (Worn ticket) s v w at = got-worn ticket s v w at
faults-got Mem s v w at = got-missed v.number s v w at

pub faults : (f : MemoFault) (s : ℕ) (v w : CallerView) (ps : List PinName) → Faults f s v w → Balanced v ps w ps
faults f s v w ps h = got-nothing v w ps (faults-got f s v w h)

-- A sweep.
pub sweeps-got : (s horizon dropped : ℕ) (v w : CallerView) → CallerFits v → AtShard (Gained v.number (Sweep v.number horizon dropped)) s v w → Got v [] w
sweeps-got s horizon dropped v w fits at = got-quiet v.number s (Sweep v.number horizon dropped) v w fits refl (λ id. refl) (λ id. refl) at

pub sweeps : (s horizon dropped : ℕ) (v w : CallerView) (ps : List PinName) → CallerFits v → AtShard (Gained v.number (Sweep v.number horizon dropped)) s v w → Balanced v ps w ps
sweeps s horizon dropped v w ps fits at = got-nothing v w ps (sweeps-got s horizon dropped v w fits at)

-- A release.
pub releases : (v w : CallerView) (p : PinName) (ps : List PinName) → CallerFits v → AtShard (Gained v.number (Release v.number p.id)) p.shard v w → Balanced v (p ∷ ps) w ps
releases v w p ps fits at =
    let h : (i id : ℕ) → held_at i id w + cond (is_on i id p) 1 0 ≡ held_at i id v = (λ i id. let x = move v.number p.shard (Release v.number p.id) v w fits refl at i id in let b = nothing_moves (p.shard == i) false refl in omega (arith, x, b)) in
    record {
      later = later-gained v.number p.shard (Release v.number p.id) v w at;
      least = λ i id. let x = h i id in omega (arith, x);
      exact = λ i _ id. let x = h i id in omega (arith, x);
    }

-- A pin that a worn lock does not release is dropped.
pub lets-go : (ticket : ℕ) (v w : CallerView) (p : PinName) (ps : List PinName) → AtShard (WornOut ticket) p.shard v w → Balanced v (p ∷ ps) w ps
lets-go ticket v w p ps at =
    let got = got-worn ticket p.shard v w at in
    record {
      later = got.later;
      least = λ i id. let x = got.held i id in omega (arith, x);
      exact = λ i shown id. let x = got.held i id in place_case i id shown (omega (arith, x));
    }
  where
    none_there : (known_at p.shard w).shown ≡ 0 → ⊥
    none_there shown = let g = goes-there (WornOut ticket) p.shard v w at in let a = g.limit in let b = g.shown in omega (arith, a, b, shown)

    place_case : (i id : ℕ) → (known_at i w).shown ≡ 0 → held_at i id w ≡ held_at i id v → held_at i id v + count i id ps ≡ held_at i id w + count i id (p ∷ ps)
    place_case i id shown same = on_case (p.shard == i) refl
      where
        on_case : (b : Bool) → (p.shard == i) ≡ b → held_at i id v + count i id ps ≡ held_at i id w + (cond (b && (p.id == id)) 1 0 + count i id ps)
        on_case true is = absurd (let e : i ≡ p.shard = grind (arith, nat_tests) in none_there (subst (λ (j : ℕ). (known_at j w).shown ≡ 0) e shown))
        on_case false is = omega (arith, same)

-- An event that gave the pin leaves it given.
pub given-gained : (n : ℕ) (e : Event) (v w : CallerView) (p : PinName) → n ≡ v.number → AtShard (Gained n e) p.shard v w → p.caller ≡ n → p.shard ≡ shard_at p.digest (length v.locks) → gave p.id p.digest e ≡ true → IsGiven w p
given-gained n e v w p numbered at own place given =
    let later = later-gained n p.shard e v w at in
    record {
      caller = own ∙ (numbered ∙ sym later.number);
      shard = place ∙ ap (λ ls. shard_at p.digest (length ls)) (sym later.locks);
      given = ap (list_any (gave p.id p.digest)) (goes-there (Gained n e) p.shard v w at).mine ∙ last-any (gave p.id p.digest) (known_at p.shard v).mine e given;
    }

pub same-pin : (id : ℕ) (digest : List ℕ) → ((id == id) && ((id == id) && bytes_eq digest digest)) ≡ true
same-pin id digest = let a : (id == id) ≡ true = grind (arith, nat_tests) in rw (a, nat_list_eq_equiv.refl digest) refl

-- What an answer got, and that it was given.
module _ (v w : CallerView) (known : CallerFits v) where
  module _ {I O : Type 0} (digest_of : I → List ℕ) where
    -- The pin of an answer, which is in its shard and was given by its event.
    one-got : (e : Event) (p : PinView I O) (input : I) → p.caller ≡ v.number → p.shard ≡ shard_at (digest_of input) (length v.locks) → p.input ≡ input → ((id : ℕ) → gives id e ≡ (p.id == id)) → ((id : ℕ) → frees id e ≡ false) → gave p.id (digest_of input) e ≡ true → AtShard (Gained v.number e) (shard_at (digest_of input) (length v.locks)) v w
        → Got v (name_of digest_of p ∷ []) w × AreGiven w (name_of digest_of p ∷ [])
    one-got e p input own place same one free given at =
        let there : AtShard (Gained v.number e) p.shard v w = subst (λ (i : ℕ). AtShard (Gained v.number e) i v w) (sym place) at in (
          got-one v.number e v w (name_of digest_of p) known refl one free there,
          (given-gained v.number e v w (name_of digest_of p) refl there own (place ∙ ap (λ (i : I). shard_at (digest_of i) (length v.locks)) (sym same)) (subst (λ (i : I). gave p.id (digest_of i) e ≡ true) (sym same) given), tt),
        )

  -- A call whose answer carries no pin.
  none-got : (e : Event) (s : ℕ) → ((id : ℕ) → gives id e ≡ false) → ((id : ℕ) → frees id e ≡ false) → AtShard (Gained v.number e) s v w → Got v [] w × AreGiven w []
  none-got e s none free at = (got-quiet v.number s e v w known refl none free at, tt)

  module _ {R I O : Type 0} (fits : I → O → Type 0) (digest_of : I → List ℕ) where
    -- A look, whatever it returned.
    pub looks-got : (run : ℕ) (input : I) (a : Looked R I O) → Looks fits digest_of run input a v w → Got v (looked_pins digest_of a) w × AreGiven w (looked_pins digest_of a)
    looks-got run input (Hit p) h =
        let s = shard_at (digest_of input) (length v.locks) in
        one-got digest_of (Look v.number run (digest_of input) (HitAnswer p.id)) p input h.goes.0 h.goes.1 h.goes.2 (λ id. refl) (λ id. refl) (same-pin p.id (digest_of input))
        (at-map (HitAs fits digest_of v.number s run input p) (Gained v.number (Look v.number run (digest_of input) (HitAnswer p.id))) s v w (λ k j t. t.4) h)
    looks-got run input Absent h = none-got (Look v.number run (digest_of input) AbsentAnswer) (shard_at (digest_of input) (length v.locks)) (λ id. refl) (λ id. refl) h
    looks-got run input (Clash e) h =
        let s = shard_at (digest_of input) (length v.locks) in
        none-got (Look v.number run (digest_of input) (ClashAnswer e.id)) s (λ id. refl) (λ id. refl)
        (at-map (ClashAs fits digest_of v.number run input e) (Gained v.number (Look v.number run (digest_of input) (ClashAnswer e.id))) s v w (λ k j t. t.3) h)

    -- A keep, whatever it returned.
    pub keeps-got : (run : ℕ) (input : I) (out : O) (a : Kept R I O) → Keeps fits digest_of run input out a v w → Got v (kept_pins digest_of a) w × AreGiven w (kept_pins digest_of a)
    keeps-got run input out (Stored p) h =
        let s = shard_at (digest_of input) (length v.locks) in
        one-got digest_of (Keep v.number run (digest_of input) (StoredAnswer p.id)) p input h.goes.0 h.goes.1 h.goes.2 (λ id. refl) (λ id. refl) (same-pin p.id (digest_of input))
        (at-map (StoredAs fits digest_of v.number s run input out p) (Gained v.number (Keep v.number run (digest_of input) (StoredAnswer p.id))) s v w (λ k j t. t.4) h)
    keeps-got run input out (Found p) h =
        let s = shard_at (digest_of input) (length v.locks) in
        one-got digest_of (Keep v.number run (digest_of input) (FoundAnswer p.id)) p input h.goes.0 h.goes.1 h.goes.2 (λ id. refl) (λ id. refl) (same-pin p.id (digest_of input))
        (at-map (FoundAs fits digest_of v.number s run input p) (Gained v.number (Keep v.number run (digest_of input) (FoundAnswer p.id))) s v w (λ k j t. t.4) h)
    keeps-got run input out (KeepClash e i o) h =
        let s = shard_at (digest_of input) (length v.locks) in
        none-got (Keep v.number run (digest_of input) (KeepClashAnswer e.id)) s (λ id. refl) (λ id. refl)
        (at-map (KeepClashAs fits digest_of v.number run input out e i o) (Gained v.number (Keep v.number run (digest_of input) (KeepClashAnswer e.id))) s v w (λ k j t. t.5) h)

-- New pins that were given are covered in addition to those before.
pub got-covered : (v w : CallerView) (ps qs : List PinName) → Covered v ps → Got v qs w × AreGiven w qs → Balanced v ps w (ps ++ qs) × Covered w (ps ++ qs)
got-covered v w ps qs covered h =
    let b = got-balanced v w ps qs h.0 in
    (b, covered-then v w ps (ps ++ qs) covered b (given-append w ps qs (all-given-later v w ps b.later covered.given) h.1))

module _ (v w : CallerView) (known : CallerFits v) (ps : List PinName) (covered : Covered v ps) {R I O : Type 0} (fits : I → O → Type 0) (digest_of : I → List ℕ) where
  pub looks : (run : ℕ) (input : I) (a : Looked R I O) → Looks fits digest_of run input a v w → Balanced v ps w (ps ++ looked_pins digest_of a) × Covered w (ps ++ looked_pins digest_of a)
  looks run input a h = got-covered v w ps (looked_pins digest_of a) covered (looks-got v w known fits digest_of run input a h)

  pub keeps : (run : ℕ) (input : I) (out : O) (a : Kept R I O) → Keeps fits digest_of run input out a v w → Balanced v ps w (ps ++ kept_pins digest_of a) × Covered w (ps ++ kept_pins digest_of a)
  keeps run input out a h = got-covered v w ps (kept_pins digest_of a) covered (keeps-got v w known fits digest_of run input out a h)

-- The last pin may be released, and the others then stay covered.
module _ (v w : CallerView) (os : List PinName) (p : PinName) (covered : Covered v (os ++ p ∷ [])) where
  pub last-own : p.caller ≡ v.number
  last-own = (given-right v os (p ∷ []) covered.given).0.caller

  pub last-held : 0 < held_at p.shard p.id v
  last-held = covered-held v p [] (covered-right v os (p ∷ []) covered)

  pub last-released : CallerFits v → AtShard (Gained v.number (Release v.number p.id)) p.shard v w → Covered w os
  last-released fits at = subst (Covered w) (append-nil os) (covered-beside v w os (p ∷ []) [] covered (releases v w p [] fits at) tt)

  pub last-stays : (ticket : ℕ) → AtShard (WornOut ticket) p.shard v w → Covered w (os ++ p ∷ [])
  last-stays ticket at = covered-same v w (os ++ p ∷ []) covered (faults (Worn ticket) p.shard v w (os ++ p ∷ []) at)

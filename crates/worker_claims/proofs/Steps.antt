-- The steps of a claim and of a give keep the rule.
use Rattle.std.proofs.Common.{◌≡◌, ◌≢◌, ℕ, zero, ◌+◌, ◌%◌, ◌^◌, ◌<◌, ◌≤◌, Bool, cond, eq-eqb, ne_eqb, List, [], ◌∷◌, ◌++◌, length, get_or, set, sym, refl, ap, ap₂, ◌∙◌, subst, inl, inr, ⊎_elim, le_refl, arith, length-set}
use Rattle.std.specs.Prelude.{Option, Some, None}
use mathlib.Core.Option.{some, none, some-injective}
use mathlib.Core.Option as maybe
use mathlib.Core.Logic.{dite}
use native.Mathlib.Decide.{ℕ_discrete, dec_lt}
use lib.ListN.{get_elem?}
use Rattle.atomic_table.specs.Table.{State, Me, step, keeps, takes, gives, stepped, Allows, carried_after, rest}
use Rattle.atomic_table.proofs.Lists.{at_set, set_here, set_else}
use Rattle.worker_claims.specs.declared.knowledge.View.{View}
use Rattle.worker_claims.specs.declared.knowledge.Doing.{Doing}
use Rattle.worker_claims.specs.declared.knowledge.Doing.TheVariants.{Spent, Free, HasTask, Ended}
use Rattle.worker_claims.specs.Rule.{Live, one_if, in_hand, comers, at_work, has_given, has, parts, rest_of, InDoing, SeatFits, Claimed, ClaimRule, IsAbove, claimed, gave}
use Rattle.shared_seats.specs.Seats.{total}
use Rattle.worker_claims.specs.Views.{HandView}
use Rattle.worker_claims.specs.Hands.{AllWorked, times, times_by}
use Rattle.shared_seats.proofs.Lists.{at_length, one_of, total_set, total_snoc, total_le, total_append, there, at_second, at_end}
use Rattle.atomic_table.proofs.Lists.{at_longer}

pub one_same : (k n : ℕ) → k ≡ n → one_if k n ≡ 1
one_same k n e = ap (λ (b : Bool). cond b 1 0) (eq-eqb k n e)

-- what is in a list, and at most once
pub times_one : {T : Type 0} (k : ℕ) (given : List (ℕ × T)) (i : ℕ) (t : T) → get_elem? given i ≡ some (k, t) → times k given ≤ 1 → times k given ≡ 1
times_one k given i t at most = let a = one_of (λ (g : ℕ × _). one_if k g.0) given i (k, t) at in let b = one_same k k refl in omega arith

module _ {T : Type 0} (k : ℕ) (all prefix : List (HandView T)) (p : HandView T) (given : List (ℕ × T)) where
  -- one hand leaves the others
  pub times_first : all ≡ prefix ++ p ∷ [] → given ≡ p.given → times k given + times_by k prefix ≡ times_by k all
  times_first e is = let a : times_by k all ≡ times_by k (prefix ++ p ∷ []) = ap (times_by k) e in let b : times k given ≡ times k p.given = ap (times k) is in
      let d = total_snoc (λ (h : HandView T). times k h.given) prefix p in omega arith

  -- and is joined into the first
  pub times_next : (old : List (ℕ × T)) (n : ℕ) → all ≡ prefix ++ p ∷ [] → given ≡ old ++ p.given → times k old + times_by k all ≡ n → times k given + times_by k prefix ≡ n
  times_next old n e is sum = let a : times_by k all ≡ times_by k (prefix ++ p ∷ []) = ap (times_by k) e in let b : times k given ≡ times k (old ++ p.given) = ap (times k) is in
      let d = total_snoc (λ (h : HandView T). times k h.given) prefix p in let f = total_append (λ (g : ℕ × T). one_if k g.0) old p.given in omega arith

pub one_other : (k n : ℕ) → k ≢ n → one_if k n ≡ 0
one_other k n ne = ap (λ (b : Bool). cond b 1 0) (ne_eqb k n ne)

comers_le : (n : ℕ) (d : Doing) → comers n d ≤ n
comers_le n Spent = omega arith
comers_le n Free = omega arith
comers_le n (HasTask k) = omega arith
comers_le n (Ended k) = omega arith

held_same : (a b : ℕ) → HasTask a ≡ HasTask b → a ≡ b
held_same a b e = cc

item_or : {T : Type 0} → T → Option T → T
item_or d None = d
item_or d (Some y) = y

first_or : {T : Type 0} → T → List (ℕ × Option T) → T
unfolding item_or
first_or d [] = d
first_or d (p ∷ ps) = item_or d p.1

pub one_item : {T : Type 0} (x y : T) (j k : ℕ) (l l' : List (ℕ × Option T)) → ◌≡◌ {A = List (ℕ × Option T)} ((j, Some x) ∷ l) ((k, Some y) ∷ l') → x ≡ y
unfolding item_or first_or
one_item x y j k l l' e = ap (first_or x) e

pub cons_rest : {A : Type 0} (c l : List (ℕ × A)) (x : ℕ × A) → c ≡ x ∷ l → c ≡ x ∷ rest c
cons_rest c l x e = e ∙ ap (λ (m : List (ℕ × _)). x ∷ m) (sym (ap rest e))

pub one_more : {T : Type 0} (works : ℕ → T → T → Type 0) (tasks : List T) (given given' : List (ℕ × T)) (n : ℕ) (x y : T) → given' ≡ given ++ (n, y) ∷ [] → AllWorked works tasks given → get_elem? tasks n ≡ some x → works n x y → AllWorked works tasks given'
one_more works tasks given given' n x y e all at does i k t there' = ⊎_elim
    (λ old. all i k t old)
    (λ (_, is). (x, ap (get_elem? tasks) (sym (ap (λ (p : ℕ × _). p.0) is)) ∙ at, subst (λ (p : ℕ × _). works p.0 x p.1) is does))
    (at_end given (n, y) (k, t) i (ap (λ (l : List (ℕ × _)). get_elem? l i) (sym e) ∙ there'))

free_not_held : (k : ℕ) → Free ≡ HasTask k → ⊥
free_not_held k e = cc

module _ {T : Type 0} (tasks : List T) (hands : ℕ) where
  abbrev M : Type 0
  M = Me (Option T) (View T)

  abbrev S : Type 0
  S = State (Option T) (View T)

  abbrev K : S → Type 0
  K = ClaimRule tasks hands

  in_more : (w w' : ℕ) → w ≤ w' → (d : Doing) → InDoing tasks w d → InDoing tasks w' d
  in_more w w' le Spent i = tt
  in_more w w' le Free i = tt
  in_more w w' le (HasTask k) i = (i.0, (let j = i.1 in omega arith))
  in_more w w' le (Ended n) i = (i.0, (let j = i.1 in omega arith))

  pub rest_le : (v : View T) → rest_of v ≤ parts v
  rest_le v = comers_le v.parts v.doing

  -- what a step of the seat id must show, where its view goes from v to w and the word to word
  pub record Owes (s : S) (r : K s) (id : ℕ) (v w : View T) (word : ℕ) (homes : List (maybe.Option (Option T))) : Type 0 where
    pub here : get_elem? s.views id ≡ some v
    pub lives : Live w.doing
    pub tasks_are : w.tasks ≡ v.tasks
    pub parts_are : w.parts ≡ v.parts
    pub doing : InDoing tasks word w.doing
    pub more : r.word ≤ word
    pub slots : length homes ≡ length tasks
    pub few : word + total rest_of s.views + rest_of w ≤ length tasks + hands + rest_of v
    pub fresh : (k : ℕ) (x : T) → word ≤ k → get_elem? tasks k ≡ some x → get_elem? homes k ≡ some (some (Some x))
    pub done : (k : ℕ) → k < word → k < length tasks → Claimed (set s.views id w) homes k
    pub once : (k : ℕ) → total (has k) s.views + has k w ≤ 1 + has k v
    pub unclaimed : (k : ℕ) → word ≤ k → has k w ≡ has k v

  not_spent : (d : Doing) → Live d → d ≡ Spent → ⊥
  not_spent d l e = subst Live e l

  module _ (s : S) (r : K s) (id : ℕ) (v w : View T) (word : ℕ) (homes : List (maybe.Option (Option T))) (live : Live v.doing) (o : Owes s r id v w word homes) where
    pub moved : (words : List ℕ) → words ≡ word ∷ [] → K record { words = words; homes = homes; views = set s.views id w }
    moved words is = record {
      word = word;
      words_are = is;
      limit = r.limit;
      slots = o.slots;
      seats = (λ j u at lv. ⊎_elim
          (λ (e, f). let old = r.seats id v o.here live in subst (SeatFits tasks word) f record { tasks_are = o.tasks_are ∙ old.tasks_are; some_part = subst (λ (n : ℕ). 0 < n) (sym o.parts_are) old.some_part; doing = o.doing })
          (λ (ne, at'). let f = r.seats j u at' lv in record { tasks_are = f.tasks_are; some_part = f.some_part; doing = in_more r.word word o.more u.doing f.doing })
          (at_set s.views id j w u at));
      gone = (λ j u at sp. ⊎_elim (λ (e, f). absurd (not_spent w.doing o.lives (ap (λ (z : View T). z.doing) f ∙ sp))) (λ (ne, at'). r.gone j u at' sp) (at_set s.views id j w u at));
      few = (let a = total_set rest_of s.views id v w o.here in let q = o.few in let m : ℕ = total rest_of (set s.views id w) in let m' : ℕ = total rest_of s.views in omega arith);
      shared = (let a = total_set parts s.views id v w o.here in let e = o.parts_are in let q = r.shared in omega arith);
      fresh = o.fresh;
      done = o.done;
      once = (λ k. let a = total_set (has k) s.views id v w o.here in let q = o.once k in let m : ℕ = total (has k) (set s.views id w) in let m' : ℕ = total (has k) s.views in let x : ℕ = has k v in let y : ℕ = has k w in omega arith);
      unclaimed = (λ k le. let a = total_set (has k) s.views id v w o.here in let q = o.unclaimed k le in let z = r.unclaimed k (let m = o.more in omega arith) in let m : ℕ = total (has k) (set s.views id w) in let m' : ℕ = total (has k) s.views in let x : ℕ = has k v in let y : ℕ = has k w in omega arith);
    }

  -- what was claimed stays claimed: the seat id, which has nothing in hand, has w now, with all that it gave
  stays : (s : S) (id : ℕ) (v w : View T) (homes : List (maybe.Option (Option T))) (k : ℕ) → get_elem? s.views id ≡ some v → Live w.doing → ¬ (v.doing ≡ HasTask k) → ((i : ℕ) (x : ℕ × T) → get_elem? v.given i ≡ some x → get_elem? w.given i ≡ some x)
      → (get_elem? homes k ≡ get_elem? s.homes k) → Claimed s.views s.homes k → Claimed (set s.views id w) homes k
  stays s id v w homes k here live free kept same (inl (j, u, at, is)) =
      inl (j, u, set_else s.views id j w (λ e. free (ap (λ (z : View T). z.doing) (some-injective v u (sym here ∙ (ap (get_elem? s.views) (sym e) ∙ at))) ∙ is)) ∙ at, is)
  stays s id v w homes k here live free kept same (inr (j, u, i, t, at, lv, there', home)) = dite (ℕ_discrete j id)
      (λ e. let is : u ≡ v = some-injective u v (sym at ∙ (ap (get_elem? s.views) e ∙ here)) in
      inr (id, w, i, t, set_here s.views id w (at_length s.views id v here), live, kept i (k, t) (subst (λ (z : View T). get_elem? z.given i ≡ some (k, t)) is there'), same ∙ home))
      (λ ne. inr (j, u, i, t, set_else s.views id j w ne ∙ at, lv, there', same ∙ home))

  word_of : (s : S) (r : K s) → get_or s.words 0 0 ≡ r.word
  word_of s r = ap (λ (l : List ℕ). get_or l 0 0) r.words_are

  -- what a view gave was claimed before
  above : (s : S) (r : K s) (id : ℕ) (v : View T) → get_elem? s.views id ≡ some v → IsAbove v.given r.word
  above s r id v at i k t here = dite (dec_lt k r.word)
      (λ lt. lt)
      (λ ge. let z = r.unclaimed k (omega arith) in let a = one_of (has k) s.views id v at in
      let b = one_of (λ (g : ℕ × T). one_if k g.0) v.given i (k, t) here in let y = one_same k k refl in
      let c : ℕ = total (λ (g : ℕ × T). one_if k g.0) v.given in let d : ℕ = in_hand k v.doing in absurd (omega arith))

  pub claims : (slots id : ℕ) (me : M) → me.0.doing ≡ Free → Allows K slots id me 0 (λ n. (n + 1) % 2 ^ 64) (claimed (step slots 0 1 0 none) me)
  claims slots id me free s r long at _ =
      let v : View T = me.0 in let n : ℕ = get_or s.words 0 0 in let t : ℕ = r.word in let is : n ≡ t = word_of s r in
      let live : Live v.doing = subst Live (sym free) tt in let f = r.seats id v at live in
      let few = r.few in let limit = r.limit in let shared = r.shared in let less = total_le rest_of parts rest_le s.views in
      let next : (n + 1) % 2 ^ 64 ≡ t + 1 = omega arith in
      let words : set s.words 0 ((n + 1) % 2 ^ 64) ≡ (t + 1) ∷ [] = ap₂ (λ (l : List ℕ) (m : ℕ). set l 0 m) r.words_are next in
      let there_rest : rest_of v ≡ v.parts = ap (comers v.parts) free in let some_part = f.some_part in
      let same_length : length v.tasks ≡ length tasks = ap length f.tasks_are in
      let rises : IsAbove v.given n = subst (IsAbove v.given) (sym is) (above s r id v at) in
      dite (dec_lt n (length v.tasks))
      (λ lt. let got = there v.tasks n lt in let x : T = got.0 in let w : View T = at_work (HasTask n) v in
      let at_n : get_elem? tasks n ≡ some x = ap (λ (l : List T). get_elem? l n) (sym f.tasks_are) ∙ got.1 in
      let home : get_elem? s.homes n ≡ some (some (Some x)) = r.fresh n x (omega arith) at_n in
      let hand : (k : ℕ) → has k w ≡ one_if k n + has k v = λ k. let z : in_hand k v.doing ≡ 0 = ap (in_hand k) free in omega arith in
      let o : Owes s r id v w (t + 1) (set s.homes n none) = record {
        here = at;
        lives = tt;
        tasks_are = refl;
        parts_are = refl;
        doing = ((let q = same_length in omega arith), omega arith);
        more = omega arith;
        slots = length-set s.homes n none ∙ r.slots;
        few = (let q = same_length in omega arith);
        fresh = (λ k y le at_k. let ne : k ≢ n = (λ e. omega arith) in set_else s.homes n k none ne ∙ r.fresh k y (omega arith) at_k);
        done = (λ k lo hi. dite (ℕ_discrete k n)
            (λ e. inl (id, w, set_here s.views id w (at_length s.views id v at), ap HasTask (sym e)))
            (λ ne. stays s id v w (set s.homes n none) k at tt (λ h. absurd (free_not_held k (sym free ∙ h))) (λ i y q. q) (set_else s.homes n k none ne) (r.done k (omega arith) hi)));
        once = (λ k. let h = hand k in let q = r.once k in dite (ℕ_discrete k n)
            (λ e. let z = r.unclaimed k (omega arith) in let y = one_same k n e in let a : ℕ = has k w in let b : ℕ = has k v in let c : ℕ = total (has k) s.views in let d : ℕ = one_if k n in omega arith)
            (λ ne. let y = one_other k n ne in let a : ℕ = has k w in let b : ℕ = has k v in let c : ℕ = total (has k) s.views in let d : ℕ = one_if k n in omega arith));
        unclaimed = (λ k le. let h = hand k in let y = one_other k n (λ e. omega arith) in omega arith);
      } in (
        w,
        takes n (Some x),
        home,
        moved s r id v w (t + 1) (set s.homes n none) live o (set s.words 0 ((n + 1) % 2 ^ 64)) words,
        ((λ _. (x, got.1, refl)), (λ ge. absurd (omega arith)), rises),
      ))
      (λ ge. let w : View T = at_work (Ended n) v in
      let hand : (k : ℕ) → has k w ≡ has k v = λ k. let z : in_hand k v.doing ≡ 0 = ap (in_hand k) free in omega arith in
      let o : Owes s r id v w (t + 1) s.homes = record {
        here = at;
        lives = tt;
        tasks_are = refl;
        parts_are = refl;
        doing = ((let q = same_length in omega arith), omega arith);
        more = omega arith;
        slots = r.slots;
        few = omega arith;
        fresh = (λ k y le at_k. r.fresh k y (omega arith) at_k);
        done = (λ k lo hi. stays s id v w s.homes k at tt (λ h. absurd (free_not_held k (sym free ∙ h))) (λ i y q. q) refl (r.done k (let q = same_length in omega arith) hi));
        once = (λ k. let h = hand k in let q = r.once k in let a : ℕ = has k w in let b : ℕ = has k v in let c : ℕ = total (has k) s.views in omega arith);
        unclaimed = (λ k le. hand k);
      } in
      (w, keeps, tt, moved s r id v w (t + 1) s.homes live o (set s.words 0 ((n + 1) % 2 ^ 64)) words, ((λ lt. absurd (ge lt)), (λ _. refl), rises)))

  pub gives_back : (slots id : ℕ) (me : M) (k : ℕ) (t : T) → me.0.doing ≡ HasTask k → me.1 ≡ (k, Some t) ∷ [] → Allows K slots id me 0 (λ n. n) (gave (step slots 0 0 0 none) me)
  gives_back slots id me k t held holds s r long at _ =
      let v : View T = me.0 in let n : ℕ = get_or s.words 0 0 in
      let live : Live v.doing = subst Live (sym held) tt in let f = r.seats id v at live in
      let in_range = subst (InDoing tasks r.word) held f.doing in let i0 = in_range.0 in let i1 = in_range.1 in
      let words : set s.words 0 n ≡ r.word ∷ [] = ap₂ (λ (l : List ℕ) (m : ℕ). set l 0 m) r.words_are (word_of s r) in
      let w : View T = has_given k t v in let homes' : List (maybe.Option (Option T)) = set s.homes k (some (Some t)) in
      let near : k < length s.homes = (let q = r.slots in omega arith) in
      let there_rest : rest_of v ≡ v.parts = ap (comers v.parts) held in
      let hand : (x : ℕ) → has x w ≡ has x v = λ x. let z : in_hand x v.doing ≡ one_if x k = ap (in_hand x) held in let q = total_append (λ (g : ℕ × T). one_if x g.0) v.given ((k, t) ∷ []) in omega arith in
      let o : Owes s r id v w r.word homes' = record {
        here = at;
        lives = tt;
        tasks_are = refl;
        parts_are = refl;
        doing = tt;
        more = le_refl r.word;
        slots = length-set s.homes k (some (Some t)) ∙ r.slots;
        few = (let q = r.few in omega arith);
        fresh = (λ x y le at_x. set_else s.homes k x (some (Some t)) (λ e. omega arith) ∙ r.fresh x y le at_x);
        done = (λ x lo hi. dite (ℕ_discrete x k)
            (λ e. let q = at_second v.given ((k, t) ∷ []) (k, t) zero refl in
            inr (id, w, q.0, t, set_here s.views id w (at_length s.views id v at), tt, q.1 ∙ ap (λ (z : ℕ). some (z, t)) (sym e), ap (get_elem? homes') e ∙ set_here s.homes k (some (Some t)) near))
            (λ ne. stays s id v w homes' x at tt (λ h. ne (sym (held_same k x (sym held ∙ h)))) (λ i y q. at_longer v.given ((k, t) ∷ []) i y q) (set_else s.homes k x (some (Some t)) ne) (r.done x lo hi)));
        once = (λ x. let h = hand x in let q = r.once x in let a : ℕ = has x w in let b : ℕ = has x v in let c : ℕ = total (has x) s.views in omega arith);
        unclaimed = (λ x le. hand x);
      } in (
        w,
        gives,
        tt,
        subst (λ (c : List (ℕ × Option T)). K (stepped s 0 n id c w gives)) (sym holds) (moved s r id v w r.word homes' live o (set s.words 0 n) words),
        λ k' t' held' holds'. let back : carried_after me.1 gives ≡ [] = ap (λ (c : List (ℕ × Option T)). carried_after c gives) holds in
            let same_k : k ≡ k' = held_same k k' (sym held ∙ held') in let same_t : t ≡ t' = one_item t t' _ _ [] [] (sym holds ∙ holds') in
            λ i. (has_given (same_k i) (same_t i) v, back i),
      )

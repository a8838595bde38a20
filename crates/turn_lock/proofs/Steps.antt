-- The steps of a turn keep the rule.
use Rattle.std.proofs.Common.{◌≡◌, ◌≢◌, ℕ, ◌+◌, ◌%◌, ◌^◌, ◌<◌, ◌≤◌, ◌⊎◌, List, [], ◌∷◌, ◌++◌, length, get_or, set, sym, refl, ap, ap₂, ◌∙◌, subst, inl, inr, ⊎_elim, le_refl, arith, length-append, lt_of_not-le}
use Rattle.std.specs.Prelude.{Option, Some, None}
use mathlib.Core.Option.{some, none, some-injective}
use mathlib.Core.Option as maybe
use mathlib.Core.Logic.{dite}
use native.Mathlib.Decide.{ℕ_discrete, dec_le}
use lib.ListN.{get_elem?}
use Rattle.atomic_table.specs.Table.{State, Me, step, keeps, takes, gives, stepped, Allows, carried_after, rest}
use Rattle.atomic_table.proofs.Lists.{set_again}
use Rattle.turn_lock.specs.declared.knowledge.View.{View}
use Rattle.turn_lock.specs.declared.knowledge.Stage.{Stage}
use Rattle.turn_lock.specs.declared.knowledge.Stage.TheVariants.{Spent, Idle, Marked, Drawn, Serving}
use Rattle.turn_lock.specs.Under.{under}
use Rattle.turn_lock.specs.Rule.{Begins, turned_to, after, Live, IsServing, HasDrawn, mark_of, marks, parts, InStage, TurnRule, checked, drew, looked, passed}
use Rattle.shared_seats.specs.Seats.{total}
use Rattle.turn_lock.proofs.Views.{marks_live, begins_refl, begins_more, under-other}
use Rattle.shared_seats.proofs.Lists.{total_set, total_le}
use Rattle.turn_lock.proofs.Moves.{Owes, moved}

item_or : {T : Type 0} → T → Option T → T
item_or d None = d
item_or d (Some y) = y

first_or : {T : Type 0} → T → List (ℕ × Option T) → T
unfolding item_or
first_or d [] = d
first_or d (p ∷ ps) = item_or d p.1

pub one_item : {T : Type 0} (x y : T) (l l' : List (ℕ × Option T)) → ◌≡◌ {A = List (ℕ × Option T)} ((0, Some x) ∷ l) ((0, Some y) ∷ l') → x ≡ y
unfolding item_or first_or
one_item x y l l' e = ap (first_or x) e

module _ {T E : Type 0} (history : T → List E) (whose : E → Option ℕ) (start callers : ℕ) where
  abbrev M : Type 0
  M = Me (Option T) (View E)

  abbrev S : Type 0
  S = State (Option T) (View E)

  abbrev Holds : S → Type 0
  Holds = TurnRule history whose start callers

  -- another seat has P, if this one has not
  other : (P : View E → Type 0) (views : List (View E)) (id : ℕ) (v : View E) → get_elem? views id ≡ some v → ¬ (P v) → ((k : ℕ) × (u : View E) × (get_elem? views k ≡ some u) × P u)
      → (k : ℕ) × (u : View E) × (k ≢ id) × (get_elem? views k ≡ some u) × P u
  other P views id v here not (k, u, at, p) = (k, u, (λ e. not (subst P (some-injective u v (sym at ∙ (ap (get_elem? views) e ∙ here))) p)), at, p)

  word_of : (s : S) (r : Holds s) → get_or s.words 0 0 ≡ r.ticket
  word_of s r = ap (λ (l : List ℕ). get_or l 0 0) r.words_are

  turn_of : (s : S) (r : Holds s) → get_or s.words 1 0 ≡ start + length r.log
  turn_of s r = ap (λ (l : List ℕ). get_or l 1 0) r.words_are

  in_more : (log : List E) (t t' : ℕ) → t ≤ t' → (st : Stage E) → InStage start log t st → InStage start log t' st
  in_more log t t' le Spent i = tt
  in_more log t t' le Idle i = tt
  in_more log t t' le Marked i = tt
  in_more log t t' le (Drawn n) i = (i.0, (let j = i.1 in omega arith))
  in_more log t t' le (Serving n note) i = (i.0, (let j = i.1 in omega arith), i.2)

  drawn_below : (log : List E) (t n : ℕ) (st : Stage E) → InStage start log t st → HasDrawn st n → (start + length log ≤ n) × (n < t)
  drawn_below log t n Spent i d = absurd d
  drawn_below log t n Idle i d = absurd d
  drawn_below log t n Marked i d = absurd d
  drawn_below log t n (Drawn m) i d = subst (λ (z : ℕ). (start + length log ≤ z) × (z < t)) d i
  drawn_below log t n (Serving m note) i d = subst (λ (z : ℕ). (start + length log ≤ z) × (z < t)) d ((let j = i.0 in omega arith), i.1)

  serving_drawn : (log : List E) (t : ℕ) (st : Stage E) → InStage start log t st → IsServing st → HasDrawn st (start + length log)
  serving_drawn log t Spent i d = absurd d
  serving_drawn log t Idle i d = absurd d
  serving_drawn log t Marked i d = absurd d
  serving_drawn log t (Drawn m) i d = absurd d
  serving_drawn log t (Serving m note) i d = i.0

  pub drawn_live : (st : Stage E) (n : ℕ) → HasDrawn st n → Live st
  drawn_live Spent n d = absurd d
  drawn_live Idle n d = absurd d
  drawn_live Marked n d = absurd d
  drawn_live (Drawn m) n d = tt
  drawn_live (Serving m note) n d = tt

  later : (old log : List E) (t : ℕ) (st : Stage E) → length log ≡ length old + 1 → ((m : ℕ) → HasDrawn st m → m ≢ start + length old) → InStage start old t st → InStage start log t st
  later old log t Spent long past i = tt
  later old log t Idle long past i = tt
  later old log t Marked long past i = tt
  later old log t (Drawn n) long past i = let ne : n ≢ start + length old = past n refl in let a = i.0 in (omega arith, i.1)
  later old log t (Serving n note) long past i = absurd (past n refl i.0)

  pub live_serving : (st : Stage E) → IsServing st → Live st
  live_serving Spent d = absurd d
  live_serving Idle d = absurd d
  live_serving Marked d = absurd d
  live_serving (Drawn m) d = absurd d
  live_serving (Serving m note) d = tt

  -- a step that changes only the stage, to one that has drawn nothing and serves nothing, and the number read
  rests : (s : S) (r : Holds s) (id : ℕ) (v : View E) (st : Stage E) (read : ℕ) → get_elem? s.views id ≡ some v → Live v.stage → Live st → ((n : ℕ) → ¬ (HasDrawn v.stage n)) → ((n : ℕ) → ¬ (HasDrawn st n)) → ¬ (IsServing v.stage)
      → InStage start r.log r.ticket st → read ≤ r.ticket → r.ticket + mark_of st + total marks s.views ≤ 2 ^ 62 + callers + mark_of v.stage
      → Owes history whose start callers s r id v (turned_to st read v) r.log r.ticket s.homes
  rests s r id v st read at live live' undrawn undrawn' unserved stage low few =
      let f = r.seats id v at live in record {
        here = at;
        lived = live;
        lives = live';
        callers_is = refl;
        number = refl;
        gives = refl;
        ended = refl;
        own = record { seen = f.own.seen; mine = f.own.mine; same = f.own.same; read = low };
        stage = stage;
        longer = (λ x b. b);
        others = (λ n ne. refl);
        more = le_refl r.ticket;
        behind = r.behind;
        stages = (λ k u ne at' i. i);
        whom = (λ n lo hi. inr (other (λ u. HasDrawn u.stage n) s.views id v at (undrawn n) (r.whom n lo hi)));
        apart = (λ k u n ne at' d d'. undrawn' n d');
        few = few;
        last = inr (refl, refl);
        slot = ⊎_elim (λ h. inl h) (λ (none_home, who). inr (none_home, inr (other (λ u. IsServing u.stage) s.views id v at unserved who))) r.slot;
      }

  pub checks : (slots id : ℕ) (me : M) → me.0.stage ≡ Idle → Allows Holds slots id me 0 (λ n. n) (checked history (step slots 0 0 0 none) me)
  checks slots id me idle s r one at _ =
      let v : View E = me.0 in let n : ℕ = get_or s.words 0 0 in let t : ℕ = r.ticket in let is : n ≡ t = word_of s r in
      let live : Live v.stage = subst Live (sym idle) tt in
      let undrawn : (m : ℕ) → ¬ (HasDrawn v.stage m) = λ m d. subst (λ (st : Stage E). HasDrawn st m) idle d in
      let unserved : ¬ (IsServing v.stage) = λ d. subst IsServing idle d in
      let words : set s.words 0 n ≡ t ∷ (start + length r.log) ∷ [] = ap₂ (λ (l : List ℕ) (m : ℕ). set l 0 m) r.words_are is in
      let low : n ≤ t = omega arith in
      let grown : v.own.read ≤ n = subst (λ (k : ℕ). v.own.read ≤ k) (sym is) (r.seats id v at live).own.read in
      let less = total_le marks parts marks_live s.views in let shared = r.shared in
      dite (dec_le (2 ^ 62) n)
      (λ worn. (
        turned_to Idle n v,
        keeps,
        tt,
        moved history whose start callers s r id v (turned_to Idle n v) r.log t s.homes
            (rests s r id v Idle n at live tt undrawn (λ m d. d) unserved tt low (let few = r.few in omega arith)) (set s.words 0 n) words,
        (refl, (λ less. absurd (omega arith)), (λ _. refl), grown),
      ))
      (λ fresh. (
        turned_to Marked n v,
        keeps,
        tt,
        moved history whose start callers s r id v (turned_to Marked n v) r.log t s.homes
            (rests s r id v Marked n at live tt undrawn (λ m d. d) unserved tt low (let f = lt_of_not-le fresh in omega arith)) (set s.words 0 n) words,
        (refl, (λ _. refl), (λ more. absurd (fresh more)), grown),
      ))

  pub draws : (slots id : ℕ) (me : M) → me.0.stage ≡ Marked → Allows Holds slots id me 0 (λ n. (n + 1) % 2 ^ 64) (drew history (step slots 0 1 0 none) me)
  draws slots id me marked s r one at _ =
      let v : View E = me.0 in let n : ℕ = get_or s.words 0 0 in let t : ℕ = r.ticket in let is : n ≡ t = word_of s r in
      let live : Live v.stage = subst Live (sym marked) tt in
      let undrawn : (m : ℕ) → ¬ (HasDrawn v.stage m) = λ m d. subst (λ (st : Stage E). HasDrawn st m) marked d in
      let unserved : ¬ (IsServing v.stage) = λ d. subst IsServing marked d in
      let f = r.seats id v at live in let w : View E = turned_to (Drawn n) v.own.read v in
      let one_mark : mark_of v.stage ≡ 1 = ap mark_of marked in let few = r.few in let limit = r.limit in
      let here = total_set marks s.views id v w at in let count : ℕ = total marks s.views in let least : 1 ≤ count = (let z : ℕ = total marks (set s.views id w) in omega arith) in
      let room : t + 1 < 2 ^ 64 = omega arith in
      let next : (n + 1) % 2 ^ 64 ≡ t + 1 = omega arith in
      let words : set s.words 0 ((n + 1) % 2 ^ 64) ≡ (t + 1) ∷ (start + length r.log) ∷ [] = ap₂ (λ (l : List ℕ) (m : ℕ). set l 0 m) r.words_are next in
      let low = f.own.read in let behind = r.behind in
      let o : Owes history whose start callers s r id v w r.log (t + 1) s.homes = record {
        here = at;
        lived = live;
        lives = tt;
        callers_is = refl;
        number = refl;
        gives = refl;
        ended = refl;
        own = record { seen = f.own.seen; mine = f.own.mine; same = f.own.same; read = omega arith };
        stage = ((let q = is in omega arith), (let q = is in omega arith));
        longer = (λ x b. b);
        others = (λ m ne. refl);
        more = omega arith;
        behind = omega arith;
        stages = (λ k u ne at' i. in_more r.log t (t + 1) (omega arith) u.stage i);
        whom = (λ m lo hi. dite (ℕ_discrete m t) (λ e. inl (is ∙ sym e)) (λ ne. inr (other (λ u. HasDrawn u.stage m) s.views id v at (undrawn m) (r.whom m lo (omega arith)))));
        apart = (λ k u m ne at' d d'. let b = drawn_below r.log t m u.stage (r.seats k u at' (drawn_live u.stage m d)).stage d in let b1 = b.1 in let e : n ≡ m = d' in omega arith);
        few = (omega arith);
        last = inr (refl, refl);
        slot = ⊎_elim (λ h. inl h) (λ (none_home, who). inr (none_home, inr (other (λ u. IsServing u.stage) s.views id v at unserved who))) r.slot;
      } in
      (w, keeps, tt, moved history whose start callers s r id v w r.log (t + 1) s.homes o (set s.words 0 ((n + 1) % 2 ^ 64)) words, refl)

  -- the words stay the same if one of them is overwritten with its value
  rewritten : (s : S) (r : Holds s) → set s.words 1 (get_or s.words 1 0) ≡ s.words
  rewritten s r = ap₂ (λ (l : List ℕ) (m : ℕ). set l 1 m) r.words_are (turn_of s r) ∙ sym r.words_are

  pub looks : (slots id : ℕ) (me : M) (d : ℕ) → me.0.stage ≡ Drawn d → Allows Holds slots id me 1 (λ n. n) (looked history whose (step slots 1 0 0 none) me)
  looks slots id me d drawn s r one at _ =
      let v : View E = me.0 in let n : ℕ = get_or s.words 1 0 in let t : ℕ = r.ticket in let is : n ≡ start + length r.log = turn_of s r in
      let live : Live v.stage = subst Live (sym drawn) tt in let f = r.seats id v at live in
      let inst = subst (InStage start r.log t) drawn f.stage in
      let mine : HasDrawn v.stage d = subst (λ (st : Stage E). HasDrawn st d) (sym drawn) refl in
      dite (ℕ_discrete n d)
      (λ hit. ⊎_elim
      (λ (x, home, hist).
      let w : View E = turned_to (Serving d (history x)) v.own.read v in
      let o : Owes history whose start callers s r id v w r.log t (set s.homes 0 none) = record {
        here = at;
        lived = live;
        lives = tt;
        callers_is = refl;
        number = refl;
        gives = refl;
        ended = refl;
        own = f.own;
        stage = (sym hit ∙ is, inst.1, hist);
        longer = (λ y b. b);
        others = (λ m ne. refl);
        more = le_refl t;
        behind = r.behind;
        stages = (λ k u ne at' i. i);
        whom = (λ m lo hi. let (k, u, at', d') = r.whom m lo hi in dite (ℕ_discrete k id)
            (λ e. inl (subst (λ (st : Stage E). HasDrawn st m) drawn (subst (λ (z : View E). HasDrawn z.stage m) (some-injective u v (sym at' ∙ (ap (get_elem? s.views) e ∙ at))) d')))
            (λ ne. inr (k, u, ne, at', d')));
        apart = (λ k u m ne at' du dw. ne (r.apart k id u v m at' at du (subst (λ (z : ℕ). HasDrawn v.stage z) dw mine)));
        few = (let few = r.few in let z : mark_of v.stage ≡ 0 = ap mark_of drawn in omega arith);
        last = inr (refl, refl);
        slot = inr (ap (λ (l : List (maybe.Option (Option T))). set l 0 none) home, inl tt);
      } in
      let limit = r.limit in let few = r.few in let i1 = inst.1 in (
        w,
        takes 0 (Some x),
        ap (λ (l : List (maybe.Option (Option T))). get_elem? l 0) home,
        moved history whose start callers s r id v w r.log t (set s.homes 0 none) o (set s.words 1 n) (rewritten s r ∙ r.words_are),
        λ d' st'. let same : d ≡ d' = cc in (
          (λ _. (
            x,
            ap (λ (m : ℕ). (turned_to (Serving m (history x)) v.own.read v, (0, Some x) ∷ me.1)) same,
            (let l : length (history x) ≡ length r.log = ap length hist in omega arith),
            ap (under whose v.own.number) hist ∙ f.own.mine,
            f.own.same,
            (f.own.seen.0, hist ∙ f.own.seen.1),
          )),
          (λ miss. absurd (miss (hit ∙ same))),
        ),
      ))
      (λ (away, (k, u, at', sv)). let su = serving_drawn r.log t u.stage (r.seats k u at' (live_serving u.stage sv)).stage sv in
      let e : k ≡ id = r.apart k id u v d at' at (subst (λ (z : ℕ). HasDrawn u.stage z) (sym is ∙ hit) su) mine in
      absurd (subst IsServing (ap (λ (z : View E). z.stage) (some-injective u v (sym at' ∙ (ap (get_elem? s.views) e ∙ at))) ∙ drawn) sv))
      r.slot)
      (λ miss. (
        v,
        keeps,
        tt,
        subst (λ (z : List ℕ × List (View E)). Holds record { words = z.0; homes = s.homes; views = z.1 }) (λ i. (sym (rewritten s r) i, sym (set_again s.views id v at) i)) r,
        λ d' st'. let same : d ≡ d' = cc in ((λ hit. absurd (miss (hit ∙ sym same))), (λ _. refl)),
      ))

  slots_one : (s : S) (r : Holds s) (x : Option T) → set s.homes 0 (some x) ≡ some x ∷ []
  slots_one s r x = ⊎_elim (λ (y, home, hist). ap (λ (l : List (maybe.Option (Option T))). set l 0 (some x)) home) (λ (away, who). ap (λ (l : List (maybe.Option (Option T))). set l 0 (some x)) away) r.slot

  pub passes : (slots id : ℕ) (me : M) (d : ℕ) (note : List E) (x : T) (e : E) → me.0.stage ≡ Serving d note → me.1 ≡ (0, Some x) ∷ [] → history x ≡ note ++ e ∷ [] → (whose e ≡ Some me.0.own.number) ⊎ (whose e ≡ None)
      → Allows Holds slots id me 1 (λ n. (n + 1) % 2 ^ 64) (passed history whose (step slots 1 1 0 none) me)
  passes slots id me d note x e serving holds hist stands s r one at _ =
      let v : View E = me.0 in let n : ℕ = get_or s.words 1 0 in let t : ℕ = r.ticket in let is : n ≡ start + length r.log = turn_of s r in
      let live : Live v.stage = subst Live (sym serving) tt in let f = r.seats id v at live in
      let inst = subst (InStage start r.log t) serving f.stage in
      let mine : HasDrawn v.stage d = subst (λ (st : Stage E). HasDrawn st d) (sym serving) refl in
      let log : List E = history x in let grown : log ≡ r.log ++ e ∷ [] = hist ∙ ap (λ (l : List E). l ++ e ∷ []) inst.2 in
      let long : length log ≡ length r.log + 1 = ap length grown ∙ length-append r.log (e ∷ []) in
      let w : View E = after whose log v in let i0 = inst.0 in let i1 = inst.1 in let few = r.few in let limit = r.limit in
      let next : (n + 1) % 2 ^ 64 ≡ start + length log = omega arith in
      let words : set s.words 1 ((n + 1) % 2 ^ 64) ≡ t ∷ (start + length log) ∷ [] = ap₂ (λ (l : List ℕ) (m : ℕ). set l 1 m) r.words_are next in
      let homes' : List (maybe.Option (Option T)) = set s.homes 0 (some (Some x)) in
      let o : Owes history whose start callers s r id v w log t homes' = record {
        here = at;
        lived = live;
        lives = tt;
        callers_is = refl;
        number = refl;
        gives = refl;
        ended = refl;
        own = record { seen = begins_refl log; mine = refl; same = refl; read = f.own.read };
        stage = tt;
        longer = (λ y b. subst (λ (l : List E). Begins l y) (sym grown) (begins_more r.log (e ∷ []) y b));
        others = (λ m ne. ap (under whose m) grown ∙ under-other whose id m r.log e (subst (λ (z : ℕ). (whose e ≡ Some z) ⊎ (whose e ≡ None)) f.number stands) ne);
        more = le_refl t;
        behind = omega arith;
        stages = (λ k u ne at' i. later r.log log t u.stage long (λ m du is'. ne (r.apart k id u v m at' at du (subst (HasDrawn v.stage) (inst.0 ∙ sym is') mine))) i);
        whom = (λ m lo hi. let (k, u, at', d') = r.whom m (omega arith) hi in dite (ℕ_discrete k id)
            (λ ek. let q : d ≡ m = subst (λ (st : Stage E). HasDrawn st m) serving (subst (λ (z : View E). HasDrawn z.stage m) (some-injective u v (sym at' ∙ (ap (get_elem? s.views) ek ∙ at))) d') in absurd (omega arith))
            (λ ne. inr (k, u, ne, at', d')));
        apart = (λ k u m ne at' du dw. dw);
        few = (let z : mark_of v.stage ≡ 0 = ap mark_of serving in omega arith);
        last = inl refl;
        slot = inl (x, slots_one s r (Some x), refl);
      } in (
        w,
        gives,
        tt,
        subst (λ (c : List (ℕ × Option T)). Holds (stepped s 1 ((n + 1) % 2 ^ 64) id c w gives)) (sym holds) (moved history whose start callers s r id v w log t homes' o (set s.words 1 ((n + 1) % 2 ^ 64)) words),
        λ x' eq. let back : carried_after me.1 gives ≡ [] = ap (λ (c : List (ℕ × Option T)). carried_after c gives) holds in
            let same : x ≡ x' = one_item x x' [] [] (sym holds ∙ eq) in ap₂ (λ (z : T) (c : List (ℕ × Option T)). (after whose (history z) v, c)) same back,
      )

pub whole_list : {A : Type 0} (c : List (ℕ × A)) (x : ℕ × A) → c ≡ x ∷ [] → c ≡ x ∷ rest c
whole_list c x e = e ∙ ap (λ (l : List (ℕ × _)). x ∷ l) (sym (ap rest e))

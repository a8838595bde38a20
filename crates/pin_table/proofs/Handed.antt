-- What the passes of one lock say of the callers that gave them.
use Rattle.std.proofs.Common.{◌≡◌, ℕ, zero, suc, ◌+◌, ◌^◌, ◌<◌, ◌≤◌, Bool, true, false, cond, nat_lt, ◌==◌, List, [], ◌∷◌, ◌++◌, length, get_or, map, take, Some, slice_get, All, refl, sym, ap, subst, ◌∙◌, arith, append_assoc}
use Rattle.std.proofs.lemmas.Bool.Decides.{nat_tests}
use mathlib.Core.Option.{some, some-injective}
use lib.ListN.{get_elem?}
use Rattle.atomic_table.specs.Seated.{TableId}
use Rattle.turn_lock.specs.declared.knowledge.Known.{Known}
use Rattle.turn_lock.specs.Views.{LockView, PassView}
use Rattle.turn_lock.specs.Passes.{Closes}
use Rattle.memo_core.specs.declared.event.Event.{Event}
use Rattle.memo_server.specs.declared.turn.Turn.{Turn}
use Rattle.memo_server.specs.Shards.{ShardView}
use Rattle.memo_server.specs.Callers.{caller_of, whose, own}
use Rattle.memo_server.specs.Histories.{events}
use Rattle.memo_server.proofs.OwnTurns.{events-under}
use Rattle.pin_table.specs.Views.{ShardKnown, CallerView, nothing, known_of}
use Rattle.pin_table.specs.Known.{known_at}
use Rattle.pin_table.specs.Ends.{ShardCloses, Closes as MemoCloses}
use Rattle.pin_table.specs.Closing.{GivesOne, Gives, AllClose}
use Rattle.pin_table.proofs.Places.{same_some, some-at, at-inside, all-at, map-get, length-mapped, read-at}
use Rattle.pin_table.proofs.Gains.{events-append}

-- The same caller, with its first k passes left.
pub record IsCut (locks : List TableId) (k : ℕ) (old new : CallerView) : Type 0 where
  pub number : new.number ≡ old.number
  pub locks_are : new.locks ≡ take k locks
  pub rest : List ShardKnown
  pub shards : old.shards ≡ new.shards ++ rest

abbrev pub Cuts : List TableId → ℕ → List CallerView → List CallerView → Type 0
Cuts locks k [] [] = Unit {0}
Cuts locks k (c ∷ cs) (d ∷ ds) = IsCut locks k c d × Cuts locks k cs ds
Cuts locks k _ _ = ⊥

-- A caller's pass at the shard.
pub record IsHanded (k : ℕ) (c : CallerView) (p : PassView Turn) : Type 0 where
  pub number : p.known.number ≡ c.number
  pub known : known_at k c ≡ known_of p.known

abbrev pub Handed : ℕ → List CallerView → List (PassView Turn) → Type 0
Handed k [] [] = Unit {0}
Handed k (c ∷ cs) (p ∷ ps) = IsHanded k c p × Handed k cs ps
Handed k _ _ = ⊥

pub cuts-start : (locks : List TableId) (cs : List CallerView) → ((i : ℕ) (d : CallerView) → i < length cs → (get_or cs i d).locks ≡ locks) → Cuts locks (length locks) cs cs
cuts-start locks [] same = tt
cuts-start locks (c ∷ cs) same = (record { number = refl; locks_are = same 0 c (omega arith) ∙ sym (all_taken locks); rest = []; shards = sym (append_nothing c.shards) }, cuts-start locks cs (λ i d lt. same (suc i) d (omega (arith, lt))))
  where
    all_taken : (ls : List TableId) → take (length ls) ls ≡ ls
    all_taken [] = refl
    all_taken (l ∷ ls) = ap (λ (xs : List TableId). l ∷ xs) (all_taken ls)

    append_nothing : (ks : List ShardKnown) → ks ++ [] ≡ ks
    append_nothing [] = refl
    append_nothing (k ∷ ks) = ap (λ (xs : List ShardKnown). k ∷ xs) (append_nothing ks)

length-taken : {A : Type 0} (xs : List A) (k : ℕ) → k ≤ length xs → length (take k xs) ≡ k
length-taken [] zero le = refl
length-taken [] (suc k) le = absurd (omega (arith, le))
length-taken (x ∷ xs) zero le = refl
length-taken (x ∷ xs) (suc k) le = ap suc (length-taken xs k (omega (arith, le)))

parts : {A : Type 0} (a b : A) (xs ys : List A) → a ∷ xs ≡ b ∷ ys → (a ≡ b) × (xs ≡ ys)
parts a b xs ys h = (let p : a ≡ b = cc in p, let q : xs ≡ ys = cc in q)

too-long : {A : Type 0} (ys : List A) (x : A) → [] ≡ ys ++ x ∷ [] → ⊥
too-long [] x h = cc
too-long (y ∷ ys) x h = cc

too-short : {A : Type 0} (xs : List A) (x a : A) (k : ℕ) → k < length xs → a ∷ take (suc k) xs ≡ x ∷ [] → ⊥
too-short [] x a k lt h = absurd (omega (arith, lt))
too-short (b ∷ xs) x a k lt h = let q : b ∷ take k xs ≡ [] = (parts a x (b ∷ take k xs) [] h).1 in cc

-- What comes before the last of the first few.
taken-last : {A : Type 0} (xs ys : List A) (x : A) (k : ℕ) → k < length xs → take (suc k) xs ≡ ys ++ x ∷ [] → (ys ≡ take k xs) × (get_or xs k x ≡ x)
taken-last [] ys x k lt is = absurd (omega (arith, lt))
taken-last (a ∷ xs) [] x zero lt is = (refl, (parts a x [] [] is).0)
taken-last (a ∷ xs) (y ∷ ys) x zero lt is = absurd (too-long ys x (parts a y [] (ys ++ x ∷ []) is).1)
taken-last (a ∷ xs) [] x (suc k) lt is = absurd (too-short xs x a k (omega (arith, lt)) is)
taken-last {A} (a ∷ xs) (y ∷ ys) x (suc k) lt is =
    let both = parts a y (take (suc k) xs) (ys ++ x ∷ []) is in
    let h = taken-last xs ys x k (omega (arith, lt)) both.1 in
    (ap (λ (l : List A). y ∷ l) h.0 ∙ ap (λ (z : A). z ∷ take k xs) (sym both.0), h.1)

get-middle : {A : Type 0} (xs ys : List A) (x d : A) (k : ℕ) → length xs ≡ k → get_or ((xs ++ x ∷ []) ++ ys) k d ≡ x
get-middle [] ys x d zero is = refl
get-middle [] ys x d (suc k) is = absurd (omega (arith, is))
get-middle (y ∷ xs) ys x d zero is = absurd (omega (arith, is))
get-middle (y ∷ xs) ys x d (suc k) is = get-middle xs ys x d k (omega (arith, is))

-- One more pass was given.
pub cut-one : (locks : List TableId) (k : ℕ) (old c d : CallerView) (p : PassView Turn) → k < length locks → IsCut locks (suc k) old c → GivesOne c d p → IsCut locks k old d × IsHanded k old p × (p.lock ≡ get_or locks k p.lock)
cut-one locks k old c d p lt cut gave =
    let last = taken-last locks d.locks p.lock k lt (sym cut.locks_are ∙ gave.locks) in
    let shards : old.shards ≡ (d.shards ++ known_of p.known ∷ []) ++ cut.rest = cut.shards ∙ ap (λ (ks : List ShardKnown). ks ++ cut.rest) gave.shards in
    let many : length d.shards ≡ k = gave.count ∙ (ap length last.0 ∙ length-taken locks k (omega (arith, lt))) in (
      record { number = gave.number.0 ∙ cut.number; locks_are = last.0; rest = known_of p.known ∷ cut.rest; shards = shards ∙ append_assoc d.shards (known_of p.known ∷ []) cut.rest },
      record { number = gave.number.1 ∙ cut.number; known = ap (λ (ks : List ShardKnown). get_or ks k nothing) shards ∙ get-middle d.shards cut.rest (known_of p.known) nothing k many },
      sym last.1,
    )

pub cuts-one : (locks : List TableId) (k : ℕ) (olds cs ds : List CallerView) (ps : List (PassView Turn)) → k < length locks → Cuts locks (suc k) olds cs → Gives cs ds ps → Cuts locks k olds ds × Handed k olds ps × All (λ p. p.lock ≡ get_or locks k p.lock) ps
cuts-one locks k [] [] [] [] lt cut gave = (tt, tt, λ i d lt. absurd (omega (arith, lt)))
cuts-one locks k [] (c ∷ cs) ds ps lt cut gave = absurd cut
cuts-one locks k (o ∷ olds) [] ds ps lt cut gave = absurd cut
cuts-one locks k [] [] (d ∷ ds) ps lt cut gave = absurd gave
cuts-one locks k [] [] [] (p ∷ ps) lt cut gave = absurd gave
cuts-one locks k (o ∷ olds) (c ∷ cs) [] ps lt cut gave = absurd gave
cuts-one locks k (o ∷ olds) (c ∷ cs) (d ∷ ds) [] lt cut gave = absurd gave
cuts-one locks k (o ∷ olds) (c ∷ cs) (d ∷ ds) (p ∷ ps) lt cut gave =
    let one = cut-one locks k o c d p lt cut.0 gave.0 in
    let more = cuts-one locks k olds cs ds ps lt cut.1 gave.1 in
    ((one.0, more.0), (one.1, more.1), all_cons one.2 more.2)
  where
    all_cons : p.lock ≡ get_or locks k p.lock → All (λ p. p.lock ≡ get_or locks k p.lock) ps → All (λ p. p.lock ≡ get_or locks k p.lock) (p ∷ ps)
    all_cons one more zero e lt = one
    all_cons one more (suc i) e lt = more i e (omega (arith, lt))

-- The passes are at their callers' places.
handed-at : (k : ℕ) (cs : List CallerView) (ps : List (PassView Turn)) → Handed k cs ps → (i : ℕ) (c : CallerView) → slice_get cs i ≡ Some c → (p : PassView Turn) × (get_elem? (map (λ p. p.known) ps) i ≡ some p.known) × IsHanded k c p
handed-at k [] ps h i c at = cc
handed-at k (x ∷ cs) [] h i c at = absurd h
handed-at k (x ∷ cs) (p ∷ ps) h zero c at = (p, refl, subst (λ (y : CallerView). IsHanded k y p) (same_some x c at) h.0)
handed-at k (x ∷ cs) (p ∷ ps) h (suc i) c at = handed-at k cs ps h.1 i c at

handed-from : (k : ℕ) (cs : List CallerView) (ps : List (PassView Turn)) → Handed k cs ps → (i : ℕ) (w : Known Turn) → get_elem? (map (λ p. p.known) ps) i ≡ some w → (c : CallerView) × (slice_get cs i ≡ Some c) × (w.number ≡ c.number) × (known_at k c ≡ known_of w)
handed-from k [] [] h i w at = cc
handed-from k [] (p ∷ ps) h i w at = absurd h
handed-from k (x ∷ cs) [] h i w at = absurd h
handed-from k (x ∷ cs) (p ∷ ps) h zero w at = let same : p.known ≡ w = some-injective p.known w at in (x, refl, subst (λ (v : Known Turn). v.number ≡ x.number) same h.0.number, subst (λ (v : Known Turn). known_at k x ≡ known_of v) same h.0.known)
handed-from k (x ∷ cs) (p ∷ ps) h (suc i) w at = handed-from k cs ps h.1 i w at

-- An event of the history is among its caller's own.
own-some : (es : List Event) (k : ℕ) (e : Event) → slice_get es k ≡ Some e → own (caller_of e) es ≡ [] → ⊥
own-some [] k e at none = cc
own-some (x ∷ es) zero e at none =
    let same : x ≡ e = same_some x e at in
    let test : (caller_of x == caller_of e) ≡ true = (let q : caller_of x ≡ caller_of e = ap caller_of same in grind (arith, nat_tests)) in
    let first : own (caller_of e) (x ∷ es) ≡ x ∷ own (caller_of e) es = ap (λ b. cond b (x ∷ own (caller_of e) es) (own (caller_of e) es)) test in
    let both : x ∷ own (caller_of e) es ≡ [] = sym first ∙ none in cc
own-some (x ∷ es) (suc k) e at none = own_case (caller_of x == caller_of e) none (own-some es k e at)
  where
    own_case : (b : Bool) → cond b (x ∷ own (caller_of e) es) (own (caller_of e) es) ≡ [] → (own (caller_of e) es ≡ [] → ⊥) → ⊥
    own_case true is ih = cc
    own_case false is ih = ih is

shown-within : (k : Known Turn) (n : ℕ) → k.read ≤ n → (known_of k).shown ≤ n
shown-within k n le = shown_case (nat_lt k.read (2 ^ 62))
  where
    shown_case : (b : Bool) → cond b 0 k.read ≤ n
    shown_case true = omega arith
    shown_case false = le

-- What the lock says of its end is what the memo says of its shard's.
pub shard-closes : {I O : Type 0} (start k : ℕ) (shard : ShardView I O) (cs : List CallerView) (ps : List (PassView Turn)) → Handed k cs ps → events shard.turns ≡ shard.history → Closes whose start shard.turns (map (λ p. p.known) ps) → ShardCloses start k shard cs
shard-closes start k shard cs ps handed are ends = record {
  each = λ i c at. let h = handed-at k cs ps handed i c at in let e = ends.each i h.0.known h.1 in record {
    rest = events e.0.0;
    seen = sym are ∙ (ap events e.0.1 ∙ (events-append h.0.known.seen e.0.0 ∙ ap (λ (v : ShardKnown). v.seen ++ events e.0.0) (sym h.2.known)));
    mine = ap (own c.number) (sym are) ∙ (ap (λ (n : ℕ). own n (events shard.turns)) (sym h.2.number) ∙ (sym (events-under h.0.known.number shard.turns) ∙ (ap events e.1 ∙ ap (λ (v : ShardKnown). v.mine) (sym h.2.known))));
    shown = subst (λ (v : ShardKnown). v.shown ≤ start + length shard.turns) (sym h.2.known) (shown-within h.0.known (start + length shard.turns) e.2);
  };
  last = (let h = handed-from k cs ps handed ends.last.0 ends.last.1 ends.last.2 in (ends.last.0, h.0, h.1, ap (λ (v : ShardKnown). v.seen) h.3 ∙ (ap events ends.last.3 ∙ are)));
  whose = λ i e at. (let w = ends.numbers (caller_of e) (λ none. own-some shard.history i e at (ap (own (caller_of e)) (sym are) ∙ (sym (events-under (caller_of e) shard.turns) ∙ ap events none))) in
      let h = handed-from k cs ps handed w.0 w.1 w.2 in (w.0, h.0, h.1, sym h.2 ∙ w.3));
}

pub gives-lengths : (cs ds : List CallerView) (ps : List (PassView Turn)) → Gives cs ds ps → (length ds ≡ length cs) × (length ps ≡ length cs)
gives-lengths [] [] [] h = (refl, refl)
gives-lengths [] [] (p ∷ ps) h = absurd h
gives-lengths [] (d ∷ ds) ps h = absurd h
gives-lengths (c ∷ cs) [] ps h = absurd h
gives-lengths (c ∷ cs) (d ∷ ds) [] h = absurd h
gives-lengths (c ∷ cs) (d ∷ ds) (p ∷ ps) h = let l = gives-lengths cs ds ps h.1 in (ap suc l.0, ap suc l.1)

-- Each caller has its first passes left.
pub cuts-locks : (locks : List TableId) (k : ℕ) (olds cs : List CallerView) → Cuts locks k olds cs → (i : ℕ) (d : CallerView) → i < length cs → (get_or cs i d).locks ≡ take k locks
cuts-locks locks k [] [] h i d lt = absurd (omega (arith, lt))
cuts-locks locks k [] (c ∷ cs) h i d lt = absurd h
cuts-locks locks k (o ∷ olds) [] h i d lt = absurd h
cuts-locks locks k (o ∷ olds) (c ∷ cs) h zero d lt = h.0.locks_are
cuts-locks locks k (o ∷ olds) (c ∷ cs) h (suc i) d lt = cuts-locks locks k olds cs h.1 i d (omega (arith, lt))

pub some-left : (locks : List TableId) (k : ℕ) (olds cs : List CallerView) → 0 < k → k ≤ length locks → Cuts locks k olds cs → All (λ c. 0 < length c.locks) cs
some-left locks k olds cs positive le h i d lt = let is : length (get_or cs i d).locks ≡ k = ap length (cuts-locks locks k olds cs h i d lt) ∙ length-taken locks k le in omega (arith, is, positive)

-- One lock less.
module _ (ls before after : List LockView) (l : LockView) (n k : ℕ) (one : k + 1 ≡ n) (within : n ≤ length ls) (taken : before ≡ take n ls) (popped : before ≡ after ++ l ∷ []) where
  last_is : (after ≡ take k ls) × (get_or ls k l ≡ l)
  last_is = taken-last ls after l k (omega (arith, one, within)) (sym (subst (λ (m : ℕ). before ≡ take m ls) (let e : n ≡ suc k = omega (arith, one) in e) taken) ∙ popped)

  pub locks-left : after ≡ take k ls
  locks-left = last_is.0

  pub lock-there : l ≡ get_or ls k l
  lock-there = sym last_is.1

  pub name-there : (id : TableId) → get_or (map (λ k. k.id) ls) k id ≡ l.id
  name-there id = map-get (λ (k : LockView). k.id) ls k l id (omega (arith, one, within)) ∙ ap (λ (k : LockView). k.id) last_is.1

  pub lock-slot : slice_get ls k ≡ Some l
  lock-slot = read-at ls k l (omega (arith, one, within)) lock-there

  module _ (olds cs ds : List CallerView) (ps : List (PassView Turn)) (cuts : Cuts (map (λ k. k.id) ls) n olds cs) (gave : Gives cs ds ps) where
    step : Cuts (map (λ k. k.id) ls) k olds ds × Handed k olds ps × All (λ p. p.lock ≡ get_or (map (λ k. k.id) ls) k p.lock) ps
    step = cuts-one (map (λ k. k.id) ls) k olds cs ds ps (subst (λ (m : ℕ). k < m) (sym (length-mapped (λ (k : LockView). k.id) ls)) (omega (arith, one, within))) (subst (λ (m : ℕ). Cuts (map (λ k. k.id) ls) m olds cs) (let e : n ≡ suc k = omega (arith, one) in e) cuts) gave

    pub cuts-left : Cuts (map (λ k. k.id) ls) k olds ds
    cuts-left = step.0

    pub passes-of : All (λ p. p.lock ≡ l.id) ps
    passes-of i d lt = step.2 i d lt ∙ name-there (get_or ps i d).lock

    -- The closed shard goes before the others.
    pub each-closes : {I O : Type 0} (shard : ShardView I O) (shards next : List (ShardView I O)) → events shard.turns ≡ shard.history → Closes whose l.start shard.turns (map (λ p. p.known) ps)
        → next ≡ shard ∷ shards
        → ((j : ℕ) (m : LockView) (s : ShardView I O) → slice_get ls (n + j) ≡ Some m → slice_get shards j ≡ Some s → ShardCloses m.start (n + j) s olds)
        → (j : ℕ) (m : LockView) (s : ShardView I O) → slice_get ls (k + j) ≡ Some m → slice_get next j ≡ Some s → ShardCloses m.start (k + j) s olds
    each-closes {I} {O} shard shards next are ends is each zero m s lock at =
        let here : k + 0 ≡ k = omega arith in
        let same : l ≡ m = same_some l m (sym lock-slot ∙ (ap (slice_get ls) (sym here) ∙ lock)) in
        let that : shard ≡ s = same_some shard s (sym (ap (λ (xs : List (ShardView I O)). slice_get xs 0) is) ∙ at) in
        subst (λ (i : ℕ). ShardCloses m.start i s olds) (sym here) (subst (λ (x : LockView). ShardCloses x.start k s olds) same (subst (λ (x : ShardView I O). ShardCloses l.start k x olds) that (shard-closes l.start k shard olds ps step.1 are ends)))
    each-closes {I} {O} shard shards next are ends is each (suc j) m s lock at =
        let there : n + j ≡ k + suc j = omega (arith, one) in
        subst (λ (i : ℕ). ShardCloses m.start i s olds) there (each j m s (ap (slice_get ls) there ∙ lock) (sym (ap (λ (xs : List (ShardView I O)). slice_get xs (suc j)) is) ∙ at))

pub all-locks : (ls : List LockView) (n : ℕ) → n ≡ length ls → take n ls ≡ ls
all-locks [] zero is = refl
all-locks [] (suc n) is = absurd (omega (arith, is))
all-locks (l ∷ ls) zero is = absurd (omega (arith, is))
all-locks (l ∷ ls) (suc n) is = ap (λ (xs : List LockView). l ∷ xs) (all-locks ls n (omega (arith, is)))

-- The memo's start is each lock's.
pub closes-memo : {I O : Type 0} (ls : List LockView) (start callers : ℕ) (cs : List CallerView) (shards : List (ShardView I O)) → All (λ l. (l.start ≡ start) × (l.callers ≡ callers)) ls → AllClose ls cs shards → MemoCloses (record { locks = map (λ l. l.id) ls; start = start; callers = callers }) cs shards
closes-memo {I} {O} ls start callers cs shards all ends = record {
  count = ends.count ∙ sym (length-mapped (λ (l : LockView). l.id) ls);
  each = λ s shard at. (let l = some-at ls s (subst (λ (n : ℕ). s < n) ends.count (at-inside shards s shard at)) in
      subst (λ (n : ℕ). ShardCloses n s shard cs) (all-at (λ (l : LockView). (l.start ≡ start) × (l.callers ≡ callers)) ls s l.0 all l.1).0 (ends.each s l.0 shard l.1 at));
}

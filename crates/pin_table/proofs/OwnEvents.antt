-- What a caller's own events gain call after call, and that what was met stays met.
use Rattle.std.proofs.Common.{◌≡◌, ℕ, zero, suc, ◌^◌, ◌≤◌, ◌⊎◌, inl, inr, ⊎_elim, Bool, true, false, ◌||◌, List, [], ◌∷◌, ◌++◌, length, drop, refl, sym, ap, subst, ◌∙◌, append_assoc, append-nil}
use Rattle.std.proofs.Math.Seq.{drop-append_seam, drop-nil}
use Rattle.std.proofs.lemmas.Cmp.{nat_list_eq_equiv}
use Rattle.std.specs.List.{list_any}
use Rattle.memo_core.specs.declared.event.Event.{Event}
use Rattle.memo_core.specs.declared.event.Event.TheVariants.{Look, Keep}
use Rattle.memo_core.specs.declared.event.LookAnswer.TheVariants.{Hit as HitAnswer, Absent as AbsentAnswer, Clash as ClashAnswer}
use Rattle.memo_core.specs.declared.event.KeepAnswer.TheVariants.{Stored as StoredAnswer, Found as FoundAnswer, Clash as KeepClashAnswer}
use Rattle.memo_core.proofs.Invariant.{second_true}
use Rattle.memo_server.specs.Callers.{gives, frees}
use Rattle.memo_server.specs.Views.{EntryView}
use Rattle.pin_table.specs.Views.{CallerView, PinView}
use Rattle.pin_table.specs.Known.{CallerFits, Gained, Missed, WornOut, AtShard, known_at, IsWorn}
use Rattle.pin_table.specs.Placing.{shard_at}
use Rattle.pin_table.specs.Answers.{Faults, HitAs, ClashAs, StoredAs, FoundAs, KeepClashAs}
use Rattle.pin_table.specs.declared.answers.MemoFault.{MemoFault}
use Rattle.pin_table.specs.declared.answers.MemoFault.TheVariants.{Worn, Mem}
use Rattle.pin_table.specs.Covers.{IsLater}
use Rattle.pin_table.specs.OwnEvents.{gain_at, there, gained, is_hit, is_miss, is_clash, MetAt, Met, Quiet}
use Rattle.pin_table.proofs.Replies.{at-map}
use Rattle.pin_table.proofs.Covering.{goes-there, each-shard, still-any}
use Rattle.pin_table.proofs.Answering.{got-quiet, got-missed, got-worn}

-- Tests over events.

pub any-append : (test : Event → Bool) (xs ys : List Event) → list_any test (xs ++ ys) ≡ (list_any test xs || list_any test ys)
any-append test [] ys = refl
any-append test (x ∷ xs) ys = elim (test x) as (λ b. (b || list_any test (xs ++ ys)) ≡ ((b || list_any test xs) || list_any test ys)) [ true ↦ refl | false ↦ any-append test xs ys ]

pub any-later : (test : Event → Bool) (xs ys : List Event) → list_any test ys ≡ true → list_any test (xs ++ ys) ≡ true
any-later test [] ys h = h
any-later test (x ∷ xs) ys h = second_true (test x) (list_any test (xs ++ ys)) (any-later test xs ys h)

-- What passes the one test passes the other.
pub any-weaker : (test other : Event → Bool) → ((e : Event) → test e ≡ true → other e ≡ true) → (es : List Event) → list_any test es ≡ true → list_any other es ≡ true
any-weaker test other weaker [] h = h
any-weaker test other weaker (e ∷ es) h = elim (test e) as (λ b. test e ≡ b → (b || list_any test es) ≡ true → (other e || list_any other es) ≡ true) [
  | true ↦ λ is _. rw (weaker e is) refl
  | false ↦ λ is rest. second_true (other e) (list_any other es) (any-weaker test other weaker es rest)
] refl h

-- What is gained.

-- From a known end of the caller's own events.
pub gain-is : (s : ℕ) (v w : CallerView) (es : List Event) → (known_at s w).mine ≡ (known_at s v).mine ++ es → gain_at s v w ≡ es
gain-is s v w es is = ap (drop (length (known_at s v).mine)) is ∙ drop-append_seam (known_at s v).mine es

pub gain-none : (s : ℕ) (v w : CallerView) → (known_at s w).mine ≡ (known_at s v).mine → gain_at s v w ≡ []
gain-none s v w same = gain-is s v w [] (same ∙ sym (append-nil (known_at s v).mine))

-- By one event.
pub gain-one : (n s : ℕ) (e : Event) (v w : CallerView) → AtShard (Gained n e) s v w → gain_at s v w ≡ e ∷ []
gain-one n s e v w at = gain-is s v w (e ∷ []) (goes-there (Gained n e) s v w at).mine

-- What is gained after an earlier time ends with what is gained since a later one.
pub gain-after : (s : ℕ) (u v w : CallerView) → IsLater v w → (es : List Event) × (gain_at s u w ≡ gain_at s u v ++ es)
gain-after s u v w b =
    let more = drop_append (length (known_at s u).mine) (known_at s v).mine (b.mine s).0 in
    (more.0, ap (drop (length (known_at s u).mine)) (b.mine s).1 ∙ more.1)
  where
    drop_append : (n : ℕ) (xs ys : List Event) → (es : List Event) × (drop n (xs ++ ys) ≡ drop n xs ++ es)
    drop_append n [] ys = (drop n ys, ap (λ (zs : List Event). zs ++ drop n ys) (sym (drop-nil n)))
    drop_append zero (x ∷ xs) ys = (ys, refl)
    drop_append (suc n) (x ∷ xs) ys = drop_append n xs ys

-- Gains add up.
pub gain-then : (s : ℕ) (u v w : CallerView) → IsLater u v → IsLater v w → gain_at s u w ≡ gain_at s u v ++ gain_at s v w
gain-then s u v w a b =
    let x = (a.mine s).0 in let y = (b.mine s).0 in
    let first : gain_at s u v ≡ x = gain-is s u v x (a.mine s).1 in
    let second : gain_at s v w ≡ y = gain-is s v w y (b.mine s).1 in
    let all : (known_at s w).mine ≡ (known_at s u).mine ++ (x ++ y) = (b.mine s).1 ∙ (ap (λ (es : List Event). es ++ y) (a.mine s).1 ∙ append_assoc (known_at s u).mine x y) in
    gain-is s u w (x ++ y) all ∙ sym (ap (λ (es : List Event). es ++ gain_at s v w) first ∙ ap (λ (es : List Event). x ++ es) second)

pub there-later : (digest : List ℕ) (v w : CallerView) → IsLater v w → there digest w ≡ there digest v
there-later digest v w later = ap (λ ls. shard_at digest (length ls)) later.locks

pub gained-then : (digest : List ℕ) (u v w : CallerView) → IsLater u v → IsLater v w → gained digest u w ≡ gained digest u v ++ gained digest v w
gained-then digest u v w a b = gain-then (there digest u) u v w a b ∙ ap (λ (s : ℕ). gained digest u v ++ gain_at s v w) (sym (there-later digest u v a))

-- What was met.

pub worn-there : (ticket s : ℕ) (v w : CallerView) → AtShard (WornOut ticket) s v w → IsWorn s w
worn-there ticket s v w at = let g = goes-there (WornOut ticket) s v w at in subst (λ (n : ℕ). 2 ^ 62 ≤ n) (sym g.shown) g.limit

-- It stays met, whatever comes after.
pub met-later : (s : ℕ) (u v w : CallerView) → IsLater v w → MetAt s u v → MetAt s u w
met-later s u v w later met =
    ⊎_elim (λ h. let more = gain-after s u v w later in inl (ap (list_any is_clash) more.1 ∙ still-any is_clash (gain_at s u v) more.0 h)) (λ h. inr (later.worn s h)) met

-- And whatever came before.
pub met-before : (s : ℕ) (u v w : CallerView) → IsLater u v → IsLater v w → MetAt s v w → MetAt s u w
met-before s u v w a b met = ⊎_elim (λ h. inl (ap (list_any is_clash) (gain-then s u v w a b) ∙ any-later is_clash (gain_at s u v) (gain_at s v w) h)) (λ h. inr h) met

pub any-met-later : (u v w : CallerView) → IsLater v w → Met u v → Met u w
any-met-later u v w later met = (met.0, met-later met.0 u v w later met.1)

pub any-met-before : (u v w : CallerView) → IsLater u v → IsLater v w → Met v w → Met u w
any-met-before u v w a b met = (met.0, met-before met.0 u v w a b met.1)

-- An event that clashed.
pub met-clash : (n s : ℕ) (e : Event) (v w : CallerView) → is_clash e ≡ true → AtShard (Gained n e) s v w → MetAt s v w
met-clash n s e v w h at = inl (ap (list_any is_clash) (gain-one n s e v w at) ∙ rw h refl)

-- A fault is out of memory, or a worn lock.
pub met-fault : (f : MemoFault) (s : ℕ) (v w : CallerView) → Faults f s v w → (f ≡ Mem) ⊎ MetAt s v w
met-fault (Worn ticket) s v w at = inr (inr (worn-there ticket s v w at))
met-fault Mem s v w at = inl refl

-- Calls after which the caller holds what it held.

pub quiet-gained : (digest : List ℕ) (e : Event) (v w : CallerView) → CallerFits v → ((id : ℕ) → gives id e ≡ false) → ((id : ℕ) → frees id e ≡ false) → AtShard (Gained v.number e) (there digest v) v w → Quiet digest (e ∷ []) v w
quiet-gained digest e v w fits none free at = record {
  got = got-quiet v.number (there digest v) e v w fits refl none free at;
  gain = gain-one v.number (there digest v) e v w at;
}

pub quiet-missed : (digest : List ℕ) (s : ℕ) (v w : CallerView) → AtShard (Missed v.number) s v w → Quiet digest [] v w
quiet-missed digest s v w at = record {
  got = got-missed v.number s v w at;
  gain = gain-none (there digest v) v w (each-shard (Missed v.number) s v w at (λ k j. j.mine ≡ k.mine) (λ k. refl) (λ k j g. g.mine) (there digest v));
}

pub quiet-worn : (digest : List ℕ) (ticket s : ℕ) (v w : CallerView) → AtShard (WornOut ticket) s v w → Quiet digest [] v w
quiet-worn digest ticket s v w at = record {
  got = got-worn ticket s v w at;
  gain = gain-none (there digest v) v w (each-shard (WornOut ticket) s v w at (λ k j. j.mine ≡ k.mine) (λ k. refl) (λ k j g. g.mine) (there digest v));
}

pub quiet-fault : (digest : List ℕ) (f : MemoFault) (s : ℕ) (v w : CallerView) → Faults f s v w → Quiet digest [] v w
quiet-fault digest (Worn ticket) s v w at = quiet-worn digest ticket s v w at
quiet-fault digest Mem s v w at = quiet-missed digest s v w at

-- A test that the events of a quiet call pass, before other calls.
pub quiet-any : (digest : List ℕ) (test : Event → Bool) (es : List Event) (v w x : CallerView) → list_any test es ≡ true → Quiet digest es v w → IsLater w x → list_any test (gained digest v x) ≡ true
quiet-any digest test es v w x h q later =
    ap (list_any test) (gained-then digest v w x q.got.later later ∙ ap (λ (gs : List Event). gs ++ gained digest w x) q.gain) ∙ still-any test es (gained digest w x) h

-- A test that neither they nor the events after them pass.
pub quiet-none : (digest : List ℕ) (test : Event → Bool) (es : List Event) (v w x : CallerView) → list_any test es ≡ false → Quiet digest es v w → IsLater w x → list_any test (gained digest w x) ≡ false → list_any test (gained digest v x) ≡ false
quiet-none digest test es v w x h q later rest =
    ap (list_any test) (gained-then digest v w x q.got.later later ∙ ap (λ (gs : List Event). gs ++ gained digest w x) q.gain) ∙ (any-append test es (gained digest w x) ∙ both_false (list_any test es) (list_any test (gained digest w x)) h rest)
  where
    both_false : (a b : Bool) → a ≡ false → b ≡ false → (a || b) ≡ false
    both_false a b p q = rw p q

-- Answers of calls.

module _ {I O : Type 0} (fits : I → O → Type 0) (digest_of : I → List ℕ) (run : ℕ) (input : I) (v w : CallerView) where
  -- The event of an answer, without what else it says.
  pub hit-event : (p : PinView I O) → AtShard (HitAs fits digest_of v.number (there (digest_of input) v) run input p) (there (digest_of input) v) v w → AtShard (Gained v.number (Look v.number run (digest_of input) (HitAnswer p.id))) (there (digest_of input) v) v w
  hit-event p h = at-map (HitAs fits digest_of v.number (there (digest_of input) v) run input p) (Gained v.number (Look v.number run (digest_of input) (HitAnswer p.id))) (there (digest_of input) v) v w (λ k j t. t.4) h

  pub clash-event : (e : EntryView I O) → AtShard (ClashAs fits digest_of v.number run input e) (there (digest_of input) v) v w → AtShard (Gained v.number (Look v.number run (digest_of input) (ClashAnswer e.id))) (there (digest_of input) v) v w
  clash-event e h = at-map (ClashAs fits digest_of v.number run input e) (Gained v.number (Look v.number run (digest_of input) (ClashAnswer e.id))) (there (digest_of input) v) v w (λ k j t. t.3) h

  pub stored-event : (out : O) (p : PinView I O) → AtShard (StoredAs fits digest_of v.number (there (digest_of input) v) run input out p) (there (digest_of input) v) v w → AtShard (Gained v.number (Keep v.number run (digest_of input) (StoredAnswer p.id))) (there (digest_of input) v) v w
  stored-event out p h = at-map (StoredAs fits digest_of v.number (there (digest_of input) v) run input out p) (Gained v.number (Keep v.number run (digest_of input) (StoredAnswer p.id))) (there (digest_of input) v) v w (λ k j t. t.4) h

  pub found-event : (p : PinView I O) → AtShard (FoundAs fits digest_of v.number (there (digest_of input) v) run input p) (there (digest_of input) v) v w → AtShard (Gained v.number (Keep v.number run (digest_of input) (FoundAnswer p.id))) (there (digest_of input) v) v w
  found-event p h = at-map (FoundAs fits digest_of v.number (there (digest_of input) v) run input p) (Gained v.number (Keep v.number run (digest_of input) (FoundAnswer p.id))) (there (digest_of input) v) v w (λ k j t. t.4) h

  pub keep-clash-event : (out : O) (e : EntryView I O) (i : I) (o : O) → AtShard (KeepClashAs fits digest_of v.number run input out e i o) (there (digest_of input) v) v w → AtShard (Gained v.number (Keep v.number run (digest_of input) (KeepClashAnswer e.id))) (there (digest_of input) v) v w
  keep-clash-event out e i o h = at-map (KeepClashAs fits digest_of v.number run input out e i o) (Gained v.number (Keep v.number run (digest_of input) (KeepClashAnswer e.id))) (there (digest_of input) v) v w (λ k j t. t.5) h

  -- A hit is gained as one.
  pub hit-gained : (p : PinView I O) → AtShard (HitAs fits digest_of v.number (there (digest_of input) v) run input p) (there (digest_of input) v) v w → list_any (is_hit (digest_of input)) (gained (digest_of input) v w) ≡ true
  hit-gained p h = ap (list_any (is_hit (digest_of input))) (gain-one v.number (there (digest_of input) v) (Look v.number run (digest_of input) (HitAnswer p.id)) v w (hit-event p h)) ∙ rw (nat_list_eq_equiv.refl (digest_of input)) refl

  -- A look that did not hit is quiet.
  pub absent-quiet : CallerFits v → AtShard (Gained v.number (Look v.number run (digest_of input) AbsentAnswer)) (there (digest_of input) v) v w → Quiet (digest_of input) (Look v.number run (digest_of input) AbsentAnswer ∷ []) v w
  absent-quiet known h = quiet-gained (digest_of input) (Look v.number run (digest_of input) AbsentAnswer) v w known (λ id. refl) (λ id. refl) h

  pub clash-quiet : (e : EntryView I O) → CallerFits v → AtShard (ClashAs fits digest_of v.number run input e) (there (digest_of input) v) v w → Quiet (digest_of input) (Look v.number run (digest_of input) (ClashAnswer e.id) ∷ []) v w
  clash-quiet e known h = quiet-gained (digest_of input) (Look v.number run (digest_of input) (ClashAnswer e.id)) v w known (λ id. refl) (λ id. refl) (clash-event e h)

  -- So is a keep that clashed.
  pub keep-clash-quiet : (out : O) (e : EntryView I O) (i : I) (o : O) → CallerFits v → AtShard (KeepClashAs fits digest_of v.number run input out e i o) (there (digest_of input) v) v w → Quiet (digest_of input) (Keep v.number run (digest_of input) (KeepClashAnswer e.id) ∷ []) v w
  keep-clash-quiet out e i o known h = quiet-gained (digest_of input) (Keep v.number run (digest_of input) (KeepClashAnswer e.id)) v w known (λ id. refl) (λ id. refl) (keep-clash-event out e i o h)

  -- A clash is met.
  pub clash-met : (e : EntryView I O) → AtShard (ClashAs fits digest_of v.number run input e) (there (digest_of input) v) v w → MetAt (there (digest_of input) v) v w
  clash-met e h = met-clash v.number (there (digest_of input) v) (Look v.number run (digest_of input) (ClashAnswer e.id)) v w refl (clash-event e h)

  pub keep-clash-met : (out : O) (e : EntryView I O) (i : I) (o : O) → AtShard (KeepClashAs fits digest_of v.number run input out e i o) (there (digest_of input) v) v w → MetAt (there (digest_of input) v) v w
  keep-clash-met out e i o h = met-clash v.number (there (digest_of input) v) (Keep v.number run (digest_of input) (KeepClashAnswer e.id)) v w refl (keep-clash-event out e i o h)

-- A miss passes its test.
pub absent-missed : (n run : ℕ) (digest : List ℕ) → list_any (is_miss digest) (Look n run digest AbsentAnswer ∷ []) ≡ true
absent-missed n run digest = rw (nat_list_eq_equiv.refl digest) refl

pub clash-missed : (n run id : ℕ) (digest : List ℕ) → list_any (is_miss digest) (Look n run digest (ClashAnswer id) ∷ []) ≡ true
clash-missed n run id digest = rw (nat_list_eq_equiv.refl digest) refl

-- Buckets before and after a slide, item by item.
use Rattle.std.proofs.Common.{◌≡◌, ◌≢◌, ℕ, zero, suc, ◌+◌, ◌-◌, ◌<◌, ◌≤◌, Bool, true, false, List, [], ◌∷◌, ◌++◌, length, take, drop, get_or, set, refl, sym, ap, ◌∙◌, subst, arith, length-drop, length-take, take-append-drop}
use Rattle.std.specs.Prelude.{cond, All, map, min, nat_le, nat_lt, ◌==◌, slice_set}
use Rattle.std.specs.List.{filter}
use Rattle.std.specs.List.Sorted.{IsStrictlyIncreasing}
use Rattle.std.proofs.lemmas.Bool.Decides.{nat_tests}
use Rattle.std.proofs.lemmas.List.{ext_get_or, get_or_append_left, length-append, get_or-drop, get_or-set_other, get_or-take, length-set}
use Rattle.std.proofs.lemmas.List.Elements.{All-append, All-cons, All-map, All-tail, filter_passes}
use Rattle.std.proofs.lemmas.List.Kept.{IsStrictlyIncreasing-filter}
use Rattle.std.proofs.lemmas.Grind.{get_or-set_at}
use Rattle.record_text.specs.Shifts.{put_at}
use Rattle.window_manager.specs.Slides.{Slid, lowered, with_place}
use Rattle.window_manager.proofs.PlaceLaws.{lowered_below, with_place_below}

-- no item is at place `i`
abbrev pub Lacks : ℕ → List ℕ → Type 0
Lacks i places = All (λ p. p ≢ i) places

module _ {X : Type 0} (none : X) where
  pub put_length : (ps : List ℕ) (ys xs : List X) → length (put_at ps ys xs) ≡ length xs
  put_length [] ys xs = refl
  put_length (p ∷ ps) [] xs = refl
  put_length (p ∷ ps) (y ∷ ys) xs = put_length ps ys (slice_set xs p y) ∙ length-set xs p y

  pub put_other : (ps : List ℕ) (ys xs : List X) (i : ℕ) → Lacks i ps → get_or (put_at ps ys xs) i none ≡ get_or xs i none
  put_other [] ys xs i out = refl
  put_other (p ∷ ps) [] xs i out = refl
  put_other (p ∷ ps) (y ∷ ys) xs i out =
      put_other ps ys (slice_set xs p y) i (All-tail (λ q. q ≢ i) p ps out)
      ∙ get_or-set_other xs p i y none (λ e. out 0 0 (omega arith) (sym e))

  -- one place more is put
  put_one : (b : Bool) (i p : ℕ) (ps : List ℕ) (now old : List X) → (i == p) ≡ b → length now ≡ length old → i < length now → Lacks i ps → (Lacks i (p ∷ ps) → get_or now i none ≡ get_or old i none)
      → get_or now i none ≡ get_or (slice_set old p (get_or now p none)) i none
  put_one true i p ps now old is count lt out same =
      let e : i ≡ p = grind (arith, nat_tests) in
      ap (λ (k : ℕ). get_or now k none) e ∙ sym (get_or-set_at old p i (get_or now p none) none e (omega (arith, e, count, lt)))
  put_one false i p ps now old is count lt out same =
      let other : i ≢ p = λ e. grind (arith, nat_tests) in
      same (All-cons (λ q. q ≢ i) p ps (λ e. other (sym e)) out) ∙ sym (get_or-set_other old p i (get_or now p none) none other)

  -- a list that differs from another only at these places is the other one with its items put there
  pub put_same : (ps : List ℕ) (now old : List X) → length now ≡ length old → ((i : ℕ) → i < length now → Lacks i ps → get_or now i none ≡ get_or old i none) → now ≡ put_at ps (map (λ p. get_or now p none) ps) old
  put_same [] now old count same = ext_get_or none now old count (λ i lt. same i lt (λ k d h. absurd (omega (arith, h))))
  put_same (p ∷ ps) now old count same =
      put_same ps now (slice_set old p (get_or now p none)) (count ∙ sym (length-set old p (get_or now p none)))
      (λ i lt out. put_one (i == p) i p ps now old refl count lt out (same i lt))

-- places among lowered ones
lower_out : (b : Bool) (by p i : ℕ) (rest : List ℕ) → nat_le by p ≡ b → Lacks i (map (λ q. q - by) (cond b (p ∷ rest) rest)) → (p ≢ by + i) × Lacks i (map (λ q. q - by) rest)
lower_out true by p i rest is out = (λ e. out 0 0 (omega arith) (omega (arith, e)), All-tail (λ q. q ≢ i) (p - by) (map (λ q. q - by) rest) out)
lower_out false by p i rest is out = (λ e. grind (arith, nat_tests), out)

pub lowered_out : (by i : ℕ) (ps : List ℕ) → Lacks i (lowered by ps) → Lacks (by + i) ps
lowered_out by i [] out = λ k d h. absurd (omega (arith, h))
lowered_out by i (p ∷ ps) out =
    let one = lower_out (nat_le by p) by p i (filter (λ q. nat_le by q) ps) refl out in
    All-cons (λ q. q ≢ by + i) p ps one.0 (lowered_out by i ps one.1)

-- what holds of each part of a list holds of both
all_apart : (P : ℕ → Type 0) (xs ys : List ℕ) → All P (xs ++ ys) → All P xs × All P ys
all_apart P [] ys all = (λ k d h. absurd (omega (arith, h)), all)
all_apart P (x ∷ xs) ys all =
    let rest = all_apart P xs ys (All-tail P x (xs ++ ys) all) in
    (All-cons P x xs (all 0 0 (omega arith)) rest.0, rest.1)

-- what holds of a place, of those below it and of those above it holds of all
all_three : (b c : Bool) (P : ℕ → Type 0) (place p : ℕ) (below above rest : List ℕ) → nat_lt p place ≡ b → nat_lt place p ≡ c → P place → (All P below → All P above → All P rest) → All P (cond b (p ∷ below) below) → All P (cond c (p ∷ above) above) → All P (p ∷ rest)
all_three true c P place p below above rest lt gt at on lower upper =
    let other : c ≡ false = sym gt ∙ grind (arith, nat_tests) in
    let up : All P above = subst (λ (b : Bool). All P (cond b (p ∷ above) above)) other upper in
    All-cons P p rest (lower 0 0 (omega arith)) (on (All-tail P p below lower) up)
all_three false true P place p below above rest lt gt at on lower upper = All-cons P p rest (upper 0 0 (omega arith)) (on lower (All-tail P p above upper))
all_three false false P place p below above rest lt gt at on lower upper =
    let e : place ≡ p = grind (arith, nat_tests) in
    All-cons P p rest (subst P e at) (on lower upper)

all_around : (P : ℕ → Type 0) (place : ℕ) (ps : List ℕ) → P place → All P (filter (λ p. nat_lt p place) ps) → All P (filter (λ p. nat_lt place p) ps) → All P ps
all_around P place [] at below above = below
all_around P place (p ∷ ps) at below above =
    all_three (nat_lt p place) (nat_lt place p) P place p (filter (λ q. nat_lt q place) ps) (filter (λ q. nat_lt place q) ps) ps refl refl at (all_around P place ps at) below above

with_place_out : (i place : ℕ) (ps : List ℕ) → Lacks i (with_place place ps) → (place ≢ i) × Lacks i ps
with_place_out i place ps out =
    let apart = all_apart (λ p. p ≢ i) (filter (λ p. nat_lt p place) ps) (place ∷ filter (λ p. nat_lt place p) ps) out in
    let at : place ≢ i = apart.1 0 0 (omega arith) in
    (at, all_around (λ p. p ≢ i) place ps at apart.0 (All-tail (λ p. p ≢ i) place (filter (λ p. nat_lt place p) ps) apart.1))

-- rising lists
rising_cons : (x : ℕ) (xs : List ℕ) → All (λ y. x < y) xs → IsStrictlyIncreasing xs → IsStrictlyIncreasing (x ∷ xs)
rising_cons x xs above r zero h = above 0 0 (omega (arith, h))
rising_cons x xs above r (suc k) h =
    let e : suc (k + 1) ≡ suc k + 1 = omega arith in
    subst (λ (n : ℕ). get_or xs k 0 < get_or (x ∷ xs) n 0) e (r k (omega (arith, h)))

pub rising_tail : (x : ℕ) (xs : List ℕ) → IsStrictlyIncreasing (x ∷ xs) → IsStrictlyIncreasing xs
rising_tail x xs r k h =
    let e : suc k + 1 ≡ suc (k + 1) = omega arith in
    subst (λ (n : ℕ). get_or (x ∷ xs) (suc k) 0 < get_or (x ∷ xs) n 0) e (r (suc k) (omega (arith, h)))

pub rising_head : (x : ℕ) (xs : List ℕ) → IsStrictlyIncreasing (x ∷ xs) → All (λ y. x < y) xs
rising_head x [] r = λ k d h. absurd (omega (arith, h))
rising_head x (y ∷ ys) r =
    let first : x < y = r 0 (omega arith) in
    let rest = rising_head y ys (rising_tail x (y ∷ ys) r) in
    All-cons (λ z. x < z) y ys first (λ k d h. let more = rest k d h in omega (arith, first, more))

rising_lower : (by : ℕ) (ps : List ℕ) → All (λ p. by ≤ p) ps → IsStrictlyIncreasing ps → IsStrictlyIncreasing (map (λ p. p - by) ps)
rising_lower by [] all r = λ k h. absurd (omega (arith, h))
rising_lower by (p ∷ ps) all r =
    let least : by ≤ p = all 0 0 (omega arith) in
    let above = rising_head p ps r in
    rising_cons (p - by) (map (λ q. q - by) ps)
    (All-map (λ q. p - by < q) (λ q. q - by) ps (λ k d h. let a = above k d h in omega (arith, a, least)))
    (rising_lower by ps (All-tail (λ q. by ≤ q) p ps all) (rising_tail p ps r))

rising_join : (place : ℕ) (below above : List ℕ) → All (λ p. p < place) below → All (λ p. place < p) above → IsStrictlyIncreasing below → IsStrictlyIncreasing above → IsStrictlyIncreasing (below ++ place ∷ above)
rising_join place [] above less more r s = rising_cons place above more s
rising_join place (p ∷ below) above less more r s =
    let lt : p < place = less 0 0 (omega arith) in
    rising_cons p (below ++ place ∷ above)
    (All-append (λ q. p < q) below (place ∷ above) (rising_head p below r) (All-cons (λ q. p < q) place above lt (λ k d h. let m = more k d h in omega (arith, m, lt))))
    (rising_join place below above (All-tail (λ q. q < place) p below less) more (rising_tail p below r) s)

rising_lowered : (by : ℕ) (ps : List ℕ) → IsStrictlyIncreasing ps → IsStrictlyIncreasing (lowered by ps)
rising_lowered by ps r =
    let passes = filter_passes (λ p. nat_le by p) ps in
    rising_lower by (filter (λ p. nat_le by p) ps) (λ k d h. let t = passes k d h in grind (arith, nat_tests)) (IsStrictlyIncreasing-filter (λ p. nat_le by p) ps r)

rising_with : (place : ℕ) (ps : List ℕ) → IsStrictlyIncreasing ps → IsStrictlyIncreasing (with_place place ps)
rising_with place ps r =
    let below = filter_passes (λ p. nat_lt p place) ps in
    let above = filter_passes (λ p. nat_lt place p) ps in
    rising_join place (filter (λ p. nat_lt p place) ps) (filter (λ p. nat_lt place p) ps)
    (λ k d h. let t = below k d h in grind (arith, nat_tests)) (λ k d h. let t = above k d h in grind (arith, nat_tests))
    (IsStrictlyIncreasing-filter (λ p. nat_lt p place) ps r) (IsStrictlyIncreasing-filter (λ p. nat_lt place p) ps r)

-- the buckets `now` follow from `olds`, of which the first has the number `first`, as `s` says
pub record Follows {X : Type 0} (none : X) (first : ℕ) (olds now : List X) (s : Slid) : Type 0 where
  pub fresh_in : s.fresh ≤ length now
  pub counted : length now ≤ s.accepted
  pub stood_is : s.stood ≡ length olds
  pub kept : length now - s.fresh ≤ length olds
  pub after : first + (length olds - (length now - s.fresh)) ≤ s.accepted - length now
  pub exact : 0 < length now - s.fresh → s.accepted - length now ≡ first + (length olds - (length now - s.fresh))
  pub late_in : All (λ p. p < length now - s.fresh) s.late
  pub rising : IsStrictlyIncreasing s.late
  pub same : (i : ℕ) → i < length now - s.fresh → Lacks i s.late → get_or now i none ≡ get_or olds (length olds - (length now - s.fresh) + i) none

-- one came, some of the oldest left, or records came to one
abbrev pub pushed : Slid → Slid
pushed s = record { accepted = s.accepted + 1; stood = s.stood; fresh = s.fresh + 1; late = s.late }

abbrev pub dropped : ℕ → ℕ → Slid → Slid
dropped by count s = record { accepted = s.accepted; stood = s.stood; fresh = min s.fresh count; late = lowered by s.late }

abbrev pub with_late_place : ℕ → Slid → Slid
with_late_place place s = record { accepted = s.accepted; stood = s.stood; fresh = s.fresh; late = with_place place s.late }

module _ {X : Type 0} (none : X) (first : ℕ) (olds now : List X) (s : Slid) (f : Follows none first olds now s) where
  pub follows_push : (x : X) → Follows none first olds (now ++ x ∷ []) (pushed s)
  follows_push x =
      let n : length (now ++ x ∷ []) ≡ length now + 1 = length-append now (x ∷ []) in
      let k : length now - s.fresh ≡ length (now ++ x ∷ []) - (s.fresh + 1) = omega (arith, n) in
      record {
        fresh_in = omega (arith, n, f.fresh_in);
        counted = omega (arith, n, f.counted);
        stood_is = f.stood_is;
        kept = omega (arith, k, f.kept);
        after = omega (arith, n, f.counted, f.fresh_in, f.after);
        exact = λ some. let e = f.exact (omega (arith, k, some)) in omega (arith, n, f.counted, f.fresh_in, e);
        late_in = subst (λ (m : ℕ). All (λ p. p < m) s.late) k f.late_in;
        rising = f.rising;
        same = λ i lt out.
            get_or_append_left now (x ∷ []) none i (omega (arith, n, lt)) ∙ f.same i (omega (arith, k, lt)) out
            ∙ ap (λ (m : ℕ). get_or olds (length olds - m + i) none) k;
      }

  pub follows_drop : (by : ℕ) → by ≤ length now → Follows none first olds (drop by now) (dropped by (length (drop by now)) s)
  follows_drop by within =
      let n : length (drop by now) ≡ length now - by = length-drop by now in
      let k : length (drop by now) - min s.fresh (length (drop by now)) ≡ length now - s.fresh - by = omega (arith, n, f.fresh_in) in
      record {
        fresh_in = omega arith;
        counted = omega (arith, n, f.counted);
        stood_is = f.stood_is;
        kept = omega (arith, k, f.kept);
        after = omega (arith, n, k, f.counted, f.kept, f.after, within);
        exact = λ some. let e = f.exact (omega (arith, k, some)) in omega (arith, n, k, f.counted, f.kept, e, some, within);
        late_in = subst (λ (m : ℕ). All (λ p. p < m) (lowered by s.late)) (sym k) (lowered_below by (length now - s.fresh - by) (length now - s.fresh) s.late (omega arith) f.late_in);
        rising = rising_lowered by s.late f.rising;
        same = λ i lt out.
            get_or-drop by now i none ∙ f.same (by + i) (omega (arith, k, lt)) (lowered_out by i s.late out)
            ∙ ap (λ (m : ℕ). get_or olds m none) (omega (arith, k, lt, f.kept));
      }

  pub follows_late : (place : ℕ) (x : X) → place < length now - s.fresh → Follows none first olds (slice_set now place x) (with_late_place place s)
  follows_late place x lt =
      let n : length now ≡ length (slice_set now place x) = sym (length-set now place x) in
      let k : length now - s.fresh ≡ length (slice_set now place x) - s.fresh = omega (arith, n) in
      record {
        fresh_in = omega (arith, n, f.fresh_in);
        counted = omega (arith, n, f.counted);
        stood_is = f.stood_is;
        kept = omega (arith, k, f.kept);
        after = omega (arith, n, k, f.after);
        exact = λ some. let e = f.exact (omega (arith, k, some)) in omega (arith, n, k, e);
        late_in = subst (λ (m : ℕ). All (λ p. p < m) (with_place place s.late)) k (with_place_below (length now - s.fresh) place s.late lt f.late_in);
        rising = rising_with place s.late f.rising;
        same = λ i in_ out.
            let apart = with_place_out i place s.late out in
            get_or-set_other now place i x none (λ e. apart.0 (sym e)) ∙ f.same i (omega (arith, k, in_)) apart.1
            ∙ ap (λ (m : ℕ). get_or olds (length olds - m + i) none) k;
      }

  pub follows_fresh : (place : ℕ) (x : X) → length now - s.fresh ≤ place → Follows none first olds (slice_set now place x) s
  follows_fresh place x ge =
      let n : length now ≡ length (slice_set now place x) = sym (length-set now place x) in
      let k : length now - s.fresh ≡ length (slice_set now place x) - s.fresh = omega (arith, n) in
      record {
        fresh_in = omega (arith, n, f.fresh_in);
        counted = omega (arith, n, f.counted);
        stood_is = f.stood_is;
        kept = omega (arith, k, f.kept);
        after = omega (arith, n, k, f.after);
        exact = λ some. let e = f.exact (omega (arith, k, some)) in omega (arith, n, k, e);
        late_in = subst (λ (m : ℕ). All (λ p. p < m) s.late) k f.late_in;
        rising = f.rising;
        same = λ i in_ out.
            get_or-set_other now place i x none (λ e. omega (arith, e, ge, in_, k)) ∙ f.same i (omega (arith, k, in_)) out
            ∙ ap (λ (m : ℕ). get_or olds (length olds - m + i) none) k;
      }

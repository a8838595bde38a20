-- Rows of places in a circle, when a window moves on.
use Rattle.std.proofs.Common.{◌≡◌, ◌⊎◌, inl, inr, ℕ, suc, zero, ◌+◌, ◌-◌, ◌*◌, ◌<◌, ◌≤◌, arith, sym, ap, ◌∙◌, List, [], ◌∷◌, ◌++◌, length, length-append, length-take, length-drop, refl, Option, Some, None, set, take, drop, map, append_assoc, ◌^◌, add-one}
use native.Mathlib.Nat.{pow-suc}
use Rattle.std.proofs.lemmas.List.{set-append_left, take-append-drop, drop-drop, take-take, length-set, length-map, drop-append-le, take-append-le, append-nil, drop_all, map-append, drop-map, drop-take, drop_at, take_at, map-set}
use Rattle.std.specs.Prelude.{All}
use Rattle.record_text.specs.Shifts.{put_at}
use Rattle.rotating_tree.specs.Circles.{with_fresh, voids, row}

pub length_voids : (V : Type 0) (k : ℕ) → length (voids {X = V} k) ≡ k
length_voids V zero = refl
length_voids V (suc k) = omega (arith, length_voids V k)

pub drop_voids : (V : Type 0) (f k : ℕ) → drop f (voids {X = V} k) ≡ voids {X = V} (k - f)
drop_voids V zero k = let e : k ≡ k - 0 = omega arith in ap (voids {X = V}) e
drop_voids V (suc f) zero = let e : 0 ≡ 0 - suc f = omega arith in ap (voids {X = V}) e
drop_voids V (suc f) (suc k) = let e : k - f ≡ suc k - suc f = omega arith in drop_voids V f k ∙ ap (voids {X = V}) e

-- What a shift puts at places of leaves changes only the leaves.
pub late_row : {X : Type 0} (leaves : List X) (rest : List (Option X)) (ps : List ℕ) (vs : List X) → All (λ p. p < length leaves) ps → put_at ps (map Some vs) (map Some leaves ++ rest) ≡ map Some (put_at ps vs leaves) ++ rest
late_row leaves rest [] vs a = refl
late_row leaves rest (p ∷ ps) [] a = refl
late_row leaves rest (p ∷ ps) (v ∷ vs) a =
    let lt : p < length leaves = a 0 0 (omega arith) in
    ap (put_at ps (map Some vs)) (set-append_left (map Some leaves) rest p (Some v) (omega (arith, lt, length-map leaves Some)) ∙ ap (λ l. l ++ rest) (sym (map-set Some leaves p v)))
    ∙ late_row (set leaves p v) rest ps vs (λ k d l. omega (arith, a (suc k) d (omega (arith, l)), length-set leaves p v))

take_add : {X : Type 0} (i j : ℕ) (xs : List X) → take (i + j) xs ≡ take i xs ++ take j (drop i xs)
take_add i j xs = sym (take-append-drop i (take (i + j) xs)) ∙ ap (λ ys. ys ++ drop i (take (i + j) xs)) (take-take i (i + j) xs (omega arith)) ∙ ap (λ ys. take i xs ++ ys) (drop-take i j xs)

-- A circle from a later place on.
pub turn_on : {X : Type 0} (s g : ℕ) (ys : List X) → s + g ≤ length ys → drop (s + g) ys ++ take (s + g) ys ≡ drop g (drop s ys ++ take s ys) ++ take g (drop s ys ++ take s ys)
turn_on s g ys le =
    let room : g ≤ length (drop s ys) = omega (arith, length-drop s ys) in
    ap (λ zs. drop (s + g) ys ++ zs) (take_add s g ys)
    ∙ sym (append_assoc (drop (s + g) ys) (take s ys) (take g (drop s ys)))
    ∙ ap (λ zs. (zs ++ take s ys) ++ take g (drop s ys)) (sym (drop-drop g s ys))
    ∙ ap (λ zs. zs ++ take g (drop s ys)) (sym (drop-append-le g (drop s ys) (take s ys) room))
    ∙ ap (λ zs. drop g (drop s ys ++ take s ys) ++ zs) (sym (take-append-le g (drop s ys) (take s ys) room))

-- The same if that place is past the last.
pub turn_round : {X : Type 0} (s g t : ℕ) (ys : List X) → s ≤ length ys → t ≤ s → s + g ≡ length ys + t → drop t ys ++ take t ys ≡ drop g (drop s ys ++ take s ys) ++ take g (drop s ys ++ take s ys)
turn_round s g t ys le small is =
    let far : length (drop s ys) ≡ length ys - s = length-drop s ys in
    let g_is : g ≡ length (drop s ys) + t = omega (arith, far) in
    let left : drop g (drop s ys ++ take s ys) ≡ drop t (take s ys) =
    ap (λ i. drop i (drop s ys ++ take s ys)) g_is ∙ sym (drop-drop t (length (drop s ys)) (drop s ys ++ take s ys)) ∙ ap (drop t) (drop_at (drop s ys) (take s ys) (length (drop s ys)) refl) in
    let right : take g (drop s ys ++ take s ys) ≡ drop s ys ++ take t ys =
    ap (λ i. take i (drop s ys ++ take s ys)) g_is ∙ take_add (length (drop s ys)) t (drop s ys ++ take s ys)
    ∙ ap (λ zs. zs ++ take t (drop (length (drop s ys)) (drop s ys ++ take s ys))) (take_at (drop s ys) (take s ys) (length (drop s ys)) refl)
    ∙ ap (λ zs. drop s ys ++ take t zs) (drop_at (drop s ys) (take s ys) (length (drop s ys)) refl)
    ∙ ap (λ zs. drop s ys ++ zs) (take-take t s ys small) in
    let room : t ≤ length (take s ys) = omega (arith, length-take s ys) in
    ap (λ zs. drop t zs ++ take t ys) (sym (take-append-drop s ys))
    ∙ ap (λ zs. zs ++ take t ys) (drop-append-le t (take s ys) (drop s ys) room)
    ∙ append_assoc (drop t (take s ys)) (drop s ys) (take t ys)
    ∙ ap (λ zs. zs ++ (drop s ys ++ take t ys)) (sym left)
    ∙ ap (λ zs. drop g (drop s ys ++ take s ys) ++ zs) (sym right)

pub late_length : {X : Type 0} (ps : List ℕ) (vs leaves : List X) → length (put_at ps vs leaves) ≡ length leaves
late_length [] vs leaves = refl
late_length (p ∷ ps) [] leaves = refl
late_length (p ∷ ps) (v ∷ vs) leaves = late_length ps vs (set leaves p v) ∙ length-set leaves p v

-- Leaves with others at some places, mapped.
pub map-late : {X Y : Type 0} (f : X → Y) (ps : List ℕ) (vs leaves : List X) → map f (put_at ps vs leaves) ≡ put_at ps (map f vs) (map f leaves)
map-late f [] vs leaves = refl
map-late f (p ∷ ps) [] leaves = refl
map-late f (p ∷ ps) (v ∷ vs) leaves = map-late f ps vs (set leaves p v) ∙ ap (put_at ps (map f vs)) (map-set f leaves p v)

-- A row that is turned, with leaves changed and fresh ones, is the row of the shifted leaves.
pub advanced_row : {X : Type 0} (n gone : ℕ) (late : List ℕ) (again fresh leaves : List X) → length leaves ≤ n → gone ≤ length leaves → All (λ p. p < length (drop gone leaves)) late → (gone ≡ 0) ⊎ (length leaves - gone + length fresh ≡ n) → length leaves - gone + length fresh ≤ n → with_fresh (length leaves - gone) fresh (put_at late (map Some again) (drop gone (row n leaves) ++ take gone (row n leaves))) ≡ row n (put_at late again (drop gone leaves) ++ fresh)
advanced_row {X} n gone late again fresh leaves few le places full fits =
    let kept : length (drop gone leaves) ≡ length leaves - gone = length-drop gone leaves in
    let rest : List (Option X) = voids (n - length leaves) ++ take gone (row n leaves) in
    let some : gone ≤ length (map Some leaves) = omega (arith, length-map leaves Some, le) in
    let turned : drop gone (row n leaves) ++ take gone (row n leaves) ≡ map Some (drop gone leaves) ++ rest =
    ap (λ zs. zs ++ take gone (row n leaves)) (drop-append-le gone (map Some leaves) (voids (n - length leaves)) some ∙ ap (λ zs. zs ++ voids (n - length leaves)) (drop-map Some gone leaves))
    ∙ append_assoc (map Some (drop gone leaves)) (voids (n - length leaves)) (take gone (row n leaves)) in
    let one : List X = put_at late again (drop gone leaves) in
    let long : length (map Some one) ≡ length leaves - gone = length-map one Some ∙ late_length late again (drop gone leaves) ∙ kept in
    let size : length (row n leaves) ≡ n = length-append (map Some leaves) (voids (n - length leaves)) ∙ omega (arith, length-map leaves Some, length_voids X (n - length leaves), few) in
    let left : length rest ≡ n - length leaves + gone = length-append (voids (n - length leaves)) (take gone (row n leaves)) ∙ omega (arith, length_voids X (n - length leaves), length-take gone (row n leaves), size, few, le) in
    let total : length (one ++ fresh) ≡ length leaves - gone + length fresh = length-append one fresh ∙ omega (arith, late_length late again (drop gone leaves), kept) in
    let end : drop (length fresh) rest ≡ voids (n - length (one ++ fresh)) = elim full [
      | inl z ↦
          let less : n - length leaves - length fresh ≡ n - length (one ++ fresh) = omega (arith, total, z) in
          ap (λ g. drop (length fresh) (voids (n - length leaves) ++ take g (row n leaves))) z ∙ ap (drop (length fresh)) (append-nil (voids (n - length leaves))) ∙ drop_voids X (length fresh) (n - length leaves) ∙ ap (voids {X = X}) less
      | inr e ↦
          let none : n - length (one ++ fresh) ≡ 0 = omega (arith, total, e) in
          drop_all (length fresh) rest (omega (arith, left, e, few, le)) ∙ sym (ap (voids {X = X}) none)
    ] in
    ap (λ r. with_fresh (length leaves - gone) fresh (put_at late (map Some again) r)) turned
    ∙ ap (with_fresh (length leaves - gone) fresh) (late_row (drop gone leaves) rest late again places)
    ∙ ap (λ zs. (zs ++ map Some fresh) ++ drop (length leaves - gone + length fresh) (map Some one ++ rest)) (take_at (map Some one) rest (length leaves - gone) long)
    ∙ ap (λ zs. (map Some one ++ map Some fresh) ++ zs) (sym (drop-drop (length fresh) (length leaves - gone) (map Some one ++ rest)) ∙ ap (drop (length fresh)) (drop_at (map Some one) rest (length leaves - gone) long) ∙ end)
    ∙ ap (λ zs. zs ++ voids (n - length (one ++ fresh))) (sym (map-append Some one fresh))

pub voids_add : (V : Type 0) (i j : ℕ) → voids {X = V} i ++ voids {X = V} j ≡ voids {X = V} (i + j)
voids_add V zero j = let e : j ≡ 0 + j = omega arith in ap (voids {X = V}) e
voids_add V (suc i) j = let e : suc (i + j) ≡ suc i + j = omega arith in ap (λ l. None ∷ l) (voids_add V i j) ∙ ap (voids {X = V}) e

pub voids_twice : (V : Type 0) (h : ℕ) → 0 < h → voids {X = V} (2 ^ (h - 1)) ++ voids {X = V} (2 ^ (h - 1)) ≡ voids {X = V} (2 ^ h)
voids_twice V h lt =
    let one : h ≡ h - 1 + 1 = omega (arith, lt) in
    let twice : 2 ^ (h - 1 + 1) ≡ 2 ^ (h - 1) * 2 = rw add-one (pow-suc 2 (h - 1)) in
    let sum : 2 ^ (h - 1) + 2 ^ (h - 1) ≡ 2 ^ h = omega (arith, twice, ap (λ k. 2 ^ k) one) in
    voids_add V (2 ^ (h - 1)) (2 ^ (h - 1)) ∙ ap (voids {X = V}) sum

-- A number of void places, out of more.
pub take_voids : (X : Type 0) (i k : ℕ) → i ≤ k → take i (voids {X = X} k) ≡ voids {X = X} i
take_voids X zero k le = refl
take_voids X (suc i) zero le = absurd (omega (arith, le))
take_voids X (suc i) (suc k) le = ap (λ l. None ∷ l) (take_voids X i k (omega (arith, le)))

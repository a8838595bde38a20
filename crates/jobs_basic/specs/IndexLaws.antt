-- The laws of `index`.
use Rattle.std.specs.Prelude.{◌≡◌, ◌≤◌, ◌<◌, ℕ, suc, Bool, true, false, nat_lt, IsTrue, List, [], ◌∷◌, Option, Some, None}
use Rattle.std.proofs.Common.{refl, sym, ap, subst, ◌∙◌, arith}
use Rattle.std.proofs.lemmas.Bool.{and_parts}
use Rattle.definitions.specs.Numbers.{is_number, digits_value}
use Rattle.definitions.specs.Tables.{HasGoodValues, IsGoodJoin}
use Rattle.job_laws.specs.Forms.{split_at_tab, is_short, fields_pass, is_index_record}
use Rattle.jobs_basic.specs.Words.{good_words}
use Rattle.jobs_basic.specs.Index.{in_document, text_pairs, index_emits, union, index_joined, RisesFrom, index_good}

-- The three cases of two heads.
lower : (d : ℕ) (ds : List ℕ) (e : ℕ) (es : List ℕ) → d < e → union (d ∷ ds) (e ∷ es) ≡ d ∷ union ds (e ∷ es)
lower d ds e es lt =
    let is : nat_lt d e ≡ true = grind arith in
    rw is refl

higher : (d : ℕ) (ds : List ℕ) (e : ℕ) (es : List ℕ) → e < d → union (d ∷ ds) (e ∷ es) ≡ e ∷ union (d ∷ ds) es
higher d ds e es lt =
    let is : nat_lt d e ≡ false = grind arith in
    let back : nat_lt e d ≡ true = grind arith in
    rw (is, back) refl

same : (d : ℕ) (ds es : List ℕ) → union (d ∷ ds) (d ∷ es) ≡ d ∷ union ds es
same d ds es =
    let is : nat_lt d d ≡ false = grind arith in
    rw is refl

pub none_right : (ds : List ℕ) → union ds [] ≡ ds
none_right [] = refl
none_right (d ∷ ds) = ap (λ l. d ∷ l) (none_right ds)

-- Which of two numbers is lower.
data Order (d e : ℕ) : Type 0 where
  below : d < e → Order d e
  level : d ≡ e → Order d e
  above : e < d → Order d e

order_of : (d e : ℕ) → Order d e
order_of d e = first (nat_lt d e) refl
  where
    second : (c : Bool) → nat_lt e d ≡ c → nat_lt d e ≡ false → Order d e
    second true is h = above (grind arith)
    second false is h = level (grind arith)

    first : (c : Bool) → nat_lt d e ≡ c → Order d e
    first true is = below (grind arith)
    first false is = second (nat_lt e d) refl is

-- A union is commutative, whatever the lists.
union_comm : (a b : List ℕ) → union a b ≡ union b a
union_comm [] b = sym (none_right b)
union_comm (d ∷ ds) [] = none_right (d ∷ ds)
union_comm (d ∷ ds) (e ∷ es) = by (order_of d e) (union_comm (d ∷ ds) es) (union_comm ds (e ∷ es)) (union_comm ds es)
  where
    by : Order d e → union (d ∷ ds) es ≡ union es (d ∷ ds) → union ds (e ∷ es) ≡ union (e ∷ es) ds → union ds es ≡ union es ds → union (d ∷ ds) (e ∷ es) ≡ union (e ∷ es) (d ∷ ds)
    by (below lt) ih1 ih2 ih3 = lower d ds e es lt ∙ ap (λ l. d ∷ l) ih2 ∙ sym (higher e es d ds lt)
    by (above gt) ih1 ih2 ih3 = higher d ds e es gt ∙ ap (λ l. e ∷ l) ih1 ∙ sym (lower e es d ds gt)
    by (level eq) ih1 ih2 ih3 =
        ap (λ n. union (d ∷ ds) (n ∷ es)) (sym eq)
        ∙ same d ds es
        ∙ ap (λ l. d ∷ l) ih3
        ∙ sym (same d es ds)
        ∙ ap (λ n. union (n ∷ es) (d ∷ ds)) eq

-- A list that rises from a number rises from each lower one.
rises_lower : (n m : ℕ) (ds : List ℕ) → n ≤ m → RisesFrom m ds → RisesFrom n ds
rises_lower n m [] le h = tt
rises_lower n m (d ∷ ds) le h = (omega (arith, le, h.0), h.1, h.2)

-- The union of rising lists rises.
union_rises : (n : ℕ) (a b : List ℕ) → RisesFrom n a → RisesFrom n b → RisesFrom n (union a b)
union_rises n [] b g h = h
union_rises n (d ∷ ds) [] g h = subst (RisesFrom n) (sym (none_right (d ∷ ds))) g
union_rises n (d ∷ ds) (e ∷ es) g h = by (order_of d e) (λ m g' h'. union_rises m ds (e ∷ es) g' h') (λ m g' h'. union_rises m (d ∷ ds) es g' h') (λ m g' h'. union_rises m ds es g' h')
  where
    by : Order d e
        → ((m : ℕ) → RisesFrom m ds → RisesFrom m (e ∷ es) → RisesFrom m (union ds (e ∷ es)))
        → ((m : ℕ) → RisesFrom m (d ∷ ds) → RisesFrom m es → RisesFrom m (union (d ∷ ds) es))
        → ((m : ℕ) → RisesFrom m ds → RisesFrom m es → RisesFrom m (union ds es))
        → RisesFrom n (union (d ∷ ds) (e ∷ es))
    by (below lt) ih1 ih2 ih3 = subst (RisesFrom n) (sym (lower d ds e es lt)) (g.0, g.1, ih1 (suc d) g.2 (omega (arith, lt), h.1, h.2))
    by (above gt) ih1 ih2 ih3 = subst (RisesFrom n) (sym (higher d ds e es gt)) (h.0, h.1, ih2 (suc e) (omega (arith, gt), g.1, g.2) h.2)
    by (level eq) ih1 ih2 ih3 = subst (RisesFrom n) (sym (ap (λ m. union (d ∷ ds) (m ∷ es)) (sym eq) ∙ same d ds es)) (g.0, g.1, ih3 (suc d) g.2 (subst (λ m. RisesFrom (suc m) es) (sym eq) h.2))

-- A number below both heads is the head.
head_right : (x : ℕ) (xs : List ℕ) (y : ℕ) (ys : List ℕ) (z : ℕ) (zs : List ℕ) → x < y → x < z → union (x ∷ xs) (union (y ∷ ys) (z ∷ zs)) ≡ x ∷ union xs (union (y ∷ ys) (z ∷ zs))
head_right x xs y ys z zs xy xz = by (order_of y z)
  where
    shown : (h : ℕ) (t : List ℕ) → x < h → union (y ∷ ys) (z ∷ zs) ≡ h ∷ t → union (x ∷ xs) (union (y ∷ ys) (z ∷ zs)) ≡ x ∷ union xs (union (y ∷ ys) (z ∷ zs))
    shown h t lt is = ap (λ l. union (x ∷ xs) l) is ∙ lower x xs h t lt ∙ ap (λ l. x ∷ union xs l) (sym is)

    by : Order y z → union (x ∷ xs) (union (y ∷ ys) (z ∷ zs)) ≡ x ∷ union xs (union (y ∷ ys) (z ∷ zs))
    by (below lt) = shown y (union ys (z ∷ zs)) xy (lower y ys z zs lt)
    by (level eq) = shown y (union ys zs) xy (ap (λ n. union (y ∷ ys) (n ∷ zs)) (sym eq) ∙ same y ys zs)
    by (above gt) = shown z (union (y ∷ ys) zs) xz (higher y ys z zs gt)

head_left : (x : ℕ) (xs : List ℕ) (y : ℕ) (ys : List ℕ) (z : ℕ) (zs : List ℕ) → z < x → z < y → union (union (x ∷ xs) (y ∷ ys)) (z ∷ zs) ≡ z ∷ union (union (x ∷ xs) (y ∷ ys)) zs
head_left x xs y ys z zs zx zy =
    union_comm (union (x ∷ xs) (y ∷ ys)) (z ∷ zs)
    ∙ head_right z zs x xs y ys zx zy
    ∙ ap (λ l. z ∷ l) (union_comm zs (union (x ∷ xs) (y ∷ ys)))

-- Equal heads become one.
level_heads : (d : ℕ) (ds : List ℕ) (e : ℕ) (es : List ℕ) → d ≡ e → union (d ∷ ds) (e ∷ es) ≡ d ∷ union ds es
level_heads d ds e es eq = ap (λ n. union (d ∷ ds) (n ∷ es)) (sym eq) ∙ same d ds es

-- A union is associative, whatever the lists.
union_assoc : (a b c : List ℕ) → union (union a b) c ≡ union a (union b c)
union_assoc [] b c = refl
union_assoc (x ∷ xs) [] c = ap (λ l. union l c) (none_right (x ∷ xs))
union_assoc (x ∷ xs) (y ∷ ys) [] = none_right (union (x ∷ xs) (y ∷ ys)) ∙ ap (λ l. union (x ∷ xs) l) (sym (none_right (y ∷ ys)))
union_assoc (x ∷ xs) (y ∷ ys) (z ∷ zs) = by (order_of x y) (order_of x z) (order_of y z) (union_assoc (x ∷ xs) (y ∷ ys) zs) (union_assoc (x ∷ xs) ys (z ∷ zs)) (union_assoc (x ∷ xs) ys zs) (union_assoc xs (y ∷ ys) (z ∷ zs)) (union_assoc xs (y ∷ ys) zs) (union_assoc xs ys (z ∷ zs)) (union_assoc xs ys zs)
  where
    last : z < x → z < y → union (union (x ∷ xs) (y ∷ ys)) zs ≡ union (x ∷ xs) (union (y ∷ ys) zs) → union (union (x ∷ xs) (y ∷ ys)) (z ∷ zs) ≡ union (x ∷ xs) (union (y ∷ ys) (z ∷ zs))
    last zx zy ih =
        head_left x xs y ys z zs zx zy
        ∙ ap (λ l. z ∷ l) ih
        ∙ sym (higher x xs z (union (y ∷ ys) zs) zx)
        ∙ ap (λ l. union (x ∷ xs) l) (sym (higher y ys z zs zy))

    by : Order x y → Order x z → Order y z
        → union (union (x ∷ xs) (y ∷ ys)) zs ≡ union (x ∷ xs) (union (y ∷ ys) zs)
        → union (union (x ∷ xs) ys) (z ∷ zs) ≡ union (x ∷ xs) (union ys (z ∷ zs))
        → union (union (x ∷ xs) ys) zs ≡ union (x ∷ xs) (union ys zs)
        → union (union xs (y ∷ ys)) (z ∷ zs) ≡ union xs (union (y ∷ ys) (z ∷ zs))
        → union (union xs (y ∷ ys)) zs ≡ union xs (union (y ∷ ys) zs)
        → union (union xs ys) (z ∷ zs) ≡ union xs (union ys (z ∷ zs))
        → union (union xs ys) zs ≡ union xs (union ys zs)
        → union (union (x ∷ xs) (y ∷ ys)) (z ∷ zs) ≡ union (x ∷ xs) (union (y ∷ ys) (z ∷ zs))
    by (below xy) (below xz) yz abw avc avw ubc ubw uvc uvw =
        ap (λ l. union l (z ∷ zs)) (lower x xs y ys xy)
        ∙ lower x (union xs (y ∷ ys)) z zs xz
        ∙ ap (λ l. x ∷ l) ubc
        ∙ sym (head_right x xs y ys z zs xy xz)
    by (below xy) (level xz) yz abw avc avw ubc ubw uvc uvw =
        let zy : z < y = omega (arith, xy, xz) in
        ap (λ l. union l (z ∷ zs)) (lower x xs y ys xy)
        ∙ level_heads x (union xs (y ∷ ys)) z zs xz
        ∙ ap (λ l. x ∷ l) ubw
        ∙ sym (level_heads x xs z (union (y ∷ ys) zs) xz)
        ∙ ap (λ l. union (x ∷ xs) l) (sym (higher y ys z zs zy))
    by (below xy) (above zx) yz abw avc avw ubc ubw uvc uvw = last zx (omega (arith, xy, zx)) abw
    by (level xy) (below xz) yz abw avc avw ubc ubw uvc uvw =
        let below_z : y < z = omega (arith, xy, xz) in
        ap (λ l. union l (z ∷ zs)) (level_heads x xs y ys xy)
        ∙ lower x (union xs ys) z zs xz
        ∙ ap (λ l. x ∷ l) uvc
        ∙ sym (level_heads x xs y (union ys (z ∷ zs)) xy)
        ∙ ap (λ l. union (x ∷ xs) l) (sym (lower y ys z zs below_z))
    by (level xy) (level xz) yz abw avc avw ubc ubw uvc uvw =
        let same_z : y ≡ z = omega (arith, xy, xz) in
        ap (λ l. union l (z ∷ zs)) (level_heads x xs y ys xy)
        ∙ level_heads x (union xs ys) z zs xz
        ∙ ap (λ l. x ∷ l) uvw
        ∙ sym (level_heads x xs y (union ys zs) xy)
        ∙ ap (λ l. union (x ∷ xs) l) (sym (level_heads y ys z zs same_z))
    by (level xy) (above zx) yz abw avc avw ubc ubw uvc uvw = last zx (omega (arith, xy, zx)) abw
    by (above yx) xz (below yz) abw avc avw ubc ubw uvc uvw =
        ap (λ l. union l (z ∷ zs)) (higher x xs y ys yx)
        ∙ lower y (union (x ∷ xs) ys) z zs yz
        ∙ ap (λ l. y ∷ l) avc
        ∙ sym (higher x xs y (union ys (z ∷ zs)) yx)
        ∙ ap (λ l. union (x ∷ xs) l) (sym (lower y ys z zs yz))
    by (above yx) xz (level yz) abw avc avw ubc ubw uvc uvw =
        ap (λ l. union l (z ∷ zs)) (higher x xs y ys yx)
        ∙ level_heads y (union (x ∷ xs) ys) z zs yz
        ∙ ap (λ l. y ∷ l) avw
        ∙ sym (higher x xs y (union ys zs) yx)
        ∙ ap (λ l. union (x ∷ xs) l) (sym (level_heads y ys z zs yz))
    by (above yx) xz (above zy) abw avc avw ubc ubw uvc uvw = last (omega (arith, yx, zy)) zy abw

-- A number is at most 4294967295.
number_fits : (bytes : List ℕ) → IsTrue (is_number bytes) → digits_value bytes ≤ 4294967295
number_fits bytes h = grind arith

good_text : (found : Option (List ℕ × List ℕ)) → IsTrue (fields_pass (λ doc text. is_number doc) found) → HasGoodValues index_good (text_pairs found)
good_text None h = tt
good_text (Some p) h =
    let fits : digits_value p.0 ≤ 4294967295 = number_fits p.0 h in
    good_words index_good (in_document (digits_value p.0)) (λ word. (omega arith, fits, tt)) p.1

-- Emitted lists are good.
pub index_emits_good : (r : List ℕ) → IsTrue (is_index_record r) → HasGoodValues index_good (index_emits r)
index_emits_good r h = good_text (split_at_tab r) (and_parts (is_short r) (fields_pass (λ doc text. is_number doc) (split_at_tab r)) h).1

-- Joining keeps good lists, and is associative on them.
pub index_join_laws : IsGoodJoin index_good index_joined
index_join_laws = record { keeps = λ a b g h. union_rises 0 a b g h; assoc = λ a b c g h i. union_assoc a b c }

-- Joining is commutative.
pub index_joined_comm : (a b : List ℕ) → index_joined a b ≡ index_joined b a
index_joined_comm a b = union_comm a b

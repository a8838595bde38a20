-- The hash of a window from the hash of the one before.
use Rattle.std.proofs.Common.{◌≡◌, ◌<◌, ℕ, suc, ◌+◌, ◌*◌, ◌%◌, ◌/◌, ◌^◌, List, [], ◌∷◌, ◌++◌, length, refl, sym, ap, ◌∙◌, arith, length-append, add-one, append-nil, append_assoc, take, drop, set, get_or, ◌⊎◌, inl, inr}
use Rattle.std.proofs.Math.Nat.{div-add-mod, add-mul-mod_self_left, pow-suc, pow-zero}
use Rattle.std.proofs.lemmas.List.{length_push, take_more_set, take_all, drop_more, drop-set-lt, length-set, length-drop, length-take-le, drop_all}
use Rattle.marker_chunker.specs.Markers.{polynomial, window_hash}

pub polynomial_push : (m : ℕ) (xs : List ℕ) (b : ℕ) → polynomial m (xs ++ b ∷ []) ≡ polynomial m xs * m + b
polynomial_push m [] b = let e : b * m ^ 0 ≡ b * 1 = ap (λ k. b * k) (pow-zero m) in omega arith
polynomial_push m (x ∷ xs) b =
    let rest = polynomial_push m xs b in
    let size : length (xs ++ b ∷ []) ≡ suc (length xs) = length_push xs b ∙ add-one (length xs) in
    let power : m ^ length (xs ++ b ∷ []) ≡ m ^ length xs * m = ap (λ k. m ^ k) size ∙ pow-suc m (length xs) in
    let head : x * m ^ length (xs ++ b ∷ []) ≡ x * (m ^ length xs * m) = ap (λ k. x * k) power in
    grind arith

-- equal up to multiples of `n`
same_rest : (a b s t n : ℕ) → a + n * s ≡ b + n * t → a % n ≡ b % n
same_rest a b s t n e = sym (add-mul-mod_self_left a n s) ∙ ap (λ k. k % n) e ∙ add-mul-mod_self_left b n t

-- the window grows
pub grown_hash : (p m b n : ℕ) → (p % n * m + b) % n ≡ (p * m + b) % n
grown_hash p m b n =
    let split = div-add-mod p n in
    same_rest (p % n * m + b) (p * m + b) (p / n * m) 0 n (sums (p % n) (p / n) p m b n split)
  where
    sums : (r d p m b n : ℕ) → n * d + r ≡ p → (r * m + b) + n * (d * m) ≡ (p * m + b) + n * 0
    sums r d p m b n e = grind arith

-- the window loses its first byte: `top` is the power that the byte had, and `k` makes its next power a multiple of n
pub rolled_hash : (x q m top b k n c : ℕ) → top * m + k ≡ n * c → ((x * top + q) % n * m + b + x * k) % n ≡ (q * m + b) % n
rolled_hash x q m top b k n c e =
    let split = div-add-mod (x * top + q) n in
    same_rest ((x * top + q) % n * m + b + x * k) (q * m + b) ((x * top + q) / n * m) (x * c) n
    (sums ((x * top + q) % n) ((x * top + q) / n) x q m top b k n c e split)
  where
    sums : (r d x q m top b k n c : ℕ) → top * m + k ≡ n * c → n * d + r ≡ x * top + q → (r * m + b + x * k) + n * (d * m) ≡ (q * m + b) + n * (x * c)
    sums r d x q m top b k n c e s =
        let f : x * (top * m + k) ≡ x * (n * c) = ap (λ v. x * v) e in
        let g : (n * d + r) * m ≡ (x * top + q) * m = ap (λ v. v * m) s in
        omega arith

multiple : 16777619 ^ 15 * 16777619 + 3416554943 ≡ 2 ^ 32 * ((16777619 ^ 16 + 3416554943) / 2 ^ 32)
multiple = refl

-- what the code computes if the window is full
pub full_hash : (x : ℕ) (window : List ℕ) (b : ℕ) → length window ≡ 15 → (window_hash (x ∷ window) * 16777619 + b + x * 3416554943) % 2 ^ 32 ≡ window_hash (window ++ b ∷ [])
unfolding window_hash
full_hash x window b l =
    let top : 16777619 ^ length window ≡ 16777619 ^ 15 = ap (λ k. 16777619 ^ k) l in
    ap (λ (t : ℕ). ((x * t + polynomial 16777619 window) % 2 ^ 32 * 16777619 + b + x * 3416554943) % 2 ^ 32) top
    ∙ rolled_hash x (polynomial 16777619 window) 16777619 (16777619 ^ 15) b 3416554943 (2 ^ 32) ((16777619 ^ 16 + 3416554943) / 2 ^ 32) multiple
    ∙ ap (λ k. k % 2 ^ 32) (sym (polynomial_push 16777619 window b))

pub more_hash : (window : List ℕ) (b : ℕ) → (window_hash window * 16777619 + b) % 2 ^ 32 ≡ window_hash (window ++ b ∷ [])
unfolding window_hash
more_hash window b = grown_hash (polynomial 16777619 window) 16777619 b (2 ^ 32) ∙ ap (λ k. k % 2 ^ 32) (sym (polynomial_push 16777619 window b))

pub ring_grows : (bytes : List ℕ) (len head b : ℕ) → length bytes ≡ 16 → len < 16 → head ≡ 0
    → take (len + 1) (drop head (set bytes len b) ++ take head (set bytes len b)) ≡ take len (drop head bytes ++ take head bytes) ++ b ∷ []
ring_grows bytes len head b l m h =
    ap (λ k. take (len + 1) (drop k (set bytes len b) ++ take k (set bytes len b))) h
    ∙ ap (take (len + 1)) (append-nil (set bytes len b))
    ∙ take_more_set bytes len b (omega arith)
    ∙ ap (λ x. take len x ++ b ∷ []) (sym (append-nil bytes))
    ∙ ap (λ k. take len (drop k bytes ++ take k bytes) ++ b ∷ []) (sym h)

-- the full ring: its first byte, and the others
pub ring_first : (bytes : List ℕ) (head : ℕ) → length bytes ≡ 16 → head < 16 → take 16 (drop head bytes ++ take head bytes) ≡ get_or bytes head 0 ∷ (drop (head + 1) bytes ++ take head bytes)
ring_first bytes head l m =
    let a = length-append (drop head bytes) (take head bytes) in
    let d = length-drop head bytes in
    let t = length-take-le head bytes (omega arith) in
    take_all 16 (drop head bytes ++ take head bytes) (omega arith) ∙ ap (λ x. x ++ take head bytes) (drop_more bytes head 0 (omega arith))

pub ring_turns : (bytes : List ℕ) (head b : ℕ) → length bytes ≡ 16 → head < 15 → take 16 (drop (head + 1) (set bytes head b) ++ take (head + 1) (set bytes head b)) ≡ (drop (head + 1) bytes ++ take head bytes) ++ b ∷ []
ring_turns bytes head b l m =
    let s = length-set bytes head b in
    let a = length-append (drop (head + 1) (set bytes head b)) (take (head + 1) (set bytes head b)) in
    let d = length-drop (head + 1) (set bytes head b) in
    let t = length-take-le (head + 1) (set bytes head b) (omega arith) in
    take_all 16 (drop (head + 1) (set bytes head b) ++ take (head + 1) (set bytes head b)) (omega arith)
    ∙ ap (λ x. x ++ take (head + 1) (set bytes head b)) (drop-set-lt (head + 1) bytes head b (omega arith))
    ∙ ap (λ x. drop (head + 1) bytes ++ x) (take_more_set bytes head b (omega arith))
    ∙ sym (append_assoc (drop (head + 1) bytes) (take head bytes) (b ∷ []))

pub ring_ends : (bytes : List ℕ) (b : ℕ) → length bytes ≡ 16 → take 16 (drop 0 (set bytes 15 b) ++ take 0 (set bytes 15 b)) ≡ (drop 16 bytes ++ take 15 bytes) ++ b ∷ []
ring_ends bytes b l =
    ap (take 16) (append-nil (set bytes 15 b)) ∙ take_more_set bytes 15 b (omega arith)
    ∙ ap (λ x. (x ++ take 15 bytes) ++ b ∷ []) (sym (drop_all 16 bytes (omega arith)))

pub ring_rest : (bytes : List ℕ) (head : ℕ) → length bytes ≡ 16 → head < 16 → length (drop (head + 1) bytes ++ take head bytes) ≡ 15
ring_rest bytes head l m =
    let a = length-append (drop (head + 1) bytes) (take head bytes) in
    let d = length-drop (head + 1) bytes in
    let t = length-take-le head bytes (omega arith) in
    omega arith

pub ring_next : (bytes : List ℕ) (head next b len : ℕ) → length bytes ≡ 16 → len ≡ 16 → ((head ≡ 15) × (next ≡ 0)) ⊎ ((head < 15) × (next ≡ head + 1))
    → take len (drop next (set bytes head b) ++ take next (set bytes head b)) ≡ (drop (head + 1) bytes ++ take head bytes) ++ b ∷ []
ring_next bytes head next b len l f (inl e) =
    ap (λ k. take k (drop next (set bytes head b) ++ take next (set bytes head b))) f
    ∙ ap (λ k. take 16 (drop k (set bytes head b) ++ take k (set bytes head b))) e.1
    ∙ ap (λ k. take 16 (drop 0 (set bytes k b) ++ take 0 (set bytes k b))) e.0
    ∙ ring_ends bytes b l
    ∙ ap (λ k. (drop (k + 1) bytes ++ take k bytes) ++ b ∷ []) (sym e.0)
ring_next bytes head next b len l f (inr e) =
    ap (λ k. take k (drop next (set bytes head b) ++ take next (set bytes head b))) f
    ∙ ap (λ k. take 16 (drop k (set bytes head b) ++ take k (set bytes head b))) e.1
    ∙ ring_turns bytes head b l e.0

pub ring_hash : (bytes : List ℕ) (head next b len hash : ℕ) → length bytes ≡ 16 → head < 16 → len ≡ 16 → ((head ≡ 15) × (next ≡ 0)) ⊎ ((head < 15) × (next ≡ head + 1))
    → hash ≡ window_hash (take len (drop head bytes ++ take head bytes))
    → (hash * 16777619 + b + get_or bytes head 0 * 3416554943) % 2 ^ 32 ≡ window_hash (take len (drop next (set bytes head b) ++ take next (set bytes head b)))
ring_hash bytes head next b len hash l m f which is =
    let old : hash ≡ window_hash (get_or bytes head 0 ∷ (drop (head + 1) bytes ++ take head bytes)) = is ∙ ap (λ k. window_hash (take k (drop head bytes ++ take head bytes))) f ∙ ap window_hash (ring_first bytes head l m) in
    ap (λ k. (k * 16777619 + b + get_or bytes head 0 * 3416554943) % 2 ^ 32) old
    ∙ full_hash (get_or bytes head 0) (drop (head + 1) bytes ++ take head bytes) b (ring_rest bytes head l m)
    ∙ ap window_hash (sym (ring_next bytes head next b len l f which))

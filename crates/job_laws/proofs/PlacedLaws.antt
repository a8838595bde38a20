-- Pairs whose keys' bytes are in one text, to which one is added.
use Rattle.std.proofs.Common.{◌≡◌, ℕ, zero, suc, ◌+◌, ◌-◌, ◌<◌, ◌≤◌, List, [], ◌∷◌, ◌++◌, length, take, drop, get_or, slice_get, Some, refl, sym, ap, subst, ◌∙◌, arith, length-append, length-drop}
use Rattle.std.specs.Prelude.{All}
use Rattle.std.proofs.lemmas.List.{take-append-le, drop-append-le}
use Rattle.definitions.specs.Tables.{IsKey}
use Rattle.job_laws.specs.declared.emit.Placed.{Placed}
use Rattle.job_laws.specs.Placed.{placed_pair, placed_pairs, LiesIn, ArePlaced}

drop_before : (a b : List ℕ) → drop (length a) (a ++ b) ≡ b
drop_before [] b = refl
drop_before (x ∷ a) b = drop_before a b

take_all : (b : List ℕ) → take (length b) b ≡ b
take_all [] = refl
take_all (x ∷ b) = ap (λ (l : List ℕ). x ∷ l) (take_all b)

all_push : {A : Type 0} (P : A → Type 0) (xs : List A) (x : A) → All P xs → P x → All P (xs ++ x ∷ [])
all_push P [] x all px zero d lt = px
all_push P [] x all px (suc k) d lt = absurd (omega arith)
all_push P (y ∷ xs) x all px zero d lt = all 0 d (omega arith)
all_push P (y ∷ xs) x all px (suc k) d lt = all_push P xs x (λ k d lt. all (suc k) d (omega arith)) px k d (omega arith)

-- bytes after a text change no piece in it
piece_kept : (bytes more : List ℕ) (from to : ℕ) → from ≤ to → to ≤ length bytes → take (to - from) (drop from (bytes ++ more)) ≡ take (to - from) (drop from bytes)
piece_kept bytes more from to low high =
    ap (λ (l : List ℕ). take (to - from) l) (drop-append-le from bytes more (omega (arith, low, high)))
    ∙ take-append-le (to - from) (drop from bytes) more (omega (arith, length-drop from bytes, low, high))

-- the last piece
piece_last : (bytes key : List ℕ) (from to : ℕ) → from ≡ length bytes → to ≡ from + length key → take (to - from) (drop from (bytes ++ key)) ≡ key
piece_last bytes key from to f t =
    let n : to - from ≡ length key = omega (arith, f, t) in
    (λ i. take (n i) (drop (f i) (bytes ++ key))) ∙ ap (λ (l : List ℕ). take (length key) l) (drop_before bytes key) ∙ take_all key

module _ {V : Type 0} where
  pairs_kept : (bytes more : List ℕ) (ps : List (Placed V)) → All (LiesIn (length bytes)) ps → placed_pairs (bytes ++ more) ps ≡ placed_pairs bytes ps
  pairs_kept bytes more [] inside = refl
  pairs_kept bytes more (p ∷ ps) inside = let at = inside 0 p (omega arith) in λ i. (piece_kept bytes more p.from p.to at.0 at.1 i, p.val) ∷ pairs_kept bytes more ps (λ k d lt. inside (suc k) d (omega (arith, lt))) i

  pairs_end : (bytes : List ℕ) (ps : List (Placed V)) (p : Placed V) → placed_pairs bytes (ps ++ p ∷ []) ≡ placed_pairs bytes ps ++ placed_pair bytes p ∷ []
  pairs_end bytes [] p = refl
  pairs_end bytes (q ∷ ps) p = ap (λ (l : List (List ℕ × V)). placed_pair bytes q ∷ l) (pairs_end bytes ps p)

  module _ (bytes key : List ℕ) (ps : List (Placed V)) (p : Placed V) (are : ArePlaced bytes ps) (from : p.from ≡ length bytes) (to : p.to ≡ p.from + length key) where
    -- one more pair
    pub pairs_put : placed_pairs (bytes ++ key) (ps ++ p ∷ []) ≡ placed_pairs bytes ps ++ (key, p.val) ∷ []
    pairs_put = pairs_end (bytes ++ key) ps p ∙ (λ i. pairs_kept bytes key ps are.inside i ++ (piece_last bytes key p.from p.to from to i, p.val) ∷ [])

    -- the places stay in their text, with one more
    pub are_put : IsKey key → ArePlaced (bytes ++ key) (ps ++ p ∷ [])
    are_put k = record {
      inside = all_push (LiesIn (length (bytes ++ key))) ps p (λ k d lt. let at = are.inside k d lt in (at.0, omega (arith, at.1, length-append bytes key))) (omega (arith, from, to), omega (arith, from, to, length-append bytes key));
      keys = all_push (λ (q : Placed V). IsKey (placed_pair (bytes ++ key) q).0) ps p
          (λ k d lt. let at = are.inside k d lt in subst IsKey (sym (piece_kept bytes key (get_or ps k d).from (get_or ps k d).to at.0 at.1)) (are.keys k d lt))
          (subst IsKey (sym (piece_last bytes key p.from p.to from to)) k);
    }

  all_taken : (P : Placed V → Type 0) (n : ℕ) (ps : List (Placed V)) → All P ps → All P (take n ps)
  all_taken P zero ps all k d lt = absurd (omega (arith, lt))
  all_taken P (suc n) [] all k d lt = absurd (omega (arith, lt))
  all_taken P (suc n) (p ∷ ps) all zero d lt = all 0 d (omega arith)
  all_taken P (suc n) (p ∷ ps) all (suc k) d lt = all_taken P n ps (λ k d lt. all (suc k) d (omega (arith, lt))) k d (omega (arith, lt))

  -- the first places are places
  pub are_taken : (bytes : List ℕ) (n : ℕ) (ps : List (Placed V)) → ArePlaced bytes ps → ArePlaced bytes (take n ps)
  are_taken bytes n ps are = record { inside = all_taken (LiesIn (length bytes)) n ps are.inside; keys = all_taken (λ (p : Placed V). IsKey (placed_pair bytes p).0) n ps are.keys }

  -- the first places have the first pairs
  pub pairs_taken : (bytes : List ℕ) (n : ℕ) (ps : List (Placed V)) → placed_pairs bytes (take n ps) ≡ take n (placed_pairs bytes ps)
  pairs_taken bytes zero ps = refl
  pairs_taken bytes (suc n) [] = refl
  pairs_taken bytes (suc n) (p ∷ ps) = ap (λ (l : List (List ℕ × V)). placed_pair bytes p ∷ l) (pairs_taken bytes n ps)

  -- the pair of a place by its number
  pub pair_at : (bytes : List ℕ) (ps : List (Placed V)) (i : ℕ) (p : Placed V) → i < length ps → p ≡ get_or ps i p → slice_get (placed_pairs bytes ps) i ≡ Some (placed_pair bytes p)
  pair_at bytes [] i p lt is = absurd (omega arith)
  pair_at bytes (q ∷ ps) zero p lt is = ap (λ (x : Placed V). Some (placed_pair bytes x)) (sym is)
  pair_at bytes (q ∷ ps) (suc i) p lt is = pair_at bytes ps i p (omega (arith, lt)) is

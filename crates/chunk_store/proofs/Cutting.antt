-- The steps of a cutter.
use Rattle.std.proofs.Common.{◌≡◌, ◌≤◌, ℕ, ◌+◌, Bool, true, false, ◌&&◌, ◌||◌, nat_lt, nat_le, List, [], ◌∷◌, ◌++◌, length, Some, None, Option, refl, sym, ap, subst, ◌∙◌, arith, append-nil, length-append}
use Rattle.std.proofs.lemmas.Bool.{ltb-false}
use Rattle.definitions.specs.Records.{IsRecord, text_of}
use Rattle.marker_chunker.proofs.Parts.{size_push}
use Rattle.marker_chunker.specs.Markers.{is_marker}
use Rattle.marker_chunker.specs.Cuts.{last_marks, ends_by, ends, joined, AreChunks, reach, chunks_of}
use Rattle.marker_chunker.proofs.CutLaws.{joined_append, are_chunks_append, open_more, open_ends, last_marks_push, ends_is, no_boundary}
use Rattle.chunk_store.specs.Cutting.{IsCutting, stops_at, closed}

or_false : (a b : Bool) → (a || b) ≡ false → b ≡ false
or_false true b h = cc
or_false false b h = h

small_more : (marks : Bool) (size more : ℕ) → ends_by marks size more ≡ false → size + (more + 1) ≤ 65536
small_more marks size more h = let g : nat_lt 65536 (size + (more + 1)) ≡ false = or_false (marks && nat_le 512 size) _ h in ltb-false _ _ g

pub begins : IsCutting [] [] false
begins = record { chunks = tt; grown = tt; marked = refl; started = λ e. refl; small = omega arith }

pub grown : (done : List (List (List ℕ))) (begun : List (List ℕ)) (marks : Bool) (r : List ℕ) → IsCutting done begun marks → stops_at begun (Some r) ≡ false → IsCutting done (begun ++ r ∷ []) (is_marker r)
grown done [] marks r h e = cc
grown done (s ∷ rs) marks r h e = record {
  chunks = h.chunks;
  grown = open_more (s ∷ []) rs r h.grown e;
  marked = sym (last_marks_push (s ∷ rs) r);
  started = λ f. cc;
  small = (let g = small_more (last_marks (s ∷ rs)) (length (text_of (s ∷ rs))) (length r) (sym (ends_is (s ∷ rs) r) ∙ e) in let k = size_push (s ∷ rs) r in omega arith);
}

pub ends_all : (done : List (List (List ℕ))) (begun : List (List ℕ)) (marks : Bool) (next : Option (List ℕ)) → IsCutting done begun marks → stops_at begun next ≡ true → AreChunks (closed done begun) next
ends_all done [] marks next h e = subst (λ d. AreChunks d next) (sym (h.started refl)) tt
ends_all done (r ∷ rs) marks next h e = are_chunks_append done ((r ∷ rs) ∷ []) next h.chunks (open_ends (r ∷ []) rs next h.grown e, tt)

pub joined_closed : (done : List (List (List ℕ))) (begun : List (List ℕ)) → joined (closed done begun) ≡ joined done ++ begun
joined_closed done [] = sym (append-nil (joined done))
joined_closed done (r ∷ rs) = joined_append done ((r ∷ rs) ∷ []) ∙ ap (λ x. joined done ++ x) (append-nil (r ∷ rs))

pub ended : (done : List (List (List ℕ))) (begun : List (List ℕ)) (marks : Bool) (r : List ℕ) → IsRecord r → IsCutting done begun marks → stops_at begun (Some r) ≡ true → IsCutting (closed done begun) (r ∷ []) (is_marker r)
ended done begun marks r rec h e = record {
  chunks = ends_all done begun marks (Some r) h e;
  grown = tt;
  marked = refl;
  started = λ f. cc;
  small = (let l = rec.0 in let e = length-append r (10 ∷ []) in omega arith);
}

pub stops_is : (begun : List (List ℕ)) (r : List ℕ) → (length begun ≡ 0 → ⊥) → stops_at begun (Some r) ≡ ends_by (last_marks begun) (length (text_of begun)) (length r)
stops_is [] r h = absurd (h refl)
stops_is (s ∷ rs) r h = ends_is (s ∷ rs) r

pub apart : (done : List (List (List ℕ))) (begun : List (List ℕ)) (marks : Bool) (r : List ℕ) → IsCutting done begun marks → stops_at begun (Some r) ≡ false
    → (rest : List (List ℕ)) (q : ℕ) → reach q (chunks_of ((joined done ++ begun) ++ r ∷ rest)) ≡ length (joined done ++ begun) → ⊥
apart done [] marks r h e rest q meets = cc
apart done (s ∷ rs) marks r h e rest q meets = no_boundary done s rs r rest q h.chunks h.grown e meets

-- the records may end anywhere
pub stops_at_end : (begun : List (List ℕ)) → stops_at begun None ≡ true
unfolding ends
stops_at_end [] = refl
stops_at_end (r ∷ rs) = refl

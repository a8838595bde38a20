-- The results of a document's calls, stated for all files.
use Rattle.std.proofs.Common.{◌≡◌, ◌≤◌, ◌<◌, ℕ, ◌+◌, Bool, true, false, List, [], ◌++◌, length, drop, Result, Ok, Err, refl, sym, ap, subst, ◌∙◌, arith, inl, inr}
use Rattle.std.proofs.lemmas.Bool.{cases_order}
use Rattle.std.proofs.lemmas.List.{take_all, drop_all}
use Rattle.definitions.specs.Records.{text_of}
use Rattle.marker_chunker.specs.Cuts.{joined, chunks_of}
use Rattle.marker_chunker.proofs.CutLaws.{joined_chunks}
use Rattle.chunk_store.specs.declared.change.Change.{Change}
use Rattle.chunk_store.specs.declared.change.EditFault.{EditFault}
use Rattle.chunk_store.specs.declared.change.EditFault.TheVariants.{TooMany, WindowLarge, Mem}
use Rattle.chunk_store.specs.Documents.{spliced, text_size, Answers, IsSplice}
use Rattle.chunk_store.specs.Files.{File, all_chunks, chunks_before, file_at, raised, with_file, IsGap}
use Rattle.chunk_store.proofs.Together.{IsSplit, split_gap, text_with, splice_with}

pub not_true : (b : Bool) → b ≡ false → b ≡ true → ⊥
not_true b h e = cc

pub not_less : (a b : ℕ) → (a < b → ⊥) → b ≤ a
not_less a b h = elim (cases_order a b) [ inl e ↦ omega arith | inr (inl l) ↦ absurd (h l) | inr (inr m) ↦ omega arith ]

-- the result of a document's call, stated for a shelf
pub answers_map : {M N L K : Type 0} (r : Result Change EditFault) → (M → N) → (N → M) → (L → K) → (K → L) → Answers M L r → Answers N K r
answers_map (Ok change) to from up down h = ((λ n. h.0 (from n)), (λ k. h.1 (down k)))
answers_map (Err TooMany) to from up down h = to h
answers_map (Err WindowLarge) to from up down h = ((λ n. h.0 (from n)), up h.1)
answers_map (Err Mem) to from up down h = ((λ n. h.0 (from n)), (λ k. h.1 (down k)))

pub text_is : (name : List ℕ) (files : List File) (rs : List (List ℕ)) (others : ℕ) → IsSplit name files → others + text_size (file_at name files) ≡ text_size (all_chunks files)
    → text_size (all_chunks (with_file name (chunks_of rs) files)) ≡ others + length (text_of rs)
text_is name files rs others split h =
    let a = text_with name files (chunks_of rs) split in
    let b = ap (λ x. length (text_of x)) (joined_chunks rs) in
    omega arith

pub spliced_files : (name : List ℕ) (files : List File) (cs : List (List (List ℕ))) (own : Change) (news : List File) (out : Change) → IsSplit name files → IsSplice (file_at name files) cs own
    → news ≡ with_file name cs files → out ≡ raised (chunks_before name files) own → IsSplice (all_chunks files) (all_chunks news) out
spliced_files name files cs own news out split h is raise =
    subst (λ (x : List File). IsSplice (all_chunks files) (all_chunks x) out) (sym is)
    (subst (λ (x : Change). IsSplice (all_chunks files) (all_chunks (with_file name cs files)) x) (sym raise) (splice_with name files cs own split h))

pub cut_is : (cs : List (List (List ℕ))) (rs : List (List ℕ)) → cs ≡ chunks_of rs → cs ≡ chunks_of (joined cs)
cut_is cs rs e = e ∙ ap chunks_of (sym (ap joined e ∙ joined_chunks rs))

pub chunks_none : chunks_of [] ≡ []
unfolding chunks_of
chunks_none = refl

pub spliced_none : (at del : ℕ) → spliced at del [] [] ≡ []
spliced_none at del = ap (λ (x : List (List ℕ)). x ++ ([] ++ drop (at + del) [])) (take_all at [] (omega arith)) ∙ drop_all (at + del) [] (omega arith)

pub text_gap : (name : List ℕ) (files : List File) (i : ℕ) (rs : List (List ℕ)) → IsGap name files i → text_size (all_chunks (with_file name (chunks_of rs) files)) ≡ text_size (all_chunks files) + length (text_of rs)
text_gap name files i rs h =
    let none = ap text_size h.none in
    text_is name files rs (text_size (all_chunks files)) (split_gap name files i h) (omega arith)

pub text_cut : (cs : List (List (List ℕ))) (rs : List (List ℕ)) → cs ≡ chunks_of rs → text_size cs ≡ length (text_of rs)
text_cut cs rs e = ap text_size e ∙ ap (λ x. length (text_of x)) (joined_chunks rs)

-- nothing changed
pub splice_still : (cs : List (List (List ℕ))) (n : ℕ) → n ≤ length cs → IsSplice cs cs (record { first = n; gone = 0; fresh = 0 })
splice_still cs n l = record { within = omega arith; fits = omega arith; before = refl; behind = refl }

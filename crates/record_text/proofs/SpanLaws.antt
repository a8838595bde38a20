-- Records in a text to which one is added.
use Rattle.std.proofs.Common.{◌≡◌, ℕ, zero, suc, ◌+◌, ◌-◌, ◌<◌, List, [], ◌∷◌, ◌++◌, length, take, drop, get_or, refl, sym, ap, ◌∙◌, subst, arith, append_assoc, length-append, length-drop}
use Rattle.std.specs.Prelude.{All}
use Rattle.std.proofs.lemmas.List.{take-append-le, drop-append-le}
use Rattle.definitions.specs.Records.{IsRecord, AllRecords, text_of}
use Rattle.record_text.specs.declared.records.Span.{Span}
use Rattle.record_text.specs.Spans.{cut, cuts, LiesIn, IsText}
use Rattle.record_text.proofs.LineLaws.{text_of-push}

-- bytes after a text change no span in it
cut-append : (text more : List ℕ) (s : Span) → LiesIn (length text) s → cut (text ++ more) s ≡ cut text s
cut-append text more s lies =
    ap (λ (l : List ℕ). take (s.to - s.from) l) (drop-append-le s.from text more (omega (arith, lies.0, lies.1)))
    ∙ take-append-le (s.to - s.from) (drop s.from text) more (omega (arith, length-drop s.from text, lies.0, lies.1))

cuts-append : (text more : List ℕ) (spans : List Span) → All (LiesIn (length text)) spans → cuts (text ++ more) spans ≡ cuts text spans
cuts-append text more [] all = refl
cuts-append text more (s ∷ spans) all = λ i. cut-append text more s (all 0 s (omega arith)) i ∷ cuts-append text more spans (λ k d lt. all (suc k) d (omega arith)) i

drop_prefix : (a b : List ℕ) → drop (length a) (a ++ b) ≡ b
drop_prefix [] b = refl
drop_prefix (x ∷ a) b = drop_prefix a b

take_prefix : (a b : List ℕ) → take (length a) (a ++ b) ≡ a
take_prefix [] b = refl
take_prefix (x ∷ a) b = ap (λ (l : List ℕ). x ∷ l) (take_prefix a b)

cuts_push : (text : List ℕ) (spans : List Span) (s : Span) → cuts text (spans ++ s ∷ []) ≡ cuts text spans ++ cut text s ∷ []
cuts_push text [] s = refl
cuts_push text (q ∷ spans) s = ap (λ (l : List (List ℕ)). cut text q ∷ l) (cuts_push text spans s)

pub length_push : {A : Type 0} (xs : List A) (x : A) → length (xs ++ x ∷ []) ≡ length xs + 1
length_push [] x = refl
length_push (y ∷ xs) x = let h = length_push xs x in omega (arith, h)

all_push : {A : Type 0} (P : A → Type 0) (xs : List A) (x : A) → All P xs → P x → All P (xs ++ x ∷ [])
all_push P [] x all px zero d lt = px
all_push P [] x all px (suc k) d lt = absurd (omega arith)
all_push P (y ∷ xs) x all px zero d lt = all 0 d (omega arith)
all_push P (y ∷ xs) x all px (suc k) d lt = all_push P xs x (λ k d lt. all (suc k) d (omega arith)) px k d (omega arith)

all_as : {A : Type 0} (P Q : A → Type 0) (xs : List A) → ((x : A) → P x → Q x) → All P xs → All Q xs
all_as P Q xs f all k d lt = f (get_or xs k d) (all k d lt)

module _ (text : List ℕ) (spans : List Span) (is : IsText text spans) (bytes : List ℕ) (s : Span) (from : s.from ≡ length text) (to : s.to ≡ length text + length bytes) where
  abbrev grown : List ℕ
  grown = text ++ bytes ++ 10 ∷ []

  last : cut grown s ≡ bytes
  last =
      let n : s.to - s.from ≡ length bytes = omega (arith, from, to) in
      (λ i. take (n i) (drop (from i) grown))
      ∙ ap (λ (l : List ℕ). take (length bytes) (drop (length text) l)) (append_assoc text bytes (10 ∷ []))
      ∙ ap (λ (l : List ℕ). take (length bytes) l) (drop_prefix text (bytes ++ 10 ∷ []))
      ∙ take_prefix bytes (10 ∷ [])

  pub cuts-push : cuts grown (spans ++ s ∷ []) ≡ cuts text spans ++ bytes ∷ []
  cuts-push =
      cuts_push grown spans s
      ∙ (λ i. (ap (λ (l : List ℕ). cuts l spans) (append_assoc text bytes (10 ∷ [])) ∙ cuts-append text (bytes ++ 10 ∷ []) spans is.inside) i ++ last i ∷ [])

  pub is_text-push : IsRecord bytes → length spans < 4294967295 → IsText grown (spans ++ s ∷ [])
  is_text-push fits room = record {
    inside = all_push (LiesIn (length grown)) spans s
        (all_as (LiesIn (length text)) (LiesIn (length grown)) spans (λ x lies. (lies.0, omega (arith, lies.1, size))) is.inside)
        (omega (arith, from, to), omega (arith, from, to, size));
    records = subst AllRecords (sym cuts-push) (all_push IsRecord (cuts text spans) bytes is.records fits);
    whole =
        ap (λ (l : List ℕ). l) (append_assoc text bytes (10 ∷ []))
        ∙ ap (λ (l : List ℕ). l ++ (bytes ++ 10 ∷ [])) is.whole
        ∙ sym (text_of-push (cuts text spans) bytes)
        ∙ ap text_of (sym cuts-push);
    most = omega (arith, length_push spans s, room);
  }
    where
      size : length grown ≡ length text + length bytes + 1
      size = omega (arith, length-append (text ++ bytes) (10 ∷ []), length-append text bytes)

-- an element of a list that holds one
pub get_cut : (text : List ℕ) (spans : List Span) (i : ℕ) (d : Span) → i < length spans → get_or (cuts text spans) i [] ≡ cut text (get_or spans i d)
get_cut text [] i d lt = absurd (omega arith)
get_cut text (s ∷ spans) zero d lt = refl
get_cut text (s ∷ spans) (suc i) d lt = get_cut text spans i d (omega arith)

pub length_cuts : (text : List ℕ) (spans : List Span) → length (cuts text spans) ≡ length spans
length_cuts text [] = refl
length_cuts text (s ∷ spans) = let h = length_cuts text spans in omega (arith, h)

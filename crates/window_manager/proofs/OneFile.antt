-- A window whose commands name no file has at most one file, that of the empty name.
use Rattle.std.proofs.Common.{◌≡◌, ℕ, ◌+◌, Bool, true, false, List, [], ◌∷◌, length, refl, sym, ap, ◌∙◌, arith, append-nil}
use Rattle.std.specs.Prelude.{if◌then◌else◌, All, Option, nat_le, nat_lt, ◌==◌, ◌&&◌, ◌||◌, drop}
use Rattle.std.specs.declared.option.Option.TheVariants.{Some}
use Rattle.std.proofs.lemmas.List.Elements.{All-tail}
use Rattle.definitions.specs.Records.{text_of}
use Rattle.marker_chunker.specs.Cuts.{chunks_of, joined}
use Rattle.marker_chunker.proofs.CutLaws.{joined_chunks}
use Rattle.chunk_store.specs.Documents.{spliced}
use Rattle.chunk_store.specs.Files.{all_chunks, file_at, file_of, with_file}
use Rattle.record_text.specs.declared.kind.Kind.{Kind}
use Rattle.record_text.specs.declared.kind.Kind.TheVariants as Kinds
use Rattle.record_text.specs.declared.command.Command.{Command}
use Rattle.record_text.specs.declared.command.Command.TheVariants.{Bucket, Drop, Late, File, Remove, Edit, Load, Run}
use Rattle.window_manager.specs.Windows.{Leaf, WindowState, with_leaf, with_late, window_after, current_records, with_current, refusal_of, asks_too_many, is_one_too_many, is_large, record_refusal, first_refused}
use Rattle.window_manager.specs.OlderRule.{OlderState, older_after, older_refusal, unless_refused, leaves_after, older_leaves_after, NamesNoFile, SameWithoutFiles}
use Rattle.window_manager.specs.declared.fault.WindowFault.TheVariants.{TooMany}

-- a window that is no document
abbrev buckets : Kind → ℕ → List Leaf → WindowState
buckets kind places leaves = record { kind = kind; places = places; leaves = leaves; files = []; current = [] }

abbrev older : Kind → ℕ → List Leaf → OlderState
older kind places leaves = record { kind = kind; places = places; leaves = leaves }

-- a document of one file
abbrev document : ℕ → List (List ℕ) → WindowState
document places rs = record { kind = Kinds.Document; places = places; leaves = chunks_of rs; files = file_of [] (chunks_of rs); current = [] }

one_at : (cs : List Leaf) → file_at [] (file_of [] cs) ≡ cs
one_at [] = refl
one_at (c ∷ cs) = refl

one_with : (cs ds : List Leaf) → with_file [] ds (file_of [] cs) ≡ file_of [] ds
one_with [] ds = append-nil (file_of [] ds)
one_with (c ∷ cs) ds = append-nil (file_of [] ds)

one_chunks : (cs : List Leaf) → all_chunks (file_of [] cs) ≡ cs
one_chunks [] = refl
one_chunks (c ∷ cs) = append-nil (c ∷ cs)

few_files : (cs : List Leaf) → nat_le 65536 (length (file_of [] cs)) ≡ false
few_files [] = refl
few_files (c ∷ cs) = refl

or_false : (b c : Bool) → c ≡ false → (b || c) ≡ b
or_false true c e = refl
or_false false c e = e

and_false : (a b c : Bool) → c ≡ false → (a && b && c) ≡ false
and_false true true c e = e
and_false true false c e = refl
and_false false b c e = refl

one_records : (rs : List (List ℕ)) → joined (file_at [] (file_of [] (chunks_of rs))) ≡ rs
one_records rs = ap joined (one_at (chunks_of rs)) ∙ joined_chunks rs

few : (places : ℕ) (rs more : List (List ℕ)) → is_one_too_many (document places rs) more ≡ false
few places rs more = and_false (length (current_records (document places rs)) == 0) (nat_lt 0 (length more)) (nat_le 65536 (length (file_of [] (chunks_of rs)))) (few_files (chunks_of rs))

-- the document once its one file has other records
current_is : (places : ℕ) (rs more : List (List ℕ)) → with_current (document places rs) more ≡ document places more
current_is places rs more = λ i. record {
  kind = Kinds.Document;
  places = places;
  leaves = (ap all_chunks (one_with (chunks_of rs) (chunks_of more)) ∙ one_chunks (chunks_of more)) i;
  files = one_with (chunks_of rs) (chunks_of more) i;
  current = [];
}

same_refusal : (a b : Bool) (r : Option ℕ) (x y : Bool) → a ≡ b → x ≡ y → (if a then Some TooMany else record_refusal r x) ≡ (if b then Some TooMany else record_refusal r y)
same_refusal a b r x y p q = λ i. if p i then Some TooMany else record_refusal r (q i)

abbrev large : List Leaf → Bool
large leaves = nat_lt 268435456 (length (text_of (joined leaves)))

-- an edit and a load of the one file, by both rules
module _ (accepts : List ℕ → Bool) (places : ℕ) (rs : List (List ℕ)) where
  edit_after : (at del : ℕ) (ins : List (List ℕ)) → window_after (document places rs) (Edit at del ins) ≡ document places (spliced at del ins rs)
  edit_after at del ins = ap (λ (l : List (List ℕ)). with_current (document places rs) (spliced at del ins l)) (one_records rs) ∙ current_is places rs (spliced at del ins rs)

  older_edit : (at del : ℕ) (ins : List (List ℕ)) → older_after (older Kinds.Document places (chunks_of rs)) (Edit at del ins) ≡ older Kinds.Document places (chunks_of (spliced at del ins rs))
  older_edit at del ins = ap (λ (l : List (List ℕ)). older Kinds.Document places (chunks_of (spliced at del ins l))) (joined_chunks rs)

  edit_refusal : (at del : ℕ) (ins : List (List ℕ)) → refusal_of accepts (document places rs) (Edit at del ins) ≡ older_refusal accepts (older Kinds.Document places (chunks_of rs)) (Edit at del ins)
  edit_refusal at del ins =
      let many : asks_too_many (document places rs) (Edit at del ins) ≡ nat_lt (length (joined (chunks_of rs))) (at + del) =
      or_false (nat_lt (length (current_records (document places rs))) (at + del)) (is_one_too_many (document places rs) ins) (few places rs ins)
      ∙ ap (λ (l : List (List ℕ)). nat_lt (length l) (at + del)) (one_records rs ∙ sym (joined_chunks rs)) in
      let size : is_large (window_after (document places rs) (Edit at del ins)) ≡ large (chunks_of (spliced at del ins (joined (chunks_of rs)))) =
      ap is_large (edit_after at del ins) ∙ ap (λ (l : List (List ℕ)). large (chunks_of (spliced at del ins l))) (sym (joined_chunks rs)) in
      same_refusal (asks_too_many (document places rs) (Edit at del ins)) (nat_lt (length (joined (chunks_of rs))) (at + del)) (first_refused accepts ins) (is_large (window_after (document places rs) (Edit at del ins))) (large (chunks_of (spliced at del ins (joined (chunks_of rs))))) many size

  load_refusal : (more : List (List ℕ)) → refusal_of accepts (document places rs) (Load more) ≡ older_refusal accepts (older Kinds.Document places (chunks_of rs)) (Load more)
  load_refusal more =
      let size : is_large (with_current (document places rs) more) ≡ large (chunks_of more) = ap is_large (current_is places rs more) in
      same_refusal (is_one_too_many (document places rs) more) false (first_refused accepts more) (is_large (with_current (document places rs) more)) (large (chunks_of more)) (few places rs more) size

-- a kind that is no document
abbrev IsOfBuckets : Kind → Type 0
IsOfBuckets Kinds.Document = ⊥
IsOfBuckets kind = Unit {0}

-- both rules step alike over buckets
buckets_step : (accepts : List ℕ → Bool) (kind : Kind) → IsOfBuckets kind → (places : ℕ) (leaves : List Leaf) (c : Command) (cs : List Command) → ((next : List Leaf) → leaves_after accepts (buckets kind places next) cs ≡ older_leaves_after accepts (older kind places next) cs) → leaves_after accepts (buckets kind places leaves) (c ∷ cs) ≡ older_leaves_after accepts (older kind places leaves) (c ∷ cs)
buckets_step accepts Kinds.Buckets is places leaves (Bucket r) cs next = ap (unless_refused (refusal_of accepts (buckets Kinds.Buckets places leaves) (Bucket r))) (next (with_leaf Kinds.Buckets places leaves r))
buckets_step accepts Kinds.Buckets is places leaves (Drop n) cs next = ap (unless_refused (refusal_of accepts (buckets Kinds.Buckets places leaves) (Drop n))) (next (drop n leaves))
buckets_step accepts Kinds.Buckets is places leaves (Late p r) cs next = ap (unless_refused (refusal_of accepts (buckets Kinds.Buckets places leaves) (Late p r))) (next (with_late p r leaves))
buckets_step accepts Kinds.Buckets is places leaves (File name) cs next = refl
buckets_step accepts Kinds.Buckets is places leaves (Remove name) cs next = refl
buckets_step accepts Kinds.Buckets is places leaves (Edit at del ins) cs next = refl
buckets_step accepts Kinds.Buckets is places leaves (Load r) cs next = refl
buckets_step accepts Kinds.Buckets is places leaves Run cs next = refl
buckets_step accepts Kinds.Circle is places leaves (Bucket r) cs next = ap (unless_refused (refusal_of accepts (buckets Kinds.Circle places leaves) (Bucket r))) (next (with_leaf Kinds.Circle places leaves r))
buckets_step accepts Kinds.Circle is places leaves (Drop n) cs next = refl
buckets_step accepts Kinds.Circle is places leaves (Late p r) cs next = ap (unless_refused (refusal_of accepts (buckets Kinds.Circle places leaves) (Late p r))) (next (with_late p r leaves))
buckets_step accepts Kinds.Circle is places leaves (File name) cs next = refl
buckets_step accepts Kinds.Circle is places leaves (Remove name) cs next = refl
buckets_step accepts Kinds.Circle is places leaves (Edit at del ins) cs next = refl
buckets_step accepts Kinds.Circle is places leaves (Load r) cs next = refl
buckets_step accepts Kinds.Circle is places leaves Run cs next = refl
buckets_step accepts Kinds.Growing is places leaves (Bucket r) cs next = ap (unless_refused (refusal_of accepts (buckets Kinds.Growing places leaves) (Bucket r))) (next (with_leaf Kinds.Growing places leaves r))
buckets_step accepts Kinds.Growing is places leaves (Drop n) cs next = refl
buckets_step accepts Kinds.Growing is places leaves (Late p r) cs next = refl
buckets_step accepts Kinds.Growing is places leaves (File name) cs next = refl
buckets_step accepts Kinds.Growing is places leaves (Remove name) cs next = refl
buckets_step accepts Kinds.Growing is places leaves (Edit at del ins) cs next = refl
buckets_step accepts Kinds.Growing is places leaves (Load r) cs next = refl
buckets_step accepts Kinds.Growing is places leaves Run cs next = refl
buckets_step accepts Kinds.Document is places leaves c cs next = absurd is

buckets_same : (accepts : List ℕ → Bool) (kind : Kind) → IsOfBuckets kind → (places : ℕ) (leaves : List Leaf) (cs : List Command) → leaves_after accepts (buckets kind places leaves) cs ≡ older_leaves_after accepts (older kind places leaves) cs
buckets_same accepts kind is places leaves [] = refl
buckets_same accepts kind is places leaves (c ∷ cs) = buckets_step accepts kind is places leaves c cs (λ next. buckets_same accepts kind is places next cs)

-- and over a document
document_step : (accepts : List ℕ → Bool) (places : ℕ) (rs : List (List ℕ)) (c : Command) (cs : List Command) → NamesNoFile c → ((next : List (List ℕ)) → leaves_after accepts (document places next) cs ≡ older_leaves_after accepts (older Kinds.Document places (chunks_of next)) cs) → leaves_after accepts (document places rs) (c ∷ cs) ≡ older_leaves_after accepts (older Kinds.Document places (chunks_of rs)) (c ∷ cs)
document_step accepts places rs (Bucket r) cs is next = refl
document_step accepts places rs (Drop n) cs is next = refl
document_step accepts places rs (Late p r) cs is next = refl
document_step accepts places rs (File name) cs is next = absurd is
document_step accepts places rs (Remove name) cs is next = absurd is
document_step accepts places rs (Edit at del ins) cs is next =
    let after = ap (λ (w : WindowState). leaves_after accepts w cs) (edit_after accepts places rs at del ins) ∙ next (spliced at del ins rs) ∙ ap (λ (w : OlderState). older_leaves_after accepts w cs) (sym (older_edit accepts places rs at del ins)) in
    λ i. unless_refused (edit_refusal accepts places rs at del ins i) (after i)
document_step accepts places rs (Load more) cs is next =
    let after = ap (λ (w : WindowState). leaves_after accepts w cs) (current_is places rs more) ∙ next more in
    λ i. unless_refused (load_refusal accepts places rs more i) (after i)
document_step accepts places rs Run cs is next = refl

document_same : (accepts : List ℕ → Bool) (places : ℕ) (rs : List (List ℕ)) (cs : List Command) → All NamesNoFile cs → leaves_after accepts (document places rs) cs ≡ older_leaves_after accepts (older Kinds.Document places (chunks_of rs)) cs
document_same accepts places rs [] all = refl
document_same accepts places rs (c ∷ cs) all = document_step accepts places rs c cs (all 0 Run (omega arith)) (λ next. document_same accepts places next cs (All-tail NamesNoFile c cs all))

pub same : SameWithoutFiles
unfolding chunks_of
same accepts Kinds.Buckets places cs all = buckets_same accepts Kinds.Buckets tt places [] cs
same accepts Kinds.Circle places cs all = buckets_same accepts Kinds.Circle tt places [] cs
same accepts Kinds.Growing places cs all = buckets_same accepts Kinds.Growing tt places [] cs
same accepts Kinds.Document places cs all = document_same accepts places [] cs all

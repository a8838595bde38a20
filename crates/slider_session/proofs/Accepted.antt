-- A window that accepts only accepted records holds accepted records.
use Rattle.std.proofs.Common.{◌≡◌, ℕ, zero, suc, ◌+◌, ◌-◌, Bool, true, false, not, List, [], ◌∷◌, ◌++◌, length, take, drop, refl, sym, subst, All, cond}
use Rattle.std.specs.Prelude.{Option, if◌then◌else◌, IsTrue}
use Rattle.std.specs.declared.option.Option.TheVariants.{Some, None}
use Rattle.std.specs.Ordering.{is_lt, eq_by_cmp}
use Rattle.std.proofs.lemmas.List.Elements.{All-nil, All-cons, All-head, All-tail, All-append, All-push, All-take, All-drop, All-filter}
use Rattle.marker_chunker.specs.Cuts.{chunks_of, joined}
use Rattle.marker_chunker.proofs.CutLaws.{joined_chunks}
use Rattle.chunk_store.specs.Documents.{spliced}
use Rattle.chunk_store.specs.Files.{File as NamedFile, all_chunks, file_at, file_of, with_file, smaller, greater}
use Rattle.record_text.specs.Names.{name_cmp}
use Rattle.record_text.specs.declared.kind.Kind.{Kind}
use Rattle.record_text.specs.declared.kind.Kind.TheVariants as Kinds
use Rattle.record_text.specs.declared.command.Command.{Command}
use Rattle.record_text.specs.declared.command.Command.TheVariants.{Bucket, Drop, Late, File, Remove, Edit, Load, Run}
use Rattle.window_manager.specs.Windows.{Leaf, WindowState, with_leaf, with_late, with_files, current_records, with_current, window_after, has_command, asks_too_many, brought, refused_from, first_refused, is_large, record_refusal, refusal_of}
use Rattle.window_manager.specs.declared.fault.WindowFault.TheVariants.{NotHere, TooMany}
use Rattle.job_laws.specs.Meanings.{Meaning, AllAccepted}
use Rattle.slider_session.specs.Accepted.{HoldsAccepted}

module _ {X : Type 0} (P : X → Type 0) where
  All-left : (xs ys : List X) → All P (xs ++ ys) → All P xs
  All-left [] ys all = All-nil P
  All-left (x ∷ xs) ys all = All-cons P x xs (All-head P x (xs ++ ys) all) (All-left xs ys (All-tail P x (xs ++ ys) all))

  All-right : (xs ys : List X) → All P (xs ++ ys) → All P ys
  All-right [] ys all = all
  All-right (x ∷ xs) ys all = All-right xs ys (All-tail P x (xs ++ ys) all)

module _ {V : Type 0} (j : Meaning V) where
  -- if no record is refused, all are accepted
  pub all_accepted : (at : ℕ) (records : List (List ℕ)) → refused_from j.accepts at records ≡ None → AllAccepted j records
  all_accepted at [] h = All-nil (λ r. IsTrue (j.accepts r))
  all_accepted at (r ∷ rs) h = by_first (j.accepts r) refl (all_accepted (at + 1) rs) h
    where
      by_first : (b : Bool) → j.accepts r ≡ b → (refused_from j.accepts (at + 1) rs ≡ None → AllAccepted j rs) → (if b then refused_from j.accepts (at + 1) rs else Some at) ≡ None → AllAccepted j (r ∷ rs)
      by_first true is more h = All-cons (λ r. IsTrue (j.accepts r)) r rs is (more h)
      by_first false is more h = cc

  -- if a command is not refused, the records that it brings are accepted
  pub brings_accepted : (w : WindowState) (c : Command) → refusal_of j.accepts w c ≡ None → AllAccepted j (brought c)
  brings_accepted w c h = all_accepted 0 (brought c) (none (has_command w.kind c) (asks_too_many w c) (is_large (window_after w c)) (first_refused j.accepts (brought c)) h)
    where
      none : (here many large : Bool) (o : Option ℕ) → (if not here then Some NotHere else if many then Some TooMany else record_refusal o large) ≡ None → o ≡ None
      none false many large o h = cc
      none true true large o h = cc
      none true false large None h = refl
      none true false large (Some index) h = cc

  -- if each leaf is accepted, all records are
  pub joined_accepted : (leaves : List Leaf) → All (AllAccepted j) leaves → AllAccepted j (joined leaves)
  joined_accepted [] all = All-nil (λ r. IsTrue (j.accepts r))
  joined_accepted (leaf ∷ leaves) all = All-append (λ r. IsTrue (j.accepts r)) leaf (joined leaves) (All-head (AllAccepted j) leaf leaves all) (joined_accepted leaves (All-tail (AllAccepted j) leaf leaves all))

  -- if all records are accepted, each leaf is
  leaves_accepted : (leaves : List Leaf) → AllAccepted j (joined leaves) → All (AllAccepted j) leaves
  leaves_accepted [] all = All-nil (AllAccepted j)
  leaves_accepted (leaf ∷ leaves) all = All-cons (AllAccepted j) leaf leaves (All-left (λ r. IsTrue (j.accepts r)) leaf (joined leaves) all) (leaves_accepted leaves (All-right (λ r. IsTrue (j.accepts r)) leaf (joined leaves) all))

  -- a file with accepted records
  abbrev Taken : NamedFile → Type 0
  Taken f = All (AllAccepted j) f.1

  chunks_accepted : (files : List NamedFile) → All Taken files → All (AllAccepted j) (all_chunks files)
  chunks_accepted [] all = All-nil (AllAccepted j)
  chunks_accepted (f ∷ fs) all = All-append (AllAccepted j) f.1 (all_chunks fs) (All-head Taken f fs all) (chunks_accepted fs (All-tail Taken f fs all))

  file_accepted : (name : List ℕ) (files : List NamedFile) → All Taken files → All (AllAccepted j) (file_at name files)
  file_accepted name [] all = All-nil (AllAccepted j)
  file_accepted name (f ∷ fs) all = elim (eq_by_cmp name_cmp name f.0) as (λ b. All (AllAccepted j) (cond b f.1 (file_at name fs))) [
    | true ↦ All-head Taken f fs all
    | false ↦ file_accepted name fs (All-tail Taken f fs all)
  ]

  one_accepted : (name : List ℕ) (chunks : List Leaf) → All (AllAccepted j) chunks → All Taken (file_of name chunks)
  one_accepted name [] new = All-nil Taken
  one_accepted name (c ∷ cs) new = All-cons Taken (name, c ∷ cs) [] new (All-nil Taken)

  with_accepted : (name : List ℕ) (chunks : List Leaf) (files : List NamedFile) → All (AllAccepted j) chunks → All Taken files → All Taken (with_file name chunks files)
  with_accepted name chunks files new all = All-append Taken (smaller name files) (file_of name chunks ++ greater name files) (All-filter (λ f. is_lt (name_cmp f.0 name)) Taken files all)
      (All-append Taken (file_of name chunks) (greater name files) (one_accepted name chunks new) (All-filter (λ f. is_lt (name_cmp name f.0)) Taken files all))

  of_files : (w : WindowState) (files : List NamedFile) → All Taken files → HoldsAccepted j (with_files w files)
  of_files w files all = record { leaves = chunks_accepted files all; files = all }

  of_current : (w : WindowState) (records : List (List ℕ)) → AllAccepted j records → HoldsAccepted j w → HoldsAccepted j (with_current w records)
  of_current w records new holds = of_files w (with_file w.current (chunks_of records) w.files)
      (with_accepted w.current (chunks_of records) w.files (leaves_accepted (chunks_of records) (subst (AllAccepted j) (sym (joined_chunks records)) new)) holds.files)

  with_leaf_accepted : (kind : Kind) (places : ℕ) (leaves : List Leaf) (leaf : Leaf) → AllAccepted j leaf → All (AllAccepted j) leaves → All (AllAccepted j) (with_leaf kind places leaves leaf)
  with_leaf_accepted Kinds.Circle places leaves leaf new all = All-drop (AllAccepted j) (length (leaves ++ leaf ∷ []) - places) (leaves ++ leaf ∷ []) (All-push (AllAccepted j) leaves leaf all new)
  with_leaf_accepted Kinds.Buckets places leaves leaf new all = All-push (AllAccepted j) leaves leaf all new
  with_leaf_accepted Kinds.Growing places leaves leaf new all = All-push (AllAccepted j) leaves leaf all new
  with_leaf_accepted Kinds.Document places leaves leaf new all = All-push (AllAccepted j) leaves leaf all new

  with_late_accepted : (place : ℕ) (more : List (List ℕ)) (leaves : List Leaf) → AllAccepted j more → All (AllAccepted j) leaves → All (AllAccepted j) (with_late place more leaves)
  with_late_accepted place more [] new all = All-nil (AllAccepted j)
  with_late_accepted zero more (leaf ∷ leaves) new all = All-cons (AllAccepted j) (leaf ++ more) leaves (All-append (λ r. IsTrue (j.accepts r)) leaf more (All-head (AllAccepted j) leaf leaves all) new) (All-tail (AllAccepted j) leaf leaves all)
  with_late_accepted (suc place) more (leaf ∷ leaves) new all = All-cons (AllAccepted j) leaf (with_late place more leaves) (All-head (AllAccepted j) leaf leaves all) (with_late_accepted place more leaves new (All-tail (AllAccepted j) leaf leaves all))

  spliced_accepted : (at del : ℕ) (ins records : List (List ℕ)) → AllAccepted j ins → AllAccepted j records → AllAccepted j (spliced at del ins records)
  spliced_accepted at del ins records new all = All-append (λ r. IsTrue (j.accepts r)) (take at records) (ins ++ drop (at + del) records) (All-take (λ r. IsTrue (j.accepts r)) at records all)
      (All-append (λ r. IsTrue (j.accepts r)) ins (drop (at + del) records) new (All-drop (λ r. IsTrue (j.accepts r)) (at + del) records all))

  -- a command that brings accepted records leaves a window of accepted records
  after_accepted : (w : WindowState) (c : Command) → AllAccepted j (brought c) → HoldsAccepted j w → HoldsAccepted j (window_after w c)
  after_accepted w (Bucket records) new holds = record { leaves = with_leaf_accepted w.kind w.places w.leaves records new holds.leaves; files = holds.files }
  after_accepted w (Drop n) new holds = record { leaves = All-drop (AllAccepted j) n w.leaves holds.leaves; files = holds.files }
  after_accepted w (Late place more) new holds = record { leaves = with_late_accepted place more w.leaves new holds.leaves; files = holds.files }
  after_accepted w (File name) new holds = record { leaves = holds.leaves; files = holds.files }
  after_accepted w (Remove name) new holds = of_files w (with_file name [] w.files) (with_accepted name [] w.files (All-nil (AllAccepted j)) holds.files)
  after_accepted w (Edit at del ins) new holds = of_current w (spliced at del ins (current_records w)) (spliced_accepted at del ins (current_records w) new (joined_accepted (file_at w.current w.files) (file_accepted w.current w.files holds.files))) holds
  after_accepted w (Load records) new holds = of_current w records new holds
  after_accepted w Run new holds = holds

  -- a command that is not refused leaves a window of accepted records
  pub keeps_accepted : (w : WindowState) (c : Command) → refusal_of j.accepts w c ≡ None → HoldsAccepted j w → HoldsAccepted j (window_after w c)
  keeps_accepted w c taken holds = after_accepted w c (brings_accepted w c taken) holds

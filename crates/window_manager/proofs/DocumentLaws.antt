-- Documents before and after a command.
use Rattle.std.proofs.Common.{◌≡◌, ◌≢◌, ℕ, ◌+◌, Bool, true, false, List, length, refl, sym, ap, subst, arith, length-drop}
use Rattle.std.specs.Prelude.{Option, Result, Ok, Err, OnOk, not, if◌then◌else◌}
use Rattle.std.specs.declared.option.Option.TheVariants.{Some, None}
use Rattle.chunk_store.specs.declared.change.Change.{Change}
use Rattle.chunk_store.specs.Documents.{IsSplice}
use Rattle.chunk_store.specs.Files.{File as NamedFile, all_chunks}
use Rattle.record_text.specs.declared.kind.Kind.TheVariants as Kinds
use Rattle.record_text.specs.declared.command.Command.{Command}
use Rattle.record_text.specs.declared.command.Command.TheVariants.{Bucket, Drop, Late, File, Remove, Edit, Load, Run}
use Rattle.record_text.specs.declared.shift.Shift.{Shift}
use Rattle.record_text.specs.declared.shift.Shift.TheVariants.{Slide, Splice}
use Rattle.window_manager.specs.Windows.{Leaf, WindowState, asks_too_many, brought, first_refused, has_command, is_large, record_refusal, refusal_of, window_after}
use Rattle.window_manager.specs.Splices.{DocumentView, IsAfter, early_refusal, splice_after}
use Rattle.window_manager.specs.declared.fault.WindowFault.{WindowFault}
use Rattle.window_manager.specs.declared.fault.WindowFault.TheVariants.{NotHere, TooMany, BadRecord, WindowLarge}

-- a document of these files
abbrev pub document_of : ℕ → ℕ → Shift → List NamedFile × List ℕ → DocumentView
document_of places stood shift files = record { window = record { kind = Kinds.Document; places = places; leaves = all_chunks files.0; files = files.0; current = files.1 }; stood = stood; splice = shift }

splice_still : (stood old new : ℕ) (shift : Shift) → shift ≡ splice_after stood old new shift (record { first = 0; gone = 0; fresh = 0 })
splice_still stood old new (Splice first gone fresh) = refl
splice_still stood old new (Slide first gone places fresh) = refl

module _ (places stood : ℕ) (shift : Shift) (old new : List NamedFile × List ℕ) where
  pub selected : (name : List ℕ) → new ≡ (old.0, name) → IsAfter (document_of places stood shift old) (document_of places stood shift new) (File name)
  selected name is = subst (λ (f : List NamedFile × List ℕ). IsAfter (document_of places stood shift old) (document_of places stood shift f) (File name)) (sym is) record {
    window = refl;
    stood = refl;
    change = record { first = 0; gone = 0; fresh = 0 };
    changes = (refl, refl);
    spliced = record { within = omega arith; fits = omega arith; before = refl; behind = refl };
    splice = splice_still stood (length (all_chunks old.0)) (length (all_chunks old.0)) shift;
  }

-- as many chunks are kept at the end before a change as after it
pub kept_at_end : (olds news : List Leaf) (change : Change) → IsSplice olds news change → length olds + change.fresh ≡ length news + change.gone
kept_at_end olds news change is =
    let n = ap (λ (l : List Leaf). length l) is.behind in
    omega (arith, n, length-drop (change.first + change.fresh) news, length-drop (change.first + change.gone) olds, is.within, is.fits)

-- what holds after an `Ok` follows from what holds after it
pub on_ok : {T E P Q : Type 0} (r : Result T E) → (P → Q) → OnOk r P → OnOk r Q
on_ok (Ok x) f p = f p
on_ok (Err e) f p = p

abbrev pub IsNoneOf : Option WindowFault → Type 0
IsNoneOf None = Unit {0}
IsNoneOf (Some f) = ⊥

pub not_none : (f : WindowFault) → None ≡ Some f → ⊥
not_none f e = subst IsNoneOf e tt

-- the refusals of a command by their tests: it is there, it asks for too many, a record, the text
abbrev pub by_tests : Bool → Bool → Option ℕ → Bool → Option WindowFault
by_tests h m r l = if not h then Some NotHere else if m then Some TooMany else record_refusal r l

early_some : (h m : Bool) (r : Option ℕ) (l : Bool) (f : WindowFault) → by_tests h m r false ≡ Some f → by_tests h m r l ≡ Some f
early_some false m r l f e = e
early_some true true r l f e = e
early_some true false (Some i) l f e = e
early_some true false None l f e = absurd (not_none f e)

early_none : (h m : Bool) (r : Option ℕ) (l : Bool) → by_tests h m r false ≡ None → (h ≡ true) × (m ≡ false) × (by_tests h m r l ≡ (if l then Some WindowLarge else None))
early_none false m r l e = absurd (not_none NotHere (sym e))
early_none true true r l e = absurd (not_none TooMany (sym e))
early_none true false (Some i) l e = absurd (not_none (BadRecord i) (sym e))
early_none true false None l e = (refl, refl, refl)

-- what is refused early is refused, and what is not is refused only for its text
module _ (accepts : List ℕ → Bool) (w : WindowState) (c : Command) where
  pub refused_early : (fault : WindowFault) → early_refusal accepts w c ≡ Some fault → refusal_of accepts w c ≡ Some fault
  refused_early fault e = early_some (has_command w.kind c) (asks_too_many w c) (first_refused accepts (brought c)) (is_large (window_after w c)) fault e

  pub allowed : early_refusal accepts w c ≡ None → (has_command w.kind c ≡ true) × (asks_too_many w c ≡ false) × (refusal_of accepts w c ≡ (if is_large (window_after w c) then Some WindowLarge else None))
  allowed e = early_none (has_command w.kind c) (asks_too_many w c) (first_refused accepts (brought c)) (is_large (window_after w c)) e

abbrev pub IsTrueTest : Bool → Type 0
IsTrueTest true = Unit {0}
IsTrueTest false = ⊥

-- a document has no other command
pub has_no_other : (c : Command) → ((name : List ℕ) → c ≢ File name) → ((name : List ℕ) → c ≢ Remove name) → ((at del : ℕ) (ins : List (List ℕ)) → c ≢ Edit at del ins) → ((records : List (List ℕ)) → c ≢ Load records) → has_command Kinds.Document c ≡ true → ⊥
has_no_other (Bucket records) f r e l here = subst IsTrueTest (sym here) tt
has_no_other (Drop n) f r e l here = subst IsTrueTest (sym here) tt
has_no_other (Late place more) f r e l here = subst IsTrueTest (sym here) tt
has_no_other Run f r e l here = subst IsTrueTest (sym here) tt
has_no_other (File name) f r e l here = f name refl
has_no_other (Remove name) f r e l here = r name refl
has_no_other (Edit at del ins) f r e l here = e at del ins refl
has_no_other (Load records) f r e l here = l records refl

-- What a reader returns of a source whose bytes are observable.
use Rattle.std.proofs.Common.{◌≡◌, ℕ, ◌+◌, ◌<◌, true, false, List, [], ◌∷◌, ◌++◌, length, take, refl, sym, ap, ◌∙◌, arith, inl, inr, ◌⊎◌, append-nil, take-add}
use Rattle.std.specs.Prelude.{Option, Ok, Err, nat_le}
use Rattle.std.specs.declared.option.Option.TheVariants.{Some, None}
use Rattle.std.proofs.lemmas.Bool.Decides.{nat_tests}
use Rattle.std.proofs.Math.Seq.{take-nil}
use Rattle.definitions.specs.Outside.{Told}
use Rattle.definitions.proofs.ToldBytes.{told_with}
use Rattle.record_text.specs.Script.{ACommand, Faulty, from_line, with_command}
use Rattle.record_text.specs.Reading.{Comes, Sound, Uses, CommandIs, NextTold, to_come, script_after}
use Rattle.record_text.specs.declared.command.Command.{Command}
use Rattle.record_text.specs.declared.reading.Reading.{Reading}
use Rattle.record_text.specs.declared.script_fault.ScriptFault.{ScriptFault}
use Rattle.record_text.specs.declared.script_fault.Why.TheVariants.{Read, Mem}
use Rattle.record_text.proofs.ScriptLaws.{from_line-none, length_append, drop_exact}

take_exact : (a l : List ℕ) → take (length a) (a ++ l) ≡ a
take_exact [] l = refl
take_exact (b ∷ a) l = ap (λ (x : List ℕ). b ∷ x) (take_exact a l)

take_past : (a l : List ℕ) (k : ℕ) → take (length a + k) (a ++ l) ≡ a ++ take k l
take_past a l k = take-add (length a) k (a ++ l) ∙ (λ i. take_exact a l i ++ take k (drop_exact a l i))

-- what a reader without a fault has still to return
to_come-clear : (r : Reading) → r.fault ≡ None → (left : List ℕ) → to_come r left ≡ from_line (nat_le r.room (length left)) ACommand (r.line + 1) (r.ahead ++ take r.room left)
to_come-clear r clear left = ap (λ (f : Option ScriptFault). script_after f r left) clear

-- r is the state before a call, and s after
module _ (r s : Reading) (before now : Option (List ℕ)) (used : List ℕ) (u : Uses r s before now used) (sound : Sound s now) (clear : r.fault ≡ None) where
  rest_is : (l m : List ℕ) → r.ahead ++ l ≡ used ++ (s.ahead ++ m) → r.ahead ++ take r.room l ≡ used ++ (s.ahead ++ take s.room m)
  rest_is l m is =
      let count : length r.ahead + r.room ≡ length used + (length s.ahead + s.room) = omega (arith, u.count) in
      sym (take_past r.ahead l r.room) ∙ (λ i. take (count i) (is i)) ∙ take_past used (s.ahead ++ m) (length s.ahead + s.room) ∙ ap (λ (x : List ℕ). used ++ x) (take_past s.ahead m s.room)

  full_is : (l m : List ℕ) → r.ahead ++ l ≡ used ++ (s.ahead ++ m) → nat_le r.room (length l) ≡ nat_le s.room (length m)
  full_is l m is =
      let n : length r.ahead + length l ≡ length used + (length s.ahead + length m) = sym (length_append r.ahead l) ∙ ap (λ (x : List ℕ). length x) is ∙ length_append used (s.ahead ++ m) ∙ ap (λ (k : ℕ). length used + k) (length_append s.ahead m) in
      same_test r.room (length l) s.room (length m) (length r.ahead) (length used) (length s.ahead) n u.count
    where
      same_test : (a b c d x y z : ℕ) → x + b ≡ y + (z + d) → y + (c + z) ≡ a + x → nat_le a b ≡ nat_le c d
      same_test a b c d x y z p q = grind (arith, nat_tests)

  short_of : (m : List ℕ) → now ≡ Some m → s.ended ≡ true → (nat_le s.room (length m) ≡ false) × (take s.room m ≡ [])
  short_of m is e =
      let none : m ≡ [] = sound.empty e m is in let more = sound.more e in
      (ap (λ (x : List ℕ). nat_le s.room (length x)) none ∙ not_none s.room more, ap (λ (x : List ℕ). take s.room x) none ∙ take-nil s.room)
    where
      not_none : (n : ℕ) → 0 < n → nat_le n 0 ≡ false
      not_none n some = grind (arith, nat_tests)

  at : (l m : List ℕ) → r.ahead ++ l ≡ used ++ (s.ahead ++ m) → to_come r l ≡ from_line (nat_le s.room (length m)) ACommand (r.line + 1) (used ++ (s.ahead ++ take s.room m))
  at l m is = to_come-clear r clear l ∙ (λ i. from_line (full_is l m is i) ACommand (r.line + 1) (rest_is l m is i))

  told_some : (c : Command) → s.fault ≡ None → CommandIs r.line s.line s.last s.ended s.room used s.ahead (Ok (Some c)) → Told before now (λ l m. NextTold (to_come r l) (to_come s m) s.last (Ok (Some c)))
  told_some c still is = told_with before now (λ l m. r.ahead ++ l ≡ used ++ (s.ahead ++ m)) (λ l m. NextTold (to_come r l) (to_come s m) s.last (Ok (Some c))) u.bytes.bytes
      (λ l m a b eq.
      at l m eq
      ∙ is (nat_le s.room (length m)) (s.ahead ++ take s.room m) (λ e. let x = short_of m b e in (x.0, ap (λ (y : List ℕ). s.ahead ++ y) x.1 ∙ append-nil s.ahead))
      ∙ ap (with_command (c, s.last)) (sym (to_come-clear s still m)))

  told_none : s.fault ≡ None → CommandIs r.line s.line s.last s.ended s.room used s.ahead (Ok None) → Told before now (λ l m. NextTold (to_come r l) (to_come s m) s.last (Ok None))
  told_none still is = told_with before now (λ l m. r.ahead ++ l ≡ used ++ (s.ahead ++ m)) (λ l m. NextTold (to_come r l) (to_come s m) s.last (Ok None)) u.bytes.bytes
      (λ l m a b eq. let x = short_of m b is.0 in (
        at l m eq ∙ (λ i. from_line (x.0 i) ACommand (r.line + 1) (is.2 i ++ (is.1 i ++ x.1 i))) ∙ from_line-none ACommand (r.line + 1),
        to_come-clear s still m ∙ (λ i. from_line (x.0 i) ACommand (s.line + 1) (is.1 i ++ x.1 i)) ∙ from_line-none ACommand (s.line + 1),
      ))

  comes : (m : List ℕ) → now ≡ Some m → Comes s.ended s.room (nat_le s.room (length m)) (take s.room m)
  comes m b = (short_of m b, λ none. (no_room s.room (length m) none, ap (λ (k : ℕ). take k m) none))
    where
      no_room : (n k : ℕ) → n ≡ 0 → nat_le n k ≡ true
      no_room n k e = grind (arith, nat_tests)

  why_of : (fault : ScriptFault) (l m : List ℕ) → now ≡ Some m → r.ahead ++ l ≡ used ++ (s.ahead ++ m) → CommandIs r.line s.line s.last s.ended s.room used s.ahead (Err fault) → (fault.why ≡ Mem) ⊎ (fault.why ≡ Read) ⊎ (to_come r l ≡ ([], Faulty fault.line fault.why))
  why_of fault l m b eq (inl mem) = inl mem
  why_of fault l m b eq (inr (inl read)) = inr (inl read.0)
  why_of fault l m b eq (inr (inr other)) = inr (inr (at l m eq ∙ other.1 (nat_le s.room (length m)) (take s.room m) (comes m b)))

  pub told_fault : (fault : ScriptFault) (last : ℕ) → CommandIs r.line s.line s.last s.ended s.room used s.ahead (Err fault) → Told before now (λ l m. NextTold (to_come r l) ([], Faulty fault.line fault.why) last (Err fault))
  told_fault fault last is = told_with before now (λ l m. r.ahead ++ l ≡ used ++ (s.ahead ++ m)) (λ l m. NextTold (to_come r l) ([], Faulty fault.line fault.why) last (Err fault)) u.bytes.bytes (λ l m a b eq. (why_of fault l m b eq is, refl))

  pub told_ok : (found : Option Command) → s.fault ≡ None → CommandIs r.line s.line s.last s.ended s.room used s.ahead (Ok found) → Told before now (λ l m. NextTold (to_come r l) (to_come s m) s.last (Ok found))
  told_ok None still is = told_none still is
  told_ok (Some c) still is = told_some c still is

-- there is a fault, or none
pub is_none : (o : Option ScriptFault) → ((x : ScriptFault) → o ≡ Some x → ⊥) → o ≡ None
is_none None h = refl
is_none (Some x) h = absurd (h x refl)

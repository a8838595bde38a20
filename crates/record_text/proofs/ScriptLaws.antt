-- The commands of bytes whose first line is known.
use Rattle.std.proofs.Common.{◌≡◌, ◌≢◌, ℕ, zero, suc, ◌+◌, ◌-◌, ◌<◌, ◌≤◌, Bool, true, false, List, [], ◌∷◌, ◌++◌, length, take, drop, get_or, refl, sym, ap, ◌∙◌, subst, arith, length-take, append-nil, take-append-drop}
use Rattle.std.specs.Prelude.{All, nat_le}
use Rattle.std.proofs.lemmas.Bool.Decides.{nat_tests}
use Rattle.std.proofs.lemmas.Grind.{common_steps}
use Rattle.std.proofs.lemmas.List.{drop_all, take_all, take-append-le}
use Rattle.record_text.specs.Lines.{pieces, with_byte, EndsLine, HasNoLine}
use Rattle.record_text.specs.Table.{asked, command_of}
use Rattle.record_text.specs.Script.{Awaits, ACommand, ARecord, Script, Faulty, from_line, commands, walk, step, finish, after_records, with_command, fits_command}
use Rattle.record_text.specs.Reading.{IsLine}
use Rattle.record_text.specs.declared.script_fault.Why.{Why}
use Rattle.record_text.specs.declared.script_fault.Why.TheVariants.{LongLine, LongScript, WindowLarge}
use Rattle.record_text.specs.declared.table.Head.{Head}
use Rattle.record_text.specs.declared.table.Asked.{Asked}
use Rattle.record_text.specs.declared.table.Asked.TheVariants.{Asks, Refuses}
pub use Rattle.record_text.proofs.LineLaws.{whole_lines-used}
use Rattle.record_text.proofs.LineLaws.{pieces_byte, pieces_line, pieces_none}

-- the first `most` bytes of a script count
pub commands-is : (most : ℕ) (script : List ℕ) → commands most script ≡ from_line (nat_le most (length script)) ACommand 1 (take most script)
unfolding commands
commands-is most script = refl

pub commands-short : (most : ℕ) (script : List ℕ) → length script < most → commands most script ≡ from_line false ACommand 1 script
unfolding commands
commands-short most script short =
    let part : nat_le most (length script) ≡ false = grind (arith, nat_tests) in
    let all : take most script ≡ script = take_all most script (omega arith) in
    λ i. from_line (part i) ACommand 1 (all i)

-- lines that are short or long, and the rest after the last LF
short_line : (full : Bool) (w : Awaits) (num : ℕ) (line : List ℕ) (lines : List (List ℕ)) (rest : List ℕ) → length line < 65536 → walk full w num (line ∷ lines) rest ≡ step w num line (λ next. walk full next (num + 1) lines rest)
short_line full w num line lines rest short = grind (arith, nat_tests)

long_line : (full : Bool) (w : Awaits) (num : ℕ) (line : List ℕ) (lines : List (List ℕ)) (rest : List ℕ) → 65536 ≤ length line → walk full w num (line ∷ lines) rest ≡ ([], Faulty num LongLine)
long_line full w num line lines rest long = grind (arith, nat_tests)

long_rest : (full : Bool) (w : Awaits) (num : ℕ) (rest : List ℕ) → 65536 ≤ length rest → walk full w num [] rest ≡ ([], Faulty num LongLine)
long_rest full w num rest long = grind (arith, nat_tests)

cut_rest : (full : Bool) (w : Awaits) (num : ℕ) (rest : List ℕ) → full ≡ true → length rest < 65536 → walk full w num [] rest ≡ ([], Faulty num LongScript)
cut_rest full w num rest is short = grind (arith, nat_tests)

ended_rest : (full : Bool) (w : Awaits) (num : ℕ) (rest : List ℕ) → full ≡ false → length rest ≡ 0 → walk full w num [] rest ≡ finish w
ended_rest full w num rest is none = grind (arith, nat_tests)

last_rest : (full : Bool) (w : Awaits) (num : ℕ) (rest : List ℕ) → full ≡ false → 0 < length rest → length rest < 65536 → walk full w num [] rest ≡ step w num rest finish
last_rest full w num rest is some short = grind (arith, nat_tests)

at_pieces : (full : Bool) (w : Awaits) (num : ℕ) (bytes : List ℕ) (p : List (List ℕ) × List ℕ) → pieces bytes ≡ p → from_line full w num bytes ≡ walk full w num p.0 p.1
unfolding from_line
at_pieces full w num bytes p is = ap (λ (q : List (List ℕ) × List ℕ). walk full w num q.0 q.1) is

as_walk : (full : Bool) (w : Awaits) (num : ℕ) (bytes : List ℕ) → from_line full w num bytes ≡ walk full w num (pieces bytes).0 (pieces bytes).1
as_walk full w num bytes = at_pieces full w num bytes (pieces bytes) refl

-- no bytes
pub from_line-none : (w : Awaits) (num : ℕ) → from_line false w num [] ≡ finish w
from_line-none w num = at_pieces false w num [] ([], []) refl ∙ ended_rest false w num [] refl refl

module _ (full : Bool) (w : Awaits) (num : ℕ) (bytes : List ℕ) (i : ℕ) (within : i ≤ length bytes) (before : (k : ℕ) → k < i → get_or bytes k 0 ≢ 10) (found : i < length bytes → get_or bytes i 0 ≡ 10) where
  whole_pieces : length bytes ≤ i → pieces bytes ≡ ([], bytes)
  whole_pieces ge = pieces_none bytes (λ k h. before k (omega arith))

  line_of : (rest : List ℕ) → rest ≡ drop (suc i) bytes → i < length bytes → i < 65536 → from_line full w num bytes ≡ step w num (take i bytes) (λ next. from_line full next (num + 1) rest)
  line_of rest is lt short =
      at_pieces full w num bytes (take i bytes ∷ (pieces (drop (suc i) bytes)).0, (pieces (drop (suc i) bytes)).1) (pieces_line bytes i lt before (found lt))
      ∙ short_line full w num (take i bytes) (pieces (drop (suc i) bytes)).0 (pieces (drop (suc i) bytes)).1 (omega (arith, length-take i bytes))
      ∙ ap (λ (f : Awaits → Script). step w num (take i bytes) f) (λ j next. sym (as_walk full next (num + 1) (drop (suc i) bytes)) j)
      ∙ ap (λ (l : List ℕ). step w num (take i bytes) (λ next. from_line full next (num + 1) l)) (sym is)

  cut_of : length bytes ≤ i → i < 65536 → full ≡ true → from_line full w num bytes ≡ ([], Faulty num LongScript)
  cut_of ge short is = at_pieces full w num bytes ([], bytes) (whole_pieces ge) ∙ cut_rest full w num bytes is (omega arith)

  last_of : (rest : List ℕ) → rest ≡ [] → length bytes ≤ i → i < 65536 → (i ≡ 0 → ⊥) → full ≡ false → from_line full w num bytes ≡ step w num bytes (λ next. from_line full next (num + 1) rest)
  last_of rest none ge short some is =
      at_pieces full w num bytes ([], bytes) (whole_pieces ge) ∙ last_rest full w num bytes is (omega (arith, some)) (omega arith)
      ∙ ap (λ (f : Awaits → Script). step w num bytes f) (λ i next. after next i)
    where
      after : (next : Awaits) → finish next ≡ from_line full next (num + 1) rest
      after next = sym (at_pieces full next (num + 1) rest ([], []) (ap pieces none) ∙ ended_rest full next (num + 1) [] is refl)

-- a command with all its record lines, and one with some still to come
pub all_read : (at : ℕ) (head : Head) (left : ℕ) (got : List (List ℕ)) (go : Awaits → Script) → left ≡ 0 → after_records at head left got go ≡ with_command (command_of head got, at) (go ACommand)
all_read at head left got go none = ap (λ (n : ℕ). after_records at head n got go) none

pub one_read : (at : ℕ) (head : Head) (left : ℕ) (got : List (List ℕ)) (go : Awaits → Script) → 0 < left → after_records at head left got go ≡ go (ARecord at head (left - 1) got)
one_read at head zero got go some = absurd (omega arith)
one_read at head (suc n) got go some = let same : n ≡ suc n - 1 = omega arith in ap (λ (k : ℕ). go (ARecord at head k got)) same

-- a record line, if the records fit and if they do not
pub step-record : (at : ℕ) (head : Head) (left : ℕ) (got : List (List ℕ)) (num : ℕ) (line : List ℕ) (go : Awaits → Script) → fits_command (got ++ line ∷ []) ≡ true → step (ARecord at head left got) num line go ≡ after_records at head left (got ++ line ∷ []) go
step-record at head left got num line go fits = grind (arith, fits)

pub step-large : (at : ℕ) (head : Head) (left : ℕ) (got : List (List ℕ)) (num : ℕ) (line : List ℕ) (go : Awaits → Script) → fits_command (got ++ line ∷ []) ≡ false → step (ARecord at head left got) num line go ≡ ([], Faulty at WindowLarge)
step-large at head left got num line go fits = grind (arith, fits)

-- a command line
pub step-asks : (num : ℕ) (line : List ℕ) (go : Awaits → Script) (head : Head) (n : ℕ) → asked line ≡ Asks head n → step ACommand num line go ≡ after_records num head n [] go
step-asks num line go head n is = ap (λ (b : Asked). elim b as (λ _. Script) [ Asks head n ↦ after_records num head n [] go | Refuses why ↦ ([], Faulty num why) ]) is

pub step-refuses : (num : ℕ) (line : List ℕ) (go : Awaits → Script) (why : Why) → asked line ≡ Refuses why → step ACommand num line go ≡ ([], Faulty num why)
step-refuses num line go why is = ap (λ (b : Asked). elim b as (λ _. Script) [ Asks head n ↦ after_records num head n [] go | Refuses why ↦ ([], Faulty num why) ]) is

-- bytes in front of others
pub get_left : (a x : List ℕ) (k : ℕ) → k < length a → get_or (a ++ x) k 0 ≡ get_or a k 0
get_left [] x k lt = absurd (omega arith)
get_left (b ∷ a) x zero lt = refl
get_left (b ∷ a) x (suc k) lt = get_left a x k (omega arith)

pub length_append : (a x : List ℕ) → length (a ++ x) ≡ length a + length x
length_append a x = grind (arith, common_steps)

take_left : (n : ℕ) (a x : List ℕ) → n ≤ length a → take n (a ++ x) ≡ take n a
take_left n a x le = take-append-le n a x le

pub drop_exact : (a x : List ℕ) → drop (length a) (a ++ x) ≡ x
drop_exact [] x = refl
drop_exact (b ∷ a) x = drop_exact a x

get_take : (a : List ℕ) (n k d : ℕ) → k < length (take n a) → get_or (take n a) k d ≡ get_or a k d
get_take a zero k d lt = absurd (omega arith)
get_take [] (suc n) k d lt = absurd (omega arith)
get_take (b ∷ a) (suc n) zero d lt = refl
get_take (b ∷ a) (suc n) (suc k) d lt = get_take a n k d (omega arith)

all_before : (a : List ℕ) (n : ℕ) → n ≤ length a → ((k : ℕ) → k < n → get_or a k 0 ≢ 10) → All (λ b. b ≢ 10) (take n a)
all_before a n le before = λ k d lt is. before k (omega (arith, length-take n a)) (same_default a k 0 d (omega (arith, length-take n a)) ∙ sym (get_take a n k d lt) ∙ is)
  where
    same_default : (a : List ℕ) (k d e : ℕ) → k < length a → get_or a k d ≡ get_or a k e
    same_default [] k d e lt = absurd (omega arith)
    same_default (b ∷ a) zero d e lt = refl
    same_default (b ∷ a) (suc k) d e lt = same_default a k d e (omega arith)

abbrev AtLeast : ℕ → List (List ℕ) × List ℕ → Type 0
AtLeast n ([], rest) = n ≤ length rest
AtLeast n (l ∷ ls, rest) = n ≤ length l

some_piece : (p : List (List ℕ) × List ℕ) → AtLeast 0 p
some_piece ([], rest) = omega arith
some_piece (l ∷ ls, rest) = omega arith

more_piece : (n b : ℕ) (p : List (List ℕ) × List ℕ) → AtLeast n p → AtLeast (suc n) (with_byte b p)
more_piece n b ([], rest) h = omega arith
more_piece n b (l ∷ ls, rest) h = omega arith

long_piece : (n : ℕ) (bytes : List ℕ) → n ≤ length bytes → ((k : ℕ) → k < n → get_or bytes k 0 ≢ 10) → AtLeast n (pieces bytes)
long_piece zero bytes le before = some_piece (pieces bytes)
long_piece (suc n) [] le before = absurd (omega arith)
long_piece (suc n) (b ∷ bs) le before = subst (AtLeast (suc n)) (sym (pieces_byte b bs (before 0 (omega arith)))) (more_piece n b (pieces bs) (long_piece n bs (omega arith) (λ k h. before (suc k) (omega arith))))

long_walk : (full : Bool) (w : Awaits) (num : ℕ) (lines : List (List ℕ)) (rest : List ℕ) → AtLeast 65536 (lines, rest) → walk full w num lines rest ≡ ([], Faulty num LongLine)
long_walk full w num [] rest h = long_rest full w num rest h
long_walk full w num (l ∷ ls) rest h = long_line full w num l ls rest h

abbrev IsTrueTest : Bool → Type 0
IsTrueTest true = Unit {0}
IsTrueTest false = ⊥

-- one line with its LF
module _ (u : List ℕ) (i : ℕ) (len : length u ≡ i + 1) (before : (k : ℕ) → k < i → get_or u k 0 ≢ 10) (found : get_or u i 0 ≡ 10) where
  line_pieces : EndsLine u
  line_pieces =
      let none : drop (suc i) u ≡ [] = drop_all (suc i) u (omega (arith, len)) in
      ap (λ (p : List (List ℕ) × List ℕ). p.1) (pieces_line u i (omega (arith, len)) before found) ∙ ap (λ (l : List ℕ). (pieces l).1) none

  line_reads : i < 65536 → (full : Bool) (x : List ℕ) (w : Awaits) (num : ℕ) → from_line full w num (u ++ x) ≡ step w num (take i u) (λ next. from_line full next (num + 1) x)
  line_reads short full x w num =
      let n : length (u ++ x) ≡ length u + length x = length_append u x in
      let rest : x ≡ drop (suc i) (u ++ x) = sym (drop_exact u x) ∙ (let e : length u ≡ suc i = omega (arith, len) in ap (λ (k : ℕ). drop k (u ++ x)) e) in
      line_of full w num (u ++ x) i (omega (arith, n, len)) (λ k h is. before k h (sym (get_left u x k (omega (arith, len, h))) ∙ is)) (λ h. get_left u x i (omega (arith, len)) ∙ found) x rest (omega (arith, n, len)) short
      ∙ ap (λ (l : List ℕ). step w num l (λ next. from_line full next (num + 1) x)) (take_left i u x (omega (arith, len)))

-- the bytes ahead, if their first LF is known
module _ (ahead : List ℕ) (i : ℕ) (within : i ≤ length ahead) (before : (k : ℕ) → k < i → get_or ahead k 0 ≢ 10) (found : i < length ahead → get_or ahead i 0 ≡ 10) where
  pub no_line : length ahead ≤ i → HasNoLine ahead
  no_line ge = pieces_none ahead (λ k h. before k (omega arith))

  -- any bytes after a long line
  pub long : 65536 ≤ i → (full : Bool) (x : List ℕ) (w : Awaits) (num : ℕ) → from_line full w num (ahead ++ x) ≡ ([], Faulty num LongLine)
  long big full x w num =
      as_walk full w num (ahead ++ x)
      ∙ long_walk full w num (pieces (ahead ++ x)).0 (pieces (ahead ++ x)).1
      (long_piece 65536 (ahead ++ x) (omega (arith, within, length_append ahead x)) (λ k h is. before k (omega (arith, h, big)) (sym (get_left ahead x k (omega (arith, h, big, within))) ∙ is)))

  pub cut_short : length ahead ≤ i → i < 65536 → (w : Awaits) (num : ℕ) → from_line true w num ahead ≡ ([], Faulty num LongScript)
  cut_short ge short w num = cut_of true w num ahead i within before found ge short refl

  u_is : take (i + 1) ahead ++ drop (i + 1) ahead ≡ ahead
  u_is = take-append-drop (i + 1) ahead

  u_len : i < length ahead → length (take (i + 1) ahead) ≡ i + 1
  u_len lt = omega (arith, length-take (i + 1) ahead)

  u_get : (k : ℕ) → i < length ahead → k < i + 1 → get_or (take (i + 1) ahead) k 0 ≡ get_or ahead k 0
  u_get k lt h = get_take ahead (i + 1) k 0 (omega (arith, u_len lt, h))

  u_take : i < length ahead → take i (take (i + 1) ahead) ≡ take i ahead
  u_take lt = sym (take_left i (take (i + 1) ahead) (drop (i + 1) ahead) (omega (arith, u_len lt))) ∙ ap (λ (l : List ℕ). take i l) u_is

  pub whole : (ended : Bool) → i < length ahead → i < 65536 → IsLine ended ahead i (i + 1)
  whole ended lt short = record {
    within = omega arith;
    prefix = omega arith;
    some = omega arith;
    fits = (omega (arith, length-take i ahead), all_before ahead i within before);
    ends = λ e. line_pieces (take (i + 1) ahead) i (u_len lt) (λ k h is. before k h (sym (u_get k lt (omega arith)) ∙ is)) (u_get i lt (omega arith) ∙ found lt);
    reads = λ full x w num goes.
        line_reads (take (i + 1) ahead) i (u_len lt) (λ k h is. before k h (sym (u_get k lt (omega arith)) ∙ is)) (u_get i lt (omega arith) ∙ found lt) short full x w num
        ∙ ap (λ (l : List ℕ). step w num l (λ next. from_line full next (num + 1) x)) (u_take lt);
  }

  pub last : length ahead ≤ i → i < 65536 → (i ≡ 0 → ⊥) → IsLine true ahead i i
  last ge short some = record {
    within = within;
    prefix = omega arith;
    some = omega (arith, some);
    fits = (omega (arith, length-take i ahead), all_before ahead i within before);
    ends = λ e. absurd (subst IsTrueTest e tt);
    reads = λ full x w num goes.
        let none : x ≡ [] = (goes refl).1 ∙ drop_all i ahead ge in
        let all : take i ahead ≡ ahead = take_all i ahead ge in
        ap (λ (l : List ℕ). from_line full w num l) ((λ j. all j ++ none j) ∙ append-nil ahead)
        ∙ last_of full w num ahead i within before found x none ge short some (goes refl).0
        ∙ ap (λ (l : List ℕ). step w num l (λ next. from_line full next (num + 1) x)) (sym all);
  }

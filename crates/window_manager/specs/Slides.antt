-- How the buckets of a window changed since its last run.
use Rattle.std.specs.Prelude.{◌≡◌, ℕ, ◌+◌, ◌-◌, ◌<◌, ◌≤◌, nat_le, nat_lt, min, if◌then◌else◌, List, [], ◌∷◌, ◌++◌, length, map, All}
use Rattle.std.specs.List.{filter}
use Rattle.definitions.specs.Limits.{most_buckets}
use Rattle.record_text.specs.declared.command.Command.{Command}
use Rattle.record_text.specs.declared.command.Command.TheVariants.{Bucket, Drop, Late}
use Rattle.record_text.specs.declared.shift.Shift.{Shift}
use Rattle.record_text.specs.declared.shift.Shift.TheVariants.{Slide, Splice}
use Rattle.window_manager.specs.Windows.{WindowState, window_after}

-- What is known of the buckets of a window: how many it accepted, how many there were at the last run, how many of the
-- present ones came since then, and the places of the others that gained records since then.
pub record Slid : Type 0 where
  pub accepted : ℕ
  pub stood : ℕ
  pub fresh : ℕ
  pub late : List ℕ

-- Before the first command.
abbrev pub not_slid : Slid
not_slid = record { accepted = 0; stood = 0; fresh = 0; late = [] }

-- Places once a number of leaves have left.
abbrev pub lowered : ℕ → List ℕ → List ℕ
lowered by places = map (λ p. p - by) (filter (λ p. nat_le by p) places)

-- Rising places with one more among them.
abbrev pub with_place : ℕ → List ℕ → List ℕ
with_place place places = filter (λ p. nat_lt p place) places ++ place ∷ filter (λ p. nat_lt place p) places

-- The late places once these records came to the leaf at a place: only the first `old` leaves were there at the last
-- run.
abbrev pub late_after : ℕ → ℕ → List (List ℕ) → List ℕ → List ℕ
late_after old place [] late = late
late_after old place (r ∷ rs) late = if nat_lt place old then with_place place late else late

-- After a command that a window carried out.
abbrev pub slid_after : WindowState → Command → Slid → Slid
slid_after w (Bucket records) s =
    let count = length (window_after w (Bucket records)).leaves in
    record { accepted = s.accepted + 1; stood = s.stood; fresh = min (s.fresh + 1) count; late = lowered (length w.leaves + 1 - count) s.late }
slid_after w (Drop n) s = record s { fresh = min s.fresh (length w.leaves - n); late = lowered n s.late }
slid_after w (Late place more) s = record s { late = late_after (length w.leaves - s.fresh) place more s.late }
slid_after w c s = s

-- After a run over a number of leaves.
abbrev pub slid_anew : ℕ → Slid → Slid
slid_anew count s = record { accepted = s.accepted; stood = count; fresh = 0; late = [] }

-- The shift of a window with a number of buckets: the number of the first, how many of those of the last run left,
-- which of the others gained records, and how many came.
abbrev pub slide_of : ℕ → Slid → Shift
slide_of count s = Slide (s.accepted - count) (s.stood - (count - s.fresh)) s.late s.fresh

-- What a shift says of a window with a number of buckets.
abbrev pub slid_by : Shift → ℕ → Slid
slid_by (Slide first gone places fresh) count = record { accepted = first + count; stood = gone + (count - fresh); fresh = fresh; late = places }
slid_by (Splice first gone fresh) count = not_slid

-- A shift of a window with a number of buckets: the late places are of leaves that were there at the last run.
abbrev pub FitsCount : Shift → ℕ → Type 0
FitsCount (Slide first gone places fresh) count = (fresh ≤ count) × (gone + (count - fresh) ≤ most_buckets) × All (λ p. p < count - fresh) places
FitsCount (Splice first gone fresh) count = ⊥

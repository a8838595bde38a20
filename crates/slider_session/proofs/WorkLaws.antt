-- How work adds up over the meters of a row.
use Rattle.std.proofs.Common.{◌≡◌, ◌<◌, ◌≤◌, ℕ, zero, suc, ◌+◌, List, [], ◌∷◌, length, take, sym, ap, ◌∙◌, arith}
use Rattle.std.specs.Prelude.{slice_index_or}
use Rattle.job_laws.specs.declared.meter.Counts.{Counts}
use Rattle.job_laws.specs.Rows.{Row, RowRose, sum_of}
use Rattle.slider_session.specs.WorkLines.{IsMoreWork, work_of}

-- Counts that increase at each place increase together.
pub sums-rise : {M : Type 0} (count : M → ℕ) (old new : List M) → length old ≡ length new → ((i : ℕ) (d : M) → count (slice_index_or old i d) ≤ count (slice_index_or new i d)) → sum_of count old ≤ sum_of count new
sums-rise count [] [] same rise = omega arith
sums-rise count [] (n ∷ ns) same rise = omega arith
sums-rise count (m ∷ ms) [] same rise = absurd (omega (arith, same))
sums-rise count (m ∷ ms) (n ∷ ns) same rise = let here = rise zero m in let rest = sums-rise count ms ns (omega (arith, same)) (λ i d. rise (suc i) d) in omega (arith, here, rest)

-- If no meter of a row decreased at its place, there is no less work.
pub more-work : {M : Type 0} (counts : M → Counts) (n : ℕ) (old new : Row M) → (length old.lanes ≡ n) × (length old.parts ≡ n) → (length new.lanes ≡ n) × (length new.parts ≡ n) → RowRose counts old new → IsMoreWork (work_of counts old) (work_of counts new)
more-work counts n old new before now rose = record {
  maps = sums-rise (λ m. (counts m).maps) old.lanes new.lanes (before.0 ∙ sym now.0) (λ i d. (rose.lanes i d).0);
  merges = sums-rise (λ m. (counts m).merges) old.parts new.parts (before.1 ∙ sym now.1) (λ i d. (rose.parts i d).1);
  joins = sums-rise (λ m. (counts m).joins) old.parts new.parts (before.1 ∙ sym now.1) (λ i d. (rose.parts i d).2);
}

-- One meter more.
pub sum-next : {M : Type 0} (count : M → ℕ) (ms : List M) (i : ℕ) (m : M) → i < length ms → m ≡ slice_index_or ms i m → sum_of count (take (i + 1) ms) ≡ sum_of count (take i ms) + count m
sum-next count [] i m lt is = absurd (omega (arith, lt))
sum-next count (n ∷ ns) zero m lt is = let e = ap count is in omega (arith, e)
sum-next count (n ∷ ns) (suc i) m lt is =
    let rest = sum-next count ns i m (omega (arith, lt)) is in
    let next = ap (λ (k : ℕ). sum_of count (take k (n ∷ ns))) {x = suc i + 1} {y = suc (i + 1)} (omega arith) in
    omega (arith, rest, next)

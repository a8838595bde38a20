-- The work of runs, and the lines that report it.
use Rattle.std.specs.Prelude.{ℕ, ◌+◌, ◌-◌, ◌≤◌, Bool, true, false, List, [], ◌∷◌, ◌++◌, codes, decimal}
use Rattle.job_laws.specs.declared.meter.Counts.{Counts}
use Rattle.job_laws.specs.Rows.{Row, sum_of}
use Rattle.slider_session.specs.declared.work.Work.{Work}

module _ {M : Type 0} (counts : M → Counts) where
  -- The counts of the meters: the maps of all lanes, and the merges and joins of all parts.
  abbrev pub work_of : Row M → Work
  work_of row = record {
    maps = sum_of (λ m. (counts m).maps) row.lanes;
    merges = sum_of (λ m. (counts m).merges) row.parts;
    joins = sum_of (λ m. (counts m).joins) row.parts;
  }

-- By how much work increased.
abbrev pub work_between : Work → Work → Work
work_between old new = record { maps = new.maps - old.maps; merges = new.merges - old.merges; joins = new.joins - old.joins }

-- No work.
abbrev pub no_work : Work
no_work = record { maps = 0; merges = 0; joins = 0 }

-- The sum of two works.
abbrev pub with_work : Work → Work → Work
with_work a b = record { maps = a.maps + b.maps; merges = a.merges + b.merges; joins = a.joins + b.joins }

-- All work together.
abbrev pub all_work : List Work → Work
all_work [] = no_work
all_work (w ∷ ws) = with_work w (all_work ws)

-- No kind of work is less.
pub record IsMoreWork (old new : Work) : Type 0 where
  pub maps : old.maps ≤ new.maps
  pub merges : old.merges ≤ new.merges
  pub joins : old.joins ≤ new.joins

-- The work line of run i.
abbrev pub work_line : ℕ → Work → List ℕ
work_line i w = codes "work " ++ decimal i ++ (codes " maps " ++ decimal w.maps ++ (codes " merges " ++ decimal w.merges ++ (codes " joins " ++ decimal w.joins ++ codes "\n")))

-- The work lines of runs, of which the first has the number i.
abbrev pub work_lines : ℕ → List Work → List (List ℕ)
work_lines i [] = []
work_lines i (w ∷ ws) = work_line i w ∷ work_lines (i + 1) ws

-- The work lines of runs, if they are asked for.
abbrev pub asked_lines : Bool → ℕ → List Work → List (List ℕ)
asked_lines false i ws = []
asked_lines true i ws = work_lines i ws

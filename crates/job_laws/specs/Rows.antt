-- The meters of a run, each compared with the one in its place.
use Rattle.std.specs.Prelude.{◌≡◌, ◌≤◌, ℕ, ◌+◌, List, [], ◌∷◌, slice_index_or}
use Rattle.job_laws.specs.declared.meter.Counts.{Counts}

-- The meters of the lanes, and those of the parts.
pub record Row (M : Type 0) : Type 0 where
  pub lanes : List M
  pub parts : List M

-- A count of all meters together.
abbrev pub sum_of : {M : Type 0} → (M → ℕ) → List M → ℕ
sum_of count [] = 0
sum_of count (m ∷ ms) = count m + sum_of count ms

-- The meter of a lane counted maps and joins, and no merge.
abbrev pub LaneRose : Counts → Counts → Type 0
LaneRose old new = (old.maps ≤ new.maps) × (new.merges ≡ old.merges) × (old.joins ≤ new.joins)

-- The meter of a part counted merges and joins, and no map.
abbrev pub PartRose : Counts → Counts → Type 0
PartRose old new = (new.maps ≡ old.maps) × (old.merges ≤ new.merges) × (old.joins ≤ new.joins)

module _ {M : Type 0} (counts : M → Counts) where
  -- The meters of lanes and those of parts, each compared with the one that was in its place.
  pub record RowRose (old new : Row M) : Type 0 where
    pub lanes : (i : ℕ) (d : M) → LaneRose (counts (slice_index_or old.lanes i d)) (counts (slice_index_or new.lanes i d))
    pub parts : (i : ℕ) (d : M) → PartRose (counts (slice_index_or old.parts i d)) (counts (slice_index_or new.parts i d))

  -- The most that a run over `records` records in `leaves` leaves counts: the lanes together a map for each record, and
  -- each part a merge for each leaf.
  pub record WorkedWithin (records leaves : ℕ) (old new : Row M) : Type 0 where
    pub lanes : sum_of (λ m. (counts m).maps) new.lanes ≤ sum_of (λ m. (counts m).maps) old.lanes + records
    pub parts : (i : ℕ) (d : M) → (counts (slice_index_or new.parts i d)).merges ≤ (counts (slice_index_or old.parts i d)).merges + leaves

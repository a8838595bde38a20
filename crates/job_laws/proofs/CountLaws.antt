-- How counts increase: by nothing, by one call, and by one call after another.
use Rattle.std.proofs.Common.{◌≡◌, ℕ, ◌+◌, ◌≤◌, sym, subst, arith}
use Rattle.job_laws.specs.declared.meter.Counts.{Counts}
use Rattle.job_laws.specs.Counted.{risen, risen_by, one_map, one_merge, one_join, RoseWithin, RoseBy}
use Rattle.job_laws.specs.Rows.{LaneRose, PartRose}

-- none more
pub risen_by_none : (n : ℕ) → risen_by 0 n ≡ n
risen_by_none n = omega arith

-- one more after a number more
pub risen_by_next : (more n : ℕ) → risen (risen_by more n) ≡ risen_by (more + 1) n
risen_by_next more n = omega arith

-- a number more after a number more
pub risen_by_then : (more again n : ℕ) → risen_by again (risen_by more n) ≡ risen_by (more + again) n
risen_by_then more again n = omega arith

-- a count that increased by a number increased at most by it
pub within_risen : (more n : ℕ) → RoseWithin more n (risen_by more n)
within_risen more n = (omega arith, omega arith)

-- nothing was counted
pub rose_none : (c : Counts) → RoseBy 0 0 0 c c
rose_none c = record { maps = (omega arith, omega arith); merges = (omega arith, omega arith); joins = (omega arith, omega arith) }

-- one call counted, and then another
pub rose_then : (a b c d e f : ℕ) (x y z : Counts) → RoseBy a b c x y → RoseBy d e f y z → RoseBy (a + d) (b + e) (c + f) x z
rose_then a b c d e f x y z g h =
    let then : (m n p q r : ℕ) → RoseWithin m p q → RoseWithin n q r → RoseWithin (m + n) p r = λ m n p q r s t. let s0 = s.0 in let s1 = s.1 in let t0 = t.0 in let t1 = t.1 in (omega (arith, s0, t0), omega (arith, s1, t1)) in
    record { maps = then a d x.maps y.maps z.maps g.maps h.maps; merges = then b e x.merges y.merges z.merges g.merges h.merges; joins = then c f x.joins y.joins z.joins g.joins h.joins }

-- there may be more
pub rose_more : (a b c d e f : ℕ) (x y : Counts) → a ≤ d → b ≤ e → c ≤ f → RoseBy a b c x y → RoseBy d e f x y
rose_more a b c d e f x y p q r h =
    let more : (m n s t : ℕ) → m ≤ n → RoseWithin m s t → RoseWithin n s t = λ m n s t l w. let w0 = w.0 in let w1 = w.1 in (w0, omega (arith, l, w1)) in
    record { maps = more a d x.maps y.maps p h.maps; merges = more b e x.merges y.merges q h.merges; joins = more c f x.joins y.joins r h.joins }

-- a map was counted
pub rose_map : (x y : Counts) → y ≡ one_map x → RoseBy 1 0 0 x y
rose_map x y is = subst (RoseBy 1 0 0 x) (sym is) record { maps = (omega arith, omega arith); merges = (omega arith, omega arith); joins = (omega arith, omega arith) }

-- a merge was counted
pub rose_merge : (x y : Counts) → y ≡ one_merge x → RoseBy 0 1 0 x y
rose_merge x y is = subst (RoseBy 0 1 0 x) (sym is) record { maps = (omega arith, omega arith); merges = (omega arith, omega arith); joins = (omega arith, omega arith) }

-- a join was counted
pub rose_join : (x y : Counts) → y ≡ one_join x → RoseBy 0 0 1 x y
rose_join x y is = subst (RoseBy 0 0 1 x) (sym is) record { maps = (omega arith, omega arith); merges = (omega arith, omega arith); joins = (omega arith, omega arith) }

-- counts that increased by no map, no merge and no join are unchanged
pub same_counts : (x y : Counts) → RoseBy 0 0 0 x y → x ≡ y
same_counts x y h =
    let still : (n m : ℕ) → RoseWithin 0 n m → n ≡ m = λ n m w. let w0 = w.0 in let w1 = w.1 in omega (arith, w0, w1) in
    λ i. record { maps = still x.maps y.maps h.maps i; merges = still x.merges y.merges h.merges i; joins = still x.joins y.joins h.joins i }

-- what counts maps and joins is the meter of a lane
pub lane_rose : (a c : ℕ) (x y : Counts) → RoseBy a 0 c x y → LaneRose x y
lane_rose a c x y h = let m = h.merges in let m0 = m.0 in let m1 = m.1 in (h.maps.0, omega (arith, m0, m1), h.joins.0)

-- what counts merges and joins is the meter of a part
pub part_rose : (b c : ℕ) (x y : Counts) → RoseBy 0 b c x y → PartRose x y
part_rose b c x y h = let m = h.maps in let m0 = m.0 in let m1 = m.1 in (omega (arith, m0, m1), h.merges.0, h.joins.0)

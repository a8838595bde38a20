-- How counts increase when tables are merged.
use Rattle.std.proofs.Common.{◌≡◌, ℕ, ◌+◌, ◌≤◌, arith}
use Rattle.job_laws.specs.declared.meter.Counts.{Counts}
use Rattle.job_laws.specs.Counted.{one_merge, RoseBy}
use Rattle.job_laws.proofs.CountLaws.{rose_merge, rose_then, rose_more}

-- if maps and merges stayed, only the joins are counted
pub rose_joins : (n : ℕ) (x y : Counts) → y.maps ≡ x.maps → y.merges ≡ x.merges → x.joins ≤ y.joins → y.joins ≤ x.joins + n → RoseBy 0 0 n x y
rose_joins n x y maps merges least most = record {
  maps = (omega (arith, maps), omega (arith, maps));
  merges = (omega (arith, merges), omega (arith, merges));
  joins = (least, most);
}

-- a merge is counted, and then the joins of as many keys as tie
pub merge_rose : (x y z : Counts) {n k : ℕ} → n ≡ k → y ≡ one_merge x → RoseBy 0 0 n y z → RoseBy 0 1 k x z
merge_rose x y z {n = n} {k = k} tied merge joins = rose_more (0 + 0) (1 + 0) (0 + n) 0 1 k x z (omega arith) (omega arith) (omega (arith, tied)) (rose_then 0 1 0 0 0 n x y z (rose_merge x y merge) joins)

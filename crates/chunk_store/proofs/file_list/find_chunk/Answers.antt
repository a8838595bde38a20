use Rattle.std.proofs.Common.{ℕ, List, leb, sym, subst, arith, rules}
use Rattle.std.specs.List.Sorted.{IsPartitionedBy}
use Rattle.std.proofs.lemmas.List.Sorted.{IsPartitionPoint-from_clause}
use Rattle.chunk_store.proofs.Ends.{ends_parted, chunk_file}
use Rattle.chunk_store.proofs.file_list.find_chunk.Goals as goal

pub returns : goal.returns
returns c files e l =
    let parted = subst (λ (x : List ℕ). IsPartitionedBy (λ y. leb y c.args.i) x) (sym e) (ends_parted files c.args.i) in
    let point = IsPartitionPoint-from_clause (λ y. leb y c.args.i) _ _ c.partition_point.ensures.partitioned parted (λ a r q k. search rules) in
    chunk_file files c.args.ends.now c.args.i c.partition_point.result e l c.partition_point.ensures.bound (λ j d k. point.0 j d (omega arith) k) (λ j d k m. point.1 j d k m)

use Rattle.std.proofs.Common.{◌≡◌, ◌<◌, length, sym, ap, ◌∙◌, arith, rules}
use Rattle.std.specs.Ordering.{is_lt}
use Rattle.std.proofs.lemmas.List.Sorted.{IsPartitionPoint-from_clause}
use Rattle.std.proofs.lemmas.List.{get_or_read}
use Rattle.record_text.specs.Names.{name_cmp}
use Rattle.chunk_store.specs.Files.{File}
use Rattle.chunk_store.proofs.Shelves.{parted, at_place, gap_place}
use Rattle.chunk_store.proofs.file_list.find_file.Goals as goal

pub returns-then-i-files-clause-gap : goal.returns-then-i-files-clause-gap
returns-then-i-files-clause-gap c =
    let point = IsPartitionPoint-from_clause (λ (f : File). is_lt (name_cmp f.0 c.args.name.now)) _ _ c.partition_point-i.ensures.partitioned (parted c.args.files.now c.args.name.now c.requires) (λ a r q k. search rules) in
    gap_place c.args.files.now c.args.name.now c.requires c.partition_point-i.result (λ j d k m. point.0 j d (omega arith) k) (λ j d k m. point.1 j d k m) c.partition_point-i.ensures.bound
    (λ d l e. omega arith)

pub returns-then-same-clause-here : goal.returns-then-same-clause-here
returns-then-same-clause-here c =
    let point = IsPartitionPoint-from_clause (λ (f : File). is_lt (name_cmp f.0 c.args.name.now)) _ _ c.partition_point-i.ensures.partitioned (parted c.args.files.now c.args.name.now c.requires) (λ a r q k. search rules) in
    let l : c.partition_point-i.result < length c.args.files.now = omega arith in
    let named : c.index-files-i.result.0 ≡ c.args.name.now = search (rules, c.if-same.true) in
    at_place c.args.files.now c.args.name.now c.requires c.partition_point-i.result (λ j d k m. point.0 j d (omega arith) k) (λ j d k m. point.1 j d k m) l
    (λ d. ap (λ (x : File). x.0) (sym (get_or_read _ _ _ l c.index-files-i.is d)) ∙ named)

pub returns-clause-gap : goal.returns-clause-gap
returns-clause-gap c =
    let point = IsPartitionPoint-from_clause (λ (f : File). is_lt (name_cmp f.0 c.args.name.now)) _ _ c.partition_point-i.ensures.partitioned (parted c.args.files.now c.args.name.now c.requires) (λ a r q k. search rules) in
    let apart : c.index-files-i.result.0 ≡ c.args.name.now → ⊥ = λ e. search (rules, c.if-same.false, e) in
    gap_place c.args.files.now c.args.name.now c.requires c.partition_point-i.result (λ j d k m. point.0 j d (omega arith) k) (λ j d k m. point.1 j d k m) c.partition_point-i.ensures.bound
    (λ d l e. apart (ap (λ (x : File). x.0) (get_or_read _ _ _ l c.index-files-i.is d) ∙ e))

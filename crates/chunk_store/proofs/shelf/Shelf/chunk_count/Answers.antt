use Rattle.std.proofs.Common.{rules, ◌≡◌, List, length, ap, subst, ◌∙◌, arith}
use Rattle.chunk_store.specs.Files.{File, all_chunks}
use Rattle.chunk_store.proofs.Ends.{ends_length, count_all}
use Rattle.chunk_store.proofs.shelf.Shelf.chunk_count.Goals as goal

pub returns : goal.returns
returns c =
    let begin = c.file_begin.ensures c.self.inside.files.items (c.as_slice.ensures.value ∙ c.self.invariant.ended) in
    let size = ap length c.self.invariant.ended ∙ ends_length 0 c.self.inside.files.items in
    let len : c.len.result ≡ length c.self.inside.ends.items = search rules in
    let all = count_all c.self.inside.files.items c.len.result (omega arith) in
    subst (λ (x : List File). c.file_begin.result ≡ length (all_chunks x)) c.self.view_is (begin ∙ all)

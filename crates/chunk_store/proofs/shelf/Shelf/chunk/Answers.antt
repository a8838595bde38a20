use Rattle.std.proofs.Common.{◌≡◌, ◌<◌, ◌-◌, [], List, length, get_or, sym, ap, subst, ◌∙◌, arith}
use Rattle.std.proofs.lemmas.List.{get_or_read}
use Rattle.chunk_store.specs.Files.{File, all_chunks}
use Rattle.chunk_store.proofs.Ends.{ends_length, count_more, chunk_in}
use Rattle.chunk_store.proofs.shelf.Shelf.chunk.Goals as goal

pub file_begin-begin-requires : goal.file_begin-begin-requires
file_begin-begin-requires c =
    let l : c.args.i < length (all_chunks c.self.inside.files.items) = subst (λ (x : List File). c.args.i < length (all_chunks x)) (sym c.self.view_is) c.requires in
    let found = c.find_chunk-k.ensures c.self.inside.files.items (c.as_slice.ensures.value ∙ c.self.invariant.ended) l in
    let within = found.0 in
    let size = ap length (c.as_slice-2.ensures.value ∙ c.self.invariant.ended) ∙ ends_length 0 c.self.inside.files.items in
    omega arith

pub chunk-requires : goal.chunk-requires
chunk-requires c =
    let l : c.args.i < length (all_chunks c.self.inside.files.items) = subst (λ (x : List File). c.args.i < length (all_chunks x)) (sym c.self.view_is) c.requires in
    let found = c.find_chunk-k.ensures c.self.inside.files.items (c.as_slice.ensures.value ∙ c.self.invariant.ended) l in
    let begin = c.file_begin-begin.ensures c.self.inside.files.items (c.as_slice-2.ensures.value ∙ c.self.invariant.ended) in
    let file = get_or_read _ _ _ found.0 c.index.ensures ([], []) in
    let size = ap (λ (x : File). length x.1) file in
    let more = count_more c.self.inside.files.items c.find_chunk-k.result ([], []) found.0 in
    let low = found.1 in
    let high = found.2 in
    omega arith

pub returns : goal.returns
returns c =
    let l : c.args.i < length (all_chunks c.self.inside.files.items) = subst (λ (x : List File). c.args.i < length (all_chunks x)) (sym c.self.view_is) c.requires in
    let found = c.find_chunk-k.ensures c.self.inside.files.items (c.as_slice.ensures.value ∙ c.self.invariant.ended) l in
    let begin = c.file_begin-begin.ensures c.self.inside.files.items (c.as_slice-2.ensures.value ∙ c.self.invariant.ended) in
    let file = get_or_read _ _ _ found.0 c.index.ensures ([], []) in
    subst (λ (x : List File). c.chunk.result.now ≡ get_or (all_chunks x) c.args.i []) c.self.view_is
    (c.chunk.ensures
    ∙ ap (λ (x : File). get_or x.1 (c.args.i - c.file_begin-begin.result) []) file
    ∙ ap (λ n. get_or (get_or c.self.inside.files.items c.find_chunk-k.result ([], [])).1 (c.args.i - n) []) begin
    ∙ sym (chunk_in c.self.inside.files.items c.find_chunk-k.result c.args.i ([], []) found.0 found.1 found.2))

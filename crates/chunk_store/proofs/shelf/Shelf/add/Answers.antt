use Rattle.std.proofs.Common.{◌≡◌, ◌≢◌, ◌≤◌, ◌<◌, ◌+◌, ◌++◌, ◌∷◌, [], ℕ, List, length, take, drop, sym, ap, subst, ◌∙◌, arith}
use Rattle.chunk_store.specs.Documents.{text_size}
use Rattle.chunk_store.specs.Files.{File, all_chunks, with_file, IsGap}
use Rattle.chunk_store.proofs.Ends.{ends_length}
use Rattle.chunk_store.proofs.Together.{chunks_size, doc_size, split_gap, text_with, gap_put, count_gap, shelf_with}
use Rattle.chunk_store.proofs.shelf.Shelf.add.Goals as goal

pub file_begin-begin-requires : goal.file_begin-begin-requires
file_begin-begin-requires c =
    let place : IsGap c.args.name.now c.self.inside.files.items c.args.i = subst (λ (x : List File). IsGap c.args.name.now x c.args.i) (sym c.self.view_is) c.requires.place in
    let within = place.within in
    let size = ap length (c.as_slice.ensures.value ∙ c.self.invariant.ended) ∙ ends_length 0 c.self.inside.files.items in
    omega arith

pub insert-requires-clause-small : goal.insert-requires-clause-small
insert-requires-clause-small c =
    let small : text_size (all_chunks c.self.inside.files.items) + text_size c.args.document ≤ 268435456 =
    subst (λ (x : List File). text_size (all_chunks x) + text_size c.args.document ≤ 268435456) (sym c.self.view_is) c.requires.small in
    let files = chunks_size c.self.inside.files.items c.self.invariant.documents in
    let document = doc_size c.args.document c.requires.document in
    omega arith

pub invariant_of-self-2 : goal.invariant_of-self-2
invariant_of-self-2 c =
    let place : IsGap c.args.name.now c.self.inside.files.items c.args.i = subst (λ (x : List File). IsGap c.args.name.now x c.args.i) (sym c.self.view_is) c.requires.place in
    let some : c.args.document ≢ [] = λ e. (let n = ap length e in omega arith) in
    let is : c.insert.new.files.items ≡ with_file c.args.name.now c.args.document c.self.inside.files.items =
    c.in-Ok-insert.ensures.files
    ∙ ap (λ (n : List ℕ). take c.args.i c.self.inside.files.items ++ (n, c.args.document) ∷ drop c.args.i c.self.inside.files.items) c.in-Ok.ensures
    ∙ gap_put c.args.name.now c.self.inside.files.items c.args.i c.args.document place some in
    let room : length c.self.inside.files.items < 65536 = subst (λ (x : List File). length x < 65536) (sym c.self.view_is) (c.requires.room some) in
    let small : text_size (all_chunks c.self.inside.files.items) + text_size c.args.document ≤ 268435456 =
    subst (λ (x : List File). text_size (all_chunks x) + text_size c.args.document ≤ 268435456) (sym c.self.view_is) c.requires.small in
    let count = count_gap c.args.name.now c.self.inside.files.items c.args.i c.args.document place in
    let length_is = ap length is in
    let text = text_with c.args.name.now c.self.inside.files.items c.args.document (split_gap c.args.name.now c.self.inside.files.items c.args.i place) in
    let none = ap text_size place.none in
    let text_is = ap (λ (x : List File). text_size (all_chunks x)) is in
    let sized = c.self.invariant.sized in
    let more = c.text_len-size.ensures.size in
    shelf_with c.args.name.now c.args.document c.self.inside.files.items c.insert.new.files.items c.insert.new.ends.items (c.self.inside.size + c.text_len-size.result)
    is c.self.invariant.names c.self.invariant.documents c.requires.document (omega arith) c.in-Ok-insert.ensures.ends (omega arith) (omega arith)

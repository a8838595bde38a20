use Rattle.std.proofs.Common.{rules, ◌≡◌, ◌≤◌, ◌+◌, ◌++◌, [], List, length, take, drop, get_or, vec_capacity, sym, ap, ◌∙◌, arith, length-append}
use Rattle.std.specs.Vec.{vec_len}
use Rattle.std.proofs.lemmas.List.{take_at, length-take-le}
use Rattle.chunk_store.specs.Files.{File, all_chunks, ends_of}
use Rattle.chunk_store.proofs.Together.{all_append, all_at}
use Rattle.chunk_store.proofs.Ends.{ends_length, ends_take}
use Rattle.chunk_store.proofs.file_list.take_out.Goals as goal

pub fill-requires-clause-prefix : goal.fill-requires-clause-prefix
fill-requires-clause-prefix c =
    let items : c.as_slice.result.now ≡ take c.args.i c.args.files.now.items ++ drop (c.args.i + 1) c.args.files.now.items = c.as_slice.ensures.value ∙ c.remove.ensures.by_index.2 in
    let prefix : take c.args.i c.as_slice.result.now ≡ take c.args.i c.args.files.now.items =
    ap (take c.args.i) items ∙ take_at (take c.args.i c.args.files.now.items) (drop (c.args.i + 1) c.args.files.now.items) c.args.i (length-take-le c.args.i c.args.files.now.items (omega arith)) in
    ap (take c.args.i) c.requires.ends ∙ ends_take 0 c.args.files.now.items c.args.i ∙ ap (ends_of 0) (sym prefix)

pub fill-requires-clause-room : goal.fill-requires-clause-room
fill-requires-clause-room c =
    let ends : vec_len c.args.ends.now ≡ length c.args.ends.now.items = search rules in
    let fits : vec_len c.args.ends.now ≤ vec_capacity c.args.ends.now = search rules in
    let files : vec_len c.args.files.now ≡ length c.args.files.now.items = search rules in
    let size = ap length c.requires.ends ∙ ends_length 0 c.args.files.now.items in
    let less : vec_len c.remove.new.self + 1 ≡ vec_len c.args.files.now = c.remove.ensures.len in
    let all : length c.as_slice.result.now ≡ vec_len c.remove.new.self = c.as_slice.ensures.len in
    omega arith

pub fill-requires-clause-small : goal.fill-requires-clause-small
fill-requires-clause-small c =
    let items : c.as_slice.result.now ≡ take c.args.i c.args.files.now.items ++ drop (c.args.i + 1) c.args.files.now.items = c.as_slice.ensures.value ∙ c.remove.ensures.by_index.2 in
    let size = ap (λ (x : List File). length (all_chunks x)) items ∙ ap length (all_append (take c.args.i c.args.files.now.items) (drop (c.args.i + 1) c.args.files.now.items)) in
    let a = length-append (all_chunks (take c.args.i c.args.files.now.items)) (all_chunks (drop (c.args.i + 1) c.args.files.now.items)) in
    let b = ap length (all_at c.args.files.now.items c.args.i ([], []) (omega arith)) in
    let d = length-append (all_chunks (take c.args.i c.args.files.now.items)) ((get_or c.args.files.now.items c.args.i ([], [])).1 ++ all_chunks (drop (c.args.i + 1) c.args.files.now.items)) in
    let e = length-append (get_or c.args.files.now.items c.args.i ([], [])).1 (all_chunks (drop (c.args.i + 1) c.args.files.now.items)) in
    let small = c.requires.small in
    omega arith

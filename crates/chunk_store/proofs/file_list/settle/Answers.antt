use Rattle.std.proofs.Common.{rules, ◌≡◌, ◌≤◌, ◌+◌, ◌++◌, [], List, length, take, drop, get_or, vec_capacity, sym, ap, ◌∙◌, arith, length-append}
use Rattle.std.specs.Vec.{vec_len}
use Rattle.std.proofs.lemmas.List.{take_at, length-take-le, length-drop}
use Rattle.chunk_store.specs.Files.{File, all_chunks, ends_of, file_of}
use Rattle.chunk_store.proofs.Together.{count_settle, length_of}
use Rattle.chunk_store.proofs.file_list.settle.Goals as goal

pub fill-requires-clause-within : goal.fill-requires-clause-within
fill-requires-clause-within c =
    let f : File = get_or c.args.files.now.items c.args.i ([], []) in
    let size = ap length (c.as_slice.ensures.value ∙ c.drop_empty.ensures ([], [])) in
    let a = length-append (take c.args.i c.args.files.now.items) (file_of f.0 f.1 ++ drop (c.args.i + 1) c.args.files.now.items) in
    let b = length-take-le c.args.i c.args.files.now.items (omega arith) in
    omega arith

pub fill-requires-clause-prefix : goal.fill-requires-clause-prefix
fill-requires-clause-prefix c =
    let f : File = get_or c.args.files.now.items c.args.i ([], []) in
    let prefix : take c.args.i c.as_slice.result.now ≡ take c.args.i c.args.files.now.items =
    ap (take c.args.i) (c.as_slice.ensures.value ∙ c.drop_empty.ensures ([], []))
    ∙ take_at (take c.args.i c.args.files.now.items) (file_of f.0 f.1 ++ drop (c.args.i + 1) c.args.files.now.items) c.args.i (length-take-le c.args.i c.args.files.now.items (omega arith)) in
    c.requires.prefix ∙ ap (ends_of 0) (sym prefix)

pub fill-requires-clause-room : goal.fill-requires-clause-room
fill-requires-clause-room c =
    let f : File = get_or c.args.files.now.items c.args.i ([], []) in
    let size = ap length (c.as_slice.ensures.value ∙ c.drop_empty.ensures ([], [])) in
    let a = length-append (take c.args.i c.args.files.now.items) (file_of f.0 f.1 ++ drop (c.args.i + 1) c.args.files.now.items) in
    let b = length-take-le c.args.i c.args.files.now.items (omega arith) in
    let d = length-append (file_of f.0 f.1) (drop (c.args.i + 1) c.args.files.now.items) in
    let e = length_of f.0 f.1 in
    let g = length-drop (c.args.i + 1) c.args.files.now.items in
    let len : vec_len c.args.ends.now ≡ length c.args.ends.now.items = search rules in
    let fits : vec_len c.args.ends.now ≤ vec_capacity c.args.ends.now = search rules in
    let ends = c.requires.ends in
    omega arith

pub fill-requires-clause-small : goal.fill-requires-clause-small
fill-requires-clause-small c =
    let size = ap (λ (x : List File). length (all_chunks x)) (c.as_slice.ensures.value ∙ c.drop_empty.ensures ([], [])) in
    let same = count_settle c.args.files.now.items c.args.i ([], []) (omega arith) in
    let small = c.requires.small in
    omega arith

use Rattle.std.proofs.Common.{rules, ◌≡◌, ◌≤◌, ◌+◌, ◌++◌, ◌∷◌, List, length, take, drop, vec_capacity, sym, ap, ◌∙◌, arith}
use Rattle.std.specs.Vec.{vec_len}
use Rattle.std.proofs.lemmas.List.{take_at, length-take-le}
use Rattle.chunk_store.specs.Files.{File, all_chunks, ends_of}
use Rattle.chunk_store.proofs.Together.{count_insert}
use Rattle.chunk_store.proofs.Ends.{ends_length, ends_take}
use Rattle.chunk_store.proofs.file_list.insert.Goals as goal

pub fill-requires-clause-prefix : goal.fill-requires-clause-prefix
fill-requires-clause-prefix c =
    let items : c.as_slice.result.now ≡ take c.args.i c.args.files.now.items ++ (c.args.name, c.args.document) ∷ drop c.args.i c.args.files.now.items = c.as_slice.ensures.value ∙ c.in-Ok-insert.ensures.items in
    let prefix : take c.args.i c.as_slice.result.now ≡ take c.args.i c.args.files.now.items =
    ap (take c.args.i) items ∙ take_at (take c.args.i c.args.files.now.items) ((c.args.name, c.args.document) ∷ drop c.args.i c.args.files.now.items) c.args.i (length-take-le c.args.i c.args.files.now.items c.requires.within) in
    ap (take c.args.i) (c.try_reserve.ensures.items ∙ c.requires.ends) ∙ ends_take 0 c.args.files.now.items c.args.i ∙ ap (ends_of 0) (sym prefix)

pub fill-requires-clause-room : goal.fill-requires-clause-room
fill-requires-clause-room c =
    let ends : vec_len c.args.ends.now ≡ length c.args.ends.now.items = search rules in
    let files : vec_len c.args.files.now ≡ length c.args.files.now.items = search rules in
    let size = ap length c.requires.ends ∙ ends_length 0 c.args.files.now.items in
    let more : vec_len c.insert.new.self ≡ vec_len c.args.files.now + 1 = c.in-Ok-insert.ensures.len in
    let all : length c.as_slice.result.now ≡ vec_len c.insert.new.self = c.as_slice.ensures.len in
    let room : vec_len c.try_reserve.new.self + 1 ≤ vec_capacity c.try_reserve.new.self = c.in-Ok.ensures.ok in
    let same : vec_len c.try_reserve.new.self ≡ vec_len c.args.ends.now = c.try_reserve.ensures.len in
    omega arith

pub fill-requires-clause-small : goal.fill-requires-clause-small
fill-requires-clause-small c =
    let items : c.as_slice.result.now ≡ take c.args.i c.args.files.now.items ++ (c.args.name, c.args.document) ∷ drop c.args.i c.args.files.now.items = c.as_slice.ensures.value ∙ c.in-Ok-insert.ensures.items in
    let size = ap (λ (x : List File). length (all_chunks x)) items ∙ count_insert c.args.files.now.items c.args.i (c.args.name, c.args.document) in
    let small = c.requires.small in
    omega arith

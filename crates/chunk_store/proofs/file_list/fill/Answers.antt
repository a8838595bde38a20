use Rattle.std.proofs.Common.{◌≡◌, ◌<◌, ◌+◌, ◌++◌, ◌∷◌, [], ℕ, List, length, take, get_or, sym, ap, ◌∙◌, arith, rules}
use Rattle.std.proofs.lemmas.List.{get_or_default, length-take-le}
use Rattle.chunk_store.specs.Files.{File, all_chunks, ends_of}
use Rattle.chunk_store.proofs.Ends.{ends_length, ends_more, count_more, count_rises, count_all}
use Rattle.std.specs.Vec.{vec_len}
use Rattle.chunk_store.proofs.file_list.fill.Goals as goal

pub file_begin-end-requires : goal.file_begin-end-requires
file_begin-end-requires c =
    let cut : c.as_slice.result.now ≡ ends_of 0 (take c.args.from c.args.files.now) = c.as_slice.ensures.value ∙ c.truncate.ensures.items ∙ c.requires.prefix in
    let size = ap length cut ∙ ends_length 0 (take c.args.from c.args.files.now) in
    let part = length-take-le c.args.from c.args.files.now c.requires.within in
    omega arith

pub push_reserved-requires : goal.push_reserved-requires
push_reserved-requires c =
    let len : vec_len c.files.ends ≡ length c.files.ends.items = search rules in
    let size = ap length c.files.invariant.ends ∙ ends_length 0 (take c.files.i c.args.files.now) in
    let part = length-take-le c.files.i c.args.files.now (omega arith) in
    let room = c.files.invariant.room in
    omega arith

pub overflow_add-end : goal.overflow_add-end
overflow_add-end c =
    let l : c.files.i < length c.args.files.now = omega arith in
    let size : c.chunk_count-end.result ≡ length (get_or c.args.files.now c.files.i ([], [])).1 = c.chunk_count-end.ensures.count ∙ ap (λ (x : File). length x.1) (get_or_default c.args.files.now c.files.i c.index-files-i.result ([], []) l) in
    let more = count_more c.args.files.now c.files.i ([], []) l in
    let part = count_rises c.args.files.now (c.files.i + 1) (length c.args.files.now) (omega arith) in
    let all = count_all c.args.files.now (length c.args.files.now) (omega arith) in
    omega arith

pub files-preserved : goal.files-preserved
files-preserved c =
    let l : c.files.i < length c.args.files.now = omega arith in
    let size : c.chunk_count-end.result ≡ length (get_or c.args.files.now c.files.i ([], [])).1 = c.chunk_count-end.ensures.count ∙ ap (λ (x : File). length x.1) (get_or_default c.args.files.now c.files.i c.index-files-i.result ([], []) l) in
    let more = count_more c.args.files.now c.files.i ([], []) l in
    let end : c.files.end + c.chunk_count-end.result ≡ length (all_chunks (take (c.files.i + 1) c.args.files.now)) = omega arith in
    record {
      ends = c.push_reserved.ensures.items ∙ ap (λ (x : List ℕ). x ++ (c.files.end + c.chunk_count-end.result) ∷ []) c.files.invariant.ends
          ∙ ap (λ n. ends_of 0 (take c.files.i c.args.files.now) ++ n ∷ []) end
          ∙ sym (ends_more c.args.files.now c.files.i ([], []) l);
      end = end;
      room = omega arith;
    }

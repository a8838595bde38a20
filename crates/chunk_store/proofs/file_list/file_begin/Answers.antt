use Rattle.std.proofs.Common.{◌≡◌, ◌<◌, ◌+◌, ◌-◌, length, take, get_or, ap, ◌∙◌, arith}
use Rattle.chunk_store.specs.Files.{all_chunks}
use Rattle.chunk_store.proofs.Ends.{ends_length, end_at}
use Rattle.chunk_store.proofs.file_list.file_begin.Goals as goal

pub returns-else-i-eq0 : goal.returns-else-i-eq0
returns-else-i-eq0 c files e =
    let n = ap length e ∙ ends_length 0 files in
    let l : c.args.i - 1 < length files = omega arith in
    let i : c.args.i - 1 + 1 ≡ c.args.i = omega arith in
    ap (λ x. get_or x (c.args.i - 1) 0) e ∙ end_at files (c.args.i - 1) 0 l ∙ ap (λ k. length (all_chunks (take k files))) i

use Rattle.std.proofs.Common.{◌≡◌, [], ◌<◌, ◌+◌, ◌-◌, ℕ, List, length, ap, subst, ◌∙◌, arith, Err}
use Rattle.std.proofs.lemmas.List.{get_or-set_same}
use Rattle.definitions.specs.Records.{text_of}
use Rattle.marker_chunker.specs.Cuts.{chunks_of}
use Rattle.chunk_store.specs.Documents.{text_size, Answers, IsSplice}
use Rattle.chunk_store.specs.Files.{File, all_chunks, file_at, raised, with_file, IsAt, IsOneTooMany}
use Rattle.chunk_store.proofs.Ends.{ends_length}
use Rattle.chunk_store.proofs.Together.{split_at, whole_splice, before_at}
use Rattle.chunk_store.proofs.Refusals.{not_less, answers_map, text_cut, spliced_files, cut_is}
use Rattle.chunk_store.proofs.Changes.{file_is, text_beside, some_at, prefix_set, length_ends, small_set, settled_is, shelf_at}
use Rattle.chunk_store.proofs.shelf.Shelf.load.Goals as goal

pub file_begin-begin-requires : goal.file_begin-begin-requires
file_begin-begin-requires c =
    let at : IsAt c.args.name.now c.self.inside.files.items c.in-Ok.i = subst (λ (x : List File). IsAt c.args.name.now x c.in-Ok.i) c.as_slice.ensures.value c.in-Ok.ensures.here in
    let within = at.within in
    let size = ap length (c.as_slice-2.ensures.value ∙ c.self.invariant.ended) ∙ ends_length 0 c.self.inside.files.items in
    omega arith

pub overflow_sub-others : goal.overflow_sub-others
overflow_sub-others c =
    let at : IsAt c.args.name.now c.self.inside.files.items c.in-Ok.i = subst (λ (x : List File). IsAt c.args.name.now x c.in-Ok.i) c.as_slice.ensures.value c.in-Ok.ensures.here in
    let part = (text_beside c.args.name.now c.self.inside.files.items c.in-Ok.i c.index.result.now [] c.self.inside.size c.text_len.result at c.index.ensures c.self.invariant.sized c.text_len.ensures.size).0 in
    omega arith

pub returns-in-Err-load_beside-clause-answers : goal.returns-in-Err-load_beside-clause-answers
returns-in-Err-load_beside-clause-answers c =
    let at : IsAt c.args.name.now c.self.inside.files.items c.in-Ok.i = subst (λ (x : List File). IsAt c.args.name.now x c.in-Ok.i) c.as_slice.ensures.value c.in-Ok.ensures.here in
    let text = (text_beside c.args.name.now c.self.inside.files.items c.in-Ok.i c.index.result.now c.args.records.now c.self.inside.size c.text_len.result at c.index.ensures c.self.invariant.sized c.text_len.ensures.size).1 in
    let full : IsOneTooMany c.args.records.now c.args.name.now c.self.inside.files.items → ⊥ = λ h. some_at c.args.name.now c.self.inside.files.items c.in-Ok.i at c.self.invariant.documents h.0 in
    subst (λ (x : List File). Answers (IsOneTooMany c.args.records.now c.args.name.now x) (268435456 < text_size (all_chunks (with_file c.args.name.now (chunks_of c.args.records.now) x))) (Err c.in-Err-load_beside.fault)) c.self.view_is
    (answers_map (Err c.in-Err-load_beside.fault) (λ n. absurd n) full (λ l. omega arith) (λ l. omega arith) c.in-Err-load_beside.ensures.answers)

pub settle-requires-clause-prefix : goal.settle-requires-clause-prefix
settle-requires-clause-prefix c = prefix_set c.self.inside.files.items c.self.inside.ends.items c.in-Ok.i (c.index_mut.result.now.0, c.load_beside.new.self) c.self.invariant.ended

pub settle-requires-clause-ends : goal.settle-requires-clause-ends
settle-requires-clause-ends c = length_ends c.self.inside.files.items c.self.inside.ends.items c.in-Ok.i (c.index_mut.result.now.0, c.load_beside.new.self) c.self.invariant.ended

pub settle-requires-clause-small : goal.settle-requires-clause-small
settle-requires-clause-small c =
    let at : IsAt c.args.name.now c.self.inside.files.items c.in-Ok.i = subst (λ (x : List File). IsAt c.args.name.now x c.in-Ok.i) c.as_slice.ensures.value c.in-Ok.ensures.here in
    let text = (text_beside c.args.name.now c.self.inside.files.items c.in-Ok.i c.index.result.now c.args.records.now c.self.inside.size c.text_len.result at c.index.ensures c.self.invariant.sized c.text_len.ensures.size).1 in
    let fits = not_less 268435456 (c.self.inside.size - c.text_len.result + length (text_of c.args.records.now)) c.in-Ok-load_beside.ensures.answers.1 in
    let same = ap (λ (x : List (List (List ℕ))). text_size (all_chunks (with_file c.args.name.now x c.self.inside.files.items))) c.in-Ok-load_beside.ensures.ok in
    small_set c.args.name.now c.self.inside.files.items c.in-Ok.i (c.index_mut.result.now.0, c.load_beside.new.self) at c.self.invariant.documents (cut_is c.load_beside.new.self c.args.records.now c.in-Ok-load_beside.ensures.ok) (omega arith)

pub invariant_of-self-2 : goal.invariant_of-self-2
invariant_of-self-2 c =
    let at : IsAt c.args.name.now c.self.inside.files.items c.in-Ok.i = subst (λ (x : List File). IsAt c.args.name.now x c.in-Ok.i) c.as_slice.ensures.value c.in-Ok.ensures.here in
    let named = (file_is c.args.name.now c.self.inside.files.items c.in-Ok.i c.index_mut.result.now at c.index_mut.ensures.value).0 in
    let text = (text_beside c.args.name.now c.self.inside.files.items c.in-Ok.i c.index.result.now c.args.records.now c.self.inside.size c.text_len.result at c.index.ensures c.self.invariant.sized c.text_len.ensures.size).1 in
    let fits = not_less 268435456 (c.self.inside.size - c.text_len.result + length (text_of c.args.records.now)) c.in-Ok-load_beside.ensures.answers.1 in
    let same = ap (λ (x : List (List (List ℕ))). text_size (all_chunks (with_file c.args.name.now x c.self.inside.files.items))) c.in-Ok-load_beside.ensures.ok in
    let is = settled_is c.args.name.now c.self.inside.files.items c.settle.new.files.items c.in-Ok.i (c.index_mut.result.now.0, c.load_beside.new.self) at named c.settle.ensures.files in
    let cut = text_cut c.load_beside.new.self c.args.records.now c.in-Ok-load_beside.ensures.ok in
    let now : c.text_len-2.result ≡ text_size c.load_beside.new.self =
    c.text_len-2.ensures.size
    ∙ ap (λ (x : File). text_size x.1) (c.index-2.ensures ∙ get_or-set_same c.self.inside.files.items c.in-Ok.i (c.index_mut.result.now.0, c.load_beside.new.self) c.index-2.result.now at.within) in
    shelf_at c.args.name.now c.load_beside.new.self c.self.inside.files.items c.settle.new.files.items c.self.inside.ends.items c.settle.new.ends.items c.self.inside.size (c.self.inside.size - c.text_len.result + c.text_len-2.result) c.in-Ok.i
    c.self.invariant at is (cut_is c.load_beside.new.self c.args.records.now c.in-Ok-load_beside.ensures.ok) c.settle.ensures.ends (omega arith) (omega arith)

pub returns-clause-answers : goal.returns-clause-answers
returns-clause-answers c =
    let at : IsAt c.args.name.now c.self.inside.files.items c.in-Ok.i = subst (λ (x : List File). IsAt c.args.name.now x c.in-Ok.i) c.as_slice.ensures.value c.in-Ok.ensures.here in
    let text = (text_beside c.args.name.now c.self.inside.files.items c.in-Ok.i c.index.result.now c.args.records.now c.self.inside.size c.text_len.result at c.index.ensures c.self.invariant.sized c.text_len.ensures.size).1 in
    let full : IsOneTooMany c.args.records.now c.args.name.now c.self.inside.files.items → ⊥ = λ h. some_at c.args.name.now c.self.inside.files.items c.in-Ok.i at c.self.invariant.documents h.0 in
    subst (λ (x : List File). (IsOneTooMany c.args.records.now c.args.name.now x → ⊥) × (268435456 < text_size (all_chunks (with_file c.args.name.now (chunks_of c.args.records.now) x)) → ⊥)) c.self.view_is
    (full, λ l. c.in-Ok-load_beside.ensures.answers.1 (omega arith))

pub returns-clause-splice : goal.returns-clause-splice
returns-clause-splice c =
    let at : IsAt c.args.name.now c.self.inside.files.items c.in-Ok.i = subst (λ (x : List File). IsAt c.args.name.now x c.in-Ok.i) c.as_slice.ensures.value c.in-Ok.ensures.here in
    let here = file_is c.args.name.now c.self.inside.files.items c.in-Ok.i c.index_mut.result.now at c.index_mut.ensures.value in
    let is = settled_is c.args.name.now c.self.inside.files.items c.settle.new.files.items c.in-Ok.i (c.index_mut.result.now.0, c.load_beside.new.self) at here.0 c.settle.ensures.files in
    let own : IsSplice (file_at c.args.name.now c.self.inside.files.items) c.load_beside.new.self c.in-Ok-load_beside.change =
    subst (λ (x : List (List (List ℕ))). IsSplice x c.load_beside.new.self c.in-Ok-load_beside.change) here.1 (whole_splice c.index_mut.result.now.1 c.load_beside.new.self c.in-Ok-load_beside.change c.in-Ok-load_beside.ensures.change) in
    let begin = c.file_begin-begin.ensures c.self.inside.files.items (c.as_slice-2.ensures.value ∙ c.self.invariant.ended) ∙ before_at c.args.name.now c.self.inside.files.items c.in-Ok.i at in
    subst (λ (x : List File). IsSplice (all_chunks x) (all_chunks c.settle.new.files.items) c.raised.result) c.self.view_is
    (spliced_files c.args.name.now c.self.inside.files.items c.load_beside.new.self c.in-Ok-load_beside.change c.settle.new.files.items c.raised.result (split_at c.args.name.now c.self.inside.files.items c.in-Ok.i at) own is
    (c.raised.ensures ∙ ap (λ n. raised n c.in-Ok-load_beside.change) begin))

use Rattle.std.proofs.Common.{◌≡◌, ◌+◌, ◌-◌, [], ℕ, List, length, refl, sym, ap, subst, ◌∙◌, arith}
use Rattle.chunk_store.specs.declared.change.Change.{Change}
use Rattle.chunk_store.specs.Documents.{text_size, IsSplice}
use Rattle.chunk_store.specs.Files.{File, all_chunks, chunks_before, file_at, with_file, IsAt, IsGap}
use Rattle.chunk_store.proofs.Ends.{ends_length}
use Rattle.chunk_store.proofs.Together.{split_at, split_gap, text_part, text_with, chunks_part, chunks_size, whole_splice, before_at, before_gap, at_with}
use Rattle.chunk_store.proofs.Refusals.{chunks_none, spliced_files, splice_still}
use Rattle.chunk_store.proofs.Changes.{file_is, shelf_at}
use Rattle.chunk_store.proofs.shelf.Shelf.remove.Goals as goal

pub file_begin-first-requires : goal.file_begin-first-requires
file_begin-first-requires c =
    let gap : IsGap c.args.name.now c.self.inside.files.items c.in-Err.i = subst (λ (x : List File). IsGap c.args.name.now x c.in-Err.i) c.as_slice.ensures.value c.in-Err.ensures.gap in
    let within = gap.within in
    let size = ap length (c.as_slice-in-Err.ensures.value ∙ c.self.invariant.ended) ∙ ends_length 0 c.self.inside.files.items in
    omega arith

pub returns-in-Err-clause-splice : goal.returns-in-Err-clause-splice
returns-in-Err-clause-splice c =
    let gap : IsGap c.args.name.now c.self.inside.files.items c.in-Err.i = subst (λ (x : List File). IsGap c.args.name.now x c.in-Err.i) c.as_slice.ensures.value c.in-Err.ensures.gap in
    let begin = c.file_begin-first.ensures c.self.inside.files.items (c.as_slice-in-Err.ensures.value ∙ c.self.invariant.ended) ∙ before_gap c.args.name.now c.self.inside.files.items c.in-Err.i gap in
    let part = chunks_part c.args.name.now c.self.inside.files.items (split_gap c.args.name.now c.self.inside.files.items c.in-Err.i gap) in
    subst (λ (x : List File). IsSplice (all_chunks x) (all_chunks x) (record { first = c.file_begin-first.result; gone = 0; fresh = 0 })) c.self.view_is
    (splice_still (all_chunks c.self.inside.files.items) c.file_begin-first.result (omega arith))

pub file_begin-first-requires-2 : goal.file_begin-first-requires-2
file_begin-first-requires-2 c =
    let at : IsAt c.args.name.now c.self.inside.files.items c.in-Ok.i = subst (λ (x : List File). IsAt c.args.name.now x c.in-Ok.i) c.as_slice.ensures.value c.in-Ok.ensures.here in
    let within = at.within in
    let size = ap length (c.as_slice-2.ensures.value ∙ c.self.invariant.ended) ∙ ends_length 0 c.self.inside.files.items in
    omega arith

pub overflow_sub-self : goal.overflow_sub-self
overflow_sub-self c =
    let at : IsAt c.args.name.now c.self.inside.files.items c.in-Ok.i = subst (λ (x : List File). IsAt c.args.name.now x c.in-Ok.i) c.as_slice.ensures.value c.in-Ok.ensures.here in
    let old = ap text_size (file_is c.args.name.now c.self.inside.files.items c.in-Ok.i c.index-2.result.now at c.index-2.ensures).1 in
    let part = text_part c.args.name.now c.self.inside.files.items (split_at c.args.name.now c.self.inside.files.items c.in-Ok.i at) in
    let sized = c.self.invariant.sized in
    let size = c.text_len.ensures.size in
    omega arith

pub take_out-requires-clause-small : goal.take_out-requires-clause-small
take_out-requires-clause-small c =
    let all = chunks_size c.self.inside.files.items c.self.invariant.documents in
    let sized = c.self.invariant.sized in
    let small = c.self.invariant.small in
    omega arith

pub invariant_of-self : goal.invariant_of-self
invariant_of-self c =
    let at : IsAt c.args.name.now c.self.inside.files.items c.in-Ok.i = subst (λ (x : List File). IsAt c.args.name.now x c.in-Ok.i) c.as_slice.ensures.value c.in-Ok.ensures.here in
    let old = ap text_size (file_is c.args.name.now c.self.inside.files.items c.in-Ok.i c.index-2.result.now at c.index-2.ensures).1 in
    let sized = c.self.invariant.sized in
    let small = c.self.invariant.small in
    let size = c.text_len.ensures.size in
    let text = text_with c.args.name.now c.self.inside.files.items [] (split_at c.args.name.now c.self.inside.files.items c.in-Ok.i at) in
    let is : c.take_out.new.files.items ≡ with_file c.args.name.now [] c.self.inside.files.items = c.take_out.ensures.files ∙ at_with c.args.name.now c.self.inside.files.items c.in-Ok.i [] at in
    shelf_at c.args.name.now [] c.self.inside.files.items c.take_out.new.files.items c.self.inside.ends.items c.take_out.new.ends.items c.self.inside.size (c.self.inside.size - c.text_len.result) c.in-Ok.i
    c.self.invariant at is (sym chunks_none) c.take_out.ensures.ends (omega arith) (omega arith)

pub returns-clause-splice : goal.returns-clause-splice
returns-clause-splice c =
    let at : IsAt c.args.name.now c.self.inside.files.items c.in-Ok.i = subst (λ (x : List File). IsAt c.args.name.now x c.in-Ok.i) c.as_slice.ensures.value c.in-Ok.ensures.here in
    let here = file_is c.args.name.now c.self.inside.files.items c.in-Ok.i c.index.result.now at c.index.ensures in
    let is : c.take_out.new.files.items ≡ with_file c.args.name.now [] c.self.inside.files.items = c.take_out.ensures.files ∙ at_with c.args.name.now c.self.inside.files.items c.in-Ok.i [] at in
    let own : Change = record { first = 0; gone = c.chunk_count-gone.result; fresh = 0 } in
    let begin = c.file_begin-first-2.ensures c.self.inside.files.items (c.as_slice-2.ensures.value ∙ c.self.invariant.ended) ∙ before_at c.args.name.now c.self.inside.files.items c.in-Ok.i at in
    let first : c.file_begin-first-2.result ≡ chunks_before c.args.name.now c.self.inside.files.items + 0 = omega arith in
    let gone : c.chunk_count-gone.result ≡ length (file_at c.args.name.now c.self.inside.files.items) = c.chunk_count-gone.ensures.count ∙ ap length here.1 in
    subst (λ (x : List File). IsSplice (all_chunks x) (all_chunks c.take_out.new.files.items) (record { first = c.file_begin-first-2.result; gone = c.chunk_count-gone.result; fresh = 0 })) c.self.view_is
    (spliced_files c.args.name.now c.self.inside.files.items [] own c.take_out.new.files.items (record { first = c.file_begin-first-2.result; gone = c.chunk_count-gone.result; fresh = 0 })
    (split_at c.args.name.now c.self.inside.files.items c.in-Ok.i at) (whole_splice (file_at c.args.name.now c.self.inside.files.items) [] own (refl, gone, refl)) is
    (ap (λ (n : ℕ). record { first = n; gone = c.chunk_count-gone.result; fresh = 0 }) first))

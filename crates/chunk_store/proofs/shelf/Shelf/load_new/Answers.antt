use Rattle.std.proofs.Common.{◌≡◌, ◌≢◌, ◌≤◌, ◌+◌, [], List, length, sym, ap, subst, ◌∙◌, arith, ℕ, Err}
use Rattle.definitions.specs.Records.{text_of}
use Rattle.marker_chunker.specs.Cuts.{chunks_of}
use Rattle.chunk_store.specs.Documents.{text_size, IsSplice, IsWhole}
use Rattle.chunk_store.specs.Files.{File, all_chunks, IsOneTooMany}
use Rattle.chunk_store.proofs.Together.{split_gap, whole_splice}
use Rattle.chunk_store.proofs.Refusals.{not_less, not_true, answers_map, text_gap, text_cut, spliced_files, cut_is, chunks_none}
use Rattle.chunk_store.proofs.shelf.Shelf.load_new.Goals as goal

pub returns-in-Err-clause-answers : goal.returns-in-Err-clause-answers
returns-in-Err-clause-answers c =
    let full : IsOneTooMany c.args.records.now c.args.name.now c.args.self.now → ⊥ = λ h. not_true _ c.if-is_full.false (c.is_full.ensures.1 (h.1, h.2)) in
    let sized : c.self.inside.size ≡ text_size (all_chunks c.args.self.now) = subst (λ (x : List File). c.self.inside.size ≡ text_size (all_chunks x)) c.self.view_is c.self.invariant.sized in
    let text = text_gap c.args.name.now c.args.self.now c.args.i c.args.records.now c.requires in
    answers_map (Err c.in-Err.fault) (λ n. absurd n) full (λ l. omega arith) (λ l. omega arith) c.in-Err.ensures.answers

pub add-requires-clause-document : goal.add-requires-clause-document
add-requires-clause-document c = cut_is c.load_beside.new.self c.args.records.now c.in-Ok.ensures.ok

pub add-requires-clause-room : goal.add-requires-clause-room
add-requires-clause-room c some =
    let records : c.args.records.now ≢ [] = λ e. some (c.in-Ok.ensures.ok ∙ ap chunks_of e ∙ chunks_none) in
    let most : length c.args.self.now ≤ 65536 = subst (λ (x : List File). length x ≤ 65536) c.self.view_is c.self.invariant.most in
    let full : length c.args.self.now ≢ 65536 = λ e. not_true _ c.if-is_full.false (c.is_full.ensures.1 (records, e)) in
    omega arith

pub add-requires-clause-small : goal.add-requires-clause-small
add-requires-clause-small c =
    let sized : c.self.inside.size ≡ text_size (all_chunks c.args.self.now) = subst (λ (x : List File). c.self.inside.size ≡ text_size (all_chunks x)) c.self.view_is c.self.invariant.sized in
    let fits = not_less 268435456 (c.self.inside.size + length (text_of c.args.records.now)) c.in-Ok.ensures.answers.1 in
    let size = text_cut c.load_beside.new.self c.args.records.now c.in-Ok.ensures.ok in
    omega arith

pub returns-in-Ok-add-clause-answers : goal.returns-in-Ok-add-clause-answers
returns-in-Ok-add-clause-answers c =
    let full : IsOneTooMany c.args.records.now c.args.name.now c.args.self.now → ⊥ = λ h. not_true _ c.if-is_full.false (c.is_full.ensures.1 (h.1, h.2)) in
    let sized : c.self.inside.size ≡ text_size (all_chunks c.args.self.now) = subst (λ (x : List File). c.self.inside.size ≡ text_size (all_chunks x)) c.self.view_is c.self.invariant.sized in
    let text = text_gap c.args.name.now c.args.self.now c.args.i c.args.records.now c.requires in
    (full, λ l. c.in-Ok.ensures.answers.1 (omega arith))

pub returns-in-Err-add-clause-answers : goal.returns-in-Err-add-clause-answers
returns-in-Err-add-clause-answers c =
    let full : IsOneTooMany c.args.records.now c.args.name.now c.args.self.now → ⊥ = λ h. not_true _ c.if-is_full.false (c.is_full.ensures.1 (h.1, h.2)) in
    let sized : c.self.inside.size ≡ text_size (all_chunks c.args.self.now) = subst (λ (x : List File). c.self.inside.size ≡ text_size (all_chunks x)) c.self.view_is c.self.invariant.sized in
    let text = text_gap c.args.name.now c.args.self.now c.args.i c.args.records.now c.requires in
    (full, λ l. c.in-Ok.ensures.answers.1 (omega arith))

pub returns-in-Ok-add-clause-splice : goal.returns-in-Ok-add-clause-splice
returns-in-Ok-add-clause-splice c =
    let own : IsSplice [] c.load_beside.new.self c.in-Ok.change = whole_splice [] c.load_beside.new.self c.in-Ok.change (subst (λ (x : List (List (List ℕ))). IsWhole 0 x c.load_beside.new.self c.in-Ok.change) c.new-document.ensures c.in-Ok.ensures.change) in
    spliced_files c.args.name.now c.args.self.now c.load_beside.new.self c.in-Ok.change c.add.new.self c.in-Ok-add.change (split_gap c.args.name.now c.args.self.now c.args.i c.requires)
    (subst (λ (x : List (List (List ℕ))). IsSplice x c.load_beside.new.self c.in-Ok.change) (sym c.requires.none) own) c.in-Ok-add.ensures.ok c.in-Ok-add.ensures.change

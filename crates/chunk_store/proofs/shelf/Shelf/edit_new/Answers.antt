use Rattle.std.proofs.Common.{◌≡◌, ◌<◌, ◌+◌, [], List, length, sym, ap, subst, ◌∙◌, arith, ℕ, Ok, Err, inl, inr}
use Rattle.definitions.specs.Records.{text_of}
use Rattle.marker_chunker.specs.Cuts.{joined, chunks_of}
use Rattle.chunk_store.specs.Documents.{spliced, text_size, Answers, IsSplice}
use Rattle.chunk_store.specs.Files.{File, all_chunks, file_at, IsOneTooMany}
use Rattle.chunk_store.proofs.Together.{split_gap}
use Rattle.chunk_store.proofs.Refusals.{not_less, not_true, answers_map, text_gap, text_cut, spliced_files, cut_is}
use Rattle.chunk_store.proofs.shelf.Shelf.edit_new.Goals as goal

pub returns-in-Err-clause-answers : goal.returns-in-Err-clause-answers
returns-in-Err-clause-answers c =
    let was : c.new-document.result ≡ file_at c.args.name.now c.args.self.now = c.new-document.ensures ∙ sym c.requires.none in
    let answers = subst (λ (x : List (List (List ℕ))). Answers (length (joined x) < c.args.at + c.args.del) (268435456 < c.self.inside.size + length (text_of (spliced c.args.at c.args.del c.args.ins.now (joined x)))) (Err c.in-Err.fault)) was c.in-Err.ensures.answers in
    let full : IsOneTooMany c.args.ins.now c.args.name.now c.args.self.now → ⊥ = λ h. not_true _ c.if-is_full.false (c.is_full.ensures.1 (h.1, h.2)) in
    let sized : c.self.inside.size ≡ text_size (all_chunks c.args.self.now) = subst (λ (x : List File). c.self.inside.size ≡ text_size (all_chunks x)) c.self.view_is c.self.invariant.sized in
    let text = text_gap c.args.name.now c.args.self.now c.args.i (spliced c.args.at c.args.del c.args.ins.now (joined (file_at c.args.name.now c.args.self.now))) c.requires in
    answers_map (Err c.in-Err.fault) (λ m. inl m) (λ n. elim n [ inl m ↦ m | inr h ↦ absurd (full h) ]) (λ l. omega arith) (λ l. omega arith) answers

pub add-requires-clause-document : goal.add-requires-clause-document
add-requires-clause-document c =
    let was : c.new-document.result ≡ file_at c.args.name.now c.args.self.now = c.new-document.ensures ∙ sym c.requires.none in
    let ok : c.edit_beside.new.self ≡ chunks_of (spliced c.args.at c.args.del c.args.ins.now (joined (file_at c.args.name.now c.args.self.now))) = c.in-Ok.ensures.ok ∙ ap (λ (x : List (List (List ℕ))). chunks_of (spliced c.args.at c.args.del c.args.ins.now (joined x))) was in
    cut_is c.edit_beside.new.self (spliced c.args.at c.args.del c.args.ins.now (joined (file_at c.args.name.now c.args.self.now))) ok

pub add-requires-clause-small : goal.add-requires-clause-small
add-requires-clause-small c =
    let was : c.new-document.result ≡ file_at c.args.name.now c.args.self.now = c.new-document.ensures ∙ sym c.requires.none in
    let ok : c.edit_beside.new.self ≡ chunks_of (spliced c.args.at c.args.del c.args.ins.now (joined (file_at c.args.name.now c.args.self.now))) = c.in-Ok.ensures.ok ∙ ap (λ (x : List (List (List ℕ))). chunks_of (spliced c.args.at c.args.del c.args.ins.now (joined x))) was in
    let answers = subst (λ (x : List (List (List ℕ))). Answers (length (joined x) < c.args.at + c.args.del) (268435456 < c.self.inside.size + length (text_of (spliced c.args.at c.args.del c.args.ins.now (joined x)))) (Ok c.in-Ok.change)) was c.in-Ok.ensures.answers in
    let sized : c.self.inside.size ≡ text_size (all_chunks c.args.self.now) = subst (λ (x : List File). c.self.inside.size ≡ text_size (all_chunks x)) c.self.view_is c.self.invariant.sized in
    let fits = not_less 268435456 (c.self.inside.size + length (text_of (spliced c.args.at c.args.del c.args.ins.now (joined (file_at c.args.name.now c.args.self.now))))) answers.1 in
    let size = text_cut c.edit_beside.new.self (spliced c.args.at c.args.del c.args.ins.now (joined (file_at c.args.name.now c.args.self.now))) ok in
    omega arith

pub returns-in-Ok-add-clause-answers : goal.returns-in-Ok-add-clause-answers
returns-in-Ok-add-clause-answers c =
    let was : c.new-document.result ≡ file_at c.args.name.now c.args.self.now = c.new-document.ensures ∙ sym c.requires.none in
    let answers = subst (λ (x : List (List (List ℕ))). Answers (length (joined x) < c.args.at + c.args.del) (268435456 < c.self.inside.size + length (text_of (spliced c.args.at c.args.del c.args.ins.now (joined x)))) (Ok c.in-Ok.change)) was c.in-Ok.ensures.answers in
    let full : IsOneTooMany c.args.ins.now c.args.name.now c.args.self.now → ⊥ = λ h. not_true _ c.if-is_full.false (c.is_full.ensures.1 (h.1, h.2)) in
    let sized : c.self.inside.size ≡ text_size (all_chunks c.args.self.now) = subst (λ (x : List File). c.self.inside.size ≡ text_size (all_chunks x)) c.self.view_is c.self.invariant.sized in
    let text = text_gap c.args.name.now c.args.self.now c.args.i (spliced c.args.at c.args.del c.args.ins.now (joined (file_at c.args.name.now c.args.self.now))) c.requires in
    ((λ n. elim n [ inl m ↦ answers.0 m | inr h ↦ full h ]), λ l. answers.1 (omega arith))

pub returns-in-Err-add-clause-answers : goal.returns-in-Err-add-clause-answers
returns-in-Err-add-clause-answers c =
    let was : c.new-document.result ≡ file_at c.args.name.now c.args.self.now = c.new-document.ensures ∙ sym c.requires.none in
    let answers = subst (λ (x : List (List (List ℕ))). Answers (length (joined x) < c.args.at + c.args.del) (268435456 < c.self.inside.size + length (text_of (spliced c.args.at c.args.del c.args.ins.now (joined x)))) (Ok c.in-Ok.change)) was c.in-Ok.ensures.answers in
    let full : IsOneTooMany c.args.ins.now c.args.name.now c.args.self.now → ⊥ = λ h. not_true _ c.if-is_full.false (c.is_full.ensures.1 (h.1, h.2)) in
    let sized : c.self.inside.size ≡ text_size (all_chunks c.args.self.now) = subst (λ (x : List File). c.self.inside.size ≡ text_size (all_chunks x)) c.self.view_is c.self.invariant.sized in
    let text = text_gap c.args.name.now c.args.self.now c.args.i (spliced c.args.at c.args.del c.args.ins.now (joined (file_at c.args.name.now c.args.self.now))) c.requires in
    ((λ n. elim n [ inl m ↦ answers.0 m | inr h ↦ full h ]), λ l. answers.1 (omega arith))

pub returns-in-Ok-add-clause-splice : goal.returns-in-Ok-add-clause-splice
returns-in-Ok-add-clause-splice c =
    let was : c.new-document.result ≡ file_at c.args.name.now c.args.self.now = c.new-document.ensures ∙ sym c.requires.none in
    let own : IsSplice (file_at c.args.name.now c.args.self.now) c.edit_beside.new.self c.in-Ok.change = subst (λ (x : List (List (List ℕ))). IsSplice x c.edit_beside.new.self c.in-Ok.change) was c.in-Ok.ensures.splice in
    spliced_files c.args.name.now c.args.self.now c.edit_beside.new.self c.in-Ok.change c.add.new.self c.in-Ok-add.change (split_gap c.args.name.now c.args.self.now c.args.i c.requires)
    own c.in-Ok-add.ensures.ok c.in-Ok-add.ensures.change

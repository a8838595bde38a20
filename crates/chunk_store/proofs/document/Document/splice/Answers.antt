use Rattle.std.proofs.Common.{rules, ◌≡◌, ◌≤◌, ◌+◌, ◌-◌, ◌++◌, ℕ, List, length, sym, ap, subst, ◌∙◌, arith, take, drop, None}
use Rattle.definitions.specs.Records.{text_of}
use Rattle.marker_chunker.specs.Cuts.{chunks_of, joined, AreChunks}
use Rattle.marker_chunker.proofs.CutLaws.{chunks_are, joined_chunks}
use Rattle.chunk_store.specs.Documents.{spliced, IsChange, IsRecut, IsSplice}
use Rattle.chunk_store.proofs.Splices.{spliced_size, change_of, splice_of}
use Rattle.chunk_store.proofs.Texts.{count_size}
use Rattle.chunk_store.proofs.document.Document.splice.Goals as goal

pub overflow_add-self : goal.overflow_add-self
overflow_add-self c =
    let count = c.self.invariant.1 in
    let size = c.self.invariant.2 in
    let most = c.self.invariant.3 in
    let bytes = count_size c.self.inside.chunks.items in
    omega arith

pub invariant_of-self-2 : goal.invariant_of-self-2
invariant_of-self-2 c =
    let is : c.replace.new.chunks.items ≡ take c.in-Ok.again.first c.self.inside.chunks.items ++ (c.in-Ok.again.fresh.items ++ drop c.in-Ok.again.last c.self.inside.chunks.items) = search rules in
    let slice : c.as_slice.result.now ≡ c.self.inside.chunks.items = c.as_slice.ensures.value in
    let within : c.args.at + c.args.del ≤ length (joined c.self.inside.chunks.items) =
    subst (λ (x : List (List (List ℕ))). c.args.at + c.args.del ≤ length (joined x)) (sym c.self.view_is) c.requires.within in
    let bytes : c.args.size ≡ length (text_of (spliced c.args.at c.args.del c.args.ins.now (joined c.self.inside.chunks.items))) =
    subst (λ (x : List (List (List ℕ))). c.args.size ≡ length (text_of (spliced c.args.at c.args.del c.args.ins.now (joined x)))) (sym c.self.view_is) c.requires.size in
    let cut : c.replace.new.chunks.items ≡ chunks_of (spliced c.args.at c.args.del c.args.ins.now (joined c.self.inside.chunks.items)) =
    is ∙ subst (λ (x : List (List (List ℕ))). take c.in-Ok.again.first x ++ (c.in-Ok.again.fresh.items ++ drop c.in-Ok.again.last x) ≡ chunks_of (spliced c.args.at c.args.del c.args.ins.now (joined x))) slice c.in-Ok.ensures.news in
    let records : joined c.replace.new.chunks.items ≡ spliced c.args.at c.args.del c.args.ins.now (joined c.self.inside.chunks.items) =
    ap joined cut ∙ joined_chunks (spliced c.args.at c.args.del c.args.ins.now (joined c.self.inside.chunks.items)) in
    let count = c.self.invariant.1 in
    let size = ap length records in
    let sizes = spliced_size c.args.at c.args.del c.args.ins.now (joined c.self.inside.chunks.items) within in (
      subst (λ (x : List (List (List ℕ))). AreChunks x None) (sym cut) (chunks_are (spliced c.args.at c.args.del c.args.ins.now (joined c.self.inside.chunks.items))),
      omega arith,
      bytes ∙ sym (ap (λ (x : List (List ℕ)). length (text_of x)) records),
      c.requires.most,
    )

pub returns-clause-change : goal.returns-clause-change
returns-clause-change c =
    let is : c.replace.new.chunks.items ≡ take c.in-Ok.again.first c.self.inside.chunks.items ++ (c.in-Ok.again.fresh.items ++ drop c.in-Ok.again.last c.self.inside.chunks.items) = search rules in
    let slice : c.as_slice.result.now ≡ c.self.inside.chunks.items = c.as_slice.ensures.value in
    let within : c.args.at + c.args.del ≤ length (joined c.self.inside.chunks.items) =
    subst (λ (x : List (List (List ℕ))). c.args.at + c.args.del ≤ length (joined x)) (sym c.self.view_is) c.requires.within in
    let cut : c.replace.new.chunks.items ≡ chunks_of (spliced c.args.at c.args.del c.args.ins.now (joined c.self.inside.chunks.items)) =
    is ∙ subst (λ (x : List (List (List ℕ))). take c.in-Ok.again.first x ++ (c.in-Ok.again.fresh.items ++ drop c.in-Ok.again.last x) ≡ chunks_of (spliced c.args.at c.args.del c.args.ins.now (joined x))) slice c.in-Ok.ensures.news in
    let recut = subst (λ (x : List (List (List ℕ))). IsRecut c.args.at c.args.del c.args.ins.now x (take c.in-Ok.again.first x ++ (c.in-Ok.again.fresh.items ++ drop c.in-Ok.again.last x)) c.in-Ok.again.first c.in-Ok.again.last) slice c.in-Ok.ensures.recut in
    let bound : c.in-Ok.again.last ≤ length c.self.inside.chunks.items = subst (λ (x : List (List (List ℕ))). c.in-Ok.again.last ≤ length x) slice c.in-Ok.ensures.within in
    let fresh : c.len.result ≡ length c.in-Ok.again.fresh.items = search rules in
    let change = change_of c.self.inside.chunks.items c.in-Ok.again.fresh.items c.replace.new.chunks.items c.in-Ok.again.first c.in-Ok.again.last c.args.at c.args.del c.args.ins.now is cut within bound recut in
    subst (λ (x : List (List (List ℕ))). IsChange c.args.at c.args.del c.args.ins.now x c.replace.new.chunks.items (record { first = c.in-Ok.again.first; gone = c.in-Ok.again.last - c.in-Ok.again.first; fresh = c.len.result })) c.self.view_is
    (subst (λ (n : ℕ). IsChange c.args.at c.args.del c.args.ins.now c.self.inside.chunks.items c.replace.new.chunks.items (record { first = c.in-Ok.again.first; gone = c.in-Ok.again.last - c.in-Ok.again.first; fresh = n })) (sym fresh) change)

pub returns-clause-splice : goal.returns-clause-splice
returns-clause-splice c =
    let is : c.replace.new.chunks.items ≡ take c.in-Ok.again.first c.self.inside.chunks.items ++ (c.in-Ok.again.fresh.items ++ drop c.in-Ok.again.last c.self.inside.chunks.items) = search rules in
    let slice : c.as_slice.result.now ≡ c.self.inside.chunks.items = c.as_slice.ensures.value in
    let recut = subst (λ (x : List (List (List ℕ))). IsRecut c.args.at c.args.del c.args.ins.now x (take c.in-Ok.again.first x ++ (c.in-Ok.again.fresh.items ++ drop c.in-Ok.again.last x)) c.in-Ok.again.first c.in-Ok.again.last) slice c.in-Ok.ensures.recut in
    let bound : c.in-Ok.again.last ≤ length c.self.inside.chunks.items = subst (λ (x : List (List (List ℕ))). c.in-Ok.again.last ≤ length x) slice c.in-Ok.ensures.within in
    let fresh : c.len.result ≡ length c.in-Ok.again.fresh.items = search rules in
    let splice = splice_of c.self.inside.chunks.items c.in-Ok.again.fresh.items c.replace.new.chunks.items c.in-Ok.again.first c.in-Ok.again.last is recut.ordered bound in
    subst (λ (x : List (List (List ℕ))). IsSplice x c.replace.new.chunks.items (record { first = c.in-Ok.again.first; gone = c.in-Ok.again.last - c.in-Ok.again.first; fresh = c.len.result })) c.self.view_is
    (subst (λ (n : ℕ). IsSplice c.self.inside.chunks.items c.replace.new.chunks.items (record { first = c.in-Ok.again.first; gone = c.in-Ok.again.last - c.in-Ok.again.first; fresh = n })) (sym fresh) splice)

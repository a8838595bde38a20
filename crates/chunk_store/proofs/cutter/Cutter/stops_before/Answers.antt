use Rattle.std.proofs.Common.{◌≡◌, ◌+◌, ◌-◌, ◌++◌, ◌∷◌, length, sym, ap, subst, ◌∙◌, arith, true, false}
use Rattle.marker_chunker.specs.Cuts.{chunks_of, reach, last_marks, ends_by}
use Rattle.chunk_store.specs.Cutting.{Cutting, records_of}
use Rattle.chunk_store.proofs.Cutting.{stops_is, apart}
use Rattle.std.proofs.Common.{Bool}
use Rattle.chunk_store.proofs.cutter.Cutter.stops_before.Goals as goal

unmade : (b : Bool) → b ≡ true → b ≡ false → ⊥
unmade b h e = cc

pub returns-else-len-eq0-clause-stops : goal.returns-else-len-eq0-clause-stops
returns-else-len-eq0-clause-stops c =
    let n : length c.self.inside.begun ≡ 0 → ⊥ = omega arith in
    rw (← c.self.view_is) (c.ends_before.ensures
    ∙ ap (λ m. ends_by m c.text_len.result (length c.args.next.now)) c.self.invariant.marked
    ∙ ap (λ s. ends_by (last_marks c.self.inside.begun) s (length c.args.next.now)) c.text_len.ensures
    ∙ sym (stops_is c.self.inside.begun c.args.next.now n))

pub returns-else-len-eq0-clause-apart : goal.returns-else-len-eq0-clause-apart
returns-else-len-eq0-clause-apart c h rest q meets =
    let n : length c.self.inside.begun ≡ 0 → ⊥ = omega arith in
    let stops = c.ends_before.ensures
    ∙ ap (λ m. ends_by m c.text_len.result (length c.args.next.now)) c.self.invariant.marked
    ∙ ap (λ s. ends_by (last_marks c.self.inside.begun) s (length c.args.next.now)) c.text_len.ensures
    ∙ sym (stops_is c.self.inside.begun c.args.next.now n) in
    apart c.self.inside.done.items c.self.inside.begun c.self.inside.marks c.args.next.now c.self.invariant (sym stops ∙ h) rest q
    (subst (λ (s : Cutting). reach q (chunks_of (records_of s ++ c.args.next.now ∷ rest)) ≡ length (records_of s)) (sym c.self.view_is) meets)

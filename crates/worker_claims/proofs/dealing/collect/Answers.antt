use Rattle.std.proofs.Common.{arith, sym, ap, ap₂, ◌∙◌, subst, ◌≡◌, ◌+◌, ℕ, [], ◌∷◌, ◌++◌, false, map, take, get_or, set, Some, get_or-set_other}
use Rattle.std.specs.Option.{IsSome}
use mathlib.Core.Logic.{dite}
use native.Mathlib.Decide.{ℕ_discrete}
use lib.ListN.{get_elem?}
use Rattle.std.proofs.lemmas.List.{map-append}
use Rattle.std.specs.Slots.{slots_filled}
use Rattle.worker_claims.proofs.Lists.{take_next, set_false}
use Rattle.shared_seats.proofs.Lists.{all_at}
use Rattle.worker_claims.proofs.dealing.collect.Goals as goal

pub unwrap-requires : goal.unwrap-requires
unwrap-requires g c = all_at (λ o. IsSome o) _ c.loop-k.k c.take.result c.requires.some (ap (λ l. get_elem? l c.loop-k.k) (sym c.loop-k.invariant.items) ∙ c.take.ensures.value)

pub loop-k-preserved : goal.loop-k-preserved
loop-k-preserved g c =
    let i = c.loop-k.invariant in let o = c.take.ensures.others in let p = c.push_reserved.ensures in let k : ℕ = c.loop-k.k in record {
      items = o.0 ∙ i.items;
      long = o.2 ∙ i.long;
      row = ap (map Some) p.items ∙ (map-append Some c.loop-k.row.items (c.unwrap.result ∷ []) ∙ (ap₂ (λ l x. l ++ x ∷ []) i.row (sym c.unwrap.ensures)
          ∙ (sym (take_next _ k c.take.result c.take.ensures.value) ∙ ap (take (k + 1)) (sym o.0))));
      count = p.len ∙ ap (λ (n : ℕ). n + 1) i.count;
      room = p.capacity ∙ i.room;
      gone = (λ j lt. dite (ℕ_discrete j k)
          (λ e. ap (λ l. get_or l j false) o.1 ∙ subst (λ (n : ℕ). get_or (set (slots_filled c.loop-k.closed.slots) n false) j false ≡ false) e (set_false (slots_filled c.loop-k.closed.slots) j))
          (λ ne. ap (λ l. get_or l j false) o.1 ∙ (get_or-set_other (slots_filled c.loop-k.closed.slots) k j false false ne ∙ i.gone j (omega arith))));
      left = (λ j le. ap (λ l. get_or l j false) o.1 ∙ (get_or-set_other (slots_filled c.loop-k.closed.slots) k j false false (λ e. omega arith) ∙ i.left j (omega arith)));
    }

use Rattle.std.proofs.Common.{arith, refl, sym, ap, ◌∙◌, subst, zero, [], ◌∷◌, ◌++◌, append_assoc, ⊎_elim}
use lib.ListN.{get_elem?}
use Rattle.worker_claims.specs.Hands.{IsHandOf, HasEnded}
use Rattle.shared_seats.proofs.Lists.{prefix_all, last_all, at_append, at_second}
use Rattle.atomic_table.proofs.Lists.{at_longer}
use Rattle.worker_claims.proofs.Steps.{times_first, times_next}
use Rattle.worker_claims.proofs.tokens.Board.close.Goals as goal

pub hands-init : goal.hands-init
hands-init g c =
    let e = c.in-Some.ensures.items in let p = c.in-Some.first in let j = c.into_seat-kept.ensures in
    let h = last_all (λ h. IsHandOf c.args.self h × HasEnded h.doing) _ _ p e c.requires.hands in
    let q = at_second c.pop.new.self.items (p ∷ []) p zero refl in record {
      table = j.0 ∙ h.0.0;
      ended = subst HasEnded (sym j.2) h.1;
      count = omega (arith, j.1, c.in-Some.ensures.len, c.requires.all);
      hands = prefix_all (λ h. IsHandOf c.args.self h × HasEnded h.doing) _ _ p e c.requires.hands;
      rest = (p ∷ [], e);
      from = (λ i k t at. (q.0, p, i, ap (λ l. get_elem? l q.0) e ∙ q.1, ap (λ l. get_elem? l i) (sym j.3) ∙ at));
      number = (λ k. times_first k _ _ p _ e j.3);
    }

pub into_seat-requires : goal.into_seat-requires
into_seat-requires g c = (last_all (λ h. IsHandOf c.args.self h × HasEnded h.doing) _ _ c.in-Some-pop.hand c.in-Some-pop.ensures.items c.hands.invariant.hands).1

pub join-requires : goal.join-requires
join-requires g c =
    let i = c.hands.invariant in let j = c.into_seat.ensures in
    let h = last_all (λ h. IsHandOf c.args.self h × HasEnded h.doing) _ _ c.in-Some-pop.hand c.in-Some-pop.ensures.items i.hands in
    (i.table, j.0 ∙ h.0.0, j.4, i.ended, subst HasEnded (sym j.2) h.1)

pub hands-preserved : goal.hands-preserved
hands-preserved g c =
    let i = c.hands.invariant in let p = c.in-Some-pop.hand in let e = c.in-Some-pop.ensures.items in let s = c.into_seat.ensures in let j = c.join.ensures in
    let q = at_second c.pop-in-hands.new.self.items (p ∷ []) p zero refl in
    let place = ap (λ l. get_elem? l q.0) (i.rest.1 ∙ ap (λ l. l ++ i.rest.0) e) ∙ at_longer (c.pop-in-hands.new.self.items ++ p ∷ []) i.rest.0 q.0 p q.1 in record {
      table = j.0 ∙ i.table;
      ended = subst HasEnded (sym (ap (λ m. m.0.doing) j.1)) i.ended;
      count = omega (arith, s.1, ap (λ m. m.0.parts) j.1, c.in-Some-pop.ensures.len, i.count);
      hands = prefix_all (λ h. IsHandOf c.args.self h × HasEnded h.doing) _ _ p e i.hands;
      rest = (p ∷ i.rest.0, i.rest.1 ∙ (ap (λ l. l ++ i.rest.0) e ∙ append_assoc c.pop-in-hands.new.self.items (p ∷ []) i.rest.0));
      from = (λ n k t at. ⊎_elim (λ old. i.from n k t old) (λ (m, new). (q.0, p, m, place, ap (λ l. get_elem? l m) (sym s.3) ∙ new))
          (at_append c.hands.kept.me.0.given c.into_seat.result.me.0.given (k, t) n (ap (λ m. get_elem? m.0.given n) (sym j.1) ∙ at)));
      number = (λ k. times_next k _ _ p _ c.hands.kept.me.0.given _ e (ap (λ m. m.0.given) j.1 ∙ ap (λ l. c.hands.kept.me.0.given ++ l) s.3) (i.number k));
    }

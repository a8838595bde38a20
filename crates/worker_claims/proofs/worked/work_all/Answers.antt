use Rattle.std.proofs.Common.{arith, sym, ap, ◌∙◌, subst, length}
use mathlib.Core.Option.{some-injective}
use lib.ListN.{get_elem?}
use Rattle.worker_claims.specs.Hands.{IsHandOf, HasEnded, AllWorked, gated}
use Rattle.worker_claims.proofs.Lists.{in_whole}
use Rattle.shared_seats.proofs.Lists.{all_at}
use Rattle.worker_claims.proofs.worked.work_all.Goals as goal

pub returns-clause-worked : goal.returns-clause-worked
returns-clause-worked g c =
    let works = gated (g.G.Gate.passed c.args.gate.now) (g.W.Worker.works c.args.worker.now) in
    let board = c.in_ok-board.board in let same = c.in_ok-board.ensures.board.0 in record {
      count = c.close.ensures.count ∙ ap length same;
      each = (λ k x y old new.
          let q = c.close.ensures.given k y new in
          let h = all_at (λ h. IsHandOf board h × HasEnded h.doing × AllWorked works board.tasks h.given) _ q.0 q.1 c.work_hands.ensures (in_whole _ c.work_hands.new.hands _ q.0 q.1 (omega (arith, c.work_hands.auto.hands, c.as_mut_slice.ensures.len, c.in_ok-board.hands.ok.0)) q.3) in
          let w = h.2 q.2 k y q.4 in
          let is = some-injective w.0 x (sym w.1 ∙ (ap (λ l. get_elem? l k) same ∙ old)) in
          subst (λ z. works k z y) is w.2);
    }

use Rattle.std.proofs.Common.{rules, arith, sym, ap, ap₂, ◌∙◌, subst, ◌≡◌, ◌+◌, ◌-◌, ℕ, length, [], ⊎_elim, All}
use Rattle.std.proofs.lemmas.List.Elements.{All-append, All-cons}
use lib.ListN.{get_elem?}
use Rattle.atomic_table.specs.Seated.{TableId}
use Rattle.turn_lock.specs.declared.knowledge.Known.{Known}
use Rattle.turn_lock.specs.Rule.{dealt, known, without_one, the_one}
use Rattle.turn_lock.specs.Views.{PassView}
use Rattle.shared_seats.proofs.Lists.{at_end}
use Rattle.turn_lock.proofs.tokens.TurnLock.deal.Goals as goal

pub loop-number-preserved : goal.loop-number-preserved
loop-number-preserved g c =
    let i = c.loop-number.invariant in let e = c.split-seat.ensures in let p = c.push_reserved.ensures in let n : ℕ = c.loop-number.number in let most : ℕ = c.args.callers in
    let of = e.1 ∙ (i.table ∙ c.requires.first.0) in record {
      table = e.0 ∙ i.table;
      first = e.2 ∙ (ap (λ m. (without_one m.0, m.1)) i.first ∙ ap (λ (k : ℕ). (dealt most k, [])) (let q : most - n - 1 ≡ most - (n + 1) = omega arith in q));
      passes = subst (All (λ p. p.lock ≡ c.args.self.now.id)) (sym p.items) (All-append (λ p. p.lock ≡ c.args.self.now.id) _ _ i.passes (All-cons (λ p. p.lock ≡ c.args.self.now.id) _ [] of (λ k d lt. absurd (omega arith))));
      count = search rules;
      numbers = (λ k q at. ⊎_elim (λ old. i.numbers k q old)
          (λ (last, is). sym {A = PassView g.row.T-Entry.Denot} is ∙ ap₂ (λ (id : TableId) (own : Known g.row.T-Entry.Denot). let v : PassView g.row.T-Entry.Denot = record { lock = id; known = own } in v) of
          (ap (λ m. m.0.own) e.3 ∙ (ap (λ m. (the_one m.0).own) i.first
          ∙ ap (λ (z : ℕ). known z [] [] 0) (let test = c.loop-number-test.true in let a = i.count in let b : length c.loop-number.passes.items + 1 ≡ n = omega (arith, i.count, c.loop-number.passes.ok.0) in let r : most - (most - n) ≡ k + 1 = omega arith in r))))
          (at_end c.loop-number.passes.items _ q k (ap (λ l. get_elem? l k) (sym p.items) ∙ at)));
      room = search rules;
    }

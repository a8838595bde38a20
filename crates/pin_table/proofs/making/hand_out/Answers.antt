use Rattle.std.proofs.Common.{◌≡◌, ℕ, ◌+◌, ◌<◌, ◌++◌, length, set, map, take, drop, ap, sym, subst, ◌∙◌, arith}
use Rattle.turn_lock.specs.Views.{unplayed}
use Rattle.pin_table.specs.Views.{with_lock}
use Rattle.pin_table.proofs.Dealt.{last-pass, fresh-rest, locks-rest, lock-last, was-at, prefix-rest, one-more}
use Rattle.pin_table.proofs.making.hand_out.Goals as goal

pub index_mut-requires : goal.index_mut-requires
index_mut-requires g c = let i = c.passes.invariant in let n = c.in-Some.ensures.len in omega (arith, c.len.ensures, i.count, i.length, n, c.args.all.now.ok.0)

pub take-requires : goal.take-requires
take-requires g c =
    let i = c.passes.invariant in let n = c.in-Some.ensures.len in
    let inside : c.len.result < length c.args.all.now.items = omega (arith, c.len.ensures, i.count, n) in
    let one : c.len.result + 1 ≡ _ = ap (λ (k : ℕ). k + 1) c.len.ensures ∙ n in
    let pass = last-pass c.passes.passes.items c.pop.new.self.items c.in-Some.pass c.len.result c.in-Some.ensures.items (c.len.ensures ∙ c.pop.new.self.ok.0) i.fresh in
    let number = c.requires.numbers c.len.result c.index_mut.result.now (was-at c.args.all.now.items c.passes.all.items c.len.result _ c.index_mut.result.now one inside i.prefix c.index_mut.ensures.value) in
    subst (λ (k : ℕ). c.in-Some.pass ≡ unplayed c.in-Some.pass.lock k) (sym number) pass

pub passes-preserved : goal.passes-preserved
passes-preserved g c =
    let i = c.passes.invariant in let n = c.in-Some.ensures.len in
    let inside : c.len.result < length c.args.all.now.items = omega (arith, c.len.ensures, i.count, n) in
    let one = ap (λ (k : ℕ). k + 1) c.len.ensures ∙ n in
    let at = c.len.ensures in
    record {
      count = omega (arith, i.count, n);
      length = i.length;
      prefix = λ k d lt. prefix-rest c.args.all.now.items c.passes.all.items c.len.result _ c.index_mut.result.now one inside i.prefix c.index_mut.ensures.value c.take.new.self k d (subst (λ (m : ℕ). k < m) (sym at) lt);
      fresh = fresh-rest c.passes.passes.items c.pop.new.self.items c.in-Some.pass c.in-Some.ensures.items i.fresh;
      locks = λ id all. locks-rest id c.passes.passes.items c.pop.new.self.items c.in-Some.pass c.in-Some.ensures.items (i.locks id all);
      callers = λ id all. subst (λ (m : ℕ). set c.passes.all.items c.len.result c.take.new.self ≡ take m c.args.all.now.items ++ map (with_lock id) (drop m c.args.all.now.items)) at
          (one-more c.args.all.now.items c.passes.all.items c.len.result _ c.index_mut.result.now one inside i.prefix c.index_mut.ensures.value id c.take.new.self (i.callers id all)
          (c.in_ok-take.ensures ∙ ap (λ l. with_lock l c.index_mut.result.now) (lock-last id c.passes.passes.items c.pop.new.self.items c.in-Some.pass c.in-Some.ensures.items (i.locks id all))));
    }

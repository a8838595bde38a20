use Rattle.std.proofs.Common.{◌≡◌, All, Some, ap, sym, subst, ◌∙◌, arith}
use Rattle.std.proofs.lemmas.List.Elements.{All-pop, All-push}
use Rattle.pin_table.specs.Views.{CallerView}
use Rattle.pin_table.specs.Covers.{Covered, names_of}
use Rattle.pin_table.proofs.tests.desks_for.Goals as goal

pub callers-preserved : goal.callers-preserved
callers-preserved g c =
    let i = c.callers.invariant in let one = c.in-Some.ensures.len in let more = c.in_ok-push.ensures.len in
    let of = All-pop (λ (v : CallerView). v.locks ≡ c.args.memo.now.locks) c.callers.callers.items c.pop.new.self.items (Some c.in-Some.caller) c.in-Some.ensures.items i.of in
    record {
      count = omega (arith, one, more, i.count);
      of = of.0;
      seated = subst (All (λ d. (d.caller.locks ≡ c.args.memo.now.locks) × Covered d.caller (names_of g.R.Recipe.digest_of d.pins.items))) (sym c.in_ok-push.ensures.items)
          (All-push (λ d. (d.caller.locks ≡ c.args.memo.now.locks) × Covered d.caller (names_of g.R.Recipe.digest_of d.pins.items)) c.callers.desks.items c.new.result i.seated (ap (λ (v : CallerView). v.locks) c.new.ensures.0 ∙ of.1, c.new.ensures.1));
    }

use Rattle.std.proofs.Common.{◌≡◌, ℕ, ◌+◌, ◌<◌, ◌++◌, length, drop, List, ◌∷◌, [], ap, sym, ◌∙◌, arith}
use mathlib.Core.List.{reverse}
use Rattle.std.proofs.lemmas.List.{reverse-reverse}
use Rattle.run_engine.proofs.ShiftSteps.{put-next, last-of, next-of}
use Rattle.run_engine.proofs.shifting.put_each.Goals as goal

pub places-preserved : goal.places-preserved
places-preserved g c =
    let i = c.places.i in
    let fresh = c.args.fresh.items in
    let before = c.pop.new.self.items in
    let y = c.in-Some.item in
    let lt : i < length c.args.places.now = omega (arith, c.places-test.true, c.len-i-end.ensures.count) in
    let back : reverse (drop i fresh) ≡ before ++ y ∷ [] = sym c.places.invariant.rest ∙ c.in-Some.ensures.items in
    let next : drop (i + 1) fresh ≡ reverse before = next-of i fresh before y back in
    let first : drop i fresh ≡ y ∷ drop (i + 1) fresh = last-of i fresh before y back ∙ ap (λ (l : List _). y ∷ l) (sym next) in
    record {
      items = sym (put-next c.args.places.now (drop i fresh) (drop (i + 1) fresh) c.places.items.items i c.get.result y lt c.get.ensures first) ∙ c.places.invariant.items;
      rest = sym (reverse-reverse before) ∙ ap (λ (l : List _). reverse l) (sym next);
      room = c.places.invariant.room;
    }

pub returns-clause-rest : goal.returns-clause-rest
returns-clause-rest g c =
    let all : c.places.i ≡ length c.args.places.now = omega (arith, c.places-test.false, c.places.auto.i-end, c.len-i-end.ensures.count) in
    c.reverse-2.ensures.items ∙ ap (λ (l : List _). reverse l) c.places.invariant.rest ∙ reverse-reverse (drop c.places.i c.args.fresh.items) ∙ ap (λ (k : ℕ). drop k c.args.fresh.items) all

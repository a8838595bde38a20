use Rattle.std.proofs.Common.{rules, arith, ◌≡◌, ◌+◌, ◌-◌, ◌*◌, ◌^◌, ◌<◌, ◌++◌, ◌||◌, false, [], sym, ap, ◌∙◌, subst, add-one}
use native.Mathlib.Nat.{pow-suc}
use Rattle.tree_laws.specs.Pairs.{pair_digest}
use Rattle.rotating_tree.specs.Nodes.{places, size, IsSound, now_of, node_pins, node_loose}
use Rattle.rotating_tree.specs.Nodes.{height as tall}
use Rattle.rotating_tree.specs.Circles.{voids}
use Rattle.rotating_tree.proofs.NodeLaws.{void-joined}
use Rattle.rotating_tree.proofs.RowLaws.{voids_twice}
use Rattle.sheets.specs.Sheets.{SheetOf}
use Rattle.rotating_tree.proofs.making.+full.Goals as goal

pub returns-clause-places : goal.returns-clause-places
returns-clause-places g t c =
    let some : 0 < c.args.height = search rules in
    ap (λ xs. xs ++ places c.in_ok-new-2.field-0.value) (ap places c.in_ok-new.ensures.ok ∙ c.in_ok-left.ensures.places)
    ∙ ap (λ xs. voids {X = SheetOf g.row.J-Val.Denot} (2 ^ (c.args.height - 1)) ++ xs) (ap places c.in_ok-new-2.ensures.ok ∙ c.in_ok-right.ensures.places)
    ∙ voids_twice (SheetOf g.row.J-Val.Denot) c.args.height some

pub returns-clause-sound : goal.returns-clause-sound
returns-clause-sound g t c =
    let left = ap now_of c.in_ok-new.ensures.ok ∙ c.in_ok-left.ensures.void in
    let right = ap now_of c.in_ok-new-2.ensures.ok ∙ c.in_ok-right.ensures.void in (
      subst (IsSound g.J.Job.joined) (sym c.in_ok-new.ensures.ok) c.in_ok-left.ensures.sound,
      subst (IsSound g.J.Job.joined) (sym c.in_ok-new-2.ensures.ok) c.in_ok-right.ensures.sound,
      void-joined g.J.Job.joined c.in_ok-new.field-0.value c.in_ok-new-2.field-0.value left right,
    )

pub returns-clause-size : goal.returns-clause-size
returns-clause-size g t c =
    let some : 0 < c.args.height = search rules in
    let one : c.args.height ≡ c.args.height - 1 + 1 = omega (arith, some) in
    let twice : 2 ^ (c.args.height - 1 + 1) ≡ 2 ^ (c.args.height - 1) * 2 = rw add-one (pow-suc 2 (c.args.height - 1)) in
    let power : 2 ^ c.args.height ≡ 2 ^ (c.args.height - 1) * 2 = ap (λ k. 2 ^ k) one ∙ twice in (
      omega (arith, power, ap size c.in_ok-new.ensures.ok, ap size c.in_ok-new-2.ensures.ok, c.in_ok-left.ensures.size.0, c.in_ok-right.ensures.size.0),
      omega (arith, some, ap tall c.in_ok-new.ensures.ok, c.in_ok-left.ensures.size.1),
    )

pub returns-clause-pins : goal.returns-clause-pins
returns-clause-pins g t c =
    let d = pair_digest g.J.Job.encoded in
    ap (λ ps. ps ++ (node_pins d c.in_ok-new-2.field-0.value ++ [])) (ap (node_pins d) c.in_ok-new.ensures.ok ∙ c.in_ok-left.ensures.pins)
    ∙ ap (λ ps. ps ++ []) (ap (node_pins d) c.in_ok-new-2.ensures.ok ∙ c.in_ok-right.ensures.pins)

pub returns-clause-loose : goal.returns-clause-loose
returns-clause-loose g t c =
    ap (λ b. b || (node_loose c.in_ok-new-2.field-0.value || false)) (ap node_loose c.in_ok-new.ensures.ok ∙ c.in_ok-left.ensures.loose)
    ∙ ap (λ b. b || false) (ap node_loose c.in_ok-new-2.ensures.ok ∙ c.in_ok-right.ensures.loose)

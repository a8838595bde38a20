use Rattle.std.proofs.Common.{◌∙◌, ◌++◌, ◌∷◌, [], ap, ap₂, arith}
use Rattle.memo_server.specs.declared.turn.Turn.TheVariants.{Made}
use Rattle.memo_server.specs.Histories.{LogView, turns_of}
use Rattle.memo_server.proofs.TurnLists.{turns-add}
use Rattle.memo_server.proofs.log.Log.add.Goals as goal

pub returns : goal.returns
returns c =
    let old = c.self.view_is in
    let room = ap (λ (v : LogView). v.spare) old in (
      c.push_reserved.ensures.items ∙ ap (λ l. l ++ c.args.event ∷ []) (ap (λ (v : LogView). v.history) old),
      ap₂ (λ es ms. turns_of c.self.inside.before es ms) c.push_reserved.ensures.items c.push_reserved-2.ensures.items ∙ (turns-add c.self.inside.before c.self.inside.events.items c.self.inside.after.items c.args.event c.self.invariant ∙ ap (λ (v : LogView). v.turns ++ Made c.args.event ∷ []) old),
      omega (arith, room, c.requires, c.push_reserved.ensures.len, c.push_reserved.ensures.capacity, c.push_reserved-2.ensures.len, c.push_reserved-2.ensures.capacity),
    )

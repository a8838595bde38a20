use Rattle.std.proofs.Common.{◌≡◌, ◌+◌, ◌-◌, ◌<◌, length, [], ◌∷◌, ◌++◌, ◌∙◌, ap, arith, rules}
use Rattle.memo_server.specs.declared.turn.Turn.TheVariants.{Empty}
use Rattle.memo_server.specs.Histories.{LogView, turns_of}
use Rattle.memo_server.proofs.TurnLists.{turns-before, turns-after, before-within, after-within}
use Rattle.std.specs.Vec.{vec_len}
use Rattle.memo_server.proofs.log.Log.note_empty.Goals as goal

pub overflow_add-count : goal.overflow_add-count
overflow_add-count c =
    let few : length (turns_of c.self.inside.before c.self.inside.events.items c.self.inside.after.items) ≡ length c.args.self.now.turns = ap (λ (v : LogView). length v.turns) c.self.view_is in
    let some = c.in-Some.ensures.item.3.0 in
    let last : (vec_len c.self.inside.after - 1) < length c.self.inside.after.items = search rules in
    let within = after-within c.self.inside.before c.self.inside.events.items c.self.inside.after.items (vec_len c.self.inside.after - 1) c.in-Some.count.now c.self.invariant last c.in-Some.ensures.value in
    search rules

pub overflow_add-self : goal.overflow_add-self
overflow_add-self c =
    let few : length (turns_of c.self.inside.before c.self.inside.events.items c.self.inside.after.items) ≡ length c.args.self.now.turns = ap (λ (v : LogView). length v.turns) c.self.view_is in
    let within = before-within c.self.inside.before c.self.inside.events.items c.self.inside.after.items in
    search rules

pub returns-in-Some : goal.returns-in-Some
returns-in-Some c =
    let some = c.in-Some.ensures.item.3.0 in
    let last : (vec_len c.self.inside.after - 1) + 1 ≡ length c.self.inside.after.items = search rules in (
      ap (λ (v : LogView). v.history) c.self.view_is,
      turns-after c.self.inside.before c.self.inside.events.items c.self.inside.after.items (vec_len c.self.inside.after - 1) c.in-Some.count.now c.self.invariant last c.in-Some.ensures.value ∙ ap (λ (v : LogView). v.turns ++ Empty ∷ []) c.self.view_is,
      ap (λ (v : LogView). v.spare) c.self.view_is,
    )

pub returns-in-None : goal.returns-in-None
returns-in-None c =
    let none : length c.self.inside.after.items ≡ 0 = omega (arith, c.in-None.ensures.item.3) in (
      ap (λ (v : LogView). v.history) c.self.view_is,
      turns-before c.self.inside.before c.self.inside.events.items c.self.inside.after.items c.self.invariant none ∙ ap (λ (v : LogView). v.turns ++ Empty ∷ []) c.self.view_is,
      ap (λ (v : LogView). v.spare) c.self.view_is,
    )

use Rattle.std.proofs.Common.{◌≡◌, ◌-◌, length, Some, sym, ◌∙◌}
use Rattle.std.specs.List.{slice_get}
use Rattle.random_tree.proofs.LevelLaws.{last-of}
use Rattle.random_tree.proofs.group.Group.sheet.Goals as goal

pub returns-in-Some : goal.returns-in-Some
returns-in-Some g c =
    let hs = c.args.self.now.holds.items in
    let last : slice_get hs (length hs - 1) ≡ Some c.in-Some.hold.now = sym (rw c.deref.ensures.value at c.in-Some.ensures.value) in
    c.sheet.ensures ∙ sym (last-of c.args.self.now.first hs c.in-Some.hold.now last)

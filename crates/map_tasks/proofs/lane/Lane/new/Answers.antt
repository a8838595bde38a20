use Rattle.std.proofs.Common.{◌≡◌, List, [], ◌++◌, sym, ap, subst}
use Rattle.pin_table.specs.Covers.{PinName, Backed, names_of}
use Rattle.map_tasks.specs.Texts.{digest_of_input, pins_in}
use Rattle.map_tasks.specs.Table.{texts_in}
use Rattle.map_tasks.proofs.Backing.{backed-start}
use Rattle.map_tasks.proofs.lane.Lane.new.Goals as goal

pub invariant_of-result : goal.invariant_of-result
invariant_of-result g c =
    let none : pins_in (texts_in c.new.result.rows) ≡ [] = ap (λ rows. pins_in (texts_in rows)) c.new.ensures in
    let spare : names_of digest_of_input c.new-2.result.items ≡ [] = ap (names_of digest_of_input) c.new-2.ensures.items in
    subst (λ (ps : List PinName). Backed c.args.caller (ps ++ names_of digest_of_input c.new-2.result.items)) (sym none)
    (subst (λ (ps : List PinName). Backed c.args.caller ([] ++ ps)) (sym spare) (backed-start c.args.caller c.requires.unused))

use Rattle.std.proofs.Common.{◌≡◌, List, [], ◌∷◌, ◌++◌, sym, ap, subst, ◌∙◌}
use Rattle.pin_table.specs.Covers.{PinName, Backed, name_of, names_of}
use Rattle.pin_table.proofs.Covering.{names-push}
use Rattle.map_tasks.specs.Texts.{digest_of_input, pins_in, maybe_pins}
use Rattle.map_tasks.specs.Table.{texts_in}
use Rattle.map_tasks.proofs.bringing.bring_new.Goals as goal

pub returns-in-Some-clause-backed : goal.returns-in-Some-clause-backed
returns-in-Some-clause-backed g c = λ b.
    let kept = c.reserve.ensures.items in
    let pushed : names_of digest_of_input c.push_reserved.new.self.items ≡ names_of digest_of_input c.reserve.new.self.items ++ name_of digest_of_input c.in-Some.pin ∷ [] = names-push digest_of_input c.push_reserved.new.self.items c.reserve.new.self.items c.in-Some.pin c.push_reserved.ensures.items in
    let same : names_of digest_of_input c.args.spare.now.items ++ maybe_pins c.fetch_into-leaf.result.pin ≡ names_of digest_of_input c.push_reserved.new.self.items =
    ap (λ o. names_of digest_of_input c.args.spare.now.items ++ maybe_pins o) c.in-Some.is ∙ (ap (λ xs. names_of digest_of_input xs ++ name_of digest_of_input c.in-Some.pin ∷ []) (sym kept) ∙ sym pushed) in
    subst (λ (ss : List PinName). Backed c.fetch_into-leaf.new.caller (pins_in (texts_in c.fetch_into-leaf.new.texts.rows) ++ ss)) same
    (c.fetch_into-leaf.ensures.backed (names_of digest_of_input c.args.spare.now.items) b)

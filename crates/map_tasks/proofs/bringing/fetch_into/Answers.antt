use Rattle.std.proofs.Common.{◌≡◌, IfOk, OnOk, None, All, refl, sym, ap, subst}
use Rattle.pin_table.specs.Covers.{PinName}
use Rattle.map_tasks.specs.Inputs.{InputView, input_digest}
use Rattle.map_tasks.specs.Texts.{BringsText, maybe_pins, digest_of_input}
use Rattle.map_tasks.specs.Table.{FindsText, texts_in}
use Rattle.map_tasks.specs.Lanes.{KeptOrClashed}
use Rattle.map_tasks.proofs.Outcomes.{ok-const, err-map}
use Rattle.map_tasks.proofs.Backing.{backed-brought, backed-left}
use Rattle.map_tasks.proofs.bringing.fetch_into.Goals as goal

pub insert-requires-clause-absent : goal.insert-requires-clause-absent
insert-requires-clause-absent g c =
    let same : c.in-Ok.leaf ≡ c.args.input.now = rw c.in-Ok.is at c.fetch-leaf.ensures.leaf in
    subst (λ (i : InputView). FindsText i.text c.args.texts.now.rows None) (sym same) c.requires.absent

pub insert-requires-clause-pin : goal.insert-requires-clause-pin
insert-requires-clause-pin g c =
    let same : c.in-Ok.leaf ≡ c.args.input.now = rw c.in-Ok.is at c.fetch-leaf.ensures.leaf in
    subst (λ (i : InputView). All (λ (p : PinName). p.digest ≡ digest_of_input i) (maybe_pins c.fetch-leaf.result.pin)) (sym same) c.fetch-leaf.ensures.pin

pub returns-in-Ok-clause-leaf : goal.returns-in-Ok-clause-leaf
returns-in-Ok-clause-leaf g c =
    let same : c.in-Ok.leaf ≡ c.args.input.now = rw c.in-Ok.is at c.fetch-leaf.ensures.leaf in
    subst (λ (i : InputView). IfOk c.insert.result.leaf (λ l. l ≡ i)) same c.insert.ensures.leaf

pub returns-in-Ok-clause-ok : goal.returns-in-Ok-clause-ok
returns-in-Ok-clause-ok g c =
    let same : c.in-Ok.leaf ≡ c.args.input.now = rw c.in-Ok.is at c.fetch-leaf.ensures.leaf in
    subst (λ (i : InputView). OnOk c.insert.result.leaf (BringsText i (texts_in c.args.texts.now.rows) (texts_in c.insert.new.self.rows))) same c.insert.ensures.ok

pub returns-in-Ok-clause-err : goal.returns-in-Ok-clause-err
returns-in-Ok-clause-err g c = err-map c.insert.result.leaf _ _ (ap texts_in) c.insert.ensures.err

pub returns-in-Ok-clause-kept : goal.returns-in-Ok-clause-kept
returns-in-Ok-clause-kept g c = ok-const c.insert.result.leaf (KeptOrClashed (input_digest c.args.input.now.text) c.args.caller.now c.fetch-leaf.new.caller) (rw c.in-Ok.is at c.fetch-leaf.ensures.kept)

pub returns-in-Ok-clause-backed : goal.returns-in-Ok-clause-backed
returns-in-Ok-clause-backed g c = λ ss b.
    backed-brought c.args.caller.now c.fetch-leaf.new.caller (maybe_pins c.fetch-leaf.result.pin) (maybe_pins c.insert.result.pin) (texts_in c.args.texts.now.rows) (texts_in c.insert.new.self.rows) ss c.fetch-leaf.ensures.got c.fetch-leaf.ensures.given c.insert.ensures.pins b

pub returns-in-Err-clause-backed : goal.returns-in-Err-clause-backed
returns-in-Err-clause-backed g c = λ ss b.
    backed-left c.args.caller.now c.fetch-leaf.new.caller (maybe_pins c.fetch-leaf.result.pin) (maybe_pins c.fetch-leaf.result.pin) (texts_in c.args.texts.now.rows) ss c.fetch-leaf.ensures.got c.fetch-leaf.ensures.given refl b

use Rattle.std.proofs.Common.{append-nil}
use Rattle.map_tasks.specs.Texts.{maybe_pins, new_text}
use Rattle.map_tasks.specs.Table.{texts_in}
use Rattle.map_tasks.proofs.Pins.{pins-brought}
use Rattle.map_tasks.proofs.texts.Texts.insert.Goals as goal

pub returns-in-Ok-insert_first-clause-pins : goal.returns-in-Ok-insert_first-clause-pins
returns-in-Ok-insert_first-clause-pins g c = record {
  own = maybe_pins c.args.pin;
  split = append-nil (maybe_pins c.args.pin);
  texts = pins-brought (texts_in c.args.self.now.rows) (texts_in c.insert_first.new.self.rows) (new_text c.in-Ok.own (maybe_pins c.args.pin)) c.in-Ok-insert_first.ensures.ok;
}

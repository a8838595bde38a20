use Rattle.std.proofs.Common.{◌∙◌, sym, true≢false}
use Rattle.pin_table.proofs.Covering.{balanced-same, balanced-then}
use Rattle.map_tasks.specs.Texts.{pins_in}
use Rattle.map_tasks.specs.Table.{texts_in}
use Rattle.map_tasks.proofs.Rows.{quiet-all}
use Rattle.map_tasks.proofs.Finishes.{rest-then, rest-same, pins-then, pins-same}
use Rattle.map_tasks.proofs.finishing.finish_texts.Goals as goal

pub texts-init : goal.texts-init
texts-init g c = record {
  of = c.requires.of;
  rest = rest-same c.args.how (texts_in c.args.texts.now.rows);
  mapped = λ parts setting all. all;
  kept = pins-same (texts_in c.args.texts.now.rows);
  pins = balanced-same c.args.caller.now (pins_in (texts_in c.args.texts.now.rows));
  covered = c.requires.covered;
}

pub texts-preserved : goal.texts-preserved
texts-preserved g c = record {
  of = c.finish_one.ensures.pins.later.locks ∙ c.texts.invariant.of;
  rest = rest-then c.args.how (texts_in c.args.texts.now.rows) (texts_in c.texts.texts.rows) (texts_in c.finish_one.new.texts.rows) c.texts.invariant.rest c.finish_one.ensures.one.rest;
  mapped = λ parts setting all. c.finish_one.ensures.one.mapped parts setting (c.texts.invariant.mapped parts setting all);
  kept = pins-then (texts_in c.args.texts.now.rows) (texts_in c.texts.texts.rows) (texts_in c.finish_one.new.texts.rows) c.texts.invariant.kept c.finish_one.ensures.one.pins;
  pins = balanced-then c.args.caller.now c.texts.caller c.finish_one.new.caller (pins_in (texts_in c.args.texts.now.rows)) (pins_in (texts_in c.texts.texts.rows)) (pins_in (texts_in c.finish_one.new.texts.rows)) c.texts.invariant.pins c.finish_one.ensures.pins;
  covered = c.finish_one.ensures.covered;
}

pub returns-clause-finished : goal.returns-clause-finished
returns-clause-finished g c = record {
  rest = c.texts.invariant.rest;
  mapped = c.texts.invariant.mapped;
  pins = c.texts.invariant.kept;
  quiet = quiet-all c.texts.texts.calm c.texts.texts.rows c.has_next.ensures.calm (λ l. true≢false (sym (c.has_next.ensures.next.1 l) ∙ c.texts-test.false)) c.has_next.ensures.quiet;
  sound = c.has_next.ensures.sound;
}

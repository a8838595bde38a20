use Rattle.std.proofs.Common.{◌≡◌, ℕ, ◌-◌, length, All}
use Rattle.pin_table.specs.Covers.{Covered, Balanced}
use Rattle.map_tasks.specs.Texts.{IsMappedSo, pins_in}
use Rattle.map_tasks.specs.Table.{KeepsRest, KeepsPins, texts_in}
use Rattle.map_tasks.proofs.finishing.finish_texts.Given as goal

abbrev pub decreases-texts : goal.decreases-texts
decreases-texts g l = length l.texts.rows - l.texts.calm

abbrev pub invariant-texts : goal.invariant-texts
invariant-texts g l = record {
  of : l.caller.locks ≡ l.memo.locks;
  rest : KeepsRest l.how (texts_in l.initial.texts.rows) (texts_in l.texts.rows);
  mapped : (parts setting : ℕ) → All (IsMappedSo parts setting) (texts_in l.initial.texts.rows) → All (IsMappedSo parts setting) (texts_in l.texts.rows);
  kept : KeepsPins (texts_in l.initial.texts.rows) (texts_in l.texts.rows);
  pins : Balanced l.initial.caller (pins_in (texts_in l.initial.texts.rows)) l.caller (pins_in (texts_in l.texts.rows));
  covered : Covered l.caller (pins_in (texts_in l.texts.rows));
}

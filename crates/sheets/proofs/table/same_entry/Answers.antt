use Rattle.sheets.proofs.EntryLaws.{same_pair, apart_pair}
use Rattle.sheets.proofs.table.same_entry.Goals as goal

pub returns-in-Equal : goal.returns-in-Equal
returns-in-Equal g c = same_pair c.args.e.now c.args.f.now c.same.result c.in-Equal.ensures c.same.ensures

pub returns-in_default : goal.returns-in_default
returns-in_default g c = apart_pair c.args.e.now c.args.f.now c.compare.result c.compare.ensures c.in_default.not-Equal

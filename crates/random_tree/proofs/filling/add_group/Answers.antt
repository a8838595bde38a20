use Rattle.std.proofs.Common.{List, [], ◌∷◌, ◌++◌, map, drop, Some, sym, ap, ◌∙◌}
use Rattle.sheets.specs.Sheets.{SheetOf}
use Rattle.tree_laws.specs.Pairs.{pair_digest}
use Rattle.random_tree.specs.declared.group.Group.{Group}
use Rattle.random_tree.specs.Levels.{group_table, taken}
use Rattle.random_tree.proofs.GainLaws.{gains-same, gains-group}
use Rattle.random_tree.proofs.GrowLaws.{grow-none}
use Rattle.random_tree.proofs.filling.add_group.Goals as goal

pub returns-in-Err-clause-some : goal.returns-in-Err-clause-some
returns-in-Err-clause-some g c = grow-none g.J.Job.joined (g.J.Job.setting c.args.job.now) g.J.Job.encoded (drop c.args.from (map group_table (taken c.args.below.now))) c.args.caller.now (g.J.Meter.Meter.counts c.args.m.now)

pub returns-in-Err-clause-gains : goal.returns-in-Err-clause-gains
returns-in-Err-clause-gains g c = gains-same (pair_digest g.J.Job.encoded) c.args.caller.now c.args.fresh.now.items c.reserve.new.self.items c.reserve.ensures.items

pub returns-in-Err-share-clause-some : goal.returns-in-Err-share-clause-some
returns-in-Err-share-clause-some g c = grow-none g.J.Job.joined (g.J.Job.setting c.args.job.now) g.J.Job.encoded (drop c.args.from (map group_table (taken c.args.below.now))) c.args.caller.now (g.J.Meter.Meter.counts c.args.m.now)

pub returns-in-Err-share-clause-gains : goal.returns-in-Err-share-clause-gains
returns-in-Err-share-clause-gains g c = gains-same (pair_digest g.J.Job.encoded) c.args.caller.now c.args.fresh.now.items c.reserve.new.self.items c.reserve.ensures.items

pub grow-grown-requires-clause-first : goal.grow-grown-requires-clause-first
grow-grown-requires-clause-first g c = c.member.ensures ∙ ap (λ (s : SheetOf g.row.J-Val.Denot). Some s) (sym c.in-Ok-share.ensures.same)

pub returns-in-Ok-grown-clause-ok : goal.returns-in-Ok-grown-clause-ok
returns-in-Ok-grown-clause-ok g c = record {
  group = c.grow-grown.new.group;
  is = c.push_reserved.ensures.items ∙ ap (λ (gs : List (Group g.row.J.Denot g.row.J-Val.Denot g.row.J-Meter.Denot)). gs ++ c.grow-grown.new.group ∷ []) c.reserve.ensures.items;
  count_is = c.len-count.ensures;
  grown = c.in-Ok-grown.ensures.grown;
}

pub returns-in-Ok-grown-clause-gains : goal.returns-in-Ok-grown-clause-gains
returns-in-Ok-grown-clause-gains g c =
    gains-group (pair_digest g.J.Job.encoded) c.args.caller.now c.grow-grown.new.caller c.args.fresh.now.items c.push_reserved.new.self.items c.grow-grown.new.group
    (c.push_reserved.ensures.items ∙ ap (λ (gs : List (Group g.row.J.Denot g.row.J-Val.Denot g.row.J-Meter.Denot)). gs ++ c.grow-grown.new.group ∷ []) c.reserve.ensures.items) c.grow-grown.ensures.gets c.grow-grown.ensures.loose

pub returns-in-Err-grown-clause-gains : goal.returns-in-Err-grown-clause-gains
returns-in-Err-grown-clause-gains g c =
    gains-group (pair_digest g.J.Job.encoded) c.args.caller.now c.grow-grown.new.caller c.args.fresh.now.items c.push_reserved.new.self.items c.grow-grown.new.group
    (c.push_reserved.ensures.items ∙ ap (λ (gs : List (Group g.row.J.Denot g.row.J-Val.Denot g.row.J-Meter.Denot)). gs ++ c.grow-grown.new.group ∷ []) c.reserve.ensures.items) c.grow-grown.ensures.gets c.grow-grown.ensures.loose

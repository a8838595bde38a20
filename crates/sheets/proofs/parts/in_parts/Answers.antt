use Rattle.std.proofs.Common.{◌∙◌, ap}
use Rattle.partition.specs.Parts.{part_number}
use Rattle.sheets.proofs.PartLaws.{put_in_part}
use Rattle.sheets.proofs.parts.in_parts.Goals as goal

pub entries-preserved : goal.entries-preserved
entries-preserved g c =
    put_in_part c.args.parts c.part_of-part.result c.entries.yielded c.in-Some.e c.entries.lists.items c.index_mut.result.now c.push.new.self c.entries.invariant
    (c.part_of-part.ensures.part ∙ ap (λ k. part_number k c.args.parts) c.bytes.ensures.value) c.part_of-part.ensures.within c.index_mut.ensures.value c.in-Ok.ensures

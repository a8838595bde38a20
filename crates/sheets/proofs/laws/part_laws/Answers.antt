use Rattle.sheets.proofs.PartUnion.{table-in_part, merged-in_part, parts-apart, parts-united}
use Rattle.sheets.proofs.ShareLaws.{parts_share}
use Rattle.sheets.proofs.laws.part_laws.Goals as goal

pub returns : goal.returns
returns g c =
    let laws = g.met.J.Job in
    record {
      append = λ s parts part xs ys gx gy. table-in_part parts (laws.join_laws s) part xs ys gx gy;
      merge = λ s parts part t u. merged-in_part parts (g.J.Job.joined s) part t u;
      share = λ s parts lists some. parts_share (g.J.Job.joined s) parts lists some;
      unite = λ parts t lists some rising has. (parts-apart parts t lists has, parts-united parts t lists some rising has);
    }

use Rattle.definitions.proofs.TableLaws.{table-append, merged_assoc, good-table, good-merged}
use Rattle.job_laws.proofs.laws.table_laws.Goals as goal

pub returns : goal.returns
returns g c =
    let laws = g.met.J.Job in
    record {
      append = λ s xs ys gx gy. table-append (laws.join_laws s) xs ys gx gy;
      assoc = λ s t u w gt gu gw. merged_assoc (laws.join_laws s) t u w gt gu gw;
      tables_good = λ s ps gp. good-table (laws.join_laws s) ps gp;
      merges_good = λ s t u gt gu. good-merged (laws.join_laws s) t u gt gu;
    }

use Rattle.std.proofs.Common.{rules}
use Rattle.std.proofs.lemmas.List.Edits.{map_over_more}
use Rattle.law.specs.Rows as Rows
use Rattle.ten_rows.specs.TenRows as TenRows
use Rattle.ten_rows.proofs.neg.Goals as goal

pub loop-row-preserved : goal.loop-row-preserved
unfolding TenRows.neg Rows.neg TenRows.neg_row
loop-row-preserved c = rw c.neg_row.ensures (search (rules, map_over_more (λ r. TenRows.neg_row r)))

use Rattle.std.proofs.Common.{rules}
use Rattle.std.proofs.lemmas.List.Edits.{map_over_more}
use Rattle.law.specs.Rounded.{rounded}
use Rattle.ten_rows.specs.TenRows as TenRows
use Rattle.ten_rows.proofs.neg_row.Goals as goal

pub loop-x-preserved : goal.loop-x-preserved
unfolding TenRows.neg_row
loop-x-preserved c = search (rules, map_over_more (λ x. rounded.neg x))

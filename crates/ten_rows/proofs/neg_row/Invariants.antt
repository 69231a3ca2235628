-- The values so far are negated.
use Rattle.std.proofs.Common.{◌≡◌, ◌++◌, take, drop}
use Rattle.ten_rows.specs.TenRows as TenRows
use Rattle.ten_rows.proofs.neg_row.Given as goal

abbrev pub invariant-loop-x : goal.invariant-loop-x
invariant-loop-x l = l.x-items ≡ TenRows.neg_row (take l.x-index l.fn.r) ++ drop l.x-index l.fn.r

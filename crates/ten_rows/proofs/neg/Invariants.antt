-- The rows so far are negated.
use Rattle.std.proofs.Common.{◌≡◌, ◌++◌, take, drop}
use Rattle.ten_rows.specs.TenRows as TenRows
use Rattle.ten_rows.proofs.neg.Given as goal

abbrev pub invariant-loop-row : goal.invariant-loop-row
invariant-loop-row l = l.row-items ≡ TenRows.neg (take l.row-index l.fn.m) ++ drop l.row-index l.fn.m

-- The rows so far passed, so those that are left decide.
use Rattle.std.proofs.Common.{◌≡◌, ◌≤◌, length, drop}
use Rattle.checks.specs.Checks.{all_finite}
use Rattle.ten_rows.specs.TenRows as TenRows
use Rattle.ten_rows.proofs.all_finite.Given as goal

abbrev pub invariant-loop-row : goal.invariant-loop-row
invariant-loop-row l = (l.row-index ≤ length l.m) × (all_finite (TenRows.values l.m) ≡ all_finite (TenRows.values (drop l.row-index l.m)))

-- What was tested and what is left decide.
use Rattle.std.proofs.Common.{◌≡◌, ◌≤◌, length, drop}
use mathlib.Core.Bool.{◌&&◌}
use Rattle.checks.specs.Checks.{all_finite}
use Rattle.checks.proofs.all_finite.Given as goal

abbrev pub invariant-loop-x : goal.invariant-loop-x
invariant-loop-x l = (l.x-index ≤ length l.s) × (all_finite l.s ≡ (l.all && all_finite (drop l.x-index l.s)))

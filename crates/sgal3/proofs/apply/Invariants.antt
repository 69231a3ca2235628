-- The rows so far are multiplied.
use Rattle.std.proofs.Common.{◌≡◌, length, take}
use mathlib.Core.List.{map}
use Rattle.sgal3.specs.Algebra as Algebra
use Rattle.sgal3.proofs.apply.Given as goal

abbrev pub invariant-loop-i : goal.invariant-loop-i
invariant-loop-i l = (length l.values ≡ 10) × (take l.i l.values ≡ map (λ r. Algebra.dot r l.t) (take l.i l.fn.m))

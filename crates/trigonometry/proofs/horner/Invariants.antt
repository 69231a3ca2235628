-- The sum so far stands for the coefficients that are taken already.
use Rattle.std.proofs.Common.{◌≡◌}
use Rattle.trigonometry.specs.Sines.{horner}
use Rattle.trigonometry.proofs.horner.Given as goal

abbrev pub invariant-loop-a : goal.invariant-loop-a
invariant-loop-a l = horner l.w l.sum l.a-iterator.iter.rest.now ≡ horner l.w l.fn.last l.fn.c

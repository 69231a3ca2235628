use Rattle.std.proofs.Common.{sym, subst, arith}
use lib.Dec.{T}
use lib.Ieee.{of_bits, div}
use Rattle.float.proofs.SquareRoot.{at_zero, no-root, not_finite, positive}
use Rattle.float.proofs.Nan.{not-nan-pattern}
use Rattle.float.proofs.general_sqrt.Goals as goal

pub root_bits-requires-clause-b_nonzero : goal.root_bits-requires-clause-b_nonzero
unfolding of_bits div
root_bits-requires-clause-b_nonzero c = (positive c.args.x (subst T (sym c.well_formed.0.1) tt) c.if-x.true c.if-x-2.true).some

pub root_bits-requires-clause-b_bound : goal.root_bits-requires-clause-b_bound
unfolding of_bits div
root_bits-requires-clause-b_bound c = (positive c.args.x (subst T (sym c.well_formed.0.1) tt) c.if-x.true c.if-x-2.true).finite

pub float_from_bits-result : goal.float_from_bits-result
float_from_bits-result c = not-nan-pattern c.root_bits.result (omega (arith, c.root_bits.ensures.finite))

pub returns-then-x-2 : goal.returns-then-x-2
unfolding of_bits div
returns-then-x-2 c =
    (positive c.args.x (subst T (sym c.well_formed.0.1) tt) c.if-x.true c.if-x-2.true).value c.root_bits.result c.root_bits.ensures

pub returns-then-x : goal.returns-then-x
unfolding of_bits div
returns-then-x c = not_finite c.args.x c.if-x.true c.if-x-2.false

pub returns-then-x-3 : goal.returns-then-x-3
unfolding of_bits
returns-then-x-3 c = at_zero c.args.x c.if-x-3.true

pub returns : goal.returns
unfolding of_bits div
returns c = no-root c.args.x c.if-x.false c.if-x-3.false

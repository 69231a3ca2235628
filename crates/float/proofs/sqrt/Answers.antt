use Rattle.std.proofs.Common.{sym, ap, subst, ◌∙◌, arith}
use lib.Dec.{T}
use lib.Ieee.{binary64, of_bits, div}
use lib.Ieee.Bits.{of_bits-to_bits}
use Rattle.float.specs.Root.{square_root}
use Rattle.float.proofs.Nan.{not-nan, not-nan-pattern}
use Rattle.float.proofs.Bits.{root-of-pattern}
use Rattle.float.proofs.SquareRoot.{of_nan}
use Rattle.float.proofs.sqrt.Goals as goal

pub returns-then-x : goal.returns-then-x
unfolding of_bits div
returns-then-x c = of_nan c.args.x c.if-x.true

pub float_to_bits-b : goal.float_to_bits-b
float_to_bits-b c = not-nan _ c.if-x.false

pub float_from_bits-result : goal.float_from_bits-result
float_from_bits-result c = not-nan-pattern c.root_bits_near_one.result (omega (arith, c.root_bits_near_one.ensures.finite))

pub returns-then-b-le-NEAR_ONE_LAST : goal.returns-then-b-le-NEAR_ONE_LAST
returns-then-b-le-NEAR_ONE_LAST c =
    root-of-pattern _ _ (omega arith) (omega arith) c.root_bits_near_one.ensures
    ∙ ap square_root (of_bits-to_bits binary64 c.args.x (subst T (sym c.well_formed.0.1) tt))

use Rattle.std.proofs.Common.{sym, subst}
use lib.Dec.{T}
use Rattle.float.proofs.Nan.{not-nan}
use Rattle.float.proofs.Fields.{magnitude-bits, cleared-not-nan, nan-itself}
use Rattle.float.proofs.magnitude.Goals as goal

pub returns-then-x : goal.returns-then-x
returns-then-x c = nan-itself c.args.x c.if-x.true

pub float_to_bits-result : goal.float_to_bits-result
float_to_bits-result c = not-nan _ c.if-x.false

pub float_from_bits-result : goal.float_from_bits-result
float_from_bits-result c = cleared-not-nan c.args.x (subst T (sym c.well_formed.0.1) tt) (not-nan _ c.if-x.false)

pub returns : goal.returns
returns c = magnitude-bits c.args.x (subst T (sym c.well_formed.0.1) tt)

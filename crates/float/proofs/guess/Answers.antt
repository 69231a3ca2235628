-- No bits of a NaN are made or taken.
use Rattle.std.proofs.Common.{arith}
use Rattle.float.proofs.Nan.{not-nan, not-nan-pattern}
use Rattle.float.proofs.guess.Goals as goal

pub float_from_bits-v : goal.float_from_bits-v
float_from_bits-v c = not-nan-pattern _ (omega arith)

pub float_from_bits-y : goal.float_from_bits-y
float_from_bits-y c = not-nan-pattern _ (omega arith)

pub float_to_bits-result : goal.float_to_bits-result
float_to_bits-result c = not-nan _ c.if-r.false

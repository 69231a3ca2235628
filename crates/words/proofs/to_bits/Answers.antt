use Rattle.float.proofs.Nan.{nan-bits, not-nan}
use Rattle.words.proofs.to_bits.Goals as goal

-- what differs from itself is the NaN
pub returns-then-x : goal.returns-then-x
returns-then-x c = nan-bits _ c.if-x.true

pub float_to_bits-result : goal.float_to_bits-result
float_to_bits-result c = not-nan _ c.if-x.false

use Rattle.std.proofs.Common.{◌∙◌}
use Rattle.float.proofs.Nan.{nan-made, nan_pattern, not-nan-pattern}
use Rattle.words.proofs.of_bits.Goals as goal

-- the NaN for a NaN's pattern, and a pattern that is none for f64::from_bits
pub returns-then-b-gt9218868437227405312 : goal.returns-then-b-gt9218868437227405312
returns-then-b-gt9218868437227405312 c = nan-made ∙ nan_pattern _ c.if-b-gt9218868437227405312.true

pub float_from_bits-result : goal.float_from_bits-result
float_from_bits-result c = not-nan-pattern _ c.if-b-gt9218868437227405312.false

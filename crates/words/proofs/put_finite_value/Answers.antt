use Rattle.float.proofs.Fields.{finite-value-not-nan}
use Rattle.words.proofs.put_finite_value.Goals as goal

-- a finite number is no NaN, so it has a pattern of its own
pub float_to_bits-x : goal.float_to_bits-x
float_to_bits-x c = finite-value-not-nan c.args.x c.requires.x_value

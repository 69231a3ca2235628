use Rattle.float.proofs.Fields.{finite-pattern}
use Rattle.float.proofs.is_finite_bits.Goals as goal

pub returns : goal.returns
returns c = finite-pattern c.args.b

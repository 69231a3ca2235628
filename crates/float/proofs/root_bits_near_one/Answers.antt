use Rattle.float.proofs.NearOne.{near-one}
use Rattle.float.proofs.root_bits_near_one.Goals as goal

pub returns : goal.returns
returns c = near-one c.args.b c.requires.le_b c.requires.b_bound

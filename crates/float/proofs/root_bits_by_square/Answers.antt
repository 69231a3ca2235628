use Rattle.float.proofs.BySquare.{by-square}
use Rattle.float.proofs.root_bits_by_square.Goals as goal

pub returns : goal.returns
returns c = by-square c.args.b c.args.n c.requires.le_b c.requires.b_bound c.requires.square_term c.requires.clear

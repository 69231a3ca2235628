-- Two runs of stores in a row.
use Rattle.outcomes.proofs.Stores.{four-sets}
use Rattle.outcomes.proofs.put_four.Goals as goal

pub returns : goal.returns
returns c =
    rw (c.put_pair-2.ensures, c.put_pair.ensures)
    (four-sets c.args.out.now c.args.a c.args.b c.args.c c.args.d)

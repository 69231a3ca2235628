-- Two runs of stores in a row.
use Rattle.outcomes.proofs.Stores.{pair-sets}
use Rattle.outcomes.proofs.put_pair.Goals as goal

pub returns : goal.returns
returns c =
    rw (c.put_word-2.ensures, c.put_word.ensures)
    (pair-sets c.args.out.now c.args.at c.args.a c.args.b)

-- Three stores as one.
use Rattle.element_bytes.proofs.Stored.{vector-sets}
use Rattle.element_bytes.proofs.put_vector.Goals as goal

pub returns : goal.returns
returns c =
    rw (c.put_finite_value-3.ensures, c.put_finite_value-2.ensures, c.put_finite_value.ensures)
    (vector-sets c.args.out.now c.args.at c.args.a)

-- Four stores as one.
use Rattle.element_bytes.proofs.Stored.{quaternion-sets}
use Rattle.element_bytes.proofs.put_quaternion.Goals as goal

pub returns : goal.returns
returns c =
    rw (c.put_finite_value-4.ensures, c.put_finite_value-3.ensures, c.put_finite_value-2.ensures, c.put_finite_value.ensures)
    (quaternion-sets c.args.out.now c.args.at c.args.q)

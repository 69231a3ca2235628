use mathlib.Core.Path.{refl}
use Rattle.law.specs.Series as Series
use Rattle.linear.specs.Vectors as Vectors
use Rattle.linear.specs.Quaternions as Quaternions
use Rattle.so3.specs.Elements as Elements
use Rattle.so3.proofs.ElementLieGroup.log.Goals as goal

pub returns : goal.returns
returns c = rw (
  c.scale.ensures,
  c.log_coeff.ensures,
  c.vector.ensures,
  c.unit_quaternion-q.ensures,
) (unfold Elements.log Elements.unit_quaternion Quaternions.vector Vectors.scale Series.log_by in refl)

use mathlib.Core.Path.{refl}
use Rattle.law.specs.Rotation as Law
use Rattle.linear.specs.Quaternions as Quaternions
use Rattle.so3.specs.Elements as Elements
use Rattle.so3.proofs.ElementLieGroup.rotation_matrix.Goals as goal

pub returns : goal.returns
returns c = rw (
  c.rotation_matrix.ensures,
  c.unit_quaternion.ensures,
) (unfold Elements.rotation_matrix Elements.unit_quaternion Quaternions.rotation_matrix Law.rotation_matrix in refl)

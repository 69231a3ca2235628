use mathlib.Core.Path.{refl}
use Rattle.sgal3.specs.Elements as Elements
use Rattle.linear.specs.Quaternions as Quaternions
use Rattle.law.specs.Galilean as Law
use Rattle.law.specs.Rotation as Rotation
use Rattle.sgal3.proofs.ElementLieGroup.rotation_matrix.Goals as goal

pub returns : goal.returns
returns c = rw (
  c.rotation_matrix.ensures,
  c.rotation_quaternion.ensures,
) (unfold Elements.rotation_matrix Elements.rotation_quaternion Quaternions.rotation_matrix Law.rotation_matrix Rotation.rotation_matrix in refl)

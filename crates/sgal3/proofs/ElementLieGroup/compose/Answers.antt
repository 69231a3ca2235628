use mathlib.Core.Path.{refl}
use Rattle.sgal3.specs.Elements as Elements
use Rattle.law.specs.Galilean as Law
use Rattle.linear.specs.Vectors as Vectors
use Rattle.linear.specs.Quaternions as Quaternions
use Rattle.sgal3.proofs.ElementLieGroup.compose.Goals as goal

pub returns : goal.returns
returns c = rw (
  c.add-velocity.ensures,
  c.rotate-2.ensures,
  c.add-translation.ensures,
  c.scale.ensures,
  c.add.ensures,
  c.rotate.ensures,
  c.mul-rotation.ensures,
  c.rotation_quaternion.ensures,
  c.rotation_quaternion-rot.ensures,
) (unfold Elements.compose Elements.rotation_quaternion Quaternions.mul Quaternions.rotate Vectors.add Vectors.scale Law.compose Law.compose_at in refl)

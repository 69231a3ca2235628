use mathlib.Core.Path.{refl}
use Rattle.sgal3.specs.Elements as Elements
use Rattle.law.specs.Galilean as Law
use Rattle.law.specs.Rotation as Rotation
use Rattle.linear.specs.Vectors as Vectors
use Rattle.linear.specs.Quaternions as Quaternions
use Rattle.sgal3.proofs.ElementLieGroup.inverse.Goals as goal

pub returns : goal.returns
returns c = rw (
  c.neg-velocity.ensures,
  c.rotate-2.ensures,
  c.neg-translation.ensures,
  c.rotate.ensures,
  c.sub.ensures,
  c.scale.ensures,
  c.normalize-rot_inv.ensures,
  c.conjugate-rotation.ensures,
  c.rotation_quaternion.ensures,
) (unfold Elements.inverse Elements.rotation_quaternion Quaternions.conjugate Quaternions.normalize Quaternions.rotate Vectors.sub Vectors.scale Vectors.neg Rotation.inverse Rotation.unit_quaternion Law.inverse Law.inverse_at in refl)

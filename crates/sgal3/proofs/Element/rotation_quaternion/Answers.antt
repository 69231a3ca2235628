use mathlib.Core.Path.{refl}
use Rattle.sgal3.specs.Elements as Elements
use Rattle.law.specs.Galilean as Law
use Rattle.law.specs.Rotation as Rotation
use Rattle.linear.specs.Quaternions as Quaternions
use Rattle.sgal3.proofs.Element.rotation_quaternion.Goals as goal

pub returns : goal.returns
returns c = rw (
  c.normalize-2.ensures,
  c.normalize.ensures,
) (unfold Elements.rotation_quaternion Quaternions.normalize Rotation.unit_quaternion Law.rotation_impl in refl)

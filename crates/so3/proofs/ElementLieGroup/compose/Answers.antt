use mathlib.Core.Path.{refl}
use Rattle.law.specs.Rotation as Law
use Rattle.linear.specs.Quaternions as Quaternions
use Rattle.so3.specs.Elements as Elements
use Rattle.so3.proofs.ElementLieGroup.compose.Goals as goal

pub returns : goal.returns
returns c = rw (
  c.mul.ensures,
  c.unit_quaternion-2.ensures,
  c.unit_quaternion.ensures,
) (unfold Elements.compose Elements.unit_quaternion Quaternions.mul Law.compose in refl)

use mathlib.Core.Path.{refl}
use Rattle.law.specs.Rotation as Law
use Rattle.linear.specs.Quaternions as Quaternions
use Rattle.so3.specs.Elements as Elements
use Rattle.so3.proofs.ElementLieGroup.normalize.Goals as goal

pub returns : goal.returns
returns c = rw (
  c.normalize-2.ensures,
  c.normalize.ensures,
) (unfold Elements.normalize Quaternions.normalize Law.normalize Law.unit_quaternion in refl)

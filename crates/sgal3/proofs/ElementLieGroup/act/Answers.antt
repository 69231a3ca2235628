use mathlib.Core.Path.{refl}
use Rattle.sgal3.specs.Elements as Elements
use Rattle.linear.specs.Quaternions as Quaternions
use Rattle.linear.specs.Vectors as Vectors
use Rattle.law.specs.Galilean as Law
use Rattle.sgal3.proofs.ElementLieGroup.act.Goals as goal

pub returns : goal.returns
returns c = rw (
  c.add-2.ensures,
  c.scale.ensures,
  c.add.ensures,
  c.rotate.ensures,
  c.rotation_quaternion.ensures,
) (unfold Elements.act Elements.rotation_quaternion Quaternions.rotate Vectors.add Vectors.scale Law.act Law.act_at in refl)

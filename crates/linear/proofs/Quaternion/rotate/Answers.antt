use Rattle.std.proofs.Common.{refl}
use Rattle.law.specs.Quaternion as Law
use Rattle.linear.specs.Vectors as Vectors
use Rattle.linear.specs.Quaternions as Quaternions
use Rattle.linear.proofs.Quaternion.rotate.Goals as goal

pub returns : goal.returns
returns c = rw (
  c.add-2.ensures,
  c.add.ensures,
  c.cross-2.ensures,
  c.scale.ensures,
  c.scale-c.ensures,
  c.cross.ensures,
  c.vector-u.ensures,
) (unfold Quaternions.rotate Quaternions.vector Vectors.cross Vectors.scale Vectors.add Law.rotate in refl)

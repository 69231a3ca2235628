use mathlib.Core.Path.{refl}
use Rattle.sgal3.specs.Matrices as Matrices
use Rattle.sgal3.specs.Elements as Elements
use Rattle.linear.specs.Matrices as Linear
use Rattle.linear.specs.Vectors as Vectors
use Rattle.law.specs.Galilean as Law
use Rattle.law.specs.Rows as Rows
use Rattle.sgal3.proofs.ElementLieGroup.act_jacobian_self.Goals as goal

pub returns : goal.returns
returns c = rw (
  c.scale-d.ensures,
  c.mul-c.ensures,
  c.hat.ensures,
  c.neg.ensures,
  c.scale-b.ensures,
  c.rotation_matrix-r.ensures,
) (unfold Matrices.act_jacobian_self Elements.rotation_matrix Linear.scale Linear.neg Linear.mul Linear.hat Vectors.scale Law.act_jacobian_self Law.act_jacobian_self_at Law.row10 Rows.by_row in refl)

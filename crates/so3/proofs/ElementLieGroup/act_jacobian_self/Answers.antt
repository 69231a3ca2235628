use mathlib.Core.Path.{refl}
use Rattle.law.specs.Rotation as Law
use Rattle.linear.specs.Matrices as Matrices
use Rattle.so3.specs.Elements as Elements
use Rattle.so3.proofs.ElementLieGroup.act_jacobian_self.Goals as goal

pub returns : goal.returns
returns c = rw (
  c.mul.ensures,
  c.hat.ensures,
  c.neg.ensures,
  c.rotation_matrix.ensures,
) (unfold Elements.act_jacobian_self Elements.rotation_matrix Matrices.neg Matrices.hat Matrices.mul Law.act_jacobian_self in refl)

use mathlib.Core.Path.{refl}
use Rattle.law.specs.ClosedForms as ClosedForms
use Rattle.linear.specs.Matrices as Matrices
use Rattle.so3.specs.Tangents as Tangents
use Rattle.so3.proofs.Tangent.left_jacobian_closed.Goals as goal

pub returns : goal.returns
returns c = rw (
  c.add-2.ensures,
  c.mul.ensures,
  c.scale-2.ensures,
  c.add.ensures,
  c.scale.ensures,
  c.identity.ensures,
  c.hat-skew.ensures,
) (unfold Tangents.left_jacobian_closed Tangents.hat Matrices.identity Matrices.scale Matrices.add Matrices.mul ClosedForms.left_jacobian ClosedForms.left_jacobian_by in refl)

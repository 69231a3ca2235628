use mathlib.Core.Path.{refl}
use Rattle.law.specs.ClosedForms as ClosedForms
use Rattle.linear.specs.Matrices as Matrices
use Rattle.so3.specs.Tangents as Tangents
use Rattle.so3.proofs.Tangent.left_jacobian_inv_closed.Goals as goal

pub returns : goal.returns
returns c = rw (
  c.add.ensures,
  c.mul.ensures,
  c.scale.ensures,
  c.left_jacobian_inv_series.ensures,
  c.hat-skew.ensures,
) (unfold Tangents.left_jacobian_inv_closed Tangents.left_jacobian_inv_series Tangents.hat Matrices.scale Matrices.add Matrices.mul ClosedForms.left_jacobian_inv ClosedForms.left_jacobian_inv_by in refl)

use Rattle.law.specs.Series as Series
use Rattle.linear.specs.Matrices as Matrices
use Rattle.so3.specs.Tangents as Tangents
use Rattle.so3.proofs.Half.{half-value}
use Rattle.so3.proofs.Tangent.left_jacobian_inv_series.Goals as goal

pub returns : goal.returns
returns c = rw (
  c.sub.ensures,
  c.scale.ensures,
  c.hat.ensures,
  c.identity.ensures,
) (unfold Tangents.left_jacobian_inv_series Tangents.hat Matrices.identity Matrices.scale Matrices.sub Series.left_jacobian_inv Series.minus_hat in rw half-value)

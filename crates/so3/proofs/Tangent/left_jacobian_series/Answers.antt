use Rattle.law.specs.Series as Series
use Rattle.linear.specs.Matrices as Matrices
use Rattle.so3.specs.Tangents as Tangents
use Rattle.so3.proofs.Half.{half-value}
use Rattle.so3.proofs.Tangent.left_jacobian_series.Goals as goal

pub returns : goal.returns
returns c = rw (
  c.add.ensures,
  c.scale.ensures,
  c.hat.ensures,
  c.identity.ensures,
) (unfold Tangents.left_jacobian_series Tangents.hat Matrices.identity Matrices.scale Matrices.add Series.left_jacobian Series.plus_hat in rw half-value)

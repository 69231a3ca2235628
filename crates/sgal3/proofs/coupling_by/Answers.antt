use Rattle.sgal3.specs.Tangents as Tangents
use Rattle.linear.specs.Matrices as Matrices
use Rattle.law.specs.GalileanSeries as GalileanSeries
use Rattle.so3.proofs.Half.{half-value}
use Rattle.sgal3.proofs.coupling_by.Goals as goal

pub returns : goal.returns
returns c = rw (
  c.add-2.ensures,
  c.scale-3.ensures,
  c.mul.ensures,
  c.add.ensures,
  c.scale-2.ensures,
  c.scale.ensures,
  c.identity.ensures,
  c.hat-theta_skew.ensures,
) (unfold Tangents.coupling_by Matrices.hat Matrices.identity Matrices.scale Matrices.add Matrices.mul GalileanSeries.coupling_by in rw half-value)

use mathlib.Core.Path.{refl}
use Rattle.sgal3.specs.Tangents as Tangents
use Rattle.linear.specs.Matrices as Matrices
use Rattle.linear.specs.Vectors as Vectors
use Rattle.law.specs.GalileanSeries as GalileanSeries
use Rattle.sgal3.proofs.Tangent.exp_by.Goals as goal

pub returns : goal.returns
returns c = rw (
  c.add-translation.ensures,
  c.scale.ensures,
  c.apply-2.ensures,
  c.apply.ensures,
  c.apply-velocity.ensures,
) (unfold Tangents.exp_by Matrices.apply Vectors.add Vectors.scale GalileanSeries.exp_by in refl)

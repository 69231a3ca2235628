use mathlib.Core.Path.{refl}
use Rattle.sgal3.specs.Elements as Elements
use Rattle.linear.specs.Matrices as Matrices
use Rattle.linear.specs.Vectors as Vectors
use Rattle.law.specs.GalileanSeries as GalileanSeries
use Rattle.sgal3.proofs.Element.log_by.Goals as goal

pub returns : goal.returns
returns c = rw (
  c.apply-rho.ensures,
  c.sub.ensures,
  c.scale.ensures,
  c.apply.ensures,
  c.apply-nu.ensures,
) (unfold Elements.log_by Matrices.apply Vectors.sub Vectors.scale GalileanSeries.log_by in refl)

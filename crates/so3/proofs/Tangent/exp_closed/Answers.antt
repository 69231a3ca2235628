use mathlib.Core.Path.{refl}
use Rattle.law.specs.Vector as Vector
use Rattle.law.specs.ClosedForms as ClosedForms
use Rattle.linear.specs.Vectors as Vectors
use Rattle.so3.specs.Tangents as Tangents
use Rattle.so3.proofs.Tangent.exp_closed.Goals as goal

pub returns : goal.returns
returns c = rw (
  c.scale-v.ensures,
  c.of_square-n.ensures,
  c.norm_squared.ensures,
  c.divide-half.ensures,
) (unfold Tangents.exp_closed Vectors.divide Vectors.norm_squared Vectors.scale Vector.scale ClosedForms.exp ClosedForms.exp_by in refl)

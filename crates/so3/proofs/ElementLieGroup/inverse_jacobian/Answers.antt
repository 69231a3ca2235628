use mathlib.Core.Path.{refl}
use Rattle.law.specs.Rotation as Law
use Rattle.linear.specs.Matrices as Matrices
use Rattle.so3.specs.Elements as Elements
use Rattle.so3.proofs.ElementLieGroup.inverse_jacobian.Goals as goal

pub returns : goal.returns
returns c = rw (
  c.neg.ensures,
  c.adjoint.ensures,
) (unfold Elements.inverse_jacobian Elements.adjoint Matrices.neg Law.inverse_jacobian in refl)

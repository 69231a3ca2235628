use mathlib.Core.Path.{refl}
use Rattle.law.specs.Rotation as Law
use Rattle.so3.specs.Elements as Elements
use Rattle.so3.proofs.ElementLieGroup.compose_jacobian_self.Goals as goal

pub returns : goal.returns
returns c = rw (
  c.adjoint.ensures,
  c.inverse.ensures,
) (unfold Elements.compose_jacobian_self Elements.inverse Elements.adjoint Law.compose_jacobian_self in refl)

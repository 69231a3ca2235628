use mathlib.Core.Path.{refl}
use Rattle.sgal3.specs.Matrices as Matrices
use Rattle.sgal3.specs.Elements as Elements
use Rattle.linear.specs.Matrices as Linear
use Rattle.law.specs.Galilean as Law
use Rattle.law.specs.Rotation as Rotation
use Rattle.sgal3.proofs.ElementLieGroup.adjoint.Goals as goal

pub returns : goal.returns
returns c = rw (
  c.mul.ensures,
  c.mul-rho_theta.ensures,
  c.sub.ensures,
  c.scale.ensures,
  c.hat.ensures,
  c.hat-nu_skew.ensures,
  c.scale-rho_nu.ensures,
  c.rotation_matrix-rotation.ensures,
) (unfold Matrices.adjoint Elements.rotation_matrix Linear.scale Linear.hat Linear.sub Linear.mul Law.adjoint Law.adjoint_at Law.rotation_matrix Rotation.rotation_matrix in refl)

-- The adjoint of an element, opened, is the ten rows that sgal3.rs fills, in all hundred places; so is each Jacobian that is an adjoint, or its
-- negation. Assumes nothing.
use mathlib.Core.Path.{◌≡◌, ap}
use Rattle.law.specs.Rounded.{rounded}
use Rattle.law.specs.Rows as Rows
use Rattle.law.specs.Galilean as Law
use Rattle.law.specs.Filled as Filled
use Rattle.law.proofs.Filled.{opened-filled}
use Rattle.manifold.specs.Operations as Operations
use Rattle.ten_rows.specs.Adjoints.{opened}
use Rattle.ten_rows.specs.TenRows.{neg}
use Rattle.sgal3.specs.Elements as Elements
use Rattle.sgal3.specs.Elements.{element}
use Rattle.sgal3.specs.Tangents as Tangents
use Rattle.sgal3.specs.Matrices as Matrices
use Rattle.sgal3.specs.Group.{group, tangents}
use Rattle.sgal3.specs.declared.Element.{Element}
use Rattle.sgal3.specs.declared.Tangent.{Tangent}

pub adjoint-filled : (a : Element) → opened (Matrices.adjoint a) ≡ Filled.adjoint rounded (element a)
unfolding opened Matrices.adjoint
adjoint-filled a = opened-filled rounded (element a)

pub inverse_jacobian-filled : (a : Element) → Matrices.inverse_jacobian a ≡ neg (Filled.adjoint rounded (element a))
unfolding Matrices.inverse_jacobian Law.inverse_jacobian neg
inverse_jacobian-filled a = ap (Rows.neg rounded) (opened-filled rounded (element a))

pub compose_jacobian_self-filled : (a b : Element) → opened (Matrices.compose_jacobian_self a b) ≡ Filled.adjoint rounded (element (Elements.inverse b))
unfolding opened Matrices.compose_jacobian_self Law.compose_jacobian_self Elements.inverse
compose_jacobian_self-filled a b = opened-filled rounded (element (Elements.inverse b))

pub right_plus_jacobian_self-filled : (a : Element) (t : Tangent)
    → opened (Operations.right_plus_jacobian_self group tangents a t) ≡ Filled.adjoint rounded (element (Elements.inverse (Tangents.exp t)))
unfolding Operations.right_plus_jacobian_self
right_plus_jacobian_self-filled a t = compose_jacobian_self-filled a (Tangents.exp t)

pub between_jacobian_self-filled : (a b : Element)
    → Operations.between_jacobian_self group opened neg a b ≡ neg (Filled.adjoint rounded (element (Elements.inverse (Operations.between group a b))))
unfolding Operations.between_jacobian_self
between_jacobian_self-filled a b = ap neg (adjoint-filled (Elements.inverse (Operations.between group a b)))

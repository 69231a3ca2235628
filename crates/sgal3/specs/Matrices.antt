-- The matrices of an element of SGal(3): the formulas of the group at the rounded operations. Definitions only.
-- An adjoint is a record of its blocks; a 10 by 10 matrix is a list of its rows; the others are listed by row.
use Rattle.std.specs.Prelude.{List, Float}
use Rattle.law.specs.Rounded.{rounded}
use Rattle.law.specs.Rows as Rows
use Rattle.law.specs.Galilean as Law
use Rattle.linear.specs.Records.{vector}
use Rattle.linear.specs.declared.Vec3.{Vec3}
use Rattle.ten_rows.specs.Adjoints.{of_adjoint}
use Rattle.ten_rows.specs.declared.Adjoint.{Adjoint}
use Rattle.sgal3.specs.Elements.{element}
use Rattle.sgal3.specs.declared.Element.{Element}

unfoldable pub matrix : Element → List Float
matrix a = Rows.by_row (Law.matrix rounded (element a))

unfoldable pub adjoint : Element → Adjoint
adjoint a = of_adjoint (Law.adjoint rounded (element a))

unfoldable pub jacobian_identity : List (List Float)
jacobian_identity = Law.jacobian_identity rounded

unfoldable pub inverse_jacobian : Element → List (List Float)
inverse_jacobian a = Law.inverse_jacobian rounded (element a)

-- of compose a b with respect to a
unfoldable pub compose_jacobian_self : Element → Element → Adjoint
compose_jacobian_self a b = of_adjoint (Law.compose_jacobian_self rounded (element a) (element b))

-- of act a p with respect to a: three rows of ten
unfoldable pub act_jacobian_self : Element → Vec3 → List Float
act_jacobian_self a p = Rows.by_row (Law.act_jacobian_self rounded (element a) (vector p))

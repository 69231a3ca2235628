-- The Lie algebra of SGal(3): the formulas of the group at the rounded operations. Definitions only.
-- A 10 by 10 matrix is a list of its rows; hat and the generators are listed by row.
use Rattle.std.specs.Prelude.{ℕ, ◌-◌, cond, List, eqb, ltb, Float}
use Rattle.law.specs.Rounded.{rounded}
use Rattle.law.specs.Rows as Rows
use Rattle.law.specs.Galilean as Law
use Rattle.linear.specs.Records.{vector, matrix as of_mat3}
use Rattle.linear.specs.Vectors as Vectors
use Rattle.linear.specs.Matrices as Linear
use Rattle.linear.specs.declared.Vec3.{Vec3}
use Rattle.linear.specs.declared.Mat3.{Mat3}
use Rattle.so3.specs.Tangents as So3Tangents
use Rattle.sgal3.specs.Tangents.{tangent, of_tangent}
use Rattle.sgal3.specs.declared.Tangent.{Tangent}

unfoldable pub lie_algebra : Mat3 → Vec3 → Vec3 → Float → List Float
lie_algebra h ρ ν s = Rows.by_row (Law.lie_algebra rounded (of_mat3 h) (vector ρ) (vector ν) s)

unfoldable pub hat : Tangent → List Float
hat t = Rows.by_row (Law.hat rounded (tangent t))

unfoldable pub small_adj : Tangent → List (List Float)
small_adj t = Law.small_adj rounded (tangent t)

unfoldable pub lie_bracket : Tangent → Tangent → Tangent
lie_bracket t u = of_tangent (Law.lie_bracket rounded (tangent t) (tangent u))

-- a row times a tangent, and a matrix
unfoldable pub dot : List Float → Tangent → Float
dot r t = Rows.dot rounded r (Law.coeffs rounded (tangent t))

unfoldable pub apply : List (List Float) → Tangent → Tangent
apply m t = of_tangent (Law.apply_tangent rounded m (tangent t))

-- ---- generators
-- the unit vector along axis i; zero from i = 3
unfoldable pub axis : ℕ → Vec3
axis i =
    cond (eqb i 0) (Linear.identity).row0 (cond (eqb i 1) (Linear.identity).row1 (cond (eqb i 2) (Linear.identity).row2 Vectors.zero))

-- of place i of a tangent; the zero matrix from i = 10
unfoldable pub generator : ℕ → List Float
generator i =
    cond (ltb i 3) (lie_algebra Linear.zero (axis i) Vectors.zero rounded.zero)
    (cond (ltb i 6) (lie_algebra Linear.zero Vectors.zero (axis (i - 3)) rounded.zero)
    (cond (eqb i 9) (lie_algebra Linear.zero Vectors.zero Vectors.zero rounded.one)
    (lie_algebra (So3Tangents.generator (i - 6)) Vectors.zero Vectors.zero rounded.zero)))

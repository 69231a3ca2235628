-- The calls on blocks that SGal(3) alone has, but for the chain, each with every refusal. Definitions only.
use Rattle.std.specs.Prelude.{List, Result, Ok, Float}
use Rattle.checks.specs.Checks.{and_then}
use Rattle.checks.specs.declared.Refusal.{Refusal}
use Rattle.linear.specs.Records.{vector_values}
use Rattle.linear.specs.declared.Vec3.{Vec3}
use Rattle.manifold.specs.Answers.{answered}
use Rattle.manifold_calls.specs.Calls as Calls
use Rattle.so3.specs.Elements as So3Elements
use Rattle.so3.specs.declared.Element.{Element as So3Element}
use Rattle.sgal3.specs.Elements as Elements
use Rattle.sgal3.specs.Matrices as Matrices
use Rattle.sgal3.specs.Group.{group}

-- ---- the parts of an element
unfoldable pub translation : List Float → Float → Result Vec3 Refusal
translation block tolerance = and_then (Calls.element group block tolerance) (λ a. answered vector_values a.translation)

unfoldable pub velocity : List Float → Float → Result Vec3 Refusal
velocity block tolerance = and_then (Calls.element group block tolerance) (λ a. answered vector_values a.velocity)

unfoldable pub time : List Float → Float → Result Float Refusal
time block tolerance = and_then (Calls.element group block tolerance) (λ a. Ok a.time)

-- as a rotation whose params it is
unfoldable pub rotation_quaternion : List Float → Float → Result So3Element Refusal
rotation_quaternion block tolerance = and_then (Calls.element group block tolerance) (λ a. answered So3Elements.values (So3Elements.new (Elements.rotation_quaternion a)))

-- the eleven values, as given
unfoldable pub coeffs : List Float → Float → Result (List Float) Refusal
coeffs block tolerance = and_then (Calls.element group block tolerance) (λ a. Ok (Elements.coeffs a))

-- ---- the 5 by 5 matrix, by row
unfoldable pub matrix : List Float → Float → Result (List Float) Refusal
matrix block tolerance = and_then (Calls.element group block tolerance) (λ a. answered (λ m. m) (Matrices.matrix a))

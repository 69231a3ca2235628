-- What a request on the Galilean group is answered, as bytes: the calls by their numbers, none where there is no such call. Definitions only.
use Rattle.std.specs.Prelude.{ℕ, cond, List, eqb, ltb, Option, Some, None, Ok}
use Rattle.manifold.specs.Answers.{answered}
use Rattle.manifold.specs.Outcomes.{vector, number, matrix, listed}
use Rattle.manifold_calls.specs.Calls as Calls
use Rattle.ten_rows.specs.Adjoints as Adjoints
use Rattle.ten_rows.specs.TenRows as TenRows
use Rattle.so3.specs.Outcomes as So3Outcomes
use Rattle.sgal3.specs.Elements as Elements
use Rattle.sgal3.specs.Tangents as Tangents
use Rattle.sgal3.specs.Algebra as Algebra
use Rattle.sgal3.specs.Group.{group, tangents}
use Rattle.sgal3.specs.Outcomes as SGal3Outcomes
use Rattle.sgal3_calls.specs.Composition as Composition
use Rattle.sgal3_calls.specs.Parts as Parts
use Rattle.sgal3_calls.specs.Events as EventCalls
use Rattle.sgal3_calls.specs.Outcomes.{element}
use Rattle.outcomes.specs.Outcomes as Outcomes
use Rattle.outcomes.specs.declared.Request.{Request}

-- elements of the Galilean group: compose, inverse, the chain, and the parts of one
unfoldable pub element_call : Request → Option (List ℕ)
element_call r =
    cond (eqb r.call 70) (Some (Outcomes.of_values (element (Composition.compose r.left.now r.right.now (Outcomes.tolerance r)))))
    (cond (eqb r.call 71) (Some (Outcomes.of_values (element (Composition.inverse r.left.now (Outcomes.tolerance r)))))
    (cond (eqb r.call 72) (Some (Outcomes.of_values (element (Composition.chain r.left.now (Outcomes.tolerance r)))))
    (cond (eqb r.call 73) (Some (Outcomes.of_values (vector (Parts.translation r.left.now (Outcomes.tolerance r)))))
    (cond (eqb r.call 74) (Some (Outcomes.of_values (vector (Parts.velocity r.left.now (Outcomes.tolerance r)))))
    (cond (eqb r.call 75) (Some (Outcomes.of_values (number (Parts.time r.left.now (Outcomes.tolerance r)))))
    (cond (eqb r.call 76) (Some (Outcomes.of_values (So3Outcomes.element (Parts.rotation_quaternion r.left.now (Outcomes.tolerance r)))))
    (cond (eqb r.call 77) (Some (Outcomes.of_values (matrix (Calls.rotation_matrix group r.left.now (Outcomes.tolerance r)))))
    (cond (eqb r.call 78) (Some (Outcomes.of_values (listed Elements.rep_size (Parts.coeffs r.left.now (Outcomes.tolerance r)))))
    None))))))))

-- the logarithm of an element of the Galilean group, and what it acts on
unfoldable pub log_call : Request → Option (List ℕ)
log_call r =
    cond (eqb r.call 79) (Some (Outcomes.of_values (SGal3Outcomes.tangent (Calls.log group tangents Tangents.coeffs r.left.now (Outcomes.tolerance r)))))
    (cond (eqb r.call 80) (Some (Outcomes.of_values (SGal3Outcomes.tangent (Calls.log group tangents Tangents.coeffs r.left.now (Outcomes.tolerance r)))))
    (cond (eqb r.call 81) (Some (Outcomes.of_values (vector (Calls.act group r.left.now r.right.now (Outcomes.tolerance r)))))
    (cond (eqb r.call 82) (Some (Outcomes.of_values (matrix (Calls.act_jacobian_vector group r.left.now r.right.now (Outcomes.tolerance r)))))
    (cond (eqb r.call 83) (Some (Outcomes.of_values (element (Calls.normalize group Elements.coeffs r.left.now (Outcomes.tolerance r)))))
    (cond (eqb r.call 84) (Some (Outcomes.of_valid (Calls.is_valid group r.left.now (Outcomes.tolerance r))))
    None)))))

-- a tangent of the Galilean group, and what takes no block
unfoldable pub tangent_call : Request → Option (List ℕ)
tangent_call r =
    cond (eqb r.call 85) (Some (Outcomes.of_values (element (Calls.exp tangents Elements.coeffs r.left.now))))
    (cond (eqb r.call 86) (Some (Outcomes.of_values (SGal3Outcomes.tangent (Calls.lie_bracket tangents Tangents.coeffs r.left.now r.right.now))))
    (cond (eqb r.call 87) (Some (Outcomes.of_values (SGal3Outcomes.tangent (Calls.normalize_tangent tangents Tangents.coeffs r.left.now))))
    (cond (eqb r.call 88) (Some (Outcomes.of_values (SGal3Outcomes.tangent (Calls.normalized_tangent tangents Tangents.coeffs r.left.now))))
    (cond (eqb r.call 89) (Some (Outcomes.of_values (SGal3Outcomes.tangent (answered Tangents.coeffs Tangents.zero))))
    (cond (eqb r.call 90) (Some (Outcomes.of_values (element (answered Elements.coeffs Elements.identity))))
    None)))))

-- the matrices of the Galilean group
unfoldable pub matrix_call : Request → Option (List ℕ)
matrix_call r =
    cond (eqb r.call 91) (Some (Outcomes.of_values (listed 36 (Ok (Algebra.generator r.extra)))))
    (cond (eqb r.call 92) (Some (Outcomes.of_values (listed 25 (Parts.matrix r.left.now (Outcomes.tolerance r)))))
    (cond (eqb r.call 93) (Some (Outcomes.of_values (SGal3Outcomes.matrix10 (Calls.adjoint group TenRows.values Adjoints.opened r.left.now (Outcomes.tolerance r)))))
    (cond (eqb r.call 94) (Some (Outcomes.of_values (SGal3Outcomes.matrix10 (Calls.inverse_jacobian group TenRows.values r.left.now (Outcomes.tolerance r)))))
    (cond (eqb r.call 95) (Some (Outcomes.of_values (SGal3Outcomes.matrix10 (Calls.compose_jacobian_self group TenRows.values Adjoints.opened r.left.now r.right.now (Outcomes.tolerance r)))))
    (cond (eqb r.call 96) (Some (Outcomes.of_values (SGal3Outcomes.matrix10 (Calls.compose_jacobian_other group TenRows.values r.left.now r.right.now (Outcomes.tolerance r)))))
    (cond (eqb r.call 97) (Some (Outcomes.of_values (listed 30 (Calls.act_jacobian_self group (λ m. m) r.left.now r.right.now (Outcomes.tolerance r)))))
    (cond (eqb r.call 98) (Some (Outcomes.of_values (listed 36 (Calls.hat tangents (λ m. m) r.left.now))))
    (cond (eqb r.call 99) (Some (Outcomes.of_values (SGal3Outcomes.matrix10 (Calls.small_adj tangents TenRows.values r.left.now))))
    None))))))))

-- plus of an element and a tangent, and minus of two elements, from either side
unfoldable pub plus_call : Request → Option (List ℕ)
plus_call r =
    cond (eqb r.call 100) (Some (Outcomes.of_values (element (Calls.right_plus group tangents Elements.coeffs r.left.now r.right.now (Outcomes.tolerance r)))))
    (cond (eqb r.call 101) (Some (Outcomes.of_values (SGal3Outcomes.matrix10 (Calls.right_plus_jacobian_self group tangents TenRows.values Adjoints.opened r.left.now r.right.now (Outcomes.tolerance r)))))
    (cond (eqb r.call 102) (Some (Outcomes.of_values (element (Calls.left_plus group tangents Elements.coeffs r.left.now r.right.now (Outcomes.tolerance r)))))
    (cond (eqb r.call 103) (Some (Outcomes.of_values (SGal3Outcomes.matrix10 (Calls.left_plus_jacobian_self group tangents TenRows.values r.left.now r.right.now (Outcomes.tolerance r)))))
    (cond (eqb r.call 104) (Some (Outcomes.of_values (SGal3Outcomes.tangent (Calls.right_minus group tangents Tangents.coeffs r.left.now r.right.now (Outcomes.tolerance r)))))
    (cond (eqb r.call 105) (Some (Outcomes.of_values (SGal3Outcomes.tangent (Calls.left_minus group tangents Tangents.coeffs r.left.now r.right.now (Outcomes.tolerance r)))))
    None)))))

-- what leads from one element to another; plus and minus of elements by their short names
unfoldable pub between_call : Request → Option (List ℕ)
between_call r =
    cond (eqb r.call 106) (Some (Outcomes.of_values (element (Calls.between group Elements.coeffs r.left.now r.right.now (Outcomes.tolerance r)))))
    (cond (eqb r.call 107) (Some (Outcomes.of_values (SGal3Outcomes.matrix10 (Calls.between_jacobian_self group TenRows.values Adjoints.opened TenRows.neg r.left.now r.right.now (Outcomes.tolerance r)))))
    (cond (eqb r.call 108) (Some (Outcomes.of_values (SGal3Outcomes.matrix10 (Calls.compose_jacobian_other group TenRows.values r.left.now r.right.now (Outcomes.tolerance r)))))
    (cond (eqb r.call 109) (Some (Outcomes.of_values (element (Calls.right_plus group tangents Elements.coeffs r.left.now r.right.now (Outcomes.tolerance r)))))
    (cond (eqb r.call 110) (Some (Outcomes.of_values (SGal3Outcomes.matrix10 (Calls.right_plus_jacobian_self group tangents TenRows.values Adjoints.opened r.left.now r.right.now (Outcomes.tolerance r)))))
    (cond (eqb r.call 111) (Some (Outcomes.of_values (SGal3Outcomes.tangent (Calls.right_minus group tangents Tangents.coeffs r.left.now r.right.now (Outcomes.tolerance r)))))
    None)))))

-- the adjoints without their zeros
unfoldable pub short_call : Request → Option (List ℕ)
short_call r =
    cond (eqb r.call 112) (Some (Outcomes.of_values (SGal3Outcomes.short_adjoint (Calls.short_adjoint group Adjoints.values r.left.now (Outcomes.tolerance r)))))
    (cond (eqb r.call 113) (Some (Outcomes.of_values (SGal3Outcomes.short_adjoint (Calls.short_compose_jacobian_self group Adjoints.values r.left.now r.right.now (Outcomes.tolerance r)))))
    (cond (eqb r.call 114) (Some (Outcomes.of_values (SGal3Outcomes.short_adjoint (Calls.short_right_plus_jacobian_self group tangents Adjoints.values r.left.now r.right.now (Outcomes.tolerance r)))))
    None))

-- how an element acts on an event
unfoldable pub event_call : Request → Option (List ℕ)
event_call r = cond (eqb r.call 115) (Some (Outcomes.of_values (SGal3Outcomes.event (EventCalls.act_event r.left.now r.right.now (Outcomes.tolerance r))))) None

unfoldable pub answer : Request → Option (List ℕ)
answer r =
    cond (ltb r.call 79) (element_call r)
    (cond (ltb r.call 85) (log_call r)
    (cond (ltb r.call 91) (tangent_call r)
    (cond (ltb r.call 100) (matrix_call r)
    (cond (ltb r.call 106) (plus_call r)
    (cond (ltb r.call 112) (between_call r)
    (cond (ltb r.call 115) (short_call r)
    (event_call r)))))))

-- What a request on rotations is answered, as bytes: the calls by their numbers, none where there is no such call. Definitions only.
use Rattle.std.specs.Prelude.{ℕ, cond, List, eqb, ltb, length, get_or, Option, Some, None}
use Rattle.std.specs.Float.{nan}
use Rattle.linear.specs.Records.{matrix_values}
use Rattle.linear.specs.Matrices as Matrices
use Rattle.manifold.specs.Answers.{answered}
use Rattle.manifold.specs.Outcomes.{vector, number, matrix}
use Rattle.manifold_calls.specs.Calls as Calls
use Rattle.so3.specs.Elements as Elements
use Rattle.so3.specs.Tangents as Tangents
use Rattle.so3.specs.Group.{group, tangents}
use Rattle.so3.specs.Outcomes as So3Outcomes
use Rattle.so3_calls.specs.Calls as So3Calls
use Rattle.outcomes.specs.Outcomes as Outcomes
use Rattle.outcomes.specs.declared.Request.{Request}

-- of four values: the one call that takes no block
unfoldable pub quaternion_call : Request → Option (List ℕ)
quaternion_call r =
    cond (eqb (length r.left.now) 4)
    (Some (Outcomes.of_values (So3Outcomes.element (So3Calls.try_from_quaternion_wxyz (get_or r.left.now 0 nan) (get_or r.left.now 1 nan) (get_or r.left.now 2 nan) (get_or r.left.now 3 nan) (Outcomes.tolerance r)))))
    None

-- a rotation, and two composed
unfoldable pub rotation_call : Request → Option (List ℕ)
rotation_call r =
    cond (eqb r.call 10) (quaternion_call r)
    (cond (eqb r.call 11) (Some (Outcomes.of_valid (Calls.is_valid group r.left.now (Outcomes.tolerance r))))
    (cond (eqb r.call 12) (Some (Outcomes.of_values (matrix (Calls.rotation_matrix group r.left.now (Outcomes.tolerance r)))))
    (cond (eqb r.call 13) (Some (Outcomes.of_values (So3Outcomes.element (Calls.inverse group Elements.values r.left.now (Outcomes.tolerance r)))))
    (cond (eqb r.call 14) (Some (Outcomes.of_values (matrix (Calls.inverse_jacobian group matrix_values r.left.now (Outcomes.tolerance r)))))
    (cond (eqb r.call 15) (Some (Outcomes.of_values (So3Outcomes.element (Calls.compose group Elements.values r.left.now r.right.now (Outcomes.tolerance r)))))
    (cond (eqb r.call 16) (Some (Outcomes.of_values (matrix (Calls.compose_jacobian_self group matrix_values (λ m. m) r.left.now r.right.now (Outcomes.tolerance r)))))
    (cond (eqb r.call 17) (Some (Outcomes.of_values (matrix (Calls.compose_jacobian_other group matrix_values r.left.now r.right.now (Outcomes.tolerance r)))))
    None)))))))

-- the logarithm of a rotation, and what a rotation acts on
unfoldable pub rotation_log_call : Request → Option (List ℕ)
rotation_log_call r =
    cond (eqb r.call 18) (Some (Outcomes.of_values (So3Outcomes.tangent (Calls.log group tangents Tangents.values r.left.now (Outcomes.tolerance r)))))
    (cond (eqb r.call 19) (Some (Outcomes.of_values (So3Outcomes.tangent (Calls.log group tangents Tangents.values r.left.now (Outcomes.tolerance r)))))
    (cond (eqb r.call 20) (Some (Outcomes.of_values (matrix (So3Calls.log_jacobian r.left.now (Outcomes.tolerance r)))))
    (cond (eqb r.call 21) (Some (Outcomes.of_values (vector (Calls.act group r.left.now r.right.now (Outcomes.tolerance r)))))
    (cond (eqb r.call 22) (Some (Outcomes.of_values (matrix (Calls.act_jacobian_self group matrix_values r.left.now r.right.now (Outcomes.tolerance r)))))
    (cond (eqb r.call 23) (Some (Outcomes.of_values (matrix (Calls.act_jacobian_vector group r.left.now r.right.now (Outcomes.tolerance r)))))
    (cond (eqb r.call 24) (Some (Outcomes.of_values (matrix (Calls.adjoint group matrix_values (λ m. m) r.left.now (Outcomes.tolerance r)))))
    (cond (eqb r.call 25) (Some (Outcomes.of_values (So3Outcomes.element (Calls.normalize group Elements.values r.left.now (Outcomes.tolerance r)))))
    None)))))))

-- the exponential of a tangent of the rotations, and its Jacobians
unfoldable pub rotation_exp_call : Request → Option (List ℕ)
rotation_exp_call r =
    cond (eqb r.call 26) (Some (Outcomes.of_values (So3Outcomes.element (Calls.exp tangents Elements.values r.left.now))))
    (cond (eqb r.call 27) (Some (Outcomes.of_values (matrix (So3Calls.right_jacobian r.left.now))))
    (cond (eqb r.call 28) (Some (Outcomes.of_values (matrix (So3Calls.left_jacobian r.left.now))))
    (cond (eqb r.call 29) (Some (Outcomes.of_values (matrix (So3Calls.right_jacobian r.left.now))))
    (cond (eqb r.call 30) (Some (Outcomes.of_values (matrix (So3Calls.left_jacobian_inv r.left.now))))
    (cond (eqb r.call 31) (Some (Outcomes.of_values (matrix (So3Calls.right_jacobian_inv r.left.now))))
    None)))))

-- the algebra of the rotations, and what takes no block
unfoldable pub rotation_tangent_call : Request → Option (List ℕ)
rotation_tangent_call r =
    cond (eqb r.call 32) (Some (Outcomes.of_values (matrix (Calls.hat tangents matrix_values r.left.now))))
    (cond (eqb r.call 33) (Some (Outcomes.of_values (matrix (Calls.small_adj tangents matrix_values r.left.now))))
    (cond (eqb r.call 34) (Some (Outcomes.of_values (So3Outcomes.tangent (Calls.lie_bracket tangents Tangents.values r.left.now r.right.now))))
    (cond (eqb r.call 35) (Some (Outcomes.of_values (So3Outcomes.tangent (Calls.normalize_tangent tangents Tangents.values r.left.now))))
    (cond (eqb r.call 36) (Some (Outcomes.of_values (So3Outcomes.tangent (Calls.normalized_tangent tangents Tangents.values r.left.now))))
    (cond (eqb r.call 37) (Some (Outcomes.of_values (matrix (answered matrix_values (Tangents.generator r.extra)))))
    (cond (eqb r.call 38) (Some (Outcomes.of_values (So3Outcomes.tangent (answered Tangents.values Tangents.zero))))
    (cond (eqb r.call 39) (Some (Outcomes.of_values (So3Outcomes.element (answered Elements.values Elements.identity))))
    None)))))))

-- plus of a rotation and a tangent, from either side
unfoldable pub rotation_plus_call : Request → Option (List ℕ)
rotation_plus_call r =
    cond (eqb r.call 40) (Some (Outcomes.of_values (So3Outcomes.element (Calls.right_plus group tangents Elements.values r.left.now r.right.now (Outcomes.tolerance r)))))
    (cond (eqb r.call 41) (Some (Outcomes.of_values (matrix (Calls.right_plus_jacobian_self group tangents matrix_values (λ m. m) r.left.now r.right.now (Outcomes.tolerance r)))))
    (cond (eqb r.call 42) (Some (Outcomes.of_values (matrix (So3Calls.right_plus_jacobian_tangent r.left.now r.right.now (Outcomes.tolerance r)))))
    (cond (eqb r.call 43) (Some (Outcomes.of_values (So3Outcomes.element (Calls.left_plus group tangents Elements.values r.left.now r.right.now (Outcomes.tolerance r)))))
    (cond (eqb r.call 44) (Some (Outcomes.of_values (matrix (So3Calls.left_plus_jacobian_tangent r.left.now r.right.now (Outcomes.tolerance r)))))
    (cond (eqb r.call 45) (Some (Outcomes.of_values (matrix (Calls.left_plus_jacobian_self group tangents matrix_values r.left.now r.right.now (Outcomes.tolerance r)))))
    None)))))

-- minus of two rotations, from either side
unfoldable pub rotation_minus_call : Request → Option (List ℕ)
rotation_minus_call r =
    cond (eqb r.call 46) (Some (Outcomes.of_values (So3Outcomes.tangent (Calls.right_minus group tangents Tangents.values r.left.now r.right.now (Outcomes.tolerance r)))))
    (cond (eqb r.call 47) (Some (Outcomes.of_values (matrix (So3Calls.right_minus_jacobian_self r.left.now r.right.now (Outcomes.tolerance r)))))
    (cond (eqb r.call 48) (Some (Outcomes.of_values (matrix (So3Calls.right_minus_jacobian_other r.left.now r.right.now (Outcomes.tolerance r)))))
    (cond (eqb r.call 49) (Some (Outcomes.of_values (So3Outcomes.tangent (Calls.left_minus group tangents Tangents.values r.left.now r.right.now (Outcomes.tolerance r)))))
    (cond (eqb r.call 50) (Some (Outcomes.of_values (matrix (So3Calls.left_minus_jacobian_self r.left.now r.right.now (Outcomes.tolerance r)))))
    (cond (eqb r.call 51) (Some (Outcomes.of_values (matrix (So3Calls.left_minus_jacobian_other r.left.now r.right.now (Outcomes.tolerance r)))))
    None)))))

-- what leads from one rotation to another; plus and minus of rotations by their short names
unfoldable pub rotation_between_call : Request → Option (List ℕ)
rotation_between_call r =
    cond (eqb r.call 52) (Some (Outcomes.of_values (So3Outcomes.element (Calls.between group Elements.values r.left.now r.right.now (Outcomes.tolerance r)))))
    (cond (eqb r.call 53) (Some (Outcomes.of_values (matrix (Calls.between_jacobian_self group matrix_values (λ m. m) Matrices.neg r.left.now r.right.now (Outcomes.tolerance r)))))
    (cond (eqb r.call 54) (Some (Outcomes.of_values (matrix (Calls.compose_jacobian_other group matrix_values r.left.now r.right.now (Outcomes.tolerance r)))))
    (cond (eqb r.call 55) (Some (Outcomes.of_values (So3Outcomes.element (Calls.right_plus group tangents Elements.values r.left.now r.right.now (Outcomes.tolerance r)))))
    (cond (eqb r.call 56) (Some (Outcomes.of_values (matrix (Calls.right_plus_jacobian_self group tangents matrix_values (λ m. m) r.left.now r.right.now (Outcomes.tolerance r)))))
    (cond (eqb r.call 57) (Some (Outcomes.of_values (matrix (So3Calls.right_plus_jacobian_tangent r.left.now r.right.now (Outcomes.tolerance r)))))
    (cond (eqb r.call 58) (Some (Outcomes.of_values (So3Outcomes.tangent (Calls.right_minus group tangents Tangents.values r.left.now r.right.now (Outcomes.tolerance r)))))
    (cond (eqb r.call 59) (Some (Outcomes.of_values (matrix (So3Calls.right_minus_jacobian_self r.left.now r.right.now (Outcomes.tolerance r)))))
    (cond (eqb r.call 60) (Some (Outcomes.of_values (matrix (So3Calls.right_minus_jacobian_other r.left.now r.right.now (Outcomes.tolerance r)))))
    None))))))))

-- sine and cosine, of one value
unfoldable pub sine_call : Request → Option (List ℕ)
sine_call r =
    cond (eqb (length r.left.now) 1)
    (cond (eqb r.call 61) (Some (Outcomes.of_values (number (So3Calls.sine (get_or r.left.now 0 nan)))))
    (cond (eqb r.call 62) (Some (Outcomes.of_values (number (So3Calls.cosine (get_or r.left.now 0 nan)))))
    None))
    None

-- the half-angle of a rotation
unfoldable pub half_angle_call : Request → Option (List ℕ)
half_angle_call r = cond (eqb r.call 63) (Some (Outcomes.of_values (number (So3Calls.half_angle r.left.now (Outcomes.tolerance r))))) None

unfoldable pub answer : Request → Option (List ℕ)
answer r =
    cond (ltb r.call 18) (rotation_call r)
    (cond (ltb r.call 26) (rotation_log_call r)
    (cond (ltb r.call 32) (rotation_exp_call r)
    (cond (ltb r.call 40) (rotation_tangent_call r)
    (cond (ltb r.call 46) (rotation_plus_call r)
    (cond (ltb r.call 52) (rotation_minus_call r)
    (cond (ltb r.call 61) (rotation_between_call r)
    (cond (ltb r.call 63) (sine_call r)
    (half_angle_call r))))))))

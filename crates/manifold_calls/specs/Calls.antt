-- The calls on blocks, of any group and its tangents: each checks its blocks, and answers with the operation of its name or with the refusal that is
-- tried first. `values` lists the values of what is answered. Definitions only.
use Rattle.std.specs.Prelude.{Bool, List, Result, Ok, Float}
use Rattle.checks.specs.Checks.{and_then, both, check_values}
use Rattle.checks.specs.declared.Refusal.{Refusal}
use Rattle.linear.specs.Records.{vector_values, matrix_values}
use Rattle.linear.specs.declared.Vec3.{Vec3}
use Rattle.linear.specs.declared.Mat3.{Mat3}
use Rattle.manifold.specs.Answers.{answered, vector_at}
use Rattle.manifold.specs.Group.{Group, Tangents, from_param_slice, try_from_param_slice, try_from_slice, within_turn}
use Rattle.manifold.specs.Operations as Operations

-- a vector's three values
unfoldable pub vector : List Float → Result Vec3 Refusal
vector s = and_then (check_values s 3) (λ _. Ok (vector_at s 0))

module _ {G T J P D : Type 0} (g : Group G T J P D) where
  -- ---- the element of a block, or of each of two
  abbrev pub element : List Float → Float → Result G Refusal
  element s tolerance = try_from_param_slice g s tolerance

  abbrev pub elements : List Float → List Float → Float → Result (G × G) Refusal
  elements left right tolerance = both (element left tolerance) (element right tolerance)

  abbrev pub element_and_vector : List Float → List Float → Float → Result (G × Vec3) Refusal
  element_and_vector block s tolerance = both (element block tolerance) (vector s)

  -- ---- elements
  -- any values, and any tolerance
  unfoldable pub is_valid : List Float → Float → Result Bool Refusal
  is_valid block tolerance = and_then (from_param_slice g block) (λ a. Ok (g.is_valid a tolerance))

  unfoldable pub inverse_answer : (G → List Float) → Result G Refusal → Result G Refusal
  inverse_answer values answer = and_then answer (λ a. answered values (g.inverse a))

  unfoldable pub inverse : (G → List Float) → List Float → Float → Result G Refusal
  inverse values block tolerance = inverse_answer values (element block tolerance)

  -- of two answers, or of a chain so far and a block
  unfoldable pub compose_answers : (G → List Float) → Result G Refusal → Result G Refusal → Result G Refusal
  compose_answers values left right = and_then (both left right) (λ p. answered values (g.compose p.0 p.1))

  unfoldable pub compose : (G → List Float) → List Float → List Float → Float → Result G Refusal
  compose values left right tolerance = compose_answers values (element left tolerance) (element right tolerance)

  unfoldable pub normalize : (G → List Float) → List Float → Float → Result G Refusal
  normalize values block tolerance = and_then (element block tolerance) (λ a. answered values (g.normalize a))

  unfoldable pub act : List Float → List Float → Float → Result Vec3 Refusal
  act block s tolerance = and_then (element_and_vector block s tolerance) (λ p. answered vector_values (g.act p.0 p.1))

  unfoldable pub rotation_matrix : List Float → Float → Result Mat3 Refusal
  rotation_matrix block tolerance = and_then (element block tolerance) (λ a. answered matrix_values (g.rotation_matrix a))

  -- ---- their Jacobians
  -- the short form of the adjoint, and the adjoint opened
  unfoldable pub short_adjoint : (D → List Float) → List Float → Float → Result D Refusal
  short_adjoint values block tolerance = and_then (element block tolerance) (λ a. answered values (g.adjoint a))

  unfoldable pub adjoint : (J → List Float) → (D → J) → List Float → Float → Result J Refusal
  adjoint values opened block tolerance = and_then (element block tolerance) (λ a. answered values (opened (g.adjoint a)))

  unfoldable pub inverse_jacobian : (J → List Float) → List Float → Float → Result J Refusal
  inverse_jacobian values block tolerance = and_then (element block tolerance) (λ a. answered values (g.inverse_jacobian a))

  -- of compose with respect to its left operand, which is an adjoint, its short form and opened; and to its right one
  unfoldable pub short_compose_jacobian_self : (D → List Float) → List Float → List Float → Float → Result D Refusal
  short_compose_jacobian_self values left right tolerance = and_then (elements left right tolerance) (λ p. answered values (g.compose_jacobian_self p.0 p.1))

  unfoldable pub compose_jacobian_self : (J → List Float) → (D → J) → List Float → List Float → Float → Result J Refusal
  compose_jacobian_self values opened left right tolerance = and_then (elements left right tolerance) (λ p. answered values (opened (g.compose_jacobian_self p.0 p.1)))

  unfoldable pub compose_jacobian_other : (J → List Float) → List Float → List Float → Float → Result J Refusal
  compose_jacobian_other values left right tolerance = and_then (elements left right tolerance) (λ _. answered values g.jacobian_identity)

  -- of act with respect to the element, and to the vector
  unfoldable pub act_jacobian_self : (P → List Float) → List Float → List Float → Float → Result P Refusal
  act_jacobian_self values block s tolerance = and_then (element_and_vector block s tolerance) (λ p. answered values (g.act_jacobian_self p.0 p.1))

  unfoldable pub act_jacobian_vector : List Float → List Float → Float → Result Mat3 Refusal
  act_jacobian_vector block s tolerance = and_then (element_and_vector block s tolerance) (λ p. answered matrix_values (g.rotation_matrix p.0))

  -- ---- between
  unfoldable pub between : (G → List Float) → List Float → List Float → Float → Result G Refusal
  between values left right tolerance = and_then (elements left right tolerance) (λ p. answered values (Operations.between g p.0 p.1))

  unfoldable pub between_jacobian_self : (J → List Float) → (D → J) → (J → J) → List Float → List Float → Float → Result J Refusal
  between_jacobian_self values opened neg left right tolerance = and_then (elements left right tolerance) (λ p. answered values (Operations.between_jacobian_self g opened neg p.0 p.1))

module _ {G T J A : Type 0} (h : Tangents G T J A) where
  -- ---- tangents
  abbrev pub tangent : List Float → Result T Refusal
  tangent s = try_from_slice h s

  abbrev pub two_tangents : List Float → List Float → Result (T × T) Refusal
  two_tangents left right = both (tangent left) (tangent right)

  -- refused where the turn is too large
  unfoldable pub within_exp : List Float → Result T Refusal
  within_exp block = and_then (tangent block) (within_turn h)

  unfoldable pub exp : (G → List Float) → List Float → Result G Refusal
  exp values block = and_then (within_exp block) (λ t. answered values (h.exp t))

  unfoldable pub hat : (A → List Float) → List Float → Result A Refusal
  hat values block = and_then (tangent block) (λ t. answered values (h.hat t))

  unfoldable pub small_adj : (J → List Float) → List Float → Result J Refusal
  small_adj values block = and_then (tangent block) (λ t. answered values (h.small_adj t))

  unfoldable pub lie_bracket : (T → List Float) → List Float → List Float → Result T Refusal
  lie_bracket values left right = and_then (two_tangents left right) (λ p. answered values (h.lie_bracket p.0 p.1))

  unfoldable pub normalize_tangent : (T → List Float) → List Float → Result T Refusal
  normalize_tangent values block = and_then (tangent block) (λ t. answered values (h.normalize t))

  unfoldable pub normalized_tangent : (T → List Float) → List Float → Result T Refusal
  normalized_tangent values block = and_then (tangent block) (λ t. answered values (h.normalized t))

module _ {G T J P D A : Type 0} (g : Group G T J P D) (h : Tangents G T J A) where
  -- ---- log: refused where the turn of its answer is too large
  unfoldable pub within_log : List Float → Float → Result T Refusal
  within_log block tolerance = and_then (element g block tolerance) (λ a. within_turn h (g.log a))

  unfoldable pub log : (T → List Float) → List Float → Float → Result T Refusal
  log values block tolerance = and_then (within_log block tolerance) (answered values)

  -- ---- minus: refused where the turn of its answer is too large
  unfoldable pub within_right_minus : List Float → List Float → Float → Result T Refusal
  within_right_minus left right tolerance = and_then (elements g left right tolerance) (λ p. within_turn h (Operations.right_minus g p.0 p.1))

  -- with the right element, which the Jacobians need
  unfoldable pub within_left_minus : List Float → List Float → Float → Result (T × G) Refusal
  within_left_minus left right tolerance = and_then (elements g left right tolerance) (λ p. and_then (within_turn h (Operations.left_minus g p.0 p.1)) (λ t. Ok (t, p.1)))

  unfoldable pub right_minus : (T → List Float) → List Float → List Float → Float → Result T Refusal
  right_minus values left right tolerance = and_then (within_right_minus left right tolerance) (answered values)

  unfoldable pub left_minus : (T → List Float) → List Float → List Float → Float → Result T Refusal
  left_minus values left right tolerance = and_then (within_left_minus left right tolerance) (λ p. answered values p.0)

  -- ---- plus: refused where the turn of its tangent is too large
  abbrev pub element_and_tangent : List Float → List Float → Float → Result (G × T) Refusal
  element_and_tangent block s tolerance = both (element g block tolerance) (tangent h s)

  unfoldable pub within_plus : List Float → List Float → Float → Result (G × T) Refusal
  within_plus block s tolerance = and_then (element_and_tangent block s tolerance) (λ p. and_then (within_turn h p.1) (λ t. Ok (p.0, t)))

  unfoldable pub right_plus : (G → List Float) → List Float → List Float → Float → Result G Refusal
  right_plus values block s tolerance = and_then (within_plus block s tolerance) (λ p. answered values (Operations.right_plus g h p.0 p.1))

  -- its Jacobian, an adjoint, its short form and opened
  unfoldable pub short_right_plus_jacobian_self : (D → List Float) → List Float → List Float → Float → Result D Refusal
  short_right_plus_jacobian_self values block s tolerance = and_then (within_plus block s tolerance) (λ p. answered values (Operations.right_plus_jacobian_self g h p.0 p.1))

  unfoldable pub right_plus_jacobian_self : (J → List Float) → (D → J) → List Float → List Float → Float → Result J Refusal
  right_plus_jacobian_self values opened block s tolerance = and_then (within_plus block s tolerance) (λ p. answered values (opened (Operations.right_plus_jacobian_self g h p.0 p.1)))

  unfoldable pub left_plus : (G → List Float) → List Float → List Float → Float → Result G Refusal
  left_plus values block s tolerance = and_then (within_plus block s tolerance) (λ p. answered values (Operations.left_plus g h p.0 p.1))

  unfoldable pub left_plus_jacobian_self : (J → List Float) → List Float → List Float → Float → Result J Refusal
  left_plus_jacobian_self values block s tolerance = and_then (within_plus block s tolerance) (λ _. answered values g.jacobian_identity)

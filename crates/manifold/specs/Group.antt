-- What the calls need of a group: its operations, and how blocks of numbers stand for its elements and tangents. SO(3)'s and SGal(3)'s are in
-- so3/specs/Group.antt and sgal3/specs/Group.antt. Definitions only.
use Rattle.std.specs.Prelude.{ℕ, Bool, List, Result, Ok, Float}
use Rattle.checks.specs.Checks.{Check, and_then, check_length, check_values, check_param_block}
use Rattle.checks.specs.declared.Refusal.{Refusal}
use Rattle.linear.specs.declared.Vec3.{Vec3}
use Rattle.linear.specs.declared.Mat3.{Mat3}
use Rattle.manifold.specs.Answers.{within}

-- a group of elements G with tangents T; its Jacobians are matrices J, that of act with respect to the element a matrix P; the short form of an adjoint is a D
pub record Group (G T J P D : Type 0) : Type 0 where
  -- a block of so many values, the place of its quaternion, and the element of any such values
  pub rep_size : ℕ
  pub quaternion_place : ℕ
  pub element_of : List Float → G
  pub identity : G
  pub compose : G → G → G
  pub inverse : G → G
  pub log : G → T
  pub act : G → Vec3 → Vec3
  pub rotation_matrix : G → Mat3
  pub normalize : G → G
  pub is_valid : G → Float → Bool
  pub jacobian_identity : J
  pub adjoint : G → D
  pub inverse_jacobian : G → J
  -- of compose a b with respect to a, of act a p with respect to a
  pub compose_jacobian_self : G → G → D
  pub act_jacobian_self : G → Vec3 → P

-- tangents T of a group of elements G; a tangent as a matrix is an A, its adjoint a J
pub record Tangents (G T J A : Type 0) : Type 0 where
  -- a block of so many values, and the tangent of any such values
  pub dim : ℕ
  pub tangent_of : List Float → T
  pub zero : T
  pub exp : T → G
  -- whether its turn is too large for a call
  pub turn_too_large : T → Bool
  pub hat : T → A
  -- of place i of a tangent
  pub generator : ℕ → A
  pub small_adj : T → J
  pub lie_bracket : T → T → T
  pub normalize : T → T
  pub normalized : T → T

-- ---- blocks
unfoldable pub validate_params : {G T J P D : Type 0} → Group G T J P D → List Float → Float → Check
validate_params g s tolerance = check_param_block s g.rep_size g.quaternion_place tolerance

-- the element of any values: a wrong length alone is refused
unfoldable pub from_param_slice : {G T J P D : Type 0} → Group G T J P D → List Float → Result G Refusal
from_param_slice g s = and_then (check_length s g.rep_size) (λ _. Ok (g.element_of s))

-- the element of a block, or why the block is refused
unfoldable pub try_from_param_slice : {G T J P D : Type 0} → Group G T J P D → List Float → Float → Result G Refusal
try_from_param_slice g s tolerance = and_then (validate_params g s tolerance) (λ _. Ok (g.element_of s))

-- the tangent of a block, or why the block is refused
unfoldable pub try_from_slice : {G T J A : Type 0} → Tangents G T J A → List Float → Result T Refusal
try_from_slice t s = and_then (check_values s t.dim) (λ _. Ok (t.tangent_of s))

-- the tangent itself, where its turn is not too large: the turn test of exp, plus, log and minus, and of their Jacobians
unfoldable pub within_turn : {G T J A : Type 0} → Tangents G T J A → T → Result T Refusal
within_turn t a = and_then (within (t.turn_too_large a)) (λ _. Ok a)

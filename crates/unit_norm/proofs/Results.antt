-- What the operations make of quaternions that the check accepted, at any tolerance: their squared norms are within 2 ^ -46 of 1, and the check at 1e-6
-- accepts them. Assumes nothing.
use Prim.Native.Nat.{ℕ, ◌+◌, ◌*◌, ◌^◌, ◌≤◌}
use mathlib.Core.Path.{◌≡◌}
use native.Mathlib.Omega.{arith}
use native.Mathlib.Nat.{le_trans}
use lib.Dec.{T, lit≤}
use lib.Ieee.{Float, binary64, fits, of_bits}
use Rattle.float.specs.Exact.{count}
use Rattle.rounding.specs.Number.{one}
use Rattle.rounding.specs.Error.{Within}
use Rattle.rounding.proofs.Laws.{neg-number, neg-count}
use Rattle.checks.specs.Checks.{passed, quaternion_norm_tolerance, check_unit_quaternion}
use Rattle.law.specs.Quaternion as Quaternion
use Rattle.law.specs.Quaternion.{Quaternion}
use Rattle.law.specs.Rotation as Rotation
use Rattle.law.specs.Rounded.{rounded}
use Rattle.unit_norm.specs.SquaredNorm.{squared_norm, SquaredNormNearOne}
use Rattle.unit_norm.proofs.Sums.{tiny}
use Rattle.unit_norm.proofs.Norms.{Numbers}
use Rattle.unit_norm.proofs.Unit.{RoughlyOne, Unit, roughly-one, normalized}
use Rattle.unit_norm.proofs.Product.{multiplied}
use Rattle.unit_norm.proofs.Accepted.{coefficients, accepted-numbers, accepted-roughly-one, near-accepted}

-- ---- accepted: four numbers, whose squared norm is within 1 / 32 of 1
pub record Accepted (q : Quaternion Float) : Type 0 where
  pub numbers : Numbers q
  pub roughly_one : RoughlyOne (squared_norm q)

pub accepted : {q : Quaternion Float} (t : Float) → T (fits binary64 q.w) → T (fits binary64 q.x) → T (fits binary64 q.y) → T (fits binary64 q.z)
    → check_unit_quaternion (coefficients q) t ≡ passed → Accepted q
accepted {q} t w x y z h = let Q = accepted-numbers {q = q} t w x y z h in record { numbers = Q; roughly_one = accepted-roughly-one t Q h }

-- ---- made by an operation
abbrev pub Made : Quaternion Float → Type 0
Made q = Unit 101 q

pub made-accepted : {q : Quaternion Float} → Made q → Accepted q
made-accepted U = record { numbers = U.numbers; roughly_one = roughly-one (lit≤ tt) U.near }

pub made-near-one : {q : Quaternion Float} → Made q → SquaredNormNearOne q
unfolding one tiny
made-near-one {q} U = record { over = le_trans U.near.over (more (2 ^ 2148) (101 * 2 ^ 2095) (2 ^ 2102) (lit≤ tt)); under = le_trans U.near.under (more (squared_norm q) (101 * 2 ^ 2095) (2 ^ 2102) (lit≤ tt)) }
  where
    more : (a b c : ℕ) → b ≤ c → a + b ≤ a + c
    more a b c h = omega arith

pub made-passes : {q : Quaternion Float} → Made q → check_unit_quaternion (coefficients q) quaternion_norm_tolerance ≡ passed
made-passes {q} U = near-accepted U.numbers (wider (squared_norm q) (one * one) tiny U.near)
  where
    wider : (s q t : ℕ) → Within s q (101 * t) → Within s q (128 * t)
    wider s q t w = record { over = omega (arith, w.over); under = omega (arith, w.under) }

-- ---- the operations
pub unit : {q : Quaternion Float} → Accepted q → Unit 28 (Rotation.unit_quaternion rounded q)
unfolding Rotation.unit_quaternion
unit A = normalized A.numbers A.roughly_one

pub unit-accepted : {q : Quaternion Float} → Unit 28 q → Accepted q
unit-accepted U = record { numbers = U.numbers; roughly_one = roughly-one (lit≤ tt) U.near }

pub unit-made : {q : Quaternion Float} → Unit 28 q → Made q
unit-made {q} U = let w = wider (squared_norm q) (one * one) tiny U.near in record { numbers = U.numbers; near = w }
  where
    wider : (s q t : ℕ) → Within s q (28 * t) → Within s q (101 * t)
    wider s q t w = record { over = omega (arith, w.over); under = omega (arith, w.under) }

pub product : {p q : Quaternion Float} → Unit 28 p → Unit 28 q → Made (Quaternion.mul rounded p q)
product P Q = multiplied P Q

pub conjugate : {q : Quaternion Float} → Unit 28 q → Unit 28 (Quaternion.conjugate rounded q)
unfolding Quaternion.conjugate squared_norm
conjugate {q} U =
    record {
      numbers = record { w = U.numbers.w; x = neg-number U.numbers.x; y = neg-number U.numbers.y; z = neg-number U.numbers.z };
      near = rw (neg-count q.x, neg-count q.y, neg-count q.z) U.near;
    }

pub identity : Made (Quaternion.identity rounded)
unfolding Quaternion.identity squared_norm of_bits fits count one tiny
identity =
    record {
      numbers = record { w = record { is_binary64 = tt; is_finite = tt }; x = record { is_binary64 = tt; is_finite = tt }; y = record { is_binary64 = tt; is_finite = tt }; z = record { is_binary64 = tt; is_finite = tt } };
      near = record { over = lit≤ tt; under = lit≤ tt };
    }

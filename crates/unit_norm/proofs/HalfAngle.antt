-- The sine and the cosine of half the angle, as log reads them off a quaternion whose squared norm is within 1 / 32 of 1: two numbers from 0 to 2 whose sum
-- is at least 1 / 2. The same holds of what is accepted, normalised once or twice. Assumes nothing.
use Prim.Native.Nat.{ℕ, ◌+◌, ◌*◌, ◌≤◌}
use mathlib.Core.Path.{◌≡◌, sym, subst}
use native.Mathlib.Omega.{arith}
use lib.Dec.{lit≤}
use lib.Ieee.{Float}
use Rattle.whole_roots.specs.Roots.{square}
use Rattle.float.specs.Exact.{count}
use Rattle.rounding.specs.Number.{one}
use Rattle.rounding.proofs.Laws.{exact-size, magnitude-number, magnitude-sign, magnitude-count}
use Rattle.checks.proofs.NearOne.{le-of-square}
use Rattle.law.specs.Quaternion as Quaternion
use Rattle.law.specs.Quaternion.{Quaternion}
use Rattle.law.specs.Rotation as Rotation
use Rattle.law.specs.Rounded.{rounded}
use Rattle.unit_norm.specs.SquaredNorm.{squared_norm}
use Rattle.unit_norm.specs.HalfAngle.{half_sine, half_cosine, SineCosineOf}
use Rattle.unit_norm.proofs.Sums.{tiny, tiny-few}
use Rattle.unit_norm.proofs.Norms.{exactly, vector_squares, vector-near}
use Rattle.unit_norm.proofs.Unit.{normed, at-most-two, coarse}
use Rattle.unit_norm.proofs.Results.{Accepted, unit, unit-accepted}

-- w is the square of the cosine, v the sum of the squares of the vector part
apart : (q : Quaternion Float) → squared_norm q ≡ square (count q.w) + vector_squares (exactly q)
unfolding squared_norm
apart q = rw (exact-size q.x, exact-size q.y, exact-size q.z) (omega arith)

part-high : (w v s q : ℕ) → s ≡ w + v → 32 * s ≤ 33 * q → (32 * w ≤ 33 * q) × (32 * v ≤ 33 * q)
part-high w v s q e h = (omega arith, omega arith)

two : (c o : ℕ) → 32 * square c ≤ 33 * (o * o) → c ≤ 2 * o
two c o h = le-of-square c (2 * o) (omega arith)

-- n is the square of the sine
sum-low : (w n v s q t : ℕ) → s ≡ w + v → v ≤ n + 9 * t → 31 * q ≤ 32 * s → 96 * t ≤ q → q ≤ 4 * (w + n)
sum-low w n v s q t e h k l = omega arith

-- (c + r)² is no less than c² + r²
half-one : (c r o : ℕ) → o * o ≤ 4 * (square c + square r) → o ≤ 2 * (c + r)
half-one c r o h = le-of-square o (2 * (c + r)) (omega arith)

pub sine-cosine : {u : Quaternion Float} → Accepted u → SineCosineOf u
unfolding half_sine half_cosine
sine-cosine {u} A =
    let s = squared_norm u in
    let w = square (count u.w) in
    let v = vector_squares (exactly u) in
    let h = A.roughly_one in
    let p = part-high w v s (one * one) (apart u) h.high in
    let S = normed (vector-near A.numbers (coarse s (one * one) h.high)) p.1 in
    let n = count (half_sine u) in
    let sum = half-one (count u.w) n one (sum-low w (square n) v s (one * one) tiny (apart u) S.near.under h.low (tiny-few 96 (lit≤ tt))) in
    let least : one ≤ 2 * (count (half_cosine u) + n) = subst (λ (c : ℕ). one ≤ 2 * (c + n)) (sym (magnitude-count u.w)) sum in
    record {
      sine_number = S.number;
      sine_sign = S.sign;
      sine_most = at-most-two S p.1;
      cosine_number = magnitude-number A.numbers.w;
      cosine_sign = magnitude-sign u.w;
      cosine_most = rw (magnitude-count u.w) (two (count u.w) one p.0);
      least = least;
    }

-- ---- what is accepted, normalised: once, as log of SO(3) does, and twice, as that of SGal(3) does
pub unit-sine-cosine : {q : Quaternion Float} → Accepted q → SineCosineOf (Rotation.unit_quaternion rounded q)
unit-sine-cosine A = sine-cosine (unit-accepted (unit A))

pub normalized-sine-cosine : {q : Quaternion Float} → Accepted q → SineCosineOf (Rotation.unit_quaternion rounded (Quaternion.normalize rounded q))
unfolding Rotation.unit_quaternion
normalized-sine-cosine A = unit-sine-cosine (unit-accepted (unit A))

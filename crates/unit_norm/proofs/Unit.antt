-- A quaternion whose squared norm is within 1 / 32 of 1, divided by its computed norm: the squared norm is then within 28 * 2 ^ -53 of 1. Assumes nothing.
use Prim.Native.Nat.{ℕ, zero, suc, ◌+◌, ◌*◌, ◌^◌, ◌≤◌, ◌<◌}
use mathlib.Core.Path.{◌≡◌, refl, sym, ap, ◌∙◌, subst}
use mathlib.Core.Bool.{false}
use mathlib.Core.Logic.{inl, inr}
use native.Mathlib.Nat.{eq-zero-or-pos, le_trans, le_of_eq, zero-lt-suc, mul-pos, mul-mul-mul_comm, mul-le-mul, mul-le-mul_right, mul-le-mul_left, le_of_mul-le-mul_right}
use native.Mathlib.Omega.{arith}
use lib.Dec.{lit≤}
use lib.Ieee.{Float, binary64, div}
use Rattle.whole_roots.specs.Roots.{square}
use Rattle.float.specs.Exact.{count, negative}
use Rattle.float.specs.Root.{square_root}
use Rattle.rounding.specs.Number.{Number, one}
use Rattle.rounding.specs.Error.{Within}
use Rattle.rounding.proofs.Laws.{one-pos, one-limit, div-number, div-error, sqrt-root, root-squared, root-zero}
use Rattle.checks.proofs.NearOne.{le-of-square}
use Rattle.law.specs.Quaternion as Quaternion
use Rattle.law.specs.Quaternion.{Quaternion}
use Rattle.law.specs.Rounded.{rounded}
use Rattle.unit_norm.specs.SquaredNorm.{squared_norm}
use Rattle.unit_norm.proofs.Sums.{tiny, slack, tiny-one, one-tiny, tiny-few}
use Rattle.unit_norm.proofs.Norms.{Numbers, SumOfSquares, norm_squared-near}

-- a squared norm within 1 / 32 of 1
pub record RoughlyOne (s : ℕ) : Type 0 where
  pub high : 32 * s ≤ 33 * (one * one)
  pub low : 31 * (one * one) ≤ 32 * s

-- ---- the root of the rounded sum: n is its square, v the sum
pub record Norm (s : ℕ) (z : Float) : Type 0 where
  pub number : Number z
  pub sign : negative z ≡ false
  pub near : Within (count z * count z) s (9 * tiny)

root-over : (n v s t : ℕ) → 2 ^ 53 * n ≤ 2 ^ 53 * v + 3 * n → 2 ^ 53 * v ≤ 2 ^ 53 * s + (4 * s + 7 * (2 ^ 10 * t)) → 32 * s ≤ 33 * (2 ^ 53 * t) → n ≤ s + 9 * t
root-over n v s t h k l = omega arith

root-under : (n v s t : ℕ) → 2 ^ 53 * v ≤ 2 ^ 53 * n + 3 * n → 2 ^ 53 * s ≤ 2 ^ 53 * v + (4 * s + 7 * (2 ^ 10 * t)) → n ≤ s + 9 * t → 32 * s ≤ 33 * (2 ^ 53 * t) → s ≤ n + 9 * t
root-under n v s t h k e l = omega arith

-- that of zero is zero
zero-over : (n s t : ℕ) → n ≡ 0 → square n ≤ s + 9 * t
zero-over n s t e = rw e (omega arith)

zero-under : (g o n s t : ℕ) → g ≡ 0 → 2 ^ 53 * s ≤ 2 ^ 53 * (g * o) + (4 * s + 7 * (2 ^ 10 * t)) → s ≤ n + 9 * t
zero-under g o n s t e h = let k = subst (λ (z : ℕ). 2 ^ 53 * s ≤ 2 ^ 53 * (z * o) + (4 * s + 7 * (2 ^ 10 * t))) e h in omega arith

pub normed : {s : ℕ} {g : Float} → SumOfSquares s g → 32 * s ≤ 33 * (one * one) → Norm s (square_root g)
unfolding slack
normed {s} {g} G h = elim (eq-zero-or-pos (count g)) [
  | inl e ↦
      let z = root-zero g G.number e in
      let n = count (square_root g) in
      record { number = subst Number (sym z) G.number; sign = ap negative z ∙ G.sign; near = record { over = zero-over n s tiny (ap count z ∙ e); under = zero-under (count g) one (square n) s tiny e G.near.under } }
  | inr p ↦
      let high = subst (λ (n : ℕ). 32 * s ≤ 33 * n) tiny-one h in
      let R = sqrt-root G.number G.sign p in
      let w = root-squared R.error in
      let o = root-over (square (count (square_root g))) (count g * one) s tiny w.over G.near.over high in
      record { number = R.number; sign = R.sign; near = record { over = o; under = root-under (square (count (square_root g))) (count g * one) s tiny w.under G.near.under o high } }
]

-- ---- one value: u is the quotient times the norm, v the value times one; they are at most 2 * tiny apart
quotient-over : (u v n o t : ℕ) → 2 ^ 53 * u ≤ 2 ^ 53 * v + (v + 2 ^ 52 * n) → 32 * v ≤ 33 * (2 ^ 53 * t) → n ≤ 2 * o → 2 ^ 100 * o ≤ t → u ≤ v + 2 * t
quotient-over u v n o t h l m e = omega arith

quotient-under : (u v n o t : ℕ) → 2 ^ 53 * v ≤ 2 ^ 53 * u + (v + 2 ^ 52 * n) → 32 * v ≤ 33 * (2 ^ 53 * t) → n ≤ 2 * o → 2 ^ 100 * o ≤ t → v ≤ u + 2 * t
quotient-under u v n o t h l m e = omega arith

-- q is the square of one
square-over : (u v t q : ℕ) → u ≤ v + 2 * t → 32 * v ≤ 33 * q → 96 * t ≤ q → 8 * square u ≤ 8 * square v + 34 * (t * q)
square-over u v t q h l m = omega (arith, mul-le-mul h h, mul-le-mul_left t l, mul-le-mul_left t m)

square-under : (u v t q : ℕ) → v ≤ u + 2 * t → u ≤ v + 2 * t → 32 * v ≤ 33 * q → 96 * t ≤ q → 8 * square v ≤ 8 * square u + 34 * (t * q)
square-under u v t q h g l m = omega (arith, mul-le-mul h h, mul-le-mul_left t g, mul-le-mul_left t l, mul-le-mul_left t m)

-- y, the value x divided by n
record Part (x y n : Float) : Type 0 where
  number : Number y
  near : Within (8 * (square (count y) * square (count n))) (8 * (square (count x) * (one * one))) (34 * (tiny * (one * one)))

-- the norm's size: n its square
norm-over : (n s q t : ℕ) → n ≤ s + 9 * t → 32 * s ≤ 33 * q → 96 * t ≤ q → n ≤ 4 * q
norm-over n s q t h l m = omega arith

norm-under : (n s q t : ℕ) → s ≤ n + 9 * t → 31 * q ≤ 32 * s → 480 * t ≤ q → 30 * q ≤ 32 * n
norm-under n s q t h l m = omega arith

pub at-most-two : {s : ℕ} {n : Float} → Norm s n → 32 * s ≤ 33 * (one * one) → count n ≤ 2 * one
at-most-two {s} {n} N h = le-of-square (count n) (2 * one) (le_trans (norm-over (square (count n)) s (one * one) tiny N.near.over h (tiny-few 96 (lit≤ tt))) (le_of_eq (four one)))
  where
    four : (o : ℕ) → 4 * (o * o) ≡ square (2 * o)
    four o = omega arith

module _ {n : Float} {s : ℕ} (N : Norm s n) (h : RoughlyOne s) where
  low : 30 * (one * one) ≤ 32 * square (count n)
  low = norm-under (square (count n)) s (one * one) tiny N.near.under h.low (tiny-few 480 (lit≤ tt))

  positive : 0 < count n
  positive = above (count n) (one * one) low (mul-pos one-pos one-pos)
    where
      above : (n q : ℕ) → 30 * q ≤ 32 * (n * n) → 0 < q → 0 < n
      above zero q h p = omega arith
      above (suc n) q h p = zero-lt-suc n

  part : {x : Float} → Number x → square (count x) ≤ s → Part x (div binary64 x n) n
  part {x} X l =
      let size : 32 * count x ≤ 33 * one = le-of-square (32 * count x) (33 * one) (omega (arith, l, h.high)) in
      let Y = div-number X N.number positive (le_trans (mul-le-mul_right one (at-most (count x) one (count n) size low)) (le_trans (times (count n) one) (mul-le-mul_right (count n) one-limit))) in
      let y = count (div binary64 x n) in
      let w = div-error X N.number positive Y.is_finite in
      let u = y * count n in
      let v = count x * one in
      let square-size : 32 * v ≤ 33 * (one * one) = scaled (count x) one size in
      let tiny-size : 32 * v ≤ 33 * (2 ^ 53 * tiny) = subst (λ (z : ℕ). 32 * v ≤ 33 * z) tiny-one square-size in
      let o = quotient-over u v (count n) one tiny w.over tiny-size (at-most-two N h.high) one-tiny in
      let r = quotient-under u v (count n) one tiny w.under tiny-size (at-most-two N h.high) one-tiny in
      let f = tiny-few 96 (lit≤ tt) in
      record {
        number = Y;
        near = rw (mul-mul-mul_comm y y (count n) (count n), mul-mul-mul_comm (count x) (count x) one one)
            (record { over = square-over u v tiny (one * one) o square-size f; under = square-under u v tiny (one * one) r o square-size f });
      }
    where
      scaled : (x o : ℕ) → 32 * x ≤ 33 * o → 32 * (x * o) ≤ 33 * (o * o)
      scaled x o h = omega (arith, mul-le-mul_right o h)

      at-most : (x o n : ℕ) → 32 * x ≤ 33 * o → 30 * (o * o) ≤ 32 * (n * n) → x ≤ 4 * n
      at-most x o n h l = let k = le-of-square o (2 * n) (omega arith) in omega arith

      times : (n o : ℕ) → 4 * n * o ≤ 2 ^ 100 * o * n
      times n o = omega arith

-- ---- the four together: a, b, c, d are the squares of the quotients, w, x, y, z those of the values, n that of the norm, q that of one
sum-over : (a b c d w x y z n q t s : ℕ) → 8 * (a * n) ≤ 8 * (w * q) + 34 * (t * q) → 8 * (b * n) ≤ 8 * (x * q) + 34 * (t * q) → 8 * (c * n) ≤ 8 * (y * q) + 34 * (t * q) → 8 * (d * n) ≤ 8 * (z * q) + 34 * (t * q)
    → s ≡ w + x + y + z → s ≤ n + 9 * t → 30 * q ≤ 32 * n → (a + b + c + d) * n ≤ (q + 28 * t) * n
sum-over a b c d w x y z n q t s A B C D e h l = omega (arith, ap (λ (v : ℕ). v * q) e, mul-le-mul_right q h, mul-le-mul_left t l)

sum-under : (a b c d w x y z n q t s : ℕ) → 8 * (w * q) ≤ 8 * (a * n) + 34 * (t * q) → 8 * (x * q) ≤ 8 * (b * n) + 34 * (t * q) → 8 * (y * q) ≤ 8 * (c * n) + 34 * (t * q) → 8 * (z * q) ≤ 8 * (d * n) + 34 * (t * q)
    → s ≡ w + x + y + z → n ≤ s + 9 * t → 30 * q ≤ 32 * n → q * n ≤ (a + b + c + d + 28 * t) * n
sum-under a b c d w x y z n q t s A B C D e h l = omega (arith, ap (λ (v : ℕ). v * q) e, mul-le-mul_right q h, mul-le-mul_left t l)

pub coarse : (s q : ℕ) → 32 * s ≤ 33 * q → s ≤ 2 ^ 7 * q
coarse s q h = omega arith

-- its values are numbers, and its squared norm is within k * 2 ^ -53 of 1
pub record Unit (k : ℕ) (q : Quaternion Float) : Type 0 where
  pub numbers : Numbers q
  pub near : Within (squared_norm q) (one * one) (k * tiny)

pub each : (a b c d : ℕ) → (a ≤ a + b + c + d) × (b ≤ a + b + c + d) × (c ≤ a + b + c + d) × (d ≤ a + b + c + d)
each a b c d = (omega arith, omega arith, omega arith, omega arith)

pub normalized : {q : Quaternion Float} → Numbers q → RoughlyOne (squared_norm q) → Unit 28 (Quaternion.normalize rounded q)
unfolding squared_norm Quaternion.normalize Quaternion.divide Quaternion.norm
normalized {q} Q h =
    let n = square_root (Quaternion.norm_squared rounded q) in
    let N = normed (norm_squared-near Q (coarse (squared_norm q) (one * one) h.high)) h.high in
    let l = each (square (count q.w)) (square (count q.x)) (square (count q.y)) (square (count q.z)) in
    let W = part N h Q.w l.0 in
    let X = part N h Q.x l.1 in
    let Y = part N h Q.y l.2 in
    let Z = part N h Q.z l.3 in
    let m = square (count n) in
    let P : 0 < m = mul-pos (positive N h) (positive N h) in
    record {
      numbers = record { w = W.number; x = X.number; y = Y.number; z = Z.number };
      near = record {
        over = le_of_mul-le-mul_right (sum-over _ _ _ _ (square (count q.w)) (square (count q.x)) (square (count q.y)) (square (count q.z)) m (one * one) tiny _ W.near.over X.near.over Y.near.over Z.near.over refl N.near.under (low N h)) P;
        under = le_of_mul-le-mul_right (sum-under _ _ _ _ (square (count q.w)) (square (count q.x)) (square (count q.y)) (square (count q.z)) m (one * one) tiny _ W.near.under X.near.under Y.near.under Z.near.under refl N.near.over (low N h)) P;
      };
    }

-- so it may be divided again
pub roughly-one : {k s : ℕ} → k ≤ 2 ^ 10 → Within s (one * one) (k * tiny) → RoughlyOne s
roughly-one {k} {s} l w = let m = mul-le-mul_right tiny l in record { high = high s (one * one) (k * tiny) tiny w.over m (tiny-few (2 ^ 20) (lit≤ tt)); low = low s (one * one) (k * tiny) tiny w.under m (tiny-few (2 ^ 20) (lit≤ tt)) }
  where
    high : (s q k t : ℕ) → s ≤ q + k → k ≤ 2 ^ 10 * t → 2 ^ 20 * t ≤ q → 32 * s ≤ 33 * q
    high s q k t h l m = omega arith

    low : (s q k t : ℕ) → q ≤ s + k → k ≤ 2 ^ 10 * t → 2 ^ 20 * t ≤ q → 31 * q ≤ 32 * s
    low s q k t h l m = omega arith

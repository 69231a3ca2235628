-- The rounded sums of sine and cosine at a y from 0 to 4 are close to the Taylor sums, by Close's bounds, and what is so close is near. Assumes nothing.
use mathlib.Core.Path.{◌≡◌, sym, ap, ◌∙◌, subst}
use mathlib.Core.Bool.{false}
use Prim.Native.Nat.{ℕ, ◌+◌, ◌*◌, ◌^◌, ◌≤◌, ◌<◌}
use native.Mathlib.Nat.{le_trans, le_of_eq, mul-le-mul_left, le_of_mul-le-mul_right, pow-suc}
use native.Mathlib.Omega.{arith}
use lib.Dec.{lit<}
use lib.IntN.{ℤ, pos, nat_abs, ◌-ℤ◌, ◌*ℤ◌}
use lib.Ieee.{Float}
use Rattle.float.specs.Exact.{count, negative, exact}
use Rattle.rounding.specs.Number.{Number, one, plus_part, minus_part}
use Rattle.rounding.proofs.Integers.{dist, above, below, Difference, difference-less, difference-abs, difference-times}
use Rattle.rounding.proofs.Laws.{one-pos, exact_above, exact_below}
use Rattle.rounding.proofs.Close.{error_unit, size_unit, size-error, one-size, Close, close-scale, close-same}
use Rattle.trigonometry.specs.Taylor.{factorial, denominator, Within, Near}
use Rattle.trigonometry.specs.Sines.{sine_of, cosine_of}
use Rattle.trigonometry.proofs.Terms.{total, sine_added, sine_subtracted, cosine_added, cosine_subtracted}
use Rattle.trigonometry.proofs.Totals.{sine-plus, sine-minus, sine-denominator, cosine-plus, cosine-minus, cosine-denominator}
use Rattle.trigonometry.proofs.Polynomials.{sine-polynomial, cosine-polynomial}

-- ---- 2 ^ 108 units of 2 ^ -153 are 2 ^ -45
-- (a - b) * G is near to P - M, where a * (o * G) + M * o is near to b * (o * G) + P * o
lowered : (a b G o P M e u : ℕ) → 0 < o → a * (o * G) + M * o ≤ b * (o * G) + P * o + e * (u * (o * G)) → a * G + M ≤ b * G + P + e * (u * G)
lowered a b G o P M e u p h = le_of_mul-le-mul_right {k = o} (omega (arith, h)) p

far : (x y c : ℕ) → x ≤ y + c → y ≤ x + c → dist x y ≤ c
far x y c h i = omega arith

units : (u g o G : ℕ) → g ≡ 2 ^ 53 * u → o ≡ 2 ^ 100 * g → 2 ^ 45 * (2 ^ 108 * (u * G)) ≡ o * G
units u g o G i j = rw (j, i) (omega arith)

pub denominator-is : (d : ℕ) → denominator d ≡ d * (d ^ 30 * factorial 31)
unfolding denominator
denominator-is d = ap (λ (x : ℕ). x * factorial 31) (pow-suc d 30) ∙ go (d ^ 30) d (factorial 31)
  where
    go : (A d F : ℕ) → A * d * F ≡ d * (A * F)
    go A d F = omega arith

pub denominator-pos : 0 < denominator one
unfolding denominator factorial one
denominator-pos = lit< tt

pub close-near : {f : ℕ → ℤ → ℤ} {P M m : ℕ} {x r : Float} → Difference (f one (exact x)) P M → Close (denominator one) P M (2 ^ 108) m r → Near f x r
unfolding Within
close-near {f} {P} {M} {m} {x} {r} d c =
    let G = one ^ 30 * factorial 31 in
    let s = f one (exact x) in
    let z = exact r in
    let w = denominator-is one in
    let c' = subst (λ (q : ℕ). Close q P M (2 ^ 108) m r) w c in
    let E = 2 ^ 108 * (error_unit * G) in
    let over : plus_part r * G + M ≤ minus_part r * G + P + E = lowered (plus_part r) (minus_part r) G one P M (2 ^ 108) error_unit one-pos c'.near.over in
    let under : minus_part r * G + P ≤ plus_part r * G + M + E = lowered (minus_part r) (plus_part r) G one M P (2 ^ 108) error_unit one-pos c'.near.under in
    let n : nat_abs (z *ℤ pos G -ℤ s) ≡ dist (above z * G + M) (below z * G + P) = difference-abs (z *ℤ pos G -ℤ s) (above z * G + M) (below z * G + P) (difference-less (z *ℤ pos G) s (above z * G) (below z * G) P M (difference-times z G) d) in
    let h : nat_abs (z *ℤ pos G -ℤ s) ≤ E = rw (n, exact_above r, exact_below r) (far (plus_part r * G + M) (minus_part r * G + P) E over under) in
    record { number = c.number; near = le_trans (mul-le-mul_left (2 ^ 45) h) (le_of_eq (units error_unit size_unit one G size-error one-size ∙ sym w)) }

-- ---- y not negative, and at most 4
module _ {y : Float} (Y : Number y) (sign : negative y ≡ false) (most : count y ≤ 4 * one) where
  pub sine-close : Close (denominator one) (total (count y) one sine_added) (total (count y) one sine_subtracted) (2 ^ 108) (2 ^ 105) (sine_of y)
  sine-close = let n = count y in close-same (sine-denominator n one) (sine-plus n one) (sine-minus n one) (sine-polynomial y Y sign most)

  pub cosine-close : Close (denominator one) (total (count y) one cosine_added) (total (count y) one cosine_subtracted) (2 ^ 108) (2 ^ 105) (cosine_of y)
  cosine-close = let n = count y in close-same (cosine-denominator n one) (cosine-plus n one) (cosine-minus n one) (close-scale one (cosine-polynomial y Y sign most))

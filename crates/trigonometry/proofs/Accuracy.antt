-- For every number of magnitude at most 4 sine and cosine are within 2 ^ -45 of their Taylor sums, and the sine of a zero is that zero. Sine is above 0 from
-- 2 ^ -18 to 3. Assumes nothing.
use mathlib.Core.Path.{◌≡◌, ◌∙◌, refl, sym, ap, subst}
use mathlib.Core.Bool.{Bool, true, false, not, cond}
use Prim.Native.Nat.{ℕ, zero, suc, ◌+◌, ◌*◌, ◌^◌, ◌≤◌, ◌<◌}
use native.Mathlib.Nat.{add-zero, zero-add, zero-lt-suc, mul-le-mul_right, le_of_mul-le-mul_right}
use native.Mathlib.Omega.{arith}
use lib.Dec.{T, ltb, eqb, leb→le, nltb→le, lt→ltb, eqb-suc-zero, eqb-zero-suc}
use lib.Arith.{le→nltb}
use lib.IntN.{pos}
use lib.Ieee.{Float, binary64, of_bits, neg, le, lt, eq, fits}
use lib.Ieee.Bits.{is_true, is_false}
use Rattle.float.specs.Exact.{count, negative, exact, abs}
use Rattle.rounding.specs.Number.{Number, one, plus_part, minus_part}
use Rattle.rounding.specs.Error.{Within}
use Rattle.rounding.proofs.Integers.{above, below}
use Rattle.rounding.proofs.Laws.{one-pos, zero64, zero-number, zero-sign, zero-count, parts-sum, plus-parts, minus-parts, magnitude-number, magnitude-sign, magnitude-count, lt-is, eq_is, lt-plain, le-plain}
use Rattle.rounding.proofs.Close.{error_unit, size-error, one-size, Close, close-neg}
use Rattle.trigonometry.specs.Taylor.{factorial, denominator, sine_sum, cosine_sum, Near, four}
use Rattle.trigonometry.specs.Sines.{sine_of, sine, cosine}
use Rattle.trigonometry.proofs.Terms.{total, sine_added, sine_subtracted, cosine_added, cosine_subtracted, sine-signed, cosine-signed}
use Rattle.trigonometry.proofs.Sign.{up-to-3}
use Rattle.trigonometry.proofs.Taylor.{denominator-is, denominator-pos, close-near, sine-close, cosine-close}

-- ---- comparisons with 4 and with 0, over counts
four-number : Number four
unfolding of_bits fits
four-number = record { is_binary64 = tt; is_finite = tt }

four-sign : negative four ≡ false
unfolding of_bits negative
four-sign = refl

four-count : count four ≡ 4 * one
unfolding of_bits count one
four-count = refl

at-most-four : {x : Float} → Number x → T (le (abs x) four) → count x ≤ 4 * one
at-most-four {x} X h = leb→le _ _ (rw (le-plain (magnitude-number X) four-number (magnitude-sign x) four-sign, magnitude-count x, four-count) at h)

-- the same by the test that the calls make
pub not-above-four : {x : Float} → Number x → lt four (abs x) ≡ false → count x ≤ 4 * one
not-above-four {x} X h =
    let e : ltb (4 * one) (count x) ≡ false = rw (lt-plain four-number (magnitude-number X) four-sign (magnitude-sign x), magnitude-count x, four-count) at h in
    nltb→le (4 * one) (count x) (subst (λ (b : Bool). T (not b)) (sym e) tt)

pub zero-parts : (plus_part zero64 ≡ 0) × (minus_part zero64 ≡ 0)
zero-parts = let p = plus-parts zero64 zero-sign in (p.0 ∙ zero-count, p.1)

-- what equals 0 has the count 0, and of the others those below 0 have the sign
sine-is : {x : Float} → Number x → let v = sine_of (abs x) in sine x ≡ cond (eqb (count x) 0) x (cond (negative x) (neg v) v)
unfolding sine
sine-is {x} X = rw (eq_is X zero-number, lt-is X zero-number, zero-parts.0, zero-parts.1) (go (negative x) refl)
  where
    v : Float
    v = sine_of (abs x)

    unsigned : (c : ℕ) → cond (eqb (c + 0) (0 + 0)) x (cond (ltb (c + 0) (0 + 0)) (neg v) v) ≡ cond (eqb c 0) x v
    unsigned c = rw (is_false (ltb (c + 0) (0 + 0)) (le→nltb (c + 0) (0 + 0) (omega arith)), add-zero c) refl

    signed-one : (c : ℕ) → cond (eqb (0 + 0) (0 + c)) x (cond (ltb (0 + 0) (0 + c)) (neg v) v) ≡ cond (eqb c 0) x (neg v)
    signed-one zero = refl
    signed-one (suc c) = rw (zero-add (suc c), eqb-zero-suc c, eqb-suc-zero c, is_true (ltb 0 (suc c)) (lt→ltb 0 (suc c) (zero-lt-suc c))) refl

    go : (s : Bool) → negative x ≡ s
        → cond (eqb (plus_part x + 0) (0 + minus_part x)) x (cond (ltb (plus_part x + 0) (0 + minus_part x)) (neg v) v) ≡ cond (eqb (count x) 0) x (cond (negative x) (neg v) v)
    go false e = let p = plus-parts x e in rw (e, p.0, p.1) (unsigned (count x))
    go true e = let p = minus-parts x e in rw (e, p.0, p.1) (signed-one (count x))

-- ---- of n counts, a rounded sine of p counts less m, whose sum times 33 is at least n
left-over : (p m n A B o G W u : ℕ) → W ≡ o * G → 0 < W → m * W + A * o ≤ p * W + B * o + 2 ^ 108 * (u * W) → n * G + 33 * B ≤ 33 * A
    → n + 33 * m ≤ 33 * p + 33 * (2 ^ 108 * u)
left-over p m n A B o G W u e z h k = le_of_mul-le-mul_right {k = W} (omega (arith, h, mul-le-mul_right o k, ap (λ (x : ℕ). n * x) e)) z

module _ {x : Float} (X : Number x) (h : count x ≤ 4 * one) where
  abbrev A : ℕ
  A = total (count x) one sine_added

  abbrev B : ℕ
  B = total (count x) one sine_subtracted

  -- 0 itself: each of A and B less the other is sine's sum there, so they are the same
  at-zero : count x ≡ 0 → Close (denominator one) (cond (negative x) B A) (cond (negative x) A B) (2 ^ 108) (2 ^ 105) x
  at-zero e =
      let p = parts-sum x in
      record {
        number = X;
        near = alike (negative x) (plus_part x) (minus_part x) A B one (denominator one) _ (omega (arith, e, p)) (omega (arith, e, p)) (same-sums (count x) e);
        size = omega (arith, e);
      }
    where
      same-sums : (n : ℕ) → n ≡ 0 → total n one sine_added ≡ total n one sine_subtracted
      same-sums n e =
          let p = sine-signed false 0 one in
          let q = sine-signed true 0 one in
          rw e (exchanged (above (sine_sum one (pos 0))) (below (sine_sum one (pos 0))) (total 0 one sine_added) (total 0 one sine_subtracted) p q)
        where
          exchanged : (u l a b : ℕ) → u + b ≡ l + a → u + a ≡ l + b → a ≡ b
          exchanged u l a b h k = omega arith

      alike : (s : Bool) (p m a b o Q E : ℕ) → p ≡ 0 → m ≡ 0 → a ≡ b → Within (p * Q + cond s a b * o) (m * Q + cond s b a * o) E
      alike false p m a b o Q E e f g = rw (e, f, g) (record { over = omega arith; under = omega arith })
      alike true p m a b o Q E e f g = rw (e, f, g) (record { over = omega arith; under = omega arith })

  of-magnitude : Close (denominator one) A B (2 ^ 108) (2 ^ 105) (sine_of (abs x))
  of-magnitude =
      subst (λ (n : ℕ). Close (denominator one) (total n one sine_added) (total n one sine_subtracted) (2 ^ 108) (2 ^ 105) (sine_of (abs x))) (magnitude-count x)
      (sine-close (magnitude-number X) (magnitude-sign x) (rw (magnitude-count x) h))

  answer : (c : ℕ) (s : Bool) → count x ≡ c → negative x ≡ s → let v = sine_of (abs x) in
      Close (denominator one) (cond s B A) (cond s A B) (2 ^ 108) (2 ^ 105) (cond (eqb c 0) x (cond s (neg v) v))
  answer zero s e f = subst (λ (s : Bool). Close (denominator one) (cond s B A) (cond s A B) (2 ^ 108) (2 ^ 105) x) f (at-zero e)
  answer (suc c) false e f = rw (eqb-suc-zero c) of-magnitude
  answer (suc c) true e f = rw (eqb-suc-zero c) (close-neg of-magnitude)

  -- the answers by Close's bounds
  pub sine-answer : Close (denominator one) (cond (negative x) B A) (cond (negative x) A B) (2 ^ 108) (2 ^ 105) (sine x)
  sine-answer = rw (sine-is X) (answer (count x) (negative x) refl refl)

  pub cosine-answer : Close (denominator one) (total (count x) one cosine_added) (total (count x) one cosine_subtracted) (2 ^ 108) (2 ^ 105) (cosine x)
  unfolding cosine
  cosine-answer =
      subst (λ (n : ℕ). Close (denominator one) (total n one cosine_added) (total n one cosine_subtracted) (2 ^ 108) (2 ^ 105) (cosine x)) (magnitude-count x)
      (cosine-close (magnitude-number X) (magnitude-sign x) (rw (magnitude-count x) h))

  pub sine-near : Near sine_sum x (sine x)
  unfolding exact
  sine-near = close-near (sine-signed (negative x) (count x) one) sine-answer

  pub cosine-near : Near cosine_sum x (cosine x)
  unfolding exact
  cosine-near = close-near (cosine-signed (negative x) (count x) one) cosine-answer

  -- up to 3, where x is not tiny, the answer is at least 1 / 34 of x
  module _ (s : negative x ≡ false) (l : one ≤ 2 ^ 18 * count x) (m : count x ≤ 3 * one) where
    sine-left : count x + 33 * minus_part (sine x) ≤ 33 * plus_part (sine x) + 33 * (2 ^ 108 * error_unit)
    sine-left =
        let W = denominator one in
        let p = plus_part (sine x) in
        let q = minus_part (sine x) in
        let near = subst (λ (b : Bool). Within (p * W + cond b A B * one) (q * W + cond b B A * one) (2 ^ 108 * (error_unit * W))) s sine-answer.near in
        left-over p q (count x) A B one (one ^ 30 * factorial 31) W error_unit (denominator-is one) denominator-pos near.under (up-to-3 (count x) one m)

    pub sine-above-zero : (negative (sine x) ≡ false) × (count x ≤ 34 * count (sine x))
    sine-above-zero = go (negative (sine x)) refl
      where
        go : (b : Bool) → negative (sine x) ≡ b → (negative (sine x) ≡ false) × (count x ≤ 34 * count (sine x))
        go true e = let p = (minus-parts (sine x) e).1 in absurd (omega (arith, p, sine-left, size-error, one-size, one-pos, l))
        go false e = let p = (plus-parts (sine x) e).0 in (e, omega (arith, p, sine-left, size-error, one-size, l))

-- ---- the theorems
pub sine-taylor : (x : Float) → Number x → T (le (abs x) four) → Near sine_sum x (sine x)
sine-taylor x X h = sine-near X (at-most-four X h)

pub cosine-taylor : (x : Float) → Number x → T (le (abs x) four) → Near cosine_sum x (cosine x)
cosine-taylor x X h = cosine-near X (at-most-four X h)

pub sine-plus-zero : sine (of_bits binary64 0) ≡ of_bits binary64 0
unfolding sine of_bits eq
sine-plus-zero = refl

pub sine-minus-zero : sine (of_bits binary64 0x8000_0000_0000_0000) ≡ of_bits binary64 0x8000_0000_0000_0000
unfolding sine of_bits eq
sine-minus-zero = refl

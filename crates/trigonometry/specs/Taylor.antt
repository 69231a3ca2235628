-- The Taylor sums of sine and cosine through the 31st power, exactly, and what it is for a binary64 to be near to such a sum. Definitions only.
-- The argument is x = z / d, for a whole number z and a d above 0. Each term x ^ k / k! is then a whole multiple of 1 / (d ^ 31 * 31!).
use Rattle.std.specs.Prelude.{ℕ, zero, suc, ◌-◌, ◌*◌, ◌/◌, ◌^◌, ◌≤◌, List, [], ◌∷◌, map, ℤ, pos, nat_abs, ◌-ℤ◌, ◌*ℤ◌, Float}
use Rattle.std.specs.Int.{int_pow}
use Rattle.std.specs.Float.{binary64}
use Rattle.std.specs.Float.Ieee.{of_bits}
use Rattle.float.specs.Exact.{exact}
use Rattle.rounding.specs.Number.{Number, one}

unfoldable pub factorial : ℕ → ℕ
factorial zero = 1
factorial (suc k) = suc k * factorial k

-- the denominator of every term and of both sums
unfoldable pub denominator : ℕ → ℕ
denominator d = d ^ 31 * factorial 31

-- the numerator of x ^ k / k!, for a k of at most 31: the difference and the quotient are exact there
unfoldable pub term : ℕ → ℤ → ℕ → ℤ
term d z k = int_pow z k *ℤ pos (d ^ (31 - k) * (factorial 31 / factorial k))

-- t₁ - t₂ + t₃ - t₄ ..
unfoldable pub alternating : List ℤ → ℤ
alternating [] = pos 0
alternating (t ∷ ts) = t -ℤ alternating ts

abbrev pub odds : List ℕ
odds = 1 ∷ 3 ∷ 5 ∷ 7 ∷ 9 ∷ 11 ∷ 13 ∷ 15 ∷ 17 ∷ 19 ∷ 21 ∷ 23 ∷ 25 ∷ 27 ∷ 29 ∷ 31 ∷ []

abbrev pub evens : List ℕ
evens = 0 ∷ 2 ∷ 4 ∷ 6 ∷ 8 ∷ 10 ∷ 12 ∷ 14 ∷ 16 ∷ 18 ∷ 20 ∷ 22 ∷ 24 ∷ 26 ∷ 28 ∷ 30 ∷ []

-- the numerator of x - x ^ 3 / 3! + .. - x ^ 31 / 31!
unfoldable pub sine_sum : ℕ → ℤ → ℤ
sine_sum d z = alternating (map (term d z) odds)

-- and of 1 - x ^ 2 / 2! + .. - x ^ 30 / 30!, whose term with the 31st power is 0
unfoldable pub cosine_sum : ℕ → ℤ → ℤ
cosine_sum d z = alternating (map (term d z) evens)

-- |r / d - s / (d ^ 31 * 31!)| ≤ 2 ^ -45, times 2 ^ 45 * d ^ 31 * 31!
unfoldable pub Within : ℕ → ℤ → ℤ → Type 0
Within d r s = 2 ^ 45 * nat_abs (r *ℤ pos (d ^ 30 * factorial 31) -ℤ s) ≤ denominator d

-- r is finite, and within 2 ^ -45 of the sum f at x. The exact value of a finite binary64 is a whole multiple of 2 ^ -1074, which is 1 / one.
pub record Near (f : ℕ → ℤ → ℤ) (x r : Float) : Type 0 where
  pub number : Number r
  pub near : Within one (exact r) (f one (exact x))

-- up to this magnitude of x the answers of sine and cosine are near: `sine-taylor` and `cosine-taylor` (proofs/Accuracy.antt)
abbrev pub four : Float
four = of_bits binary64 0x4010_0000_0000_0000

-- The half-angle a of a unit quaternion, by its s = sine a and c = cosine a: a guess by a polynomial, which is taken, after one step of Newton's, where
-- the excess c sine(a) - s cosine(a) shows it to be good; elsewhere a is found by bisection, on the sign of the excess. Each operation is rounded to binary64.
-- Definitions only.
use Rattle.std.specs.Prelude.{ℕ, zero, suc, ◌+◌, ◌-◌, ◌*◌, ◌/◌, ◌^◌, ◌≤◌, ◌≡◌, false, cond, [], ◌∷◌, pos, nat_abs, ◌+ℤ◌, ◌-ℤ◌, ◌*ℤ◌, Float, List}
use Rattle.std.specs.Float.{binary64}
use Rattle.std.specs.Float.Ieee.{of_bits, of_int, add, sub, mul, div, lt, le}
use Rattle.float.specs.Exact.{count, negative, exact, abs}
use Rattle.rounding.specs.Number.{Number, one}
use Rattle.trigonometry.specs.Taylor.{denominator, sine_sum, cosine_sum}
use Rattle.trigonometry.specs.Sines.{floats, horner, sine_of, cosine_of}

abbrev 𝟘 : Float
𝟘 = of_bits binary64 0

-- the largest not above 1.6
abbrev pub end : Float
end = of_bits binary64 0x3ff9_9999_9999_9999

-- ---- the steps
-- c sine(a) - s cosine(a), for an a that is not below 0
unfoldable pub excess : Float → Float → Float → Float
excess a s c = sub binary64 (mul binary64 c (sine_of a)) (mul binary64 s (cosine_of a))

-- x, or the end of 0 to 1.6 that it is beyond; +0 for a NaN
unfoldable pub in_range : Float → Float
in_range x = let above = cond (lt 𝟘 x) x 𝟘 in cond (lt above end) above end

-- the arctangent's coefficients, of y to the powers 1, 9, 17, 25 and 33, and from 5, from 3 and from 7 on; the last ones apart. Those of 3, 7, 11 .. are
-- subtracted
abbrev pub arctangent_1 : List Float
arctangent_1 = floats (0x3fef_ffff_ffff_fc16 ∷ 0x3fbc_71bb_ad3c_3690 ∷ 0x3fad_882f_1841_654c ∷ 0x3f91_5f45_0ba8_35d4 ∷ [])

abbrev pub arctangent_1_last : Float
arctangent_1_last = of_bits binary64 0x3f0f_09b9_6d4b_d248

abbrev pub arctangent_5 : List Float
arctangent_5 = floats (0x3fc9_9999_9697_957d ∷ 0x3fb3_adae_0dd5_3182 ∷ 0x3fa4_359a_27ba_3448 ∷ [])

abbrev pub arctangent_5_last : Float
arctangent_5_last = of_bits binary64 0x3f66_309d_d536_2b7d

abbrev pub arctangent_3 : List Float
arctangent_3 = floats (0x3fd5_5555_554f_1175 ∷ 0x3fb7_4556_847c_5072 ∷ 0x3fa9_2d05_071d_17f4 ∷ [])

abbrev pub arctangent_3_last : Float
arctangent_3_last = of_bits binary64 0x3f80_58e2_01b6_f6bb

abbrev pub arctangent_7 : List Float
arctangent_7 = floats (0x3fc2_4924_3ada_7196 ∷ 0x3fb0_fe27_e1a7_85cc ∷ 0x3f9c_efd1_2341_71c0 ∷ [])

abbrev pub arctangent_7_last : Float
arctangent_7_last = of_bits binary64 0x3f43_1788_99bc_8db9

-- y ((p₁ + y⁴ p₅) - y² (p₃ + y⁴ p₇)), each p by Horner's scheme in y⁸
unfoldable pub arctangent : Float → Float
arctangent y =
    let z = mul binary64 y y in
    let w = mul binary64 z z in
    let v = mul binary64 w w in
    let plus = add binary64 (horner v arctangent_1_last arctangent_1) (mul binary64 w (horner v arctangent_5_last arctangent_5)) in
    let minus = add binary64 (horner v arctangent_3_last arctangent_3) (mul binary64 w (horner v arctangent_7_last arctangent_7)) in
    mul binary64 y (sub binary64 plus (mul binary64 z minus))

-- the nearest to π / 4
abbrev eighth_turn : Float
eighth_turn = of_bits binary64 0x3fe9_21fb_5444_2d18

-- π / 4 and the arctangent of (s - c) / (s + c)
unfoldable pub guess : Float → Float → Float
guess s c = in_range (add binary64 eighth_turn (arctangent (div binary64 (sub binary64 s c) (add binary64 s c))))

-- v times 2 ^ -52
unfoldable pub angle : ℕ → Float
angle v = mul binary64 (of_int binary64 (pos v)) (of_bits binary64 0x3cb0_0000_0000_0000)

-- how many times 2 ^ -52 the end of the range is
abbrev pub last : ℕ
last = 7205759403792793

-- so many halvings of the multiples from low to high, where the excess is not above 0 at low, and not below 0 at high
unfoldable pub halved : ℕ → ℕ → ℕ → Float → Float → ℕ
halved zero low high s c = low
halved (suc k) low high s c =
    let middle = low + (high - low) / 2 in
    let below = le (excess (angle middle) s c) 𝟘 in
    halved k (cond below middle low) (cond below high middle) s c

-- after so many, low and high are neighbours
abbrev pub halvings : ℕ
halvings = 53

unfoldable pub bisected : Float → Float → ℕ
bisected s c = halved halvings 0 last s c

-- the guess is good where its excess is at most 2 ^ -45 in magnitude
abbrev pub good : Float
good = of_bits binary64 0x3d20_0000_0000_0000

unfoldable pub half_angle : Float → Float → Float
half_angle s c =
    let g = guess s c in
    let e = excess g s c in
    let b = bisected s c in
    cond (le (abs e) good) (in_range (sub binary64 g e)) (angle b)

-- ---- what is asked of s and c: numbers, not negative, at most 2, and their sum at least ½
pub record SineCosine (s c : Float) : Type 0 where
  pub sine_number : Number s
  pub sine_sign : negative s ≡ false
  pub sine_most : count s ≤ 2 * one
  pub cosine_number : Number c
  pub cosine_sign : negative c ≡ false
  pub cosine_most : count c ≤ 2 * one
  pub least : one ≤ 2 * (count c + count s)

-- what a then is: a number from 0 to 1.6 with |sine(a) c - cosine(a) s| ≤ 2 ^ -40 and cosine(a) c + sine(a) s above 0, by the exact Taylor sums. The
-- first is the sine of the angle by which a is off, times the root of s² + c², and the second excludes the opposite angle.
pub record HalfAngle (s c a : Float) : Type 0 where
  pub number : Number a
  pub sign : negative a ≡ false
  pub most : 5 * count a ≤ 8 * one
  pub level : 2 ^ 40 * nat_abs (sine_sum one (exact a) *ℤ pos (count c) -ℤ cosine_sum one (exact a) *ℤ pos (count s)) ≤ one * denominator one
  pub turned : (k : ℕ) × (cosine_sum one (exact a) *ℤ pos (count c) +ℤ sine_sum one (exact a) *ℤ pos (count s) ≡ pos (suc k))

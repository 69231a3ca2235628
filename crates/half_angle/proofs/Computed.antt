-- The computed excess against the two sides, at an a from 0 to 4. Assumes nothing.
use mathlib.Core.Path.{◌≡◌}
use mathlib.Core.Bool.{false}
use Prim.Native.Nat.{ℕ, ◌+◌, ◌*◌, ◌^◌, ◌≤◌, ◌<◌}
use native.Mathlib.Nat.{le_of_mul-le-mul_right}
use native.Mathlib.Omega.{arith}
use lib.Dec.{lit≤}
use lib.Ieee.{Float, binary64, mul}
use Rattle.float.specs.Exact.{count, negative}
use Rattle.rounding.specs.Number.{Number, one, plus_part, minus_part}
use Rattle.rounding.specs.Error.{Within}
use Rattle.rounding.proofs.Laws.{one-pos}
use Rattle.rounding.proofs.Close.{error_unit, Close, factor-self, product_error, product_size, sum_error, sum_limit, close-mul, close-sub}
use Rattle.trigonometry.specs.Taylor.{denominator}
use Rattle.trigonometry.specs.Sines.{sine_of, cosine_of}
use Rattle.trigonometry.proofs.Terms.{total, sine_added, sine_subtracted, cosine_added, cosine_subtracted}
use Rattle.trigonometry.proofs.Taylor.{sine-close, cosine-close}
use Rattle.half_angle.specs.HalfAngles.{excess, SineCosine}
use Rattle.half_angle.proofs.Sides.{left, right}

-- ---- bounds of errors and sizes, in units: of each product, by a factor of at most 2
abbrev side_error : ℕ
side_error = product_error 0 (2 * 2 ^ 100) 2 (2 ^ 108) (2 ^ 105)

abbrev side_size : ℕ
side_size = product_size (2 * 2 ^ 100) (2 ^ 105)

room : side_size + side_size ≤ sum_limit
unfolding product_size
room = lit≤ tt

-- what the excess may be off, in counts: less than 2 ^ -42
unfoldable pub slack : ℕ
slack = sum_error side_error side_size side_error side_size * error_unit

pub record Computed (n p q : ℕ) (d : Float) : Type 0 where
  pub number : Number d
  pub near : Within (plus_part d * denominator one + right n p q) (minus_part d * denominator one + left n p q) (slack * denominator one)

module _ {s c : Float} (S : SineCosine s c) {a : Float} (A : Number a) (sign : negative a ≡ false) (most : count a ≤ 4 * one) where
  abbrev W : ℕ
  W = denominator one

  sine-side : let n = count a in
      Close (one * W) (count c * total n one sine_added) (count c * total n one sine_subtracted) side_error side_size (mul binary64 c (sine_of a))
  sine-side = close-mul (factor-self S.cosine_number S.cosine_sign S.cosine_most) (lit≤ tt) (sine-close A sign most)

  cosine-side : let n = count a in
      Close (one * W) (count s * total n one cosine_added) (count s * total n one cosine_subtracted) side_error side_size (mul binary64 s (cosine_of a))
  cosine-side = close-mul (factor-self S.sine_number S.sine_sign S.sine_most) (lit≤ tt) (cosine-close A sign most)

  pub computed : Computed (count a) (count c) (count s) (excess a s c)
  unfolding excess left right slack
  computed =
      let e = close-sub room sine-side cosine-side in
      let d = excess a s c in
      let L = left (count a) (count c) (count s) in
      let R = right (count a) (count c) (count s) in
      record {
        number = e.number;
        near = record {
          over = lowered (plus_part d) (minus_part d) W one L R _ error_unit one-pos e.near.over;
          under = lowered (minus_part d) (plus_part d) W one R L _ error_unit one-pos e.near.under;
        };
      }
    where
      lowered : (a b D o L R e u : ℕ) → 0 < o → a * (o * D) + R * o ≤ b * (o * D) + L * o + e * (u * (o * D)) → a * D + R ≤ b * D + L + e * u * D
      lowered a b D o L R e u p h = le_of_mul-le-mul_right {k = o} (omega (arith, h)) p

-- What the computed excess tells of the sides. Assumes nothing.
use mathlib.Core.Path.{◌≡◌, refl, ◌∙◌}
use mathlib.Core.Bool.{true, false}
use Prim.Native.Nat.{ℕ, ◌+◌, ◌*◌, ◌≤◌}
use native.Mathlib.Nat.{add-zero, zero-add, le_of_lt, mul-le-mul_right}
use native.Mathlib.Omega.{arith}
use lib.Dec.{leb, leb→le, nleb→lt}
use lib.Ieee.{Float, of_bits, le, fits}
use Rattle.float.specs.Exact.{count, negative, abs}
use Rattle.rounding.specs.Number.{Number, one, plus_part, minus_part}
use Rattle.rounding.proofs.Laws.{zero64, zero-number, parts-sum, magnitude-number, magnitude-sign, magnitude-count, le_is, le-plain}
use Rattle.trigonometry.specs.Taylor.{denominator}
use Rattle.trigonometry.proofs.Accuracy.{zero-parts}
use Rattle.half_angle.specs.HalfAngles.{good}
use Rattle.half_angle.proofs.Sides.{left, right, NotBeyond, NotShort, Apart}
use Rattle.half_angle.proofs.Computed.{slack, Computed}

-- ---- the two tests, over counts
not-positive : {d : Float} → Number d → le d zero64 ≡ leb (plus_part d) (minus_part d)
not-positive {d} D = le_is D zero-number ∙ rw (zero-parts.0, zero-parts.1, add-zero (plus_part d), zero-add (minus_part d)) refl

good-number : Number good
unfolding of_bits fits
good-number = record { is_binary64 = tt; is_finite = tt }

good-sign : negative good ≡ false
unfolding of_bits negative
good-sign = refl

pub within-good : {d : Float} → Number d → le (abs d) good ≡ true → count d ≤ count good
within-good {d} D e = leb→le _ _ (rw (← magnitude-count d, ← le-plain (magnitude-number D) good-number (magnitude-sign d) good-sign, e) tt)

-- ---- the sides
from-order : (a b L R s D : ℕ) → a * D + L ≤ b * D + R + s → b ≤ a → L ≤ R + s
from-order a b L R s D h i = omega (arith, h, mul-le-mul_right D i)

from-size : (a b L R c s D : ℕ) → a * D + L ≤ b * D + R + s * D → b ≤ c → L ≤ R + (c + s) * D
from-size a b L R c s D h i = omega (arith, h, mul-le-mul_right D i)

module _ {n p q : ℕ} {d : Float} (c : Computed n p q d) where
  abbrev D : ℕ
  D = denominator one

  pub not-beyond : le d zero64 ≡ true → NotBeyond slack n p q
  not-beyond e = from-order (minus_part d) (plus_part d) (left n p q) (right n p q) _ D c.near.under (leb→le _ _ (rw (← not-positive c.number, e) tt))

  pub not-short : le d zero64 ≡ false → NotShort slack n p q
  not-short e =
      from-order (plus_part d) (minus_part d) (right n p q) (left n p q) _ D c.near.over (le_of_lt (nleb→lt _ _ (rw (← not-positive c.number, e) tt)))

  pub apart : le (abs d) good ≡ true → Apart (count good + slack) n p q
  apart e =
      let most = within-good c.number e in
      let p' = parts-sum d in
      record {
        over = from-size (minus_part d) (plus_part d) (left n p q) (right n p q) (count good) slack D c.near.under (omega arith);
        under = from-size (plus_part d) (minus_part d) (right n p q) (left n p q) (count good) slack D c.near.over (omega arith);
      }

-- An angle with its square, its sine and its cosine. Definitions only.
use Rattle.std.specs.Prelude.{Float}
use Rattle.float.specs.Root.{square_root}
use Rattle.trigonometry.specs.Sines as Sines
use Rattle.trigonometry.specs.Taylor.{sine_sum, cosine_sum, Near}
use Rattle.law.specs.ClosedForms as Law
use Rattle.so3.specs.declared.Angle.{Angle}

-- the code's record and the formulas', field by field
abbrev pub angle : Angle → Law.Angle Float
angle w = record { squared = w.squared; angle = w.angle; sine = w.sine; cosine = w.cosine }

unfoldable pub of_square : Float → Angle
of_square t = let w = square_root t in record { squared = t; angle = w; sine = Sines.sine w; cosine = Sines.cosine w }

-- sine and cosine are finite, and within 2 ^ -45 of their Taylor sums at the angle
pub record Accurate (w : Angle) : Type 0 where
  pub sine : Near sine_sum w.angle w.sine
  pub cosine : Near cosine_sum w.angle w.cosine

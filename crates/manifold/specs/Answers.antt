-- What a call answers: values that are all finite, or the refusal; where a series is left, and where a turn is too large. Definitions only.
use Rattle.std.specs.Prelude.{ℕ, ◌+◌, Bool, cond, List, get_or, Result, Ok, Err, Float}
use Rattle.std.specs.Float.{nan, binary64}
use Rattle.std.specs.Float.Ieee.{of_bits, lt}
use Rattle.checks.specs.Checks.{Check, passed, all_finite}
use Rattle.checks.specs.declared.Refusal.{Refusal}
use Rattle.checks.specs.declared.Refusal.TheVariants.{Turn, Overflow}
use Rattle.linear.specs.declared.Vec3.{Vec3}
use Rattle.linear.specs.declared.Quaternion.{Quaternion}

-- the three values from place i on
unfoldable pub vector_at : List Float → ℕ → Vec3
vector_at s i = record { x = get_or s i nan; y = get_or s (i + 1) nan; z = get_or s (i + 2) nan }

-- w, x, y, z from place i on
unfoldable pub quaternion_at : List Float → ℕ → Quaternion
quaternion_at s i = record { w = get_or s i nan; x = get_or s (i + 1) nan; y = get_or s (i + 2) nan; z = get_or s (i + 3) nan }

-- a result, or an overflow where one of its values is not finite
unfoldable pub answered : {A : Type 0} → (A → List Float) → A → Result A Refusal
answered values a = cond (all_finite (values a)) (Ok a) (Err Overflow)

-- above the limit, the f64 nearest 1e-10, a series is left
unfoldable pub leaves_series : Float → Bool
leaves_series squared = lt (of_bits binary64 0x3ddb_7cdf_d9d7_bdbb) squared

-- a squared angle above 9 is too large: exp, plus, log and minus refuse it
unfoldable pub turn_too_large : Float → Bool
turn_too_large squared = lt (of_bits binary64 0x4022_0000_0000_0000) squared

-- the turn test, of a turn or of a number's magnitude that is too large: 4
unfoldable pub within : Bool → Check
within refused = cond refused (Err Turn) passed

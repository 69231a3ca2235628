-- The squared norm of a quaternion, exactly: over whole numbers, in counts of 2 ^ -2148, the square of the count of an f64. Definitions only.
use Rattle.std.specs.Prelude.{ℕ, ◌+◌, ◌^◌, Float}
use Rattle.whole_roots.specs.Roots.{square}
use Rattle.float.specs.Exact.{count}
use Rattle.rounding.specs.Error.{Within}
use Rattle.law.specs.Quaternion.{Quaternion}

unfoldable pub squared_norm : Quaternion Float → ℕ
squared_norm q = square (count q.w) + square (count q.x) + square (count q.y) + square (count q.z)

-- of four finite values (a NaN or an infinity counts 0 here): it differs from 1, which is 2 ^ 2148 such counts, by at most 2 ^ -46
abbrev pub SquaredNormNearOne : Quaternion Float → Type 0
SquaredNormNearOne q = Within (squared_norm q) (2 ^ 2148) (2 ^ 2102)

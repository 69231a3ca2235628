-- A finite binary64 as a count of 2 ^ -1074 above zero less one below, and two units in these counts. Definitions only.
use Rattle.std.specs.Prelude.{ℕ, ◌^◌, cond, T, Float}
use Rattle.std.specs.Float.{binary64}
use Rattle.std.specs.Float.Ieee.{fits}
use Rattle.std.specs.Float.Ieee.Scale.{finite}
use Rattle.float.specs.Exact.{count, negative}

pub record Number (x : Float) : Type 0 where
  pub is_binary64 : T (fits binary64 x)
  pub is_finite : T (finite x)

-- how many counts 1 is. It stays shut, so that it is an unknown to `omega`, which reads no number of more than 38 digits.
unfoldable pub one : ℕ
one = 2 ^ 1074

-- 2 ^ 1022 in counts: what is exactly that or less in magnitude is finite once it is rounded
unfoldable pub limit : ℕ
limit = 2 ^ 2096

-- the exact value of x is plus_part x - minus_part x, and one of the two is 0
unfoldable pub plus_part : Float → ℕ
plus_part x = cond (negative x) 0 (count x)

unfoldable pub minus_part : Float → ℕ
minus_part x = cond (negative x) (count x) 0

-- The order of trial within a block, literally: what each number asks of it, and the first number of `tried` that it fails. Definitions only.
use Rattle.std.specs.Prelude.{ℕ, Bool, false, not, ◌&&◌, cond, List, [], ◌∷◌, eqb, length, take, drop, Ok, Err, Float}
use Rattle.std.specs.Float.{binary64}
use Rattle.std.specs.Float.Ieee.{of_bits, sub, lt}
use Rattle.std.specs.Float.Ieee.Scale.{finite}
use Rattle.float.specs.Exact.{abs}
use Rattle.checks.specs.Refusals.{number}
use Rattle.checks.specs.Checks.{Check, permitted, all_finite, norm_of}

abbrev norm : List Float → ℕ → Float
norm s at = norm_of (take 4 (drop at s))

-- whether a block that should have len values, the quaternion's from `at` on, fails what number k asks at a tolerance
unfoldable pub fails : List Float → ℕ → ℕ → Float → ℕ → Bool
fails s len at tolerance k =
    cond (eqb k 1) (not (eqb (length s) len))
    (cond (eqb k 2) (not (all_finite s && finite (norm s at)))
    (cond (eqb k 7) (not (permitted tolerance))
    (cond (eqb k 3) (lt tolerance (abs (sub binary64 (norm s at) (of_bits binary64 0x3ff0_0000_0000_0000))))
    false)))

-- the first number of a list that is failed, or 0
unfoldable pub first_failed : List ℕ → (ℕ → Bool) → ℕ
first_failed [] f = 0
first_failed (k ∷ ks) f = cond (f k) k (first_failed ks f)

-- 0 where a check passed
unfoldable pub number_of : Check → ℕ
number_of (Ok x) = 0
number_of (Err r) = number r

-- Square roots in whole numbers. Definitions only.
use Rattle.std.specs.Prelude.{ℕ, ◌+◌, ◌*◌, ◌≤◌, ◌<◌, ◌≡◌}

abbrev pub square : ℕ → ℕ
square a = a * a

-- r is the whole square root of n
pub record WholeRoot (n r : ℕ) : Type 0 where
  pub low : square r ≤ n
  pub high : n < square (r + 1)

-- n lies strictly between the squares of the two odd numbers next to 2 * q: q is the whole number nearest to the root of n / 4
pub record Between (n q : ℕ) : Type 0 where
  pub odd : ℕ
  pub next : odd + 1 ≡ 2 * q
  pub above : square odd < n
  pub under : n < square (odd + 2)

-- What "at most so far apart" says, over whole numbers. Definitions only.
use Rattle.std.specs.Prelude.{ℕ, ◌+◌, ◌-◌, ◌*◌, ◌^◌, ◌≤◌, ◌<◌, ℤ, nat_abs, ◌+ℤ◌, ◌-ℤ◌}
use Rattle.whole_roots.specs.Roots.{square}

-- |a - b| ≤ d, with no difference
pub record Within (a b d : ℕ) : Type 0 where
  pub over : a ≤ b + d
  pub under : b ≤ a + d

-- z is x + y but for an error of at most |x + y| / 2 ^ 53, at most |x| and at most |y|
pub record RoundedSum (x y z : ℤ) : Type 0 where
  pub relative : 2 ^ 53 * nat_abs (z -ℤ (x +ℤ y)) ≤ nat_abs (x +ℤ y)
  pub left : nat_abs (z -ℤ (x +ℤ y)) ≤ nat_abs x
  pub right : nat_abs (z -ℤ (x +ℤ y)) ≤ nat_abs y

-- r is the square root of n but for an error of at most the root / 2 ^ 53: 2 ^ 53 * r lies between 2 ^ 53 - 1 and 2 ^ 53 + 1 times the root
pub record RoundedRoot (n r : ℕ) : Type 0 where
  pub over : square (2 ^ 53 * r) ≤ square (2 ^ 53 + 1) * n
  pub under : square (2 ^ 53 - 1) * n ≤ square (2 ^ 53 * r)

-- c is another candidate than r for the square root of n, and the root lies on r's side of the middle between the two
pub record Nearer (n r c : ℕ) : Type 0 where
  pub below : c < r → square (c + r) < 4 * n
  pub above : r < c → 4 * n < square (c + r)

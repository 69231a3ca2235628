-- What the private functions of the square root ensure. Definitions only.
use Rattle.std.specs.Prelude.{ℕ, zero, suc, ◌+◌, ◌*◌, ◌/◌, ◌%◌, ◌^◌, ◌≤◌, ◌<◌, ◌≡◌}
use Rattle.std.specs.Float.{binary64}
use Rattle.std.specs.Float.Ieee.{of_bits}
use Rattle.whole_roots.specs.Roots.{square}
use Rattle.float.specs.Root.{nearest_root}
use Rattle.float.specs.declared.Scaled.{Scaled}

-- the count of 2 ^ -1074 that the exponent's field f and the digits t stand for
abbrev pub field_count : ℕ → ℕ → ℕ
field_count zero t = t
field_count (suc f) t = (2 ^ 52 + t) * 2 ^ f

-- the count of the pattern b of a number that is finite and not below zero
unfoldable pub pattern_count : ℕ → ℕ
pattern_count b = field_count (b / 2 ^ 52) (b % 2 ^ 52)

-- n is m * 2 ^ j, m having 53 binary digits
pub record Split (n : ℕ) (s : Scaled) : Type 0 where
  pub low : 2 ^ 52 ≤ s.m
  pub high : s.m < 2 ^ 53
  pub far : 1022 ≤ s.j
  pub near : s.j < 3120
  pub exact : s.m * 2 ^ s.j ≡ n

-- r is the pattern of the root of the number with the pattern b
pub record Rooted (b r : ℕ) : Type 0 where
  pub finite : r < 0x7ff0_0000_0000_0000
  pub value : of_bits binary64 r ≡ nearest_root (pattern_count b * 2 ^ 1074)

-- n is the square of b's distance from 1.0's pattern, doubled above it
pub record SquareTerm (b n : ℕ) : Type 0 where
  pub distance : ℕ
  pub near : distance ≤ 2 ^ 31
  pub small : n ≤ 2 ^ 63
  pub below : b < 0x3ff0_0000_0000_0000 → (distance + b ≡ 0x3ff0_0000_0000_0000) × (n ≡ square distance)
  pub above : 0x3ff0_0000_0000_0000 ≤ b → (b ≡ distance + 0x3ff0_0000_0000_0000) × (n ≡ square distance * 2)

-- n is 2 ^ 44 or more from the multiples of 2 ^ 55
pub record Clear (n : ℕ) : Type 0 where
  pub low : 2 ^ 44 ≤ n % 2 ^ 55
  pub high : n % 2 ^ 55 + 2 ^ 44 ≤ 2 ^ 55

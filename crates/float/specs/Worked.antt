-- Worked values of the square root, as pairs of bit patterns: a number and its root. `worked` (proofs/Worked.antt) proves the list.
use Rattle.std.specs.Prelude.{ℕ, List, [], ◌∷◌}

pub record Worked : Type 0 where
  pub number : ℕ
  pub root : ℕ

abbrev of : ℕ → ℕ → Worked
of b r = record { number = b; root = r }

unfoldable pub worked_values : List Worked
worked_values =
    -- 1, 0.25, 2, 2 ^ 1022
    of 0x3ff0_0000_0000_0000 0x3ff0_0000_0000_0000
    ∷ of 0x3fd0_0000_0000_0000 0x3fe0_0000_0000_0000
    ∷ of 0x4000_0000_0000_0000 0x3ff6_a09e_667f_3bcd
    ∷ of 0x7fd0_0000_0000_0000 0x5fe0_0000_0000_0000
    -- 2 ^ -1074, the largest subnormal, the smallest normal
    ∷ of 0x0000_0000_0000_0001 0x1e60_0000_0000_0000
    ∷ of 0x000f_ffff_ffff_ffff 0x1fff_ffff_ffff_ffff
    ∷ of 0x0010_0000_0000_0000 0x2000_0000_0000_0000
    -- 1 + 2 ^ -20, the numbers next to 1, the largest finite
    ∷ of 0x3ff0_0001_0000_0000 0x3ff0_0000_7fff_fe00
    ∷ of 0x3ff0_0000_0000_0001 0x3ff0_0000_0000_0000
    ∷ of 0x3fef_ffff_ffff_ffff 0x3fef_ffff_ffff_ffff
    ∷ of 0x7fef_ffff_ffff_ffff 0x5fef_ffff_ffff_ffff
    -- -1, -0, +0, both infinities
    ∷ of 0xbff0_0000_0000_0000 0x7ff8_0000_0000_0000
    ∷ of 0x8000_0000_0000_0000 0x8000_0000_0000_0000
    ∷ of 0x0000_0000_0000_0000 0x0000_0000_0000_0000
    ∷ of 0x7ff0_0000_0000_0000 0x7ff0_0000_0000_0000
    ∷ of 0xfff0_0000_0000_0000 0x7ff8_0000_0000_0000
    -- the NaN, a signalling one, a negative one with a payload
    ∷ of 0x7ff8_0000_0000_0000 0x7ff8_0000_0000_0000
    ∷ of 0x7ff0_0000_0000_0001 0x7ff8_0000_0000_0000
    ∷ of 0xfff8_0000_0000_002a 0x7ff8_0000_0000_0000
    ∷ []

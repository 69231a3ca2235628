-- Worked half-angles, as bit patterns: a sine s, a cosine c, and their half-angle. `worked-half-angles` (proofs/Worked.antt) proves the list.
use Rattle.std.specs.Prelude.{ℕ, List, [], ◌∷◌}

pub record Worked : Type 0 where
  pub sine : ℕ
  pub cosine : ℕ
  pub half_angle : ℕ

abbrev of : ℕ → ℕ → ℕ → Worked
of s c a = record { sine = s; cosine = c; half_angle = a }

unfoldable pub worked_values : List Worked
worked_values =
    -- s = 0, c = 1; s = 1, c = 0
    of 0x0000_0000_0000_0000 0x3ff0_0000_0000_0000 0x0000_0000_0000_0000
    ∷ of 0x3ff0_0000_0000_0000 0x0000_0000_0000_0000 0x3ff9_21fb_5444_2d19
    -- both ½; both the number nearest to √½
    ∷ of 0x3fe0_0000_0000_0000 0x3fe0_0000_0000_0000 0x3fe9_21fb_5444_2d18
    ∷ of 0x3fe6_a09e_667f_3bcd 0x3fe6_a09e_667f_3bcd 0x3fe9_21fb_5444_2d19
    -- 0.6 and 0.8, and the other way round
    ∷ of 0x3fe3_3333_3333_3333 0x3fe9_9999_9999_999a 0x3fe4_978f_a326_9ee0
    ∷ of 0x3fe9_9999_9999_999a 0x3fe3_3333_3333_3333 0x3fed_ac67_0561_bb50
    -- 2 ^ -17 and 1; 1 and 2 ^ -30
    ∷ of 0x3ee0_0000_0000_0000 0x3ff0_0000_0000_0000 0x3edf_ffff_fffd_5555
    ∷ of 0x3ff0_0000_0000_0000 0x3e10_0000_0000_0000 0x3ff9_21fb_5404_2d18
    -- the NaN
    ∷ of 0x7ff8_0000_0000_0000 0x7ff8_0000_0000_0000 0x0000_0000_0000_0000
    ∷ []

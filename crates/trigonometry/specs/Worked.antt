-- Worked values of sine and cosine, as bit patterns: a number, its sine and its cosine. `worked-sines` and `worked-cosines` (proofs/Worked.antt) prove
-- the list.
use Rattle.std.specs.Prelude.{ℕ, List, [], ◌∷◌}

pub record Worked : Type 0 where
  pub number : ℕ
  pub sine : ℕ
  pub cosine : ℕ

abbrev of : ℕ → ℕ → ℕ → Worked
of x s c = record { number = x; sine = s; cosine = c }

unfoldable pub worked_values : List Worked
worked_values =
    -- +0, -0
    of 0x0000_0000_0000_0000 0x0000_0000_0000_0000 0x3ff0_0000_0000_0000
    ∷ of 0x8000_0000_0000_0000 0x8000_0000_0000_0000 0x3ff0_0000_0000_0000
    -- 1, -1, 0.5
    ∷ of 0x3ff0_0000_0000_0000 0x3fea_ed54_8f09_0cee 0x3fe1_4a28_0fb5_068b
    ∷ of 0xbff0_0000_0000_0000 0xbfea_ed54_8f09_0cee 0x3fe1_4a28_0fb5_068b
    ∷ of 0x3fe0_0000_0000_0000 0x3fde_aee8_744b_05f0 0x3fec_1528_065b_7d50
    -- the numbers nearest to π / 2 and to π
    ∷ of 0x3ff9_21fb_5444_2d18 0x3ff0_0000_0000_0000 0x0000_0000_0000_0000
    ∷ of 0x4009_21fb_5444_2d18 0x0000_0000_0000_0000 0xbff0_0000_0000_0002
    -- 4, -4
    ∷ of 0x4010_0000_0000_0000 0xbfe8_37b9_dddc_1eb0 0xbfe4_eaa6_06db_24c0
    ∷ of 0xc010_0000_0000_0000 0x3fe8_37b9_dddc_1eb0 0xbfe4_eaa6_06db_24c0
    -- 2 ^ -1074, 2 ^ -26
    ∷ of 0x0000_0000_0000_0001 0x0000_0000_0000_0001 0x3ff0_0000_0000_0000
    ∷ of 0x3e50_0000_0000_0000 0x3e50_0000_0000_0000 0x3fef_ffff_ffff_ffff
    -- the largest finite, an infinity, the NaN
    ∷ of 0x7fef_ffff_ffff_ffff 0x7ff8_0000_0000_0000 0x7ff8_0000_0000_0000
    ∷ of 0x7ff0_0000_0000_0000 0x7ff8_0000_0000_0000 0x7ff8_0000_0000_0000
    ∷ of 0x7ff8_0000_0000_0000 0x7ff8_0000_0000_0000 0x7ff8_0000_0000_0000
    ∷ []

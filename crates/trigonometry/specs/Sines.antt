-- Sine and cosine in binary64, each operation rounded: their Taylor sums through the 31st power, the terms that are subtracted and those that are
-- added summed apart by Horner's scheme in the fourth power of the argument. Definitions only.
use Rattle.std.specs.Prelude.{ℕ, cond, List, [], ◌∷◌, map, Float}
use Rattle.std.specs.Float.{binary64}
use Rattle.std.specs.Float.Ieee.{of_bits, add, sub, mul, neg, lt, eq}
use Rattle.float.specs.Exact.{abs}

abbrev 𝟘 : Float
𝟘 = of_bits binary64 0

abbrev 𝟙 : Float
𝟙 = of_bits binary64 0x3ff0_0000_0000_0000

-- c₀ + w (c₁ + w (.. + w last))
unfoldable pub horner : Float → Float → List Float → Float
horner w last [] = last
horner w last (c ∷ cs) = add binary64 c (mul binary64 w (horner w last cs))

abbrev pub floats : List ℕ → List Float
floats patterns = map (of_bits binary64) patterns

-- sine's coefficients that are subtracted, the nearest to 1/3!, 1/7!, 1/11! .. 1/27!, and to 1/31!
abbrev pub sine_minus : List Float
sine_minus =
    floats
    (0x3fc5_5555_5555_5555 ∷ 0x3f2a_01a0_1a01_a01a ∷ 0x3e5a_e645_67f5_44e4 ∷ 0x3d6a_e7f3_e733_b81f ∷ 0x3c62_f49b_4681_4157 ∷ 0x3b47_61b4_1316_381a ∷ 0x3a1d_1ab1_c2dc_cea3 ∷ [])

abbrev pub sine_minus_last : Float
sine_minus_last = of_bits binary64 0x38e4_34d2_e783_f5bc

-- those that are added: 1/5!, 1/9! .. 1/25!, and 1/29!
abbrev pub sine_plus : List Float
sine_plus = floats (0x3f81_1111_1111_1111 ∷ 0x3ec7_1de3_a556_c734 ∷ 0x3de6_1246_13a8_6d09 ∷ 0x3ce9_52c7_7030_ad4a ∷ 0x3bd7_1b8e_f6dc_f572 ∷ 0x3ab3_f3cc_dd16_5fa9 ∷ [])

abbrev pub sine_plus_last : Float
sine_plus_last = of_bits binary64 0x3982_59f9_8b43_58ad

-- cosine's that are subtracted: 1/2!, 1/6! .. 1/26!, and 1/30!
abbrev pub cosine_minus : List Float
cosine_minus =
    floats
    (0x3fe0_0000_0000_0000 ∷ 0x3f56_c16c_16c1_6c17 ∷ 0x3e92_7e4f_b778_9f5c ∷ 0x3da9_3974_a8c0_7c9d ∷ 0x3ca6_8278_63b9_7d97 ∷ 0x3b90_ce39_6db7_f853 ∷ 0x3a68_8e85_fc6a_4e5a ∷ [])

abbrev pub cosine_minus_last : Float
cosine_minus_last = of_bits binary64 0x3933_932c_5047_d60e

-- and added: 1/4!, 1/8! .. 1/24!, and 1/28!
abbrev pub cosine_plus : List Float
cosine_plus = floats (0x3fa5_5555_5555_5555 ∷ 0x3efa_01a0_1a01_a01a ∷ 0x3e21_eed8_eff8_d898 ∷ 0x3d2a_e7f3_e733_b81f ∷ 0x3c1e_542b_a402_0225 ∷ 0x3aff_2cf0_1972_f578 ∷ [])

abbrev pub cosine_plus_last : Float
cosine_plus_last = of_bits binary64 0x39d0_a18a_2635_085d

-- y - y³ ((1/3! + y⁴/7! + ..) - y² (1/5! + y⁴/9! + ..))
unfoldable pub sine_of : Float → Float
sine_of y =
    let z = mul binary64 y y in
    let w = mul binary64 z z in
    sub binary64 y
    (mul binary64 (mul binary64 y z) (sub binary64 (horner w sine_minus_last sine_minus) (mul binary64 z (horner w sine_plus_last sine_plus))))

-- 1 - y² ((1/2! + y⁴/6! + ..) - y² (1/4! + y⁴/8! + ..))
unfoldable pub cosine_of : Float → Float
cosine_of y =
    let z = mul binary64 y y in
    let w = mul binary64 z z in
    sub binary64 𝟙 (mul binary64 z (sub binary64 (horner w cosine_minus_last cosine_minus) (mul binary64 z (horner w cosine_plus_last cosine_plus))))

-- a zero keeps its sign
unfoldable pub sine : Float → Float
sine x = let v = sine_of (abs x) in cond (eq x 𝟘) x (cond (lt x 𝟘) (neg v) v)

unfoldable pub cosine : Float → Float
cosine x = cosine_of (abs x)

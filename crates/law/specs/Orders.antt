-- Worked values of the formulas at the rounded arithmetic, as bit patterns: inputs at which another order of operations gives other bits.
-- `orders`, `series-orders` and `closed_form-orders` (proofs/Orders.antt) prove the three lists.
use Rattle.std.specs.Prelude.{ℕ, List, [], ◌∷◌, map, take, get_or, Float}
use Rattle.std.specs.Float.Ieee.{of_bits, to_bits}
use Rattle.std.specs.Float.{binary64}
use Rattle.law.specs.Vector as Vector
use Rattle.law.specs.Vector.{Vector}
use Rattle.law.specs.Matrix as Matrix
use Rattle.law.specs.Matrix.{Matrix}
use Rattle.law.specs.Quaternion as Quaternion
use Rattle.law.specs.Quaternion.{Quaternion}
use Rattle.law.specs.Rows as Rows
use Rattle.law.specs.Rotation as Rotation
use Rattle.law.specs.Galilean as Galilean
use Rattle.law.specs.Galilean.{Element, Event, Tangent}
use Rattle.law.specs.Series as Series
use Rattle.law.specs.GalileanSeries as GalileanSeries
use Rattle.law.specs.ClosedForms as ClosedForms
use Rattle.law.specs.ClosedForms.{Angle}
use Rattle.law.specs.Rounded.{rounded, divisors}
use Rattle.law.specs.Patterns.{zero, minus_zero, half, minus_half, one, minus_one, two, minus_two, three, minus_three, four, minus_four, five, six, eight, nine, ten}

pub record Worked : Type 0 where
  pub computed : List ℕ
  pub said : List ℕ

-- the values f of a, as patterns, beside those that they are to have
abbrev of : {T : Type 0} → (T → List Float) → T → List ℕ → Worked
of f a l = record { computed = map (to_bits binary64) (f a); said = l }

abbrev value : Float → List Float
value a = a ∷ []

abbrev vector_values : Vector Float → List Float
vector_values a = a.x ∷ a.y ∷ a.z ∷ []

abbrev quaternion_values : Quaternion Float → List Float
quaternion_values q = q.w ∷ q.x ∷ q.y ∷ q.z ∷ []

-- row i of a matrix
abbrev row : ℕ → List (List Float) → List Float
row i m = get_or m i []

abbrev matrix_values : Matrix Float → List Float
matrix_values m = Rows.by_row (vector_values m.row0 ∷ vector_values m.row1 ∷ vector_values m.row2 ∷ [])

abbrev element_values : Element Float → List Float
element_values a = Rows.by_row (vector_values a.translation ∷ quaternion_values a.rotation ∷ vector_values a.velocity ∷ value a.time ∷ [])

abbrev event_values : Event Float → List Float
event_values e = Rows.by_row (vector_values e.point ∷ value e.time ∷ [])

abbrev tangent_values : Tangent Float → List Float
tangent_values ξ = Rows.by_row (vector_values ξ.rho ∷ vector_values ξ.nu ∷ vector_values ξ.theta ∷ value ξ.s ∷ [])

-- an input, by the patterns of its values
abbrev floats : List ℕ → List Float
floats l = map (of_bits binary64) l

abbrev vector : ℕ → ℕ → ℕ → Vector Float
vector x y z = record { x = of_bits binary64 x; y = of_bits binary64 y; z = of_bits binary64 z }

abbrev quaternion : ℕ → ℕ → ℕ → ℕ → Quaternion Float
quaternion w x y z = record { w = of_bits binary64 w; x = of_bits binary64 x; y = of_bits binary64 y; z = of_bits binary64 z }

abbrev element : Vector Float → Quaternion Float → Vector Float → ℕ → Element Float
element t q v s = record { translation = t; rotation = q; velocity = v; time = of_bits binary64 s }

abbrev event : Vector Float → ℕ → Event Float
event p t = record { point = p; time = of_bits binary64 t }

abbrev tangent : Vector Float → Vector Float → Vector Float → ℕ → Tangent Float
tangent ρ ν θ s = record { rho = ρ; nu = ν; theta = θ; s = of_bits binary64 s }

abbrev angle : ℕ → ℕ → ℕ → ℕ → Angle Float
angle t w s c = record { squared = of_bits binary64 t; angle = of_bits binary64 w; sine = of_bits binary64 s; cosine = of_bits binary64 c }

-- the nearest to 1/3
abbrev third : ℕ
third = 0x3fd5_5555_5555_5555

-- the nearest to 2/3
abbrev two_thirds : ℕ
two_thirds = 0x3fe5_5555_5555_5555

-- 2 ^ -53
abbrev tiny : ℕ
tiny = 0x3ca0_0000_0000_0000

-- 2 ^ -537, whose square is the smallest number above zero
abbrev small : ℕ
small = 0x1e60_0000_0000_0000

-- 1.5 * 2 ^ -537
abbrev one_and_half_small : ℕ
one_and_half_small = 0x1e68_0000_0000_0000

-- inputs
abbrev unit : Quaternion Float
unit = Quaternion.identity rounded

abbrev origin : Vector Float
origin = vector zero zero zero

abbrev minus_zeros : Vector Float
minus_zeros = vector minus_zero minus_zero minus_zero

abbrev ones : Vector Float
ones = vector one one one

-- (1, 1, 2) / 3
abbrev thirds : Vector Float
thirds = vector third third two_thirds

-- (0, 1, 2, 2) / 3
abbrev q0122 : Quaternion Float
q0122 = quaternion zero third two_thirds two_thirds

-- (4, 2, 1, 2) / 5
abbrev q4212 : Quaternion Float
q4212 = quaternion 0x3fe9_9999_9999_999a 0x3fd9_9999_9999_999a 0x3fc9_9999_9999_999a 0x3fd9_9999_9999_999a

-- (4, 4, 4, 1) / 7
abbrev q4441 : Quaternion Float
q4441 = quaternion 0x3fe2_4924_9249_2492 0x3fe2_4924_9249_2492 0x3fe2_4924_9249_2492 0x3fc2_4924_9249_2492

-- (5, 1, 1, 3) / 6
abbrev q5113 : Quaternion Float
q5113 = quaternion 0x3fea_aaaa_aaaa_aaab 0x3fc5_5555_5555_5555 0x3fc5_5555_5555_5555 half

-- (2, 2, 4, 5) / 7
abbrev q2245 : Quaternion Float
q2245 = quaternion 0x3fd2_4924_9249_2492 0x3fd2_4924_9249_2492 0x3fe2_4924_9249_2492 0x3fe6_db6d_b6db_6db7

-- (1, 8, 2, 10) / 13
abbrev q1·8·2·10 : Quaternion Float
q1·8·2·10 = quaternion 0x3fb3_b13b_13b1_3b14 0x3fe3_b13b_13b1_3b14 0x3fc3_b13b_13b1_3b14 0x3fe8_9d89_d89d_89d9

-- (1, 2, 8, 10) / 13
abbrev q1·2·8·10 : Quaternion Float
q1·2·8·10 = quaternion 0x3fb3_b13b_13b1_3b14 0x3fc3_b13b_13b1_3b14 0x3fe3_b13b_13b1_3b14 0x3fe8_9d89_d89d_89d9

-- (7, 5, 5, 1) / 10
abbrev q7551 : Quaternion Float
q7551 = quaternion 0x3fe6_6666_6666_6666 half half 0x3fb9_9999_9999_999a

-- (3, 9, 5, 9) / 14
abbrev q3959 : Quaternion Float
q3959 = quaternion 0x3fcb_6db6_db6d_b6db 0x3fe4_9249_2492_4925 0x3fd6_db6d_b6db_6db7 0x3fe4_9249_2492_4925

-- (1, 1, 7, 7) / 10
abbrev q1177 : Quaternion Float
q1177 = quaternion 0x3fb9_9999_9999_999a 0x3fb9_9999_9999_999a 0x3fe6_6666_6666_6666 0x3fe6_6666_6666_6666

-- (2, 4, 5, 2) / 7
abbrev q2452 : Quaternion Float
q2452 = quaternion 0x3fd2_4924_9249_2492 0x3fe2_4924_9249_2492 0x3fe6_db6d_b6db_6db7 0x3fd2_4924_9249_2492

-- (7, 1, 5, 11) / 14
abbrev q7·1·5·11 : Quaternion Float
q7·1·5·11 = quaternion half 0x3fb2_4924_9249_2492 0x3fd6_db6d_b6db_6db7 0x3fe9_2492_4924_9249

-- (0, 2, 3, 6) / 7
abbrev q0236 : Quaternion Float
q0236 = quaternion zero 0x3fd2_4924_9249_2492 0x3fdb_6db6_db6d_b6db 0x3feb_6db6_db6d_b6db

-- (10, 14, 17, 16) / 29
abbrev q10·14·17·16 : Quaternion Float
q10·14·17·16 = quaternion 0x3fd6_11a7_b961_1a7c 0x3fde_e584_69ee_5847 0x3fe2_c234_f72c_234f 0x3fe1_a7b9_611a_7b96

-- (3, 1, 0) / 7 * 2 ^ -18: inside the series branch
abbrev small_turn : Vector Float
small_turn = vector 0x3ebb_6db6_db6d_b6db 0x3ea2_4924_9249_2492 zero

-- (3, 4, 2) / 7, and its norm as an angle
abbrev turn342 : Vector Float
turn342 = vector 0x3fdb_6db6_db6d_b6db 0x3fe2_4924_9249_2492 0x3fd2_4924_9249_2492

abbrev angle342 : Angle Float
angle342 = angle 0x3fe2_f053_9782_9cbb 0x3fe8_9e2e_730a_1da8 0x3fe6_42ad_19e1_7411 0x3fe6_fd0f_da32_0966

-- (3, 5, 3) / 5, and its norm as an angle
abbrev turn353 : Vector Float
turn353 = vector 0x3fe3_3333_3333_3333 one 0x3fe3_3333_3333_3333

abbrev angle353 : Angle Float
angle353 = angle 0x3ffb_851e_b851_eb84 0x3ff4_fbda_8817_b44d 0x3fee_ee1e_f042_2c24 0x3fd0_690f_5807_a00e

-- (5, 6, 8) / 7, and its norm as an angle
abbrev turn568 : Vector Float
turn568 = vector 0x3fe6_db6d_b6db_6db7 0x3feb_6db6_db6d_b6db 0x3ff2_4924_9249_2492

abbrev angle568 : Angle Float
angle568 = angle 0x4004_687d_6343_eb1a 0x3ff9_8e18_9522_38f0 0x3fef_fd25_7fba_655f 0xbf9b_0682_8a8f_ee9f

-- of q2452 the half-angle, and the norm of the vector part
abbrev half_angle2452 : Float
half_angle2452 = of_bits binary64 0x3ff4_7f28_a62a_2012

abbrev vector_norm2452 : Float
vector_norm2452 = of_bits binary64 0x3fee_aa83_e629_1120

-- of which the square, 1.25 * 2 ^ -537, is so small that its own square is below the normal numbers
abbrev low_angle : Angle Float
low_angle = angle 0x1e64_0000_0000_0000 one zero 0x3fef_ffff_ffff_ffff

-- of which the angle and the sine are so small that their product is below the normal numbers
abbrev low_sine : Angle Float
low_sine = angle one 0x1e64_0000_0000_0000 0x1e64_0000_0000_0000 0xbfef_ffff_ffff_ffff

unfoldable pub worked_orders : List Worked
worked_orders =
    -- the quaternion product from the left: y is ..56 if the minus comes last; w is -0 if the sum of the other products is subtracted
    of quaternion_values (Quaternion.mul rounded (quaternion half half half half) q0122)
    (0xbfea_aaaa_aaaa_aaaa ∷ 0x3fc5_5555_5555_5556 ∷ 0x3fc5_5555_5555_5555 ∷ half ∷ [])
    ∷ of quaternion_values (Quaternion.mul rounded (quaternion minus_one zero zero zero) (quaternion zero minus_one zero zero))
    (zero ∷ one ∷ zero ∷ zero ∷ [])
    -- these two show every other order of each of the four sums
    ∷ of quaternion_values (Quaternion.mul rounded q4212 q4441)
    (0x3fad_41d4_1d41_d41d ∷ 0x3fdf_15f1_5f15_f160 ∷ 0x3fe7_c57c_57c5_7c57 ∷ 0x3fdd_41d4_1d41_d41e ∷ [])
    ∷ of quaternion_values (Quaternion.mul rounded q5113 q2245)
    (0xbfd0_c30c_30c3_0c31 ∷ 0x3fbe_79e7_9e79_e7a0 ∷ 0x3fe1_8618_6186_1861 ∷ 0x3fe9_2492_4924_9248 ∷ [])
    -- the rotation matrix: the diagonal from the left, every other order of which one of these four shows
    ∷ of matrix_values (Quaternion.rotation_matrix rounded q0122)
    (0xbfe8_e38e_38e3_8e38 ∷ 0x3fdc_71c7_1c71_c71c ∷ 0x3fdc_71c7_1c71_c71c
    ∷ 0x3fdc_71c7_1c71_c71c ∷ 0xbfbc_71c7_1c71_c71c ∷ 0x3fec_71c7_1c71_c71c
    ∷ 0x3fdc_71c7_1c71_c71c ∷ 0x3fec_71c7_1c71_c71c ∷ 0xbfbc_71c7_1c71_c720 ∷ [])
    ∷ of matrix_values (Quaternion.rotation_matrix rounded q1·8·2·10)
    (0xbfcd_89d8_9d89_d89e ∷ 0x3fb2_2d71_9c06_0f27 ∷ 0x3fef_0da2_1535_048c
    ∷ 0x3fd3_b13b_13b1_3b14 ∷ 0xbfee_1b44_2a6a_0918 ∷ 0x3fc2_2d71_9c06_0f26
    ∷ 0x3fed_89d8_9d89_d89e ∷ 0x3fd5_3504_8b5c_6702 ∷ 0x3fc8_fe7c_3688_54d2 ∷ [])
    ∷ of matrix_values (Quaternion.rotation_matrix rounded q1·2·8·10)
    (0xbfee_1b44_2a6a_0918 ∷ 0x3fb2_2d71_9c06_0f27 ∷ 0x3fd5_3504_8b5c_6702
    ∷ 0x3fd3_b13b_13b1_3b14 ∷ 0xbfcd_89d8_9d89_d89c ∷ 0x3fed_89d8_9d89_d89e
    ∷ 0x3fc2_2d71_9c06_0f26 ∷ 0x3fef_0da2_1535_048c ∷ 0x3fc8_fe7c_3688_54d4 ∷ [])
    ∷ of matrix_values (Quaternion.rotation_matrix rounded q7551)
    (0x3fde_b851_eb85_1eb8 ∷ 0x3fd7_0a3d_70a3_d70a ∷ 0x3fe9_9999_9999_9999
    ∷ 0x3fe4_7ae1_47ae_147b ∷ 0x3fde_b851_eb85_1eb7 ∷ 0xbfe3_3333_3333_3333
    ∷ 0xbfe3_3333_3333_3333 ∷ 0x3fe9_9999_9999_9999 ∷ 0xbc92_0000_0000_0000 ∷ [])
    -- off the diagonal each product is doubled, and not a factor: 4 and not 3 counts
    ∷ of matrix_values (Quaternion.rotation_matrix rounded (quaternion one small one_and_half_small zero))
    (one ∷ 0x0000_0000_0000_0004 ∷ 0x1e78_0000_0000_0000
    ∷ 0x0000_0000_0000_0004 ∷ one ∷ 0x9e70_0000_0000_0000
    ∷ 0x9e78_0000_0000_0000 ∷ 0x1e70_0000_0000_0000 ∷ one ∷ [])
    -- the sum (x² + z²) + (y² + w²): the first two show every other order
    ∷ of value (Quaternion.norm_squared rounded q3959)
    (0x3ff0_0000_0000_0001 ∷ [])
    ∷ of value (Quaternion.norm_squared rounded q1177)
    (0x3fef_ffff_ffff_ffff ∷ [])
    ∷ of quaternion_values (Quaternion.normalize rounded q2452)
    (0x3fd2_4924_9249_2492 ∷ 0x3fe2_4924_9249_2492 ∷ 0x3fe6_db6d_b6db_6db7 ∷ 0x3fd2_4924_9249_2492 ∷ [])
    -- each value is divided: y and z are ..DD if multiplied by the reciprocal
    ∷ of quaternion_values (Rotation.inverse rounded q0236)
    (zero ∷ 0xbfd2_4924_9249_2493 ∷ 0xbfdb_6db6_db6d_b6dc ∷ 0xbfeb_6db6_db6d_b6dc ∷ [])
    -- SO(3) normalises once before, and not after
    ∷ of quaternion_values (Rotation.compose rounded q7·1·5·11 unit)
    (0x3fe0_0000_0000_0001 ∷ 0x3fb2_4924_9249_2493 ∷ 0x3fd6_db6d_b6db_6db8 ∷ 0x3fe9_2492_4924_924a ∷ [])
    ∷ of quaternion_values (Rotation.compose rounded unit q7·1·5·11)
    (0x3fe0_0000_0000_0001 ∷ 0x3fb2_4924_9249_2493 ∷ 0x3fd6_db6d_b6db_6db8 ∷ 0x3fe9_2492_4924_924a ∷ [])
    ∷ of quaternion_values (Rotation.inverse rounded q7·1·5·11)
    (0x3fe0_0000_0000_0001 ∷ 0xbfb2_4924_9249_2493 ∷ 0xbfd6_db6d_b6db_6db8 ∷ 0xbfe9_2492_4924_924a ∷ [])
    ∷ of vector_values (Rotation.act rounded q7·1·5·11 ones)
    (0xbfe8_29cb_c14e_5e10 ∷ 0x3ff1_4e5e_0a72_f054 ∷ 0x3ff1_f58d_0fac_687e ∷ [])
    ∷ of matrix_values (Rotation.rotation_matrix rounded q7·1·5·11)
    (0xbfdf_58d0_fac6_87d8 ∷ 0xbfe7_829c_bc14_e5e3 ∷ 0x3fde_0a72_f053_9785
    ∷ 0x3fea_c687_d634_3eb5 ∷ 0xbfcf_58d0_fac6_87d8 ∷ 0x3fdf_58d0_fac6_87d9
    ∷ 0xbfcf_58d0_fac6_87da ∷ 0x3fe4_3eb1_a1f5_8d12 ∷ 0x3fe7_829c_bc14_e5e3 ∷ [])
    -- the rotation: two known turns
    ∷ of vector_values (Quaternion.rotate rounded (quaternion half half half half) (vector one two three))
    (three ∷ one ∷ two ∷ [])
    ∷ of vector_values (Quaternion.rotate rounded (quaternion zero zero zero one) (vector one two three))
    (minus_one ∷ minus_two ∷ three ∷ [])
    -- (c w + u × c) + p: every other order shows in each value
    ∷ of vector_values (Quaternion.rotate rounded q5113 (vector one two one))
    (0xbfe5_5555_5555_5558 ∷ 0x3ffa_aaaa_aaaa_aaab ∷ 0x3ffa_aaaa_aaaa_aaab ∷ [])
    -- u × p is doubled, and not u: 4 and not 3 counts; and before the product by w: 3 and not 4
    ∷ of vector_values (Quaternion.rotate rounded (quaternion one zero small zero) (vector zero zero one_and_half_small))
    (0x0000_0000_0000_0004 ∷ zero ∷ one_and_half_small ∷ [])
    ∷ of vector_values (Quaternion.rotate rounded (quaternion one_and_half_small zero one zero) (vector zero zero small))
    (0x0000_0000_0000_0003 ∷ zero ∷ 0x9e60_0000_0000_0000 ∷ [])
    -- a cross product is a difference of products, whose zeros are +0
    ∷ of vector_values (Quaternion.rotate rounded unit minus_zeros)
    (zero ∷ zero ∷ zero ∷ [])
    -- sums of three from the left, the first product first: ..BC if from the right; every other order shows at (1, 1, 2) / 3; +0 if a sum starts at zero
    ∷ of value (Vector.norm_squared rounded (vector 0x3ee0_05a6_75f6_0b21 0x3eda_c4d3_f642_97ab 0xbeaf_d1b7_0832_98a9))
    (0x3ddb_7cdf_d9d7_bdbb ∷ [])
    ∷ of value (Vector.norm rounded thirds)
    (0x3fea_20bd_700c_2c3e ∷ [])
    ∷ of value (Vector.norm_squared rounded thirds)
    (two_thirds ∷ [])
    ∷ of value (Vector.dot rounded thirds thirds)
    (two_thirds ∷ [])
    ∷ of value (Vector.dot rounded minus_zeros ones)
    (minus_zero ∷ [])
    ∷ of vector_values (Matrix.row_by rounded thirds (record { row0 = vector third third third; row1 = vector third third third; row2 = vector two_thirds two_thirds two_thirds }))
    (two_thirds ∷ two_thirds ∷ two_thirds ∷ [])
    ∷ of vector_values (Matrix.row_by rounded minus_zeros (record { row0 = ones; row1 = ones; row2 = ones }))
    (minus_zero ∷ minus_zero ∷ minus_zero ∷ [])
    -- the same of rows; and a zero entry is multiplied and added too: -0 if it is left out
    ∷ of value (Rows.dot rounded (floats (third ∷ third ∷ two_thirds ∷ [])) (floats (third ∷ third ∷ two_thirds ∷ [])))
    (two_thirds ∷ [])
    ∷ of value (Rows.dot rounded (floats (minus_zero ∷ minus_zero ∷ [])) (floats (one ∷ one ∷ [])))
    (minus_zero ∷ [])
    ∷ of value (Rows.dot rounded (floats (zero ∷ one ∷ [])) (floats (five ∷ minus_zero ∷ [])))
    (zero ∷ [])
    -- the identity
    ∷ of element_values (Galilean.identity rounded)
    (zero ∷ zero ∷ zero ∷ one ∷ zero ∷ zero ∷ zero ∷ zero ∷ zero ∷ zero ∷ zero ∷ [])
    -- a known composition
    ∷ of element_values (Galilean.compose rounded (element (vector one two three) unit (vector four zero zero) half)
    (element ones unit (vector zero two zero) two))
    (ten ∷ three ∷ four ∷ one ∷ zero ∷ zero ∷ zero ∷ four ∷ two ∷ zero ∷ 0x4004_0000_0000_0000 ∷ [])
    -- (R t2 + t1) + v s: x is 1 + 2 ^ -52 if v s is added before t1, and y if t1 + v s is formed first
    ∷ of element_values (Galilean.compose rounded (element (vector one tiny zero) unit (vector tiny tiny zero) zero)
    (element (vector tiny one zero) unit origin one))
    (one ∷ one ∷ zero ∷ one ∷ zero ∷ zero ∷ zero ∷ tiny ∷ tiny ∷ zero ∷ one ∷ [])
    -- SGal(3) normalises twice before
    ∷ of element_values (Galilean.compose rounded (element origin q7·1·5·11 origin zero)
    (element ones unit ones zero))
    (0xbfe8_29cb_c14e_5e06 ∷ 0x3ff1_4e5e_0a72_f055 ∷ 0x3ff1_f58d_0fac_687d
    ∷ half ∷ 0x3fb2_4924_9249_2492 ∷ 0x3fd6_db6d_b6db_6db7 ∷ 0x3fe9_2492_4924_9248
    ∷ 0xbfe8_29cb_c14e_5e06 ∷ 0x3ff1_4e5e_0a72_f055 ∷ 0x3ff1_f58d_0fac_687d ∷ zero ∷ [])
    ∷ of element_values (Galilean.compose rounded (element origin unit origin zero)
    (element ones q7·1·5·11 ones zero))
    (one ∷ one ∷ one ∷ half ∷ 0x3fb2_4924_9249_2492 ∷ 0x3fd6_db6d_b6db_6db7 ∷ 0x3fe9_2492_4924_9248 ∷ one ∷ one ∷ one ∷ zero ∷ [])
    -- a known inverse; that of the identity, of which every zero is -0
    ∷ of element_values (Galilean.inverse rounded (element (vector one two three) unit (vector four zero zero) half))
    (one ∷ minus_two ∷ minus_three ∷ one ∷ minus_zero ∷ minus_zero ∷ minus_zero ∷ minus_four ∷ minus_zero ∷ minus_zero ∷ minus_half ∷ [])
    ∷ of element_values (Galilean.inverse rounded (element origin unit origin zero))
    (minus_zero ∷ minus_zero ∷ minus_zero ∷ one ∷ minus_zero ∷ minus_zero ∷ minus_zero ∷ minus_zero ∷ minus_zero ∷ minus_zero ∷ minus_zero ∷ [])
    -- -(R⁻¹ (t - s v)), and not its expansion; rotated by a third normalisation
    ∷ of element_values (Galilean.inverse rounded (element (vector eight nine four) q5113 (vector eight eight four) one))
    (0xbfec_71c7_1c71_c71d ∷ 0xbfdc_71c7_1c71_c71c ∷ 0x3fbc_71c7_1c71_c71e
    ∷ 0x3fea_aaaa_aaaa_aaab ∷ 0xbfc5_5555_5555_5555 ∷ 0xbfc5_5555_5555_5555 ∷ minus_half
    ∷ 0xc024_71c7_1c71_c71d ∷ 0x3fec_71c7_1c71_c720 ∷ 0xc018_e38e_38e3_8e39 ∷ minus_one ∷ [])
    ∷ of element_values (Galilean.inverse rounded (element ones q7·1·5·11 ones zero))
    (0xbfba_1f58_d0fa_c690 ∷ 0x3fd6_343e_b1a1_f58c ∷ 0xbffb_1a1f_58d0_fac7
    ∷ half ∷ 0xbfb2_4924_9249_2492 ∷ 0xbfd6_db6d_b6db_6db7 ∷ 0xbfe9_2492_4924_9248
    ∷ 0xbfba_1f58_d0fa_c690 ∷ 0x3fd6_343e_b1a1_f58c ∷ 0xbffb_1a1f_58d0_fac7 ∷ minus_zero ∷ [])
    -- (R p + t) + s v, told as in compose; and normalised twice
    ∷ of vector_values (Galilean.act rounded (element (vector one tiny zero) unit (vector tiny tiny zero) one) (vector tiny one zero))
    (one ∷ one ∷ zero ∷ [])
    -- the event action's (R p + v tau) + t, and act of the same element and point, whose time is tau: x is 1 + 2 ^ -52 here, and 1 there
    ∷ of event_values (Galilean.act_event rounded (element (vector one zero zero) unit (vector tiny zero zero) one) (event (vector tiny zero zero) one))
    (0x3ff0_0000_0000_0001 ∷ zero ∷ zero ∷ two ∷ [])
    ∷ of vector_values (Galilean.act rounded (element (vector one zero zero) unit (vector tiny zero zero) one) (vector tiny zero zero))
    (one ∷ zero ∷ zero ∷ [])
    -- x is 1 + 2 ^ -52 if v tau + t is formed first
    ∷ of event_values (Galilean.act_event rounded (element (vector tiny zero zero) unit (vector tiny zero zero) zero) (event (vector one zero zero) one))
    (one ∷ zero ∷ zero ∷ one ∷ [])
    ∷ of event_values (Galilean.act_event rounded (element origin q7·1·5·11 origin zero) (event ones zero))
    (0xbfe8_29cb_c14e_5e06 ∷ 0x3ff1_4e5e_0a72_f055 ∷ 0x3ff1_f58d_0fac_687d ∷ zero ∷ [])
    ∷ of vector_values (Galilean.act rounded (element origin q7·1·5·11 origin zero) ones)
    (0xbfe8_29cb_c14e_5e06 ∷ 0x3ff1_4e5e_0a72_f055 ∷ 0x3ff1_f58d_0fac_687d ∷ [])
    -- the matrix, normalised twice
    ∷ of Rows.by_row (Galilean.matrix rounded (element (vector one two three) q7·1·5·11 (vector four five six) eight))
    (0xbfdf_58d0_fac6_87d4 ∷ 0xbfe7_829c_bc14_e5e0 ∷ 0x3fde_0a72_f053_9782 ∷ four ∷ one
    ∷ 0x3fea_c687_d634_3eb0 ∷ 0xbfcf_58d0_fac6_87d0 ∷ 0x3fdf_58d0_fac6_87d6 ∷ five ∷ two
    ∷ 0xbfcf_58d0_fac6_87d8 ∷ 0x3fe4_3eb1_a1f5_8d0f ∷ 0x3fe7_829c_bc14_e5df ∷ six ∷ three
    ∷ zero ∷ zero ∷ zero ∷ one ∷ eight
    ∷ zero ∷ zero ∷ zero ∷ zero ∷ one ∷ [])
    -- the first three rows of the adjoint: all nine values of (hat t - s hat v) R differ in the expansion; and normalised twice
    ∷ of Rows.by_row (take 3 (Galilean.opened rounded (Galilean.adjoint rounded (element (vector six three six) q5113 (vector six five five) one))))
    (0x3fdc_71c7_1c71_c71e ∷ 0xbfe8_e38e_38e3_8e39 ∷ 0x3fdc_71c7_1c71_c71c ∷ 0xbfdc_71c7_1c71_c71e ∷ 0x3fe8_e38e_38e3_8e39 ∷ 0xbfdc_71c7_1c71_c71c
    ∷ 0xbfe5_5555_5555_5556 ∷ 0xbff5_5555_5555_5556 ∷ 0xbffa_aaaa_aaaa_aaab ∷ six
    ∷ 0x3fec_71c7_1c71_c71d ∷ 0x3fdc_71c7_1c71_c71e ∷ 0xbfbc_71c7_1c71_c71e ∷ 0xbfec_71c7_1c71_c71d ∷ 0xbfdc_71c7_1c71_c71e ∷ 0x3fbc_71c7_1c71_c71e
    ∷ 0x3fdc_71c7_1c71_c71e ∷ 0xbfe8_e38e_38e3_8e39 ∷ 0x3fdc_71c7_1c71_c71c ∷ five
    ∷ 0xbfbc_71c7_1c71_c71e ∷ 0x3fdc_71c7_1c71_c71c ∷ 0x3fec_71c7_1c71_c71d ∷ 0x3fbc_71c7_1c71_c71e ∷ 0xbfdc_71c7_1c71_c71c ∷ 0xbfec_71c7_1c71_c71d
    ∷ 0x3fec_71c7_1c71_c71e ∷ 0xbff8_e38e_38e3_8e39 ∷ 0x3fec_71c7_1c71_c71c ∷ five ∷ [])
    ∷ of Rows.by_row (take 1 (Galilean.opened rounded (Galilean.adjoint rounded (element (vector one two three) q7·1·5·11 (vector four five six) eight))))
    (0xbfdf_58d0_fac6_87d4 ∷ 0xbfe7_829c_bc14_e5e0 ∷ 0x3fde_0a72_f053_9782 ∷ 0x400f_58d0_fac6_87d4 ∷ 0x4017_829c_bc14_e5e0 ∷ 0xc00e_0a72_f053_9782
    ∷ 0x4047_7ac6_87d6_343e ∷ 0xc041_87d6_343e_b1a0 ∷ 0xc017_829c_bc14_e5dc ∷ four ∷ [])
    -- -s I is nine products: -0 off the diagonal
    ∷ of Rows.by_row (take 3 (Galilean.small_adj rounded (tangent origin origin origin one)))
    (zero ∷ minus_zero ∷ zero ∷ minus_one ∷ minus_zero ∷ minus_zero
    ∷ zero ∷ minus_zero ∷ zero ∷ zero
    ∷ zero ∷ zero ∷ minus_zero ∷ minus_zero ∷ minus_one ∷ minus_zero
    ∷ zero ∷ zero ∷ minus_zero ∷ zero
    ∷ minus_zero ∷ zero ∷ zero ∷ minus_zero ∷ minus_zero ∷ minus_one
    ∷ minus_zero ∷ zero ∷ zero ∷ zero ∷ [])
    -- the bracket sums rising columns: the first four values and the sixth differ in falling ones. (2, 3, 5, 5, 1, 3, 1, 9, 7, 7) / 3 and (5, 3, 6, 2, 3, 6, 2, 8, 4, 4) / 3
    ∷ of tangent_values (Galilean.lie_bracket rounded
    (tangent (vector two_thirds one 0x3ffa_aaaa_aaaa_aaab) (vector 0x3ffa_aaaa_aaaa_aaab third one) (vector third three 0x4002_aaaa_aaaa_aaab) 0x4002_aaaa_aaaa_aaab)
    (tangent (vector 0x3ffa_aaaa_aaaa_aaab one two) (vector two_thirds one two) (vector two_thirds 0x4005_5555_5555_5555 0x3ff5_5555_5555_5555) 0x3ff5_5555_5555_5555))
    (0x3ff3_8e38_e38e_38e1 ∷ 0x3ff8_e38e_38e3_8e3b ∷ 0xc01b_8e38_e38e_38e3
    ∷ 0x3ff7_1c71_c71c_71c7 ∷ 0xbfe5_5555_5555_5556 ∷ 0x4004_71c7_1c71_c71d
    ∷ 0xc001_c71c_71c7_1c72 ∷ 0x3ff1_c71c_71c7_1c72 ∷ 0xbff1_c71c_71c7_1c72 ∷ zero ∷ [])
    -- the 6 by 6 hat
    ∷ of Rows.by_row (Galilean.hat rounded (tangent (vector one two three) (vector four five six) (vector eight nine ten) half))
    (zero ∷ 0xc024_0000_0000_0000 ∷ nine ∷ one ∷ four ∷ zero
    ∷ ten ∷ zero ∷ 0xc020_0000_0000_0000 ∷ two ∷ five ∷ zero
    ∷ 0xc022_0000_0000_0000 ∷ eight ∷ zero ∷ three ∷ six ∷ zero
    ∷ zero ∷ zero ∷ zero ∷ zero ∷ zero ∷ half
    ∷ zero ∷ zero ∷ zero ∷ zero ∷ zero ∷ zero
    ∷ zero ∷ zero ∷ zero ∷ zero ∷ zero ∷ zero ∷ [])
    -- normalize divides by the norm three times: x shows one, two and four divisions, the other values none
    ∷ of element_values (Galilean.normalize rounded (element (vector one two three) q10·14·17·16 (vector four five six) eight))
    (one ∷ two ∷ three
    ∷ 0x3fd6_11a7_b961_1a7d ∷ 0x3fde_e584_69ee_5847 ∷ 0x3fe2_c234_f72c_2350 ∷ 0x3fe1_a7b9_611a_7b97
    ∷ four ∷ five ∷ six ∷ eight ∷ [])
    -- inverse's Jacobian: the empty places are negated too
    ∷ of (row 3) (Galilean.inverse_jacobian rounded (element (vector one two three) unit (vector four five six) half))
    (minus_zero ∷ minus_zero ∷ minus_zero ∷ minus_one ∷ minus_zero ∷ minus_zero ∷ minus_zero ∷ six ∷ 0xc014_0000_0000_0000 ∷ minus_zero ∷ [])
    ∷ of (row 9) (Galilean.inverse_jacobian rounded (element (vector one two three) unit (vector four five six) half))
    (minus_zero ∷ minus_zero ∷ minus_zero ∷ minus_zero ∷ minus_zero ∷ minus_zero ∷ minus_zero ∷ minus_zero ∷ minus_zero ∷ minus_one ∷ [])
    -- compose's: normalised four times, twice by inverse and twice by the adjoint
    ∷ of (row 0) (Galilean.opened rounded (Galilean.compose_jacobian_self rounded (element origin unit origin zero) (element origin q10·14·17·16 origin zero)))
    (0xbfd2_f2e9_2b87_7531 ∷ 0x3fee_49aa_28ca_1f0b ∷ 0x3fc0_7004_ded2_091e ∷ minus_zero ∷ zero ∷ zero ∷ zero ∷ zero ∷ zero ∷ minus_zero ∷ [])
    ∷ of Rows.by_row (Galilean.jacobian_identity rounded)
    (one ∷ zero ∷ zero ∷ zero ∷ zero ∷ zero ∷ zero ∷ zero ∷ zero ∷ zero
    ∷ zero ∷ one ∷ zero ∷ zero ∷ zero ∷ zero ∷ zero ∷ zero ∷ zero ∷ zero
    ∷ zero ∷ zero ∷ one ∷ zero ∷ zero ∷ zero ∷ zero ∷ zero ∷ zero ∷ zero
    ∷ zero ∷ zero ∷ zero ∷ one ∷ zero ∷ zero ∷ zero ∷ zero ∷ zero ∷ zero
    ∷ zero ∷ zero ∷ zero ∷ zero ∷ one ∷ zero ∷ zero ∷ zero ∷ zero ∷ zero
    ∷ zero ∷ zero ∷ zero ∷ zero ∷ zero ∷ one ∷ zero ∷ zero ∷ zero ∷ zero
    ∷ zero ∷ zero ∷ zero ∷ zero ∷ zero ∷ zero ∷ one ∷ zero ∷ zero ∷ zero
    ∷ zero ∷ zero ∷ zero ∷ zero ∷ zero ∷ zero ∷ zero ∷ one ∷ zero ∷ zero
    ∷ zero ∷ zero ∷ zero ∷ zero ∷ zero ∷ zero ∷ zero ∷ zero ∷ one ∷ zero
    ∷ zero ∷ zero ∷ zero ∷ zero ∷ zero ∷ zero ∷ zero ∷ zero ∷ zero ∷ one ∷ [])
    -- act's: R is negated before the product by hat p: the diagonal of that block is -0 if after it; and normalised twice
    ∷ of Rows.by_row (Galilean.act_jacobian_self rounded (element origin unit (vector one two three) two) (vector one two three))
    (one ∷ zero ∷ zero ∷ two ∷ zero ∷ zero ∷ zero ∷ three ∷ minus_two ∷ two
    ∷ zero ∷ one ∷ zero ∷ zero ∷ two ∷ zero ∷ minus_three ∷ zero ∷ one ∷ four
    ∷ zero ∷ zero ∷ one ∷ zero ∷ zero ∷ two ∷ two ∷ minus_one ∷ zero ∷ six ∷ [])
    ∷ of (row 0) (Galilean.act_jacobian_self rounded (element origin q7·1·5·11 (vector one two three) two) (vector one two three))
    (0xbfdf_58d0_fac6_87d4 ∷ 0xbfe7_829c_bc14_e5e0 ∷ 0x3fde_0a72_f053_9782 ∷ 0xbfef_58d0_fac6_87d4 ∷ 0xbff7_829c_bc14_e5e0 ∷ 0x3fee_0a72_f053_9782
    ∷ 0x4009_2492_4924_9248 ∷ 0xbfff_0539_7829_cbc0 ∷ 0x3fcf_58d0_fac6_87d0 ∷ two ∷ [])
    ∷ []

-- exp and log where the angle is small
unfoldable pub worked_series : List Worked
worked_series =
    -- M: (0,1) is ..f792 if w² is divided by 120 where it is to be by 720, and other bits if b scales a factor of hat² and not the product; (0,2) shows a's divisor.
    -- The order of the two sums never shows: in each place hat or ½I has a zero
    of matrix_values (GalileanSeries.s_nu_coupling rounded divisors small_turn)
    (0x3fdf_ffff_ffff_ff21 ∷ 0x3d24_e5e0_a72f_02f2 ∷ 0x3e78_6186_1861_821c
    ∷ 0x3d24_e5e0_a72f_02f2 ∷ 0x3fdf_ffff_ffff_f82a ∷ 0xbe92_4924_9249_2195
    ∷ 0xbe78_6186_1861_821c ∷ 0x3e92_4924_9249_2195 ∷ 0x3fdf_ffff_ffff_f74b ∷ [])
    -- all nine places are summed: +0 off the diagonal
    ∷ of matrix_values (GalileanSeries.s_nu_coupling rounded divisors origin)
    (half ∷ zero ∷ zero ∷ zero ∷ half ∷ zero ∷ zero ∷ zero ∷ half ∷ [])
    -- exp: s (M ν), and not (s M) ν or M (s ν), which show in each value of t; the quaternion is normalised once
    ∷ of element_values (GalileanSeries.exp rounded divisors (tangent (vector one zero two) (vector nine zero three) small_turn three))
    (0x402d_0000_2db6_dab2 ∷ 0xbed1_2492_029c_ba66 ∷ 0x4019_ffff_4924_8d64
    ∷ 0x3fef_ffff_ffff_f2f2 ∷ 0x3eab_6db6_db6d_abaa ∷ 0x3e92_4924_9249_1d1c ∷ zero
    ∷ 0x4022_0000_1b6d_b6db ∷ 0xbec4_9249_2492_4924 ∷ 0x4007_fffe_b6db_6db7 ∷ three ∷ [])
    -- the first product first: v is +0 if a sum starts at zero; and a zero is multiplied and added too: v's x is -0 if it is left out
    ∷ of element_values (GalileanSeries.exp rounded divisors (tangent minus_zeros minus_zeros minus_zeros minus_zero))
    (zero ∷ zero ∷ zero ∷ one ∷ minus_zero ∷ minus_zero ∷ minus_zero ∷ minus_zero ∷ minus_zero ∷ minus_zero ∷ minus_zero ∷ [])
    ∷ of element_values (GalileanSeries.exp rounded divisors (tangent origin (vector minus_zero zero zero) origin zero))
    (zero ∷ zero ∷ zero ∷ one ∷ zero ∷ zero ∷ zero ∷ zero ∷ zero ∷ zero ∷ zero ∷ [])
    -- log: J (t - s (M ν)) with J the inverse's and ν its own: its expansion, (s M) ν, M (s ν), M v and exp's J show in each value of ρ
    ∷ of tangent_values (GalileanSeries.log_at rounded divisors small_turn (element (vector three three three) unit (vector one three two) three))
    (0x3ff8_0000_4924_924b ∷ 0xbff8_0000_db6d_b6dc ∷ 0x3ec6_db6d_b6d4_4628
    ∷ 0x3fef_fffe_db6d_b6db ∷ 0x4008_0000_db6d_b6db ∷ 0x3fff_fffd_b6db_6db7
    ∷ 0x3ebb_6db6_db6d_b6db ∷ 0x3ea2_4924_9249_2492 ∷ zero ∷ three ∷ [])
    ∷ []

-- exp, log, the left Jacobian, its inverse and M where the angle is not small
unfoldable pub worked_closed_forms : List Worked
worked_closed_forms =
    -- exp: h·(s/n), and not (h·s)/n or (h/n)·s, which are one lower in each value of the vector
    of quaternion_values (ClosedForms.exp rounded angle342 turn342)
    (0x3fe6_fd0f_da32_0966 ∷ 0x3fd8_cd4e_3bae_51b2 ∷ 0x3fe0_88de_d274_3677 ∷ 0x3fd0_88de_d274_3677 ∷ [])
    -- and it is not normalised, which would put each value one higher
    ∷ of quaternion_values (ClosedForms.exp rounded angle353 turn353)
    (0x3fd0_690f_5807_a00e ∷ 0x3fdc_4d03_3da4_400b ∷ 0x3fe7_9582_b35e_355f ∷ 0x3fdc_4d03_3da4_400b ∷ [])
    -- log: x·((2·a)/s): the first value is ..5417 if it is (x·(2·a))/s or (x/s)·(2·a), and ..5416 with a·(2/s). 2·(a/s) has the same bits, except below the normal numbers
    ∷ of vector_values (Series.log_by rounded (ClosedForms.log_coefficient rounded half_angle2452 vector_norm2452) q2452)
    (0x3ff8_719a_1c14_5418 ∷ 0x3ffe_8e00_a319_691e ∷ 0x3fe8_719a_1c14_5418 ∷ [])
    -- left Jacobian: (b·hat)·hat: (1,1) is ..7159 if b scales the product, and (0,1) ..92ce if it scales the second factor. (0,0) is ..e975 if b is divided by w³ and not by w²·w,
    -- and (0,2) ..0d08 if a is divided by w·w. The order of the two sums never shows: in each place I or hat has a zero
    ∷ of matrix_values (ClosedForms.left_jacobian rounded angle342 turn342)
    (0x3fed_e2fb_449d_e974 ∷ 0xbfb8_a8aa_4c5b_92cf ∷ 0x3fd2_ab63_5854_0d0a
    ∷ 0x3fc6_7938_a99e_359f ∷ 0x3fee_a056_8633_7158 ∷ 0xbfc6_b889_3008_db32
    ∷ 0xbfd0_222a_7777_f1fc ∷ 0x3fcd_7bcb_87a9_2356 ∷ 0x3fed_5bba_15c5_63d2 ∷ [])
    -- (0,0) is ..361c if b is divided by w² and by w in turn
    ∷ of matrix_values (ClosedForms.left_jacobian rounded angle353 turn353)
    (0x3fe9_5873_406e_361b ∷ 0xbfc5_7576_162a_c8f2 ∷ 0x3fdf_30fb_e6f1_e5e9
    ∷ 0x3fd6_78fe_b780_140d ∷ 0x3fec_7a1e_e5df_fe87 ∷ 0xbfc5_7576_162a_c8f2
    ∷ 0xbfd8_2539_b2b1_e2f7 ∷ 0x3fd6_78fe_b780_140d ∷ 0x3fe9_5873_406e_361b ∷ [])
    -- its inverse: (k·hat)·hat: (2,1) is ..2e5e if k scales the product, and (1,2) ..ad11 if it scales the second factor. (1,1) is ..c7ee if 1 + cos w is divided by 2·w and by
    -- sin w in turn, and (0,0) ..7359 if 1 is divided by w·w. The order of the sums never shows, as in the left Jacobian
    ∷ of matrix_values (ClosedForms.left_jacobian_inv rounded angle568 turn568)
    (0x3fea_4fb9_9dca_7358 ∷ 0x3fe3_fe06_7c8c_685e ∷ 0xbfd6_e0b1_c00f_acbb
    ∷ 0xbfe0_9442_a805_e0c6 ∷ 0x3fea_efea_518d_c7f0 ∷ 0x3fdc_5173_d7b2_ad10
    ∷ 0x3fdf_fabb_f6cb_c0fb ∷ 0xbfd1_6567_9604_2e5d ∷ 0x3fec_87ac_1b21_e514 ∷ [])
    -- (2·w)·sin w, which is 3 of the smallest number above zero, and not 2·(w·sin w), which is 4: they differ below the normal numbers alone
    ∷ of matrix_values (ClosedForms.left_jacobian_inv rounded low_sine (vector one zero zero))
    (one ∷ zero ∷ zero
    ∷ zero ∷ 0x7fa5_5555_5555_5555 ∷ half
    ∷ zero ∷ minus_half ∷ 0x7fa5_5555_5555_5555 ∷ [])
    -- M: b·(hat·hat): (0,0) is ..ff67 if b scales a factor, and ..ff69 if 2·cos w - 2 is formed first; (0,2) is ..fd38 if a is divided by w²·w and not by w³
    ∷ of matrix_values (ClosedForms.s_nu_coupling rounded angle342 turn342)
    (0x3fde_eecc_bf99_ff68 ∷ 0xbfa2_8c0b_ca60_f9a2 ∷ 0x3fb8_f33f_4cc4_fd35
    ∷ 0x3fac_cac4_9b00_ff5a ∷ 0x3fdf_4e6b_7c8a_7f9d ∷ 0xbfb0_0b6f_5894_bc6b
    ∷ 0xbfb6_6391_189c_fbc7 ∷ 0x3fb3_75ac_f374_be53 ∷ 0x3fde_aa7f_ef80_7f41 ∷ [])
    -- (0,0) is ..a8b8 if w² - 2 is formed first, and (0,1) ..97f0 if b is divided by 2·w² and by w² in turn
    ∷ of matrix_values (ClosedForms.s_nu_coupling rounded angle353 turn353)
    (0x3fdc_9332_f54c_a8b7 ∷ 0xbfb1_713b_a04d_97ef ∷ 0x3fc5_62a1_1afc_ad2f
    ∷ 0x3fbd_87d3_115d_265b ∷ 0x3fde_2fcf_af0a_7770 ∷ 0xbfb1_713b_a04d_97ef
    ∷ 0xbfc1_c240_7911_9c0f ∷ 0x3fbd_87d3_115d_265b ∷ 0x3fdc_9332_f54c_a8b7 ∷ [])
    -- (2·w²)·w², which is 3 of the smallest number above zero, and not 2·(w²·w²), which is 4: they differ below the normal numbers alone
    ∷ of matrix_values (ClosedForms.s_nu_coupling rounded low_angle (vector one zero zero))
    (half ∷ zero ∷ zero
    ∷ zero ∷ 0x7fb5_5555_5555_5555 ∷ minus_one
    ∷ zero ∷ one ∷ 0x7fb5_5555_5555_5555 ∷ [])
    ∷ []

-- Two quaternions that the check accepts at 1/1024. Their product's squared norm is more than 2 ^ -50 from 1, and the check refuses it at 2 ^ -52: so the
-- bound can't be 2 ^ -50, nor the tolerance 2 ^ -52. Assumes nothing.
use Prim.Native.Nat.{ℕ, ◌+◌, ◌^◌, ◌<◌}
use mathlib.Core.Path.{◌≡◌, refl}
use mathlib.Core.List.{[], ◌∷◌}
use lib.Count.{count_trailing_zeros}
use lib.Dec.{lit<, lit≤}
use lib.Ieee.{Float, binary64, of_bits, of_fields, add, sub, mul, div, neg, sum, round, size, span, climb, odd, units, lt}
use Rattle.std.specs.Prelude.{Err}
use Rattle.float.specs.Exact.{count, abs}
use Rattle.float.specs.Root.{square_root, nearest_root, isqrt}
use Rattle.checks.specs.Checks.{passed, permitted, check_tolerance, norm_of, check_norm, check_unit_quaternion}
use Rattle.checks.specs.declared.Refusal.TheVariants.{NotUnit}
use Rattle.law.specs.Quaternion as Quaternion
use Rattle.law.specs.Quaternion.{Quaternion}
use Rattle.law.specs.Rotation as Rotation
use Rattle.law.specs.Rounded.{rounded}
use Rattle.unit_norm.specs.SquaredNorm.{squared_norm, SquaredNormNearOne}

abbrev quaternion : ℕ → ℕ → ℕ → ℕ → Quaternion Float
quaternion w x y z = record { w = of_bits binary64 w; x = of_bits binary64 x; y = of_bits binary64 y; z = of_bits binary64 z }

abbrev left : Quaternion Float
left = quaternion 0xbfe6_9e21_3060_f75e 0x3fe6_a35e_781f_46b1 0xbe26_2136_ecae_b478 0xbed3_1269_624b_b5aa

abbrev right : Quaternion Float
right = quaternion 0xbe44_59bc_e662_3658 0x3ff0_0005_05e6_ea9f 0xbe57_230c_f5cd_3420 0xbe50_e5a3_da68_d27c

abbrev composed : Quaternion Float
composed = quaternion 0xbfe6_a33c_dc0f_b676 0xbfe6_9dff_a349_cf45 0xbed2_f5fe_b558_0fc1 0xbe1a_8a9f_b933_792f

composed-is : Rotation.compose rounded left right ≡ composed
unfolding Rotation.compose Rotation.unit_quaternion Quaternion.normalize Quaternion.divide Quaternion.norm Quaternion.norm_squared Quaternion.mul add sub mul div neg square_root nearest_root count isqrt sum round size span climb odd units count_trailing_zeros of_fields of_bits
composed-is = refl

left-accepted : check_unit_quaternion (left.w ∷ left.x ∷ left.y ∷ left.z ∷ []) (of_bits binary64 0x3f50_0000_0000_0000) ≡ passed
unfolding check_unit_quaternion norm_of check_norm check_tolerance permitted abs lt add sub mul neg square_root nearest_root count isqrt sum round size span climb odd units count_trailing_zeros of_fields of_bits
left-accepted = refl

right-accepted : check_unit_quaternion (right.w ∷ right.x ∷ right.y ∷ right.z ∷ []) (of_bits binary64 0x3f50_0000_0000_0000) ≡ passed
unfolding check_unit_quaternion norm_of check_norm check_tolerance permitted abs lt add sub mul neg square_root nearest_root count isqrt sum round size span climb odd units count_trailing_zeros of_fields of_bits
right-accepted = refl

composed-near : SquaredNormNearOne composed
unfolding squared_norm count of_bits
composed-near = record { over = lit≤ tt; under = lit≤ tt }

composed-apart : 2 ^ 2148 + 2 ^ 2098 < squared_norm composed
unfolding squared_norm count of_bits
composed-apart = lit< tt

-- its norm is 1 + 3 * 2 ^ -52
composed-refused : check_unit_quaternion (composed.w ∷ composed.x ∷ composed.y ∷ composed.z ∷ []) (of_bits binary64 0x3cb0_0000_0000_0000) ≡ Err (NotUnit (of_bits binary64 0x3ff0_0000_0000_0003))
unfolding check_unit_quaternion norm_of check_norm check_tolerance permitted abs lt add sub mul neg square_root nearest_root count isqrt sum round size span climb odd units count_trailing_zeros of_fields of_bits
composed-refused = refl

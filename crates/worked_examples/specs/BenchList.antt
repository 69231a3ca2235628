-- The scope's bench list, its proved lines, as one list of pairs: what the definitions of the contracts give, and what the scope says. `bench-list`
-- (proofs/BenchList.antt) proves it. Values stand as bit patterns, a refusal as its number and its figures.
use Rattle.std.specs.Prelude.{ℕ, Bool, cond, List, [], ◌∷◌, ◌++◌, map, replicate, Result, Float}
use Rattle.std.specs.Float.{binary64}
use Rattle.std.specs.Float.Ieee.{of_bits, to_bits}
use Rattle.checks.specs.Checks.{Check, quaternion_norm_tolerance}
use Rattle.checks.specs.Outcomes.{Outcome, outcome}
use Rattle.checks.specs.declared.Figures.{Figures}
use Rattle.checks.specs.declared.Figures.TheVariants as Figures
use Rattle.checks.specs.declared.Refusal.{Refusal}
use Rattle.law.specs.Patterns.{zero, minus_zero, half, minus_half, one, minus_one, two, minus_two, two_and_a_half, three, minus_three, four, minus_four, nine, ten}
use Rattle.linear.specs.declared.Vec3.{Vec3}
use Rattle.linear.specs.declared.Mat3.{Mat3}
use Rattle.manifold.specs.Group.{validate_params}
use Rattle.manifold.specs.Outcomes as Outcomes
use Rattle.manifold_calls.specs.Calls as Calls
use Rattle.so3.specs.Elements as So3Elements
use Rattle.so3.specs.Tangents as So3Tangents
use Rattle.so3.specs.Group as So3
use Rattle.so3.specs.Outcomes as RotationOutcomes
use Rattle.so3.specs.declared.Element.{Element as So3Element}
use Rattle.so3.specs.declared.Tangent.{Tangent as So3Tangent}
use Rattle.so3_calls.specs.Calls as So3Calls
use Rattle.sgal3.specs.Elements as Elements
use Rattle.sgal3.specs.Tangents as Tangents
use Rattle.sgal3.specs.Group as SGal3
use Rattle.sgal3.specs.Outcomes as GalileanOutcomes
use Rattle.sgal3.specs.declared.Element.{Element}
use Rattle.sgal3.specs.declared.Tangent.{Tangent}
use Rattle.sgal3.specs.declared.Event.{Event}
use Rattle.sgal3_calls.specs.Composition as Composition
use Rattle.sgal3_calls.specs.Events as EventCalls
use Rattle.sgal3_calls.specs.Outcomes as ElementOutcome
use Rattle.handset.specs.Entries as Entries

pub record Example : Type 0 where
  pub computed : List ℕ
  pub said : List ℕ

-- ---- the outcome of a call, as numbers: its number, what it carries, its values; patterns for f64, and 1 for yes
abbrev carried : Figures → List ℕ
carried Figures.None = []
carried (Figures.Lengths expected actual) = expected ∷ actual ∷ []
carried (Figures.Norm norm) = to_bits binary64 norm ∷ []

abbrev listed : {A : Type 0} → (A → ℕ) → Outcome A → List ℕ
listed word o = o.number ∷ carried o.figures ++ map word o.values

abbrev patterns : Outcome Float → List ℕ
patterns o = listed (to_bits binary64) o

abbrev check : Check → List ℕ
check c = patterns (outcome (λ _. []) [] c)

abbrev answer : Result Element Refusal → List ℕ
answer a = patterns (ElementOutcome.element a)

abbrev galilean_tangent : Result Tangent Refusal → List ℕ
galilean_tangent a = patterns (GalileanOutcomes.tangent a)

abbrev event : Result Event Refusal → List ℕ
event a = patterns (GalileanOutcomes.event a)

abbrev rotation : Result So3Element Refusal → List ℕ
rotation a = patterns (RotationOutcomes.element a)

abbrev tangent : Result So3Tangent Refusal → List ℕ
tangent a = patterns (RotationOutcomes.tangent a)

abbrev vector : Result Vec3 Refusal → List ℕ
vector a = patterns (Outcomes.vector a)

abbrev matrix : Result Mat3 Refusal → List ℕ
matrix a = patterns (Outcomes.matrix a)

abbrev number : Result Float Refusal → List ℕ
number a = patterns (Outcomes.number a)

abbrev valid : Result Bool Refusal → List ℕ
valid a = listed (λ (b : Bool). cond b 1 0) (Outcomes.valid a)

-- ---- the calls of any group, at SO(3) and at SGal(3)
abbrev so3_exp : List Float → Result So3Element Refusal
so3_exp = Calls.exp So3.tangents So3Elements.values

abbrev so3_log : List Float → Float → Result So3Tangent Refusal
so3_log = Calls.log So3.group So3.tangents So3Tangents.values

abbrev so3_act : List Float → List Float → Float → Result Vec3 Refusal
so3_act = Calls.act So3.group

abbrev so3_is_valid : List Float → Float → Result Bool Refusal
so3_is_valid = Calls.is_valid So3.group

abbrev sgal3_exp : List Float → Result Element Refusal
sgal3_exp = Calls.exp SGal3.tangents Elements.coeffs

abbrev sgal3_log : List Float → Float → Result Tangent Refusal
sgal3_log = Calls.log SGal3.group SGal3.tangents Tangents.coeffs

abbrev sgal3_act : List Float → List Float → Float → Result Vec3 Refusal
sgal3_act = Calls.act SGal3.group

abbrev sgal3_is_valid : List Float → Float → Result Bool Refusal
sgal3_is_valid = Calls.is_valid SGal3.group

abbrev nan : ℕ
nan = 0x7ff8_0000_0000_0000

abbrev floats : List ℕ → List Float
floats l = map (of_bits binary64) l

-- ---- A = [1,2,3 | 1,0,0,0 | 4,0,0 | 0.5], B = [1,1,1 | 1,0,0,0 | 0,2,0 | 2]
abbrev A : List Float
A = floats (one ∷ two ∷ three ∷ one ∷ zero ∷ zero ∷ zero ∷ four ∷ zero ∷ zero ∷ half ∷ [])

abbrev B : List Float
B = floats (one ∷ one ∷ one ∷ one ∷ zero ∷ zero ∷ zero ∷ zero ∷ two ∷ zero ∷ two ∷ [])

-- the identity's block but for its w, and with its time
abbrev block : ℕ → ℕ → List Float
block w s = floats (zero ∷ zero ∷ zero ∷ w ∷ zero ∷ zero ∷ zero ∷ zero ∷ zero ∷ zero ∷ s ∷ [])

abbrev along_x : ℕ → List Float
along_x x = floats (x ∷ zero ∷ zero ∷ [])

-- (w, 2 ^ -17, 0, 0)
abbrev near : ℕ → List Float
near w = floats (w ∷ 0x3ee0_0000_0000_0000 ∷ zero ∷ zero ∷ [])

-- rho and nu zero, theta (x, 0, 0), s 0
abbrev turn_x : ℕ → List Float
turn_x x = floats (zero ∷ zero ∷ zero ∷ zero ∷ zero ∷ zero ∷ x ∷ zero ∷ zero ∷ zero ∷ [])

-- the block of a rotation alone
abbrev turned : List ℕ → List Float
turned q = floats (zero ∷ zero ∷ zero ∷ []) ++ (floats q ++ floats (zero ∷ zero ∷ zero ∷ zero ∷ []))

abbrev p123 : List Float
p123 = floats (one ∷ two ∷ three ∷ [])

-- ---- the C entries: the number that is returned, and the bytes that the output then holds
abbrev entry : Result Element Refusal → List ℕ → List ℕ
entry answer out = Entries.number answer ∷ Entries.written answer out

-- little-endian numbers whose patterns have bytes other than 0 in their two highest places alone: of each these two
abbrev numbers : List ℕ → List ℕ
numbers [] = []
numbers (seventh ∷ []) = []
numbers (seventh ∷ eighth ∷ rest) = 0 ∷ 0 ∷ 0 ∷ 0 ∷ 0 ∷ 0 ∷ seventh ∷ eighth ∷ numbers rest

-- A and B as 88 bytes each, A then B, and B with a NaN for its time
abbrev bytes_a : List ℕ
bytes_a =
    numbers
    (0xf0 ∷ 0x3f ∷ 0x00 ∷ 0x40 ∷ 0x08 ∷ 0x40 ∷ 0xf0 ∷ 0x3f ∷ 0x00 ∷ 0x00 ∷ 0x00 ∷ 0x00 ∷ 0x00 ∷ 0x00 ∷ 0x10 ∷ 0x40 ∷ 0x00 ∷ 0x00 ∷ 0x00 ∷ 0x00 ∷ 0xe0 ∷ 0x3f ∷ [])

abbrev bytes_b : List ℕ
bytes_b =
    numbers
    (0xf0 ∷ 0x3f ∷ 0xf0 ∷ 0x3f ∷ 0xf0 ∷ 0x3f ∷ 0xf0 ∷ 0x3f ∷ 0x00 ∷ 0x00 ∷ 0x00 ∷ 0x00 ∷ 0x00 ∷ 0x00 ∷ 0x00 ∷ 0x00 ∷ 0x00 ∷ 0x40 ∷ 0x00 ∷ 0x00 ∷ 0x00 ∷ 0x40 ∷ [])

abbrev bytes_ab : List ℕ
bytes_ab =
    numbers
    (0x24 ∷ 0x40 ∷ 0x08 ∷ 0x40 ∷ 0x10 ∷ 0x40 ∷ 0xf0 ∷ 0x3f ∷ 0x00 ∷ 0x00 ∷ 0x00 ∷ 0x00 ∷ 0x00 ∷ 0x00 ∷ 0x10 ∷ 0x40 ∷ 0x00 ∷ 0x40 ∷ 0x00 ∷ 0x00 ∷ 0x04 ∷ 0x40 ∷ [])

abbrev bytes_nan : List ℕ
bytes_nan =
    numbers
    (0xf0 ∷ 0x3f ∷ 0xf0 ∷ 0x3f ∷ 0xf0 ∷ 0x3f ∷ 0xf0 ∷ 0x3f ∷ 0x00 ∷ 0x00 ∷ 0x00 ∷ 0x00 ∷ 0x00 ∷ 0x00 ∷ 0x00 ∷ 0x00 ∷ 0x00 ∷ 0x40 ∷ 0x00 ∷ 0x00 ∷ 0xf8 ∷ 0x7f ∷ [])

-- 87 and 88 bytes of an output, before the call
abbrev out87 : List ℕ
out87 = replicate 87 0xaa

abbrev out88 : List ℕ
out88 = replicate 88 0xaa

abbrev says : List ℕ → List ℕ → Example
says computed said = record { computed = computed; said = said }

unfoldable pub bench_list : List Example
bench_list =
    -- A then B; inverse A; the inverse of the identity: every zero turns into -0
    says (answer (Composition.compose A B quaternion_norm_tolerance)) (0 ∷ ten ∷ three ∷ four ∷ one ∷ zero ∷ zero ∷ zero ∷ four ∷ two ∷ zero ∷ two_and_a_half ∷ [])
    ∷ says (answer (Composition.inverse A quaternion_norm_tolerance)) (0 ∷ one ∷ minus_two ∷ minus_three ∷ one ∷ minus_zero ∷ minus_zero ∷ minus_zero ∷ minus_four ∷ minus_zero ∷ minus_zero ∷ minus_half ∷ [])
    ∷ says (answer (Composition.inverse (block one zero) quaternion_norm_tolerance))
    (0 ∷ minus_zero ∷ minus_zero ∷ minus_zero ∷ one ∷ minus_zero ∷ minus_zero ∷ minus_zero ∷ minus_zero ∷ minus_zero ∷ minus_zero ∷ minus_zero ∷ [])
    -- (0.5,0.5,0.5,0.5) rotates (1,2,3) to (3,1,2), and (0,0,0,1) to (-1,-2,3): act of SO3 and of SGal3
    ∷ says (vector (so3_act (floats (half ∷ half ∷ half ∷ half ∷ [])) p123 quaternion_norm_tolerance)) (0 ∷ three ∷ one ∷ two ∷ [])
    ∷ says (vector (so3_act (floats (zero ∷ zero ∷ zero ∷ one ∷ [])) p123 quaternion_norm_tolerance)) (0 ∷ minus_one ∷ minus_two ∷ three ∷ [])
    ∷ says (vector (sgal3_act (turned (half ∷ half ∷ half ∷ half ∷ [])) p123 quaternion_norm_tolerance)) (0 ∷ three ∷ one ∷ two ∷ [])
    ∷ says (vector (sgal3_act (turned (zero ∷ zero ∷ zero ∷ one ∷ [])) p123 quaternion_norm_tolerance)) (0 ∷ minus_one ∷ minus_two ∷ three ∷ [])
    -- events, worked by hand: A on the event of the origin at 2, and at A's own time, where act gives the same point
    ∷ says (event (EventCalls.act_event A (floats (zero ∷ zero ∷ zero ∷ two ∷ [])) quaternion_norm_tolerance)) (0 ∷ nine ∷ two ∷ three ∷ two_and_a_half ∷ [])
    ∷ says (event (EventCalls.act_event A (floats (zero ∷ zero ∷ zero ∷ half ∷ [])) quaternion_norm_tolerance)) (0 ∷ three ∷ two ∷ three ∷ one ∷ [])
    ∷ says (vector (sgal3_act A (floats (zero ∷ zero ∷ zero ∷ [])) quaternion_norm_tolerance)) (0 ∷ three ∷ two ∷ three ∷ [])
    -- t = (1, 1, 1), the turn that takes (1, 2, 3) to (3, 1, 2), v = (0, 2, 0) and s = 2, on the event (1, 2, 3) at 0.5
    ∷ says (event (EventCalls.act_event (floats (one ∷ one ∷ one ∷ half ∷ half ∷ half ∷ half ∷ zero ∷ two ∷ zero ∷ two ∷ [])) (floats (one ∷ two ∷ three ∷ half ∷ [])) quaternion_norm_tolerance))
    (0 ∷ four ∷ three ∷ three ∷ two_and_a_half ∷ [])
    -- an event of three values, and one with a NaN beside an element of norm 2: 1, 2
    ∷ says (event (EventCalls.act_event A p123 quaternion_norm_tolerance)) (1 ∷ 4 ∷ 3 ∷ [])
    ∷ says (event (EventCalls.act_event (block two zero) (floats (zero ∷ zero ∷ zero ∷ nan ∷ [])) quaternion_norm_tolerance)) (2 ∷ [])
    -- w = 1 + 2 ^ -20 is accepted; w = 1 + 2 ^ -19, 2 ^ 511: 3 with that norm; 2 ^ 512: 2; all four zero: 3, norm 0
    ∷ says (check (validate_params SGal3.group (block 0x3ff0_0001_0000_0000 zero) quaternion_norm_tolerance)) (0 ∷ [])
    ∷ says (check (validate_params SGal3.group (block 0x3ff0_0002_0000_0000 zero) quaternion_norm_tolerance)) (3 ∷ 0x3ff0_0002_0000_0000 ∷ [])
    ∷ says (check (validate_params SGal3.group (block 0x5fe0_0000_0000_0000 zero) quaternion_norm_tolerance)) (3 ∷ 0x5fe0_0000_0000_0000 ∷ [])
    ∷ says (check (validate_params SGal3.group (block 0x5ff0_0000_0000_0000 zero) quaternion_norm_tolerance)) (2 ∷ [])
    ∷ says (check (validate_params SGal3.group (block zero zero) quaternion_norm_tolerance)) (3 ∷ zero ∷ [])
    -- norm 2 and the tolerance 0: 7
    ∷ says (check (validate_params SGal3.group (block two zero) (of_bits binary64 zero))) (7 ∷ [])
    -- ten values, one of them a NaN: 1; a NaN time and norm 2: 2
    ∷ says (answer (Composition.inverse (floats (one ∷ two ∷ nan ∷ one ∷ zero ∷ zero ∷ zero ∷ four ∷ zero ∷ zero ∷ [])) quaternion_norm_tolerance)) (1 ∷ 11 ∷ 10 ∷ [])
    ∷ says (answer (Composition.inverse (block two nan) quaternion_norm_tolerance)) (2 ∷ [])
    -- the empty chain is the identity; the chain of A and B is A then B
    ∷ says (answer (Composition.chain [] quaternion_norm_tolerance)) (0 ∷ zero ∷ zero ∷ zero ∷ one ∷ zero ∷ zero ∷ zero ∷ zero ∷ zero ∷ zero ∷ zero ∷ [])
    ∷ says (answer (Composition.chain (A ++ B) quaternion_norm_tolerance)) (0 ∷ ten ∷ three ∷ four ∷ one ∷ zero ∷ zero ∷ zero ∷ four ∷ two ∷ zero ∷ two_and_a_half ∷ [])
    -- exp with theta (2 ^ -17, 0, 0): w = 1 - 2 ^ -37, x = 2 ^ -18 * (1 - 2 ^ -37)
    ∷ says (rotation (so3_exp (along_x 0x3ee0_0000_0000_0000))) (0 ∷ 0x3fef_ffff_ffff_0000 ∷ 0x3ecf_ffff_ffff_0000 ∷ zero ∷ zero ∷ [])
    -- theta (2 ^ -16, 0, 0) leaves the series; (3, 0, 0) is the largest turn along x: w is cosine 1.5, x is 1.5 * (sine 1.5 / 1.5); the next number: 4
    ∷ says (rotation (so3_exp (along_x 0x3ef0_0000_0000_0000))) (0 ∷ 0x3fef_ffff_fffc_0000 ∷ 0x3edf_ffff_fffe_aaab ∷ zero ∷ zero ∷ [])
    ∷ says (rotation (so3_exp (along_x three))) (0 ∷ 0x3fb2_1bd5_4fc5_f9a0 ∷ 0x3fef_eb7a_9b2c_6d8c ∷ zero ∷ zero ∷ [])
    ∷ says (rotation (so3_exp (along_x 0x4008_0000_0000_0001))) (4 ∷ [])
    -- the inverse of the left Jacobian at theta (2 ^ -16, 0, 0), at (1, 0, 0) and at (3, 0, 0); the next number: 4, all +0
    ∷ says (matrix (So3Calls.left_jacobian_inv (along_x 0x3ef0_0000_0000_0000)))
    (0 ∷ one ∷ zero ∷ zero ∷ zero ∷ 0x3fef_ffff_fffd_5555 ∷ 0x3ee0_0000_0000_0000 ∷ zero ∷ 0xbee0_0000_0000_0000 ∷ 0x3fef_ffff_fffd_5555 ∷ [])
    ∷ says (matrix (So3Calls.left_jacobian_inv (along_x one)))
    (0 ∷ one ∷ zero ∷ zero ∷ zero ∷ 0x3fed_49ad_7e47_c0a3 ∷ half ∷ zero ∷ minus_half ∷ 0x3fed_49ad_7e47_c0a3 ∷ [])
    ∷ says (matrix (So3Calls.left_jacobian_inv (along_x three)))
    (0 ∷ one ∷ zero ∷ zero ∷ zero ∷ 0x3fbb_3b36_7d9f_0610 ∷ 0x3ff8_0000_0000_0000 ∷ zero ∷ 0xbff8_0000_0000_0000 ∷ 0x3fbb_3b36_7d9f_0610 ∷ [])
    ∷ says (matrix (So3Calls.left_jacobian_inv (along_x 0x4008_0000_0000_0001))) (4 ∷ zero ∷ zero ∷ zero ∷ zero ∷ zero ∷ zero ∷ zero ∷ zero ∷ zero ∷ [])
    -- sine and cosine of 1; sine of -0; cosine of 4, and of the next number: 4; sine of an infinity: 2
    ∷ says (number (So3Calls.sine (of_bits binary64 one))) (0 ∷ 0x3fea_ed54_8f09_0cee ∷ [])
    ∷ says (number (So3Calls.cosine (of_bits binary64 one))) (0 ∷ 0x3fe1_4a28_0fb5_068b ∷ [])
    ∷ says (number (So3Calls.sine (of_bits binary64 minus_zero))) (0 ∷ minus_zero ∷ [])
    ∷ says (number (So3Calls.cosine (of_bits binary64 four))) (0 ∷ 0xbfe4_eaa6_06db_24c0 ∷ [])
    ∷ says (number (So3Calls.cosine (of_bits binary64 0x4010_0000_0000_0001))) (4 ∷ [])
    ∷ says (number (So3Calls.sine (of_bits binary64 0x7ff0_0000_0000_0000))) (2 ∷ [])
    -- log of (1, 2 ^ -17, 0, 0) is 2 times its vector, and with w below zero -2 times: x² + y² + z² is within the limit of the series. The squared theta of
    -- the answer is above it, so log's Jacobian is the closed form
    ∷ says (tangent (so3_log (near one) quaternion_norm_tolerance)) (0 ∷ 0x3eef_ffff_fffc_0000 ∷ zero ∷ zero ∷ [])
    ∷ says (tangent (so3_log (near minus_one) quaternion_norm_tolerance)) (0 ∷ 0xbeef_ffff_fffc_0000 ∷ minus_zero ∷ minus_zero ∷ [])
    ∷ says (matrix (So3Calls.log_jacobian (near one) quaternion_norm_tolerance))
    (0 ∷ one ∷ zero ∷ zero ∷ zero ∷ 0x3fef_ffff_fffd_5556 ∷ 0xbedf_ffff_fffc_0000 ∷ zero ∷ 0x3edf_ffff_fffc_0000 ∷ 0x3fef_ffff_fffd_5556 ∷ [])
    -- log of a third of a turn about (1, 1, 1), by either quaternion; a half turn has the squared angle π ²: 4
    ∷ says (tangent (so3_log (floats (half ∷ half ∷ half ∷ half ∷ [])) quaternion_norm_tolerance)) (0 ∷ 0x3ff3_58e1_a79e_d7e2 ∷ 0x3ff3_58e1_a79e_d7e2 ∷ 0x3ff3_58e1_a79e_d7e2 ∷ [])
    ∷ says (tangent (so3_log (floats (minus_half ∷ minus_half ∷ minus_half ∷ minus_half ∷ [])) quaternion_norm_tolerance))
    (0 ∷ 0x3ff3_58e1_a79e_d7e2 ∷ 0x3ff3_58e1_a79e_d7e2 ∷ 0x3ff3_58e1_a79e_d7e2 ∷ [])
    ∷ says (tangent (so3_log (floats (zero ∷ one ∷ zero ∷ zero ∷ [])) quaternion_norm_tolerance)) (4 ∷ [])
    -- the half-angle: of no turn +0, of a half turn the number above the nearest to π / 2, of norm 2: 3
    ∷ says (number (So3Calls.half_angle (floats (one ∷ zero ∷ zero ∷ zero ∷ [])) quaternion_norm_tolerance)) (0 ∷ zero ∷ [])
    ∷ says (number (So3Calls.half_angle (floats (minus_zero ∷ one ∷ zero ∷ zero ∷ [])) quaternion_norm_tolerance)) (0 ∷ 0x3ff9_21fb_5444_2d19 ∷ [])
    ∷ says (number (So3Calls.half_angle (floats (two ∷ zero ∷ zero ∷ zero ∷ [])) quaternion_norm_tolerance)) (3 ∷ two ∷ [])
    -- the left Jacobian, and the right one, its transpose
    ∷ says (matrix (So3Calls.left_jacobian (along_x 0x3ee0_0000_0000_0000)))
    (0 ∷ one ∷ zero ∷ zero ∷ zero ∷ one ∷ 0xbed0_0000_0000_0000 ∷ zero ∷ 0x3ed0_0000_0000_0000 ∷ one ∷ [])
    ∷ says (matrix (So3Calls.right_jacobian (along_x 0x3ee0_0000_0000_0000)))
    (0 ∷ one ∷ zero ∷ zero ∷ zero ∷ one ∷ 0x3ed0_0000_0000_0000 ∷ zero ∷ 0xbed0_0000_0000_0000 ∷ one ∷ [])
    -- is_valid of (2, 0, 0, 0) with 1e-6, and with an infinite tolerance: no
    ∷ says (valid (so3_is_valid (floats (two ∷ zero ∷ zero ∷ zero ∷ [])) quaternion_norm_tolerance)) (0 ∷ 0 ∷ [])
    ∷ says (valid (so3_is_valid (floats (two ∷ zero ∷ zero ∷ zero ∷ [])) (of_bits binary64 0x7ff0_0000_0000_0000))) (0 ∷ 0 ∷ [])
    -- exp of rho (1, 0, 0), nu (0, 2, 0), theta 0, s 3: t = (1, 3, 0); log returns the tangent
    ∷ says (answer (sgal3_exp (floats (one ∷ zero ∷ zero ∷ zero ∷ two ∷ zero ∷ zero ∷ zero ∷ zero ∷ three ∷ []))))
    (0 ∷ one ∷ three ∷ zero ∷ one ∷ zero ∷ zero ∷ zero ∷ zero ∷ two ∷ zero ∷ three ∷ [])
    ∷ says (galilean_tangent (sgal3_log (floats (one ∷ three ∷ zero ∷ one ∷ zero ∷ zero ∷ zero ∷ zero ∷ two ∷ zero ∷ three ∷ [])) quaternion_norm_tolerance))
    (0 ∷ one ∷ zero ∷ zero ∷ zero ∷ two ∷ zero ∷ zero ∷ zero ∷ zero ∷ three ∷ [])
    -- SGal3's exp with the same thetas as SO3's
    ∷ says (answer (sgal3_exp (turn_x 0x3ee0_0000_0000_0000)))
    (0 ∷ zero ∷ zero ∷ zero ∷ 0x3fef_ffff_ffff_0000 ∷ 0x3ecf_ffff_ffff_0000 ∷ zero ∷ zero ∷ zero ∷ zero ∷ zero ∷ zero ∷ [])
    ∷ says (answer (sgal3_exp (turn_x 0x3ef0_0000_0000_0000)))
    (0 ∷ zero ∷ zero ∷ zero ∷ 0x3fef_ffff_fffc_0000 ∷ 0x3edf_ffff_fffe_aaab ∷ zero ∷ zero ∷ zero ∷ zero ∷ zero ∷ zero ∷ [])
    ∷ says (answer (sgal3_exp (turn_x 0x4008_0000_0000_0001))) (4 ∷ [])
    -- q = (1, 2 ^ -17, 0, 0): SGal3's log answers, with theta by the series, and nu and rho by the closed forms of the squared theta; of a half turn: 4
    ∷ says (galilean_tangent (sgal3_log (turned (one ∷ 0x3ee0_0000_0000_0000 ∷ zero ∷ zero ∷ [])) quaternion_norm_tolerance))
    (0 ∷ zero ∷ zero ∷ zero ∷ zero ∷ zero ∷ zero ∷ 0x3eef_ffff_fffc_0000 ∷ zero ∷ zero ∷ zero ∷ [])
    ∷ says (galilean_tangent (sgal3_log (turned (zero ∷ one ∷ zero ∷ zero ∷ [])) quaternion_norm_tolerance)) (4 ∷ [])
    -- SGal3's is_valid of [0, 0, 0 | 2, 0, 0, 0 | 0, 0, 0 | 0] with 1e-6: yes; with tolerance 0: no
    ∷ says (valid (sgal3_is_valid (block two zero) quaternion_norm_tolerance)) (0 ∷ 1 ∷ [])
    ∷ says (valid (sgal3_is_valid (block two zero) (of_bits binary64 zero))) (0 ∷ 0 ∷ [])
    -- log of A: rho = t - s/2 v; A acts on (1, 2, 3) by t + s v
    ∷ says (galilean_tangent (sgal3_log A quaternion_norm_tolerance)) (0 ∷ zero ∷ two ∷ three ∷ four ∷ zero ∷ zero ∷ zero ∷ zero ∷ zero ∷ half ∷ [])
    ∷ says (vector (sgal3_act A p123 quaternion_norm_tolerance)) (0 ∷ four ∷ four ∷ 0x4018_0000_0000_0000 ∷ [])
    -- the C entries on bytes: A then B into an output and in place, the inverse of A, the chain of A and B, the empty chain
    ∷ says (entry (Entries.compose bytes_a bytes_b quaternion_norm_tolerance out88) out88) (0 ∷ bytes_ab)
    ∷ says (entry (Entries.compose_in_place bytes_a bytes_b quaternion_norm_tolerance) bytes_a) (0 ∷ bytes_ab)
    ∷ says (entry (Entries.inverse bytes_a quaternion_norm_tolerance out88) out88)
    (0
    ∷ numbers
    (0xf0 ∷ 0x3f ∷ 0x00 ∷ 0xc0 ∷ 0x08 ∷ 0xc0 ∷ 0xf0 ∷ 0x3f ∷ 0x00 ∷ 0x80 ∷ 0x00 ∷ 0x80 ∷ 0x00 ∷ 0x80 ∷ 0x10 ∷ 0xc0 ∷ 0x00 ∷ 0x80 ∷ 0x00 ∷ 0x80 ∷ 0xe0 ∷ 0xbf ∷ []))
    ∷ says (entry (Entries.chain (bytes_a ++ bytes_b) quaternion_norm_tolerance out88) out88) (0 ∷ bytes_ab)
    ∷ says (entry (Entries.chain [] quaternion_norm_tolerance out88) out88)
    (0
    ∷ numbers
    (0x00 ∷ 0x00 ∷ 0x00 ∷ 0x00 ∷ 0x00 ∷ 0x00 ∷ 0xf0 ∷ 0x3f ∷ 0x00 ∷ 0x00 ∷ 0x00 ∷ 0x00 ∷ 0x00 ∷ 0x00 ∷ 0x00 ∷ 0x00 ∷ 0x00 ∷ 0x00 ∷ 0x00 ∷ 0x00 ∷ 0x00 ∷ 0x00 ∷ []))
    -- a NaN time: 2, an output of 87 bytes: 1, the empty chain with tolerance 0: 7, and nothing is written
    ∷ says (entry (Entries.compose bytes_a bytes_nan quaternion_norm_tolerance out88) out88) (2 ∷ out88)
    ∷ says (entry (Entries.compose_in_place bytes_a bytes_nan quaternion_norm_tolerance) bytes_a) (2 ∷ bytes_a)
    ∷ says (entry (Entries.compose bytes_a bytes_b quaternion_norm_tolerance out87) out87) (1 ∷ out87)
    ∷ says (entry (Entries.chain [] (of_bits binary64 zero) out88) out88) (7 ∷ out88)
    ∷ []

-- The proved lines of the bench list, by computation. Assumes nothing.
use mathlib.Core.Path.{◌≡◌, refl}
use mathlib.Core.List.{map}
use lib.Count.{count_trailing_zeros}
use lib.Ieee.{of_fields, of_bits, to_bits, add, sub, mul, div, neg, eq, lt, le, sum, round, size, span, climb, odd, units}
use Rattle.float.specs.Exact.{abs, count}
use Rattle.float.specs.Root.{isqrt, nearest_root, square_root}
use Rattle.law.specs.Vector as Vector
use Rattle.law.specs.Quaternion as Quaternion
use Rattle.law.specs.Matrix as Matrix
use Rattle.law.specs.Rotation as Rotation
use Rattle.law.specs.Series as Series
use Rattle.law.specs.Galilean as Galilean
use Rattle.law.specs.GalileanSeries as GalileanSeries
use Rattle.law.specs.ClosedForms as ClosedForms
use Rattle.trigonometry.specs.Sines as Sines
use Rattle.half_angle.specs.HalfAngles as HalfAngles
use Rattle.checks.specs.Refusals as Refusals
use Rattle.checks.specs.Checks as Checks
use Rattle.checks.specs.Outcomes.{outcome}
use Rattle.manifold.specs.Answers as Answers
use Rattle.manifold.specs.Group as Group
use Rattle.manifold.specs.Outcomes as Outcomes
use Rattle.manifold_calls.specs.Calls as Calls
use Rattle.linear.specs.Matrices as Matrices
use Rattle.so3.specs.Angles as Angles
use Rattle.so3.specs.Outcomes as RotationOutcomes
use Rattle.so3.specs.Elements as So3Elements
use Rattle.so3.specs.Tangents as So3Tangents
use Rattle.so3_calls.specs.Calls as So3Calls
use Rattle.sgal3.specs.Group as SGal3
use Rattle.sgal3.specs.Outcomes as GalileanOutcomes
use Rattle.sgal3.specs.Elements as Elements
use Rattle.sgal3.specs.Tangents as Tangents
use Rattle.sgal3_calls.specs.Composition as Composition
use Rattle.sgal3_calls.specs.Events as EventCalls
use Rattle.sgal3.specs.Events as Events
use Rattle.sgal3_calls.specs.Outcomes as ElementOutcome
use Rattle.words.specs.Word as Word
use Rattle.element_bytes.specs.Bytes as Bytes
use Rattle.byte_chain.specs.Blocks as Blocks
use Rattle.handset.specs.Entries as Entries
use Rattle.worked_examples.specs.BenchList.{Example, bench_list}

pub bench-list : map (λ (e : Example). e.computed) bench_list ≡ map (λ (e : Example). e.said) bench_list
unfolding bench_list GalileanOutcomes.event EventCalls.event EventCalls.act_event Events.act_event Events.coeffs Events.event_of Galilean.act_event Galilean.act_event_at Outcomes.vector Outcomes.number Outcomes.valid Outcomes.matrix Calls.act Calls.exp Calls.log Calls.is_valid Calls.vector Group.validate_params Group.from_param_slice Group.try_from_param_slice Group.try_from_slice Answers.answered Answers.leaves_series Answers.turn_too_large Answers.within Answers.vector_at Answers.quaternion_at Tangents.turn SGal3.turn_too_large So3Elements.values So3Elements.element_of So3Tangents.values So3Tangents.tangent_of Calls.within_log Calls.within_exp Group.within_turn So3Calls.left_jacobian So3Calls.right_jacobian So3Calls.left_jacobian_inv So3Calls.half_angle So3Calls.check_angle So3Calls.sine So3Calls.cosine Checks.check_length Checks.check_chain_length outcome ElementOutcome.element GalileanOutcomes.tangent RotationOutcomes.element RotationOutcomes.tangent Entries.number Entries.written Entries.check_output Entries.into Entries.compose Entries.compose_in_place Entries.inverse Entries.chain Blocks.check_block Blocks.chain_blocks Blocks.chain Bytes.values_at Bytes.value_bytes Word.word_at Word.value_at Word.bytes_of Word.word_bytes So3Elements.act Rotation.act Elements.log Elements.log_by Elements.act Elements.is_valid Elements.rotation_impl Tangents.exp Tangents.exp_by Tangents.s_nu_coupling Tangents.s_nu_coupling_series Tangents.s_nu_coupling_closed Tangents.coeffs Tangents.tangent_of GalileanSeries.exp_by GalileanSeries.log_by GalileanSeries.s_nu_coupling GalileanSeries.coupling_by Galilean.act Galilean.act_at Series.left_jacobian_inv Series.minus_hat Matrix.apply Matrix.mul Matrix.row_by Matrix.sub Composition.compose Composition.inverse Composition.chain Composition.chain_blocks Composition.starts Composition.chain_from Composition.check_element Composition.compose_answers Composition.inverse_answer Composition.element_answer Elements.identity Elements.compose Elements.inverse Elements.coeffs Elements.element_of So3Calls.log_jacobian So3Elements.is_valid So3Elements.log So3Elements.log_coeff So3Elements.mirrored So3Elements.unit_quaternion So3Elements.half_angle So3Elements.half_angle_of So3Elements.sin_angle_squared So3Tangents.leaves_series So3Tangents.turn_too_large So3Tangents.exp So3Tangents.exp_series So3Tangents.exp_closed So3Tangents.theta_squared So3Tangents.left_jacobian So3Tangents.left_jacobian_series So3Tangents.left_jacobian_closed So3Tangents.left_jacobian_inv So3Tangents.left_jacobian_inv_series So3Tangents.left_jacobian_inv_closed So3Tangents.right_jacobian_inv So3Tangents.right_jacobian Angles.of_square HalfAngles.excess HalfAngles.in_range HalfAngles.arctangent HalfAngles.guess HalfAngles.half_angle Sines.horner Sines.sine_of Sines.cosine_of Sines.sine Sines.cosine ClosedForms.exp ClosedForms.exp_by ClosedForms.left_jacobian ClosedForms.left_jacobian_by ClosedForms.left_jacobian_inv ClosedForms.left_jacobian_inv_by ClosedForms.log_coefficient ClosedForms.s_nu_coupling Series.exp Series.log_by Series.half Series.plus_hat Series.left_jacobian Matrix.identity Matrix.add Matrix.scale Matrix.transpose Matrix.hat Matrices.transpose Vector.divide Vector.norm_squared Vector.dot Checks.check_values Checks.check_param_block Checks.both Checks.check_unit_quaternion Checks.check_norm Checks.norm_of Checks.all_finite Checks.quaternion_norm_tolerance Checks.permitted Checks.check_tolerance Refusals.number Refusals.figures Refusals.tried Refusals.place Refusals.earlier Galilean.identity Galilean.compose Galilean.compose_at Galilean.inverse Galilean.inverse_at Galilean.rotation_impl Rotation.unit_quaternion Rotation.inverse Quaternion.identity Quaternion.mul Quaternion.normalize Quaternion.divide Quaternion.norm Quaternion.norm_squared Quaternion.conjugate Quaternion.rotate Quaternion.vector Vector.zero Vector.add Vector.sub Vector.neg Vector.scale Vector.cross abs square_root nearest_root count isqrt add sub mul div neg eq lt le sum round size span climb odd units count_trailing_zeros of_fields of_bits to_bits
bench-list = refl

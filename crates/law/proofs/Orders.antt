-- The worked values of the rounded formulas, by computation. Assumes nothing.
use mathlib.Core.Path.{◌≡◌, refl}
use mathlib.Core.List.{map}
use lib.Count.{count_trailing_zeros}
use lib.Ieee.{of_fields, of_bits, to_bits, add, sub, mul, div, neg, sum, round, size, span, climb, odd, units}
use Rattle.float.specs.Exact.{count}
use Rattle.float.specs.Root.{isqrt, nearest_root, square_root}
use Rattle.law.specs.Vector as Vector
use Rattle.law.specs.Matrix as Matrix
use Rattle.law.specs.Quaternion as Quaternion
use Rattle.law.specs.Rotation as Rotation
use Rattle.law.specs.Rows as Rows
use Rattle.law.specs.Galilean as Galilean
use Rattle.law.specs.Series as Series
use Rattle.law.specs.GalileanSeries as GalileanSeries
use Rattle.law.specs.ClosedForms as ClosedForms
use Rattle.law.specs.Orders.{Worked, worked_orders, worked_series, worked_closed_forms}

pub orders : map (λ (w : Worked). w.computed) worked_orders ≡ map (λ (w : Worked). w.said) worked_orders
unfolding worked_orders Rows.by_row Galilean.act_event Galilean.act_event_at Galilean.identity Galilean.normalize Galilean.inverse_jacobian Galilean.compose_jacobian_self Galilean.jacobian_identity Galilean.act_jacobian_self Galilean.act_jacobian_self_at Galilean.rotation_matrix Galilean.compose Galilean.compose_at Galilean.inverse Galilean.inverse_at Galilean.act Galilean.act_at Galilean.matrix Galilean.matrix_at Galilean.adjoint Galilean.opened Galilean.by_blocks Galilean.adjoint_at Galilean.small_adj Galilean.lie_bracket Galilean.apply_tangent Galilean.coeffs Galilean.tangent Galilean.lie_algebra Galilean.hat Galilean.rotation_impl Galilean.row5 Galilean.row10 Rows.dot Rows.apply Rows.neg Rotation.normalize Rotation.compose Rotation.inverse Rotation.act Rotation.rotation_matrix Rotation.unit_quaternion Quaternion.identity Quaternion.mul Quaternion.normalize Quaternion.divide Quaternion.norm Quaternion.norm_squared Quaternion.conjugate Quaternion.rotate Quaternion.vector Quaternion.rotation_matrix Matrix.identity Matrix.hat Matrix.mul Matrix.row_by Matrix.scale Matrix.neg Matrix.sub Vector.zero Vector.add Vector.sub Vector.neg Vector.scale Vector.cross Vector.dot Vector.norm Vector.norm_squared add sub mul div neg square_root nearest_root count isqrt sum round size span climb odd units count_trailing_zeros of_fields of_bits to_bits
orders = refl

pub series-orders : map (λ (w : Worked). w.computed) worked_series ≡ map (λ (w : Worked). w.said) worked_series
unfolding worked_series Rows.by_row GalileanSeries.coupling_by GalileanSeries.s_nu_coupling GalileanSeries.exp_by GalileanSeries.exp GalileanSeries.log_by GalileanSeries.log_at Series.exp Series.half Series.plus_hat Series.minus_hat Series.left_jacobian Series.left_jacobian_inv Rotation.unit_quaternion Quaternion.identity Quaternion.normalize Quaternion.divide Quaternion.norm Quaternion.norm_squared Matrix.identity Matrix.hat Matrix.mul Matrix.row_by Matrix.apply Matrix.scale Matrix.add Matrix.sub Vector.add Vector.sub Vector.neg Vector.scale Vector.dot Vector.norm_squared add sub mul div neg square_root nearest_root count isqrt sum round size span climb odd units count_trailing_zeros of_fields of_bits to_bits
series-orders = refl

pub closed_form-orders : map (λ (w : Worked). w.computed) worked_closed_forms ≡ map (λ (w : Worked). w.said) worked_closed_forms
unfolding worked_closed_forms Rows.by_row ClosedForms.exp_by ClosedForms.exp ClosedForms.log_coefficient ClosedForms.left_jacobian_by ClosedForms.left_jacobian ClosedForms.left_jacobian_inv_by ClosedForms.left_jacobian_inv ClosedForms.s_nu_coupling GalileanSeries.coupling_by Series.half Series.log_by Series.minus_hat Series.left_jacobian_inv Quaternion.vector Matrix.identity Matrix.hat Matrix.mul Matrix.row_by Matrix.scale Matrix.add Matrix.sub Vector.add Vector.sub Vector.scale add sub mul div neg sum round size span climb odd units count_trailing_zeros of_fields of_bits to_bits
closed_form-orders = refl

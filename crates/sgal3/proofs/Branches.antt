-- SGal(3)'s exp and log on both sides of the limit: above it by closed forms over one angle, up to it the formulas of law/specs/GalileanSeries.
-- Assumes nothing.
use mathlib.Core.Path.{◌≡◌}
use mathlib.Core.Bool.{true, false}
use Rattle.law.specs.Rounded.{rounded, divisors}
use Rattle.law.specs.GalileanSeries as GalileanSeries
use Rattle.so3.specs.Angles.{of_square}
use Rattle.so3.specs.Tangents as So3Tangents
use Rattle.so3.specs.Elements as So3Elements
use Rattle.so3.specs.declared.Tangent as Turns
use Rattle.linear.specs.Records.{vector}
use Rattle.sgal3.specs.Elements.{element, of_element, rotation_impl, log, log_by}
use Rattle.sgal3.specs.Tangents.{tangent, of_tangent, turn, exp, exp_by, s_nu_coupling, s_nu_coupling_series, s_nu_coupling_closed}
use Rattle.sgal3.specs.declared.Element.{Element}
use Rattle.sgal3.specs.declared.Tangent.{Tangent}

-- ---- exp: the left Jacobian and M over one angle
pub exp-above-limit : (a : Tangent) → So3Tangents.leaves_series (turn a) ≡ true
    → exp a
    ≡ exp_by (So3Tangents.exp_closed (turn a)) (So3Tangents.left_jacobian_closed (of_square (So3Tangents.theta_squared (turn a))) (turn a)) (s_nu_coupling_closed (of_square (So3Tangents.theta_squared (turn a))) a.theta) a
unfolding exp s_nu_coupling turn So3Tangents.exp So3Tangents.left_jacobian
exp-above-limit a h = rw h

pub exp-up-to-limit : (a : Tangent) → So3Tangents.leaves_series (turn a) ≡ false
    → exp a ≡ exp_by (So3Tangents.exp_series (turn a)) (So3Tangents.left_jacobian_series (turn a)) (s_nu_coupling_series a.theta) a
unfolding exp s_nu_coupling turn So3Tangents.exp So3Tangents.left_jacobian
exp-up-to-limit a h = rw h

pub exp-series : (a : Tangent) → So3Tangents.leaves_series (turn a) ≡ false → exp a ≡ of_element (GalileanSeries.exp rounded divisors (tangent a))
unfolding exp exp_by s_nu_coupling s_nu_coupling_series So3Tangents.exp So3Tangents.exp_series So3Tangents.left_jacobian So3Tangents.left_jacobian_series turn GalileanSeries.exp
exp-series a h = rw h

-- ---- log: the inverse of the left Jacobian and M over one angle, that of SO(3)'s log
abbrev turn_of : Element → Turns.Tangent
turn_of a = So3Elements.log (rotation_impl a)

pub log-above-limit : (a : Element) → So3Tangents.leaves_series (turn_of a) ≡ true
    → let w = of_square (So3Tangents.theta_squared (turn_of a)) in
    log a ≡ log_by (turn_of a) (So3Tangents.left_jacobian_inv_closed w (turn_of a)) (s_nu_coupling_closed w (turn_of a).theta) a
unfolding log s_nu_coupling So3Tangents.left_jacobian_inv
log-above-limit a h = rw h

pub log-up-to-limit : (a : Element) → So3Tangents.leaves_series (turn_of a) ≡ false
    → log a ≡ log_by (turn_of a) (So3Tangents.left_jacobian_inv_series (turn_of a)) (s_nu_coupling_series (turn_of a).theta) a
unfolding log s_nu_coupling So3Tangents.left_jacobian_inv
log-up-to-limit a h = rw h

pub log-series : (a : Element) → So3Tangents.leaves_series (turn_of a) ≡ false → log a ≡ of_tangent (GalileanSeries.log_at rounded divisors (vector (turn_of a).theta) (element a))
unfolding log log_by s_nu_coupling s_nu_coupling_series So3Tangents.left_jacobian_inv So3Tangents.left_jacobian_inv_series GalileanSeries.log_at
log-series a h = rw h

-- What is answered with a Galilean tangent, an event, an adjoint or a 10 by 10 matrix: its values, or an overflow. Assumes nothing.
use mathlib.Core.Path.{◌≡◌}
use mathlib.Core.List.{List, []}
use lib.ListN.{replicate}
use lib.Ieee.{Float}
use Rattle.law.specs.Rounded.{rounded}
use Rattle.checks.specs.Outcomes.{result}
use Rattle.manifold.specs.Answers.{answered}
use Rattle.manifold.proofs.Outcomes.{answered-outcome}
use Rattle.ten_rows.specs.Adjoints as Adjoints
use Rattle.ten_rows.specs.TenRows as TenRows
use Rattle.ten_rows.specs.declared.Adjoint.{Adjoint}
use Rattle.sgal3.specs.Tangents as Tangents
use Rattle.sgal3.specs.Events as Events
use Rattle.sgal3.specs.Outcomes.{tangent, event, short_adjoint, matrix10}
use Rattle.sgal3.specs.declared.Tangent.{Tangent}
use Rattle.sgal3.specs.declared.Event.{Event}

pub tangent-outcome : (t : Tangent) → tangent (answered Tangents.coeffs t) ≡ result (Tangents.coeffs t) []
unfolding tangent
tangent-outcome = answered-outcome Tangents.coeffs []

pub event-outcome : (e : Event) → event (answered Events.coeffs e) ≡ result (Events.coeffs e) []
unfolding event
event-outcome = answered-outcome Events.coeffs []

pub short_adjoint-outcome : (d : Adjoint) → short_adjoint (answered Adjoints.values d) ≡ result (Adjoints.values d) (replicate 39 rounded.zero)
unfolding short_adjoint
short_adjoint-outcome = answered-outcome Adjoints.values (replicate 39 rounded.zero)

pub matrix10-outcome : (m : List (List Float)) → matrix10 (answered TenRows.values m) ≡ result (TenRows.values m) (replicate 100 rounded.zero)
unfolding matrix10
matrix10-outcome = answered-outcome TenRows.values (replicate 100 rounded.zero)

-- The outcome of an answer with a Galilean tangent, an event, an adjoint or a 10 by 10 matrix; that of one with an element is in sgal3_calls. Definitions only.
use Rattle.std.specs.Prelude.{[], List, Result, Float}
use Rattle.checks.specs.Outcomes.{Outcome, outcome}
use Rattle.checks.specs.declared.Refusal.{Refusal}
use Rattle.manifold.specs.Outcomes.{beside}
use Rattle.ten_rows.specs.Adjoints as Adjoints
use Rattle.ten_rows.specs.TenRows as TenRows
use Rattle.ten_rows.specs.declared.Adjoint.{Adjoint}
use Rattle.sgal3.specs.Tangents as Tangents
use Rattle.sgal3.specs.Events as Events
use Rattle.sgal3.specs.declared.Tangent.{Tangent}
use Rattle.sgal3.specs.declared.Event.{Event}

-- rho, nu, theta, s
unfoldable pub tangent : Result Tangent Refusal → Outcome Float
tangent answer = outcome Tangents.coeffs [] answer

-- the point, and the time
unfoldable pub event : Result Event Refusal → Outcome Float
event answer = outcome Events.coeffs [] answer

-- the 39 numbers; all +0 beside a refusal
unfoldable pub short_adjoint : Result Adjoint Refusal → Outcome Float
short_adjoint answer = beside Adjoints.values 39 answer

-- by row; all +0 beside a refusal
unfoldable pub matrix10 : Result (List (List Float)) Refusal → Outcome Float
matrix10 answer = beside TenRows.values 100 answer

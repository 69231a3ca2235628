use Rattle.outcomes.specs.Outcomes as Outcomes
use Rattle.manifold.specs.Outcomes.{listed}
use Rattle.sgal3_requests.specs.Requests as Requests
use Rattle.sgal3_requests.proofs.element_call.Goals as goal

pub returns-in-78 : goal.returns-in-78
unfolding Requests.element_call Outcomes.Answered Outcomes.of listed
returns-in-78 c = rw (← c.tolerance-tolerance.ensures, c.in-78.is, ← c.coeffs.ensures) c.put-in-78.ensures

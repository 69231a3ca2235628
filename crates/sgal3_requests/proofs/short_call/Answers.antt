use Rattle.outcomes.specs.Outcomes as Outcomes
use Rattle.sgal3.specs.Outcomes as SGal3Outcomes
use Rattle.sgal3_requests.specs.Requests as Requests
use Rattle.sgal3_requests.proofs.short_call.Goals as goal

pub returns-in-112 : goal.returns-in-112
unfolding Requests.short_call Outcomes.Answered Outcomes.of SGal3Outcomes.short_adjoint
returns-in-112 c = rw (← c.tolerance-tolerance.ensures, c.in-112.is, ← c.short_adjoint.ensures) c.put.ensures

pub returns-in-113 : goal.returns-in-113
unfolding Requests.short_call Outcomes.Answered Outcomes.of SGal3Outcomes.short_adjoint
returns-in-113 c = rw (← c.tolerance-tolerance.ensures, c.in-113.is, ← c.short_compose_jacobian_self.ensures) c.put-in-113.ensures

pub returns-in-114 : goal.returns-in-114
unfolding Requests.short_call Outcomes.Answered Outcomes.of SGal3Outcomes.short_adjoint
returns-in-114 c = rw (← c.tolerance-tolerance.ensures, c.in-114.is, ← c.short_right_plus_jacobian_self.ensures) c.put-in-114.ensures

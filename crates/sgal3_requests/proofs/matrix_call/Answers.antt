use Rattle.outcomes.specs.Outcomes as Outcomes
use Rattle.sgal3.specs.Outcomes as SGal3Outcomes
use Rattle.sgal3_requests.specs.Requests as Requests
use Rattle.sgal3_requests.proofs.matrix_call.Goals as goal

pub returns-in-99 : goal.returns-in-99
unfolding Requests.matrix_call Outcomes.Answered Outcomes.of SGal3Outcomes.matrix10
returns-in-99 c = rw (c.in-99.is, ← c.small_adj.ensures) c.put-in-99.ensures

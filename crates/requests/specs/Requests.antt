-- What a request is answered, as bytes: every public call by its number, none where there is no such call. Definitions only.
use Rattle.std.specs.Prelude.{ℕ, cond, List, eqb, ltb, Option, Some, None}
use Rattle.manifold.specs.Group.{validate_params, from_param_slice}
use Rattle.so3.specs.Group as So3
use Rattle.sgal3.specs.Group as SGal3
use Rattle.sgal3_calls.specs.Outcomes.{element}
use Rattle.outcomes.specs.Outcomes as Outcomes
use Rattle.outcomes.specs.declared.Request.{Request}
use Rattle.so3_requests.specs.Requests as So3Requests
use Rattle.sgal3_requests.specs.Requests as SGal3Requests

-- the checks of a block, and an element as given
unfoldable pub check_call : Request → Option (List ℕ)
check_call r =
    cond (eqb r.call 0) (Some (Outcomes.of_check (validate_params SGal3.group r.left.now (Outcomes.tolerance r))))
    (cond (eqb r.call 1) (Some (Outcomes.of_check (validate_params So3.group r.left.now (Outcomes.tolerance r))))
    (cond (eqb r.call 2) (Some (Outcomes.of_values (element (from_param_slice SGal3.group r.left.now))))
    None))

unfoldable pub answer : Request → Option (List ℕ)
answer r =
    cond (ltb r.call 10) (check_call r)
    (cond (ltb r.call 70) (So3Requests.answer r)
    (SGal3Requests.answer r))

-- The call of act_event on blocks: an element's, and an event's four values. Definitions only.
use Rattle.std.specs.Prelude.{List, Result, Ok, Float}
use Rattle.checks.specs.Checks.{and_then, both, check_values}
use Rattle.checks.specs.declared.Refusal.{Refusal}
use Rattle.manifold.specs.Answers.{answered}
use Rattle.manifold.specs.Group.{try_from_param_slice}
use Rattle.sgal3.specs.Events as Events
use Rattle.sgal3.specs.Group.{group}
use Rattle.sgal3.specs.declared.Element.{Element}
use Rattle.sgal3.specs.declared.Event.{Event}

-- an event's four values
unfoldable pub event : List Float → Result Event Refusal
event s = and_then (check_values s Events.event_size) (λ _. Ok (Events.event_of s))

abbrev pub element_and_event : List Float → List Float → Float → Result (Element × Event) Refusal
element_and_event block s tolerance = both (try_from_param_slice group block tolerance) (event s)

unfoldable pub act_event : List Float → List Float → Float → Result Event Refusal
act_event block s tolerance = and_then (element_and_event block s tolerance) (λ p. answered Events.coeffs (Events.act_event p.0 p.1))

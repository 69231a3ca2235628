-- Events, points with a time of their own: how an element acts on one, the formula of the group at the rounded operations; and the four values of a block.
-- Definitions only.
use Rattle.std.specs.Prelude.{ℕ, List, [], ◌∷◌, get_or, Float}
use Rattle.std.specs.Float.{nan}
use Rattle.law.specs.Rounded.{rounded}
use Rattle.law.specs.Galilean as Law
use Rattle.linear.specs.Records.{vector, vec3}
use Rattle.manifold.specs.Answers.{vector_at}
use Rattle.sgal3.specs.Elements.{element}
use Rattle.sgal3.specs.declared.Element.{Element}
use Rattle.sgal3.specs.declared.Event.{Event}

abbrev pub event : Event → Law.Event Float
event e = record { point = vector e.point; time = e.time }

abbrev pub of_event : Law.Event Float → Event
of_event e = record { point = vec3 e.point; time = e.time }

unfoldable pub act_event : Element → Event → Event
act_event a e = of_event (Law.act_event rounded (element a) (event e))

-- how many values an event has
abbrev pub event_size : ℕ
event_size = 4

-- the point, and the time
unfoldable pub coeffs : Event → List Float
coeffs e = e.point.x ∷ e.point.y ∷ e.point.z ∷ e.time ∷ []

unfoldable pub event_of : List Float → Event
event_of s = record { point = vector_at s 0; time = get_or s 3 nan }

-- What is answered with a rotation, or with a tangent: its values, or an overflow. Assumes nothing.
use mathlib.Core.Path.{◌≡◌}
use mathlib.Core.List.{[]}
use Rattle.checks.specs.Outcomes.{result}
use Rattle.manifold.specs.Answers.{answered}
use Rattle.manifold.proofs.Outcomes.{answered-outcome}
use Rattle.so3.specs.Elements as Elements
use Rattle.so3.specs.Tangents as Tangents
use Rattle.so3.specs.Outcomes.{element, tangent}
use Rattle.so3.specs.declared.Element.{Element}
use Rattle.so3.specs.declared.Tangent.{Tangent}

pub element-outcome : (a : Element) → element (answered Elements.values a) ≡ result (Elements.values a) []
unfolding element
element-outcome = answered-outcome Elements.values []

pub tangent-outcome : (t : Tangent) → tangent (answered Tangents.values t) ≡ result (Tangents.values t) []
unfolding tangent
tangent-outcome = answered-outcome Tangents.values []

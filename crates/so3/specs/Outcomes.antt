-- The outcome of an answer with a rotation, or with a tangent. Definitions only.
use Rattle.std.specs.Prelude.{[], Result, Float}
use Rattle.checks.specs.Outcomes.{Outcome, outcome}
use Rattle.checks.specs.declared.Refusal.{Refusal}
use Rattle.so3.specs.Elements as Elements
use Rattle.so3.specs.Tangents as Tangents
use Rattle.so3.specs.declared.Element.{Element}
use Rattle.so3.specs.declared.Tangent.{Tangent}

-- w, x, y, z
unfoldable pub element : Result Element Refusal → Outcome Float
element answer = outcome Elements.values [] answer

unfoldable pub tangent : Result Tangent Refusal → Outcome Float
tangent answer = outcome Tangents.values [] answer

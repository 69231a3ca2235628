-- The outcome of an answer with a Galilean element. Definitions only.
use Rattle.std.specs.Prelude.{[], Float}
use Rattle.checks.specs.Outcomes.{Outcome, outcome}
use Rattle.sgal3.specs.Elements.{coeffs}
use Rattle.sgal3_calls.specs.Composition.{Answer}

-- the eleven values of a block
unfoldable pub element : Answer → Outcome Float
element answer = outcome coeffs [] answer

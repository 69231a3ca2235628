-- What is answered with an element, by whether its values are finite. Assumes nothing.
use mathlib.Core.Path.{◌≡◌}
use mathlib.Core.Bool.{true, false}
use mathlib.Core.List.{[]}
use Rattle.std.specs.Prelude.{Ok, Err}
use Rattle.checks.specs.Outcomes.{result}
use Rattle.manifold.specs.Answers.{answered}
use Rattle.manifold.proofs.Outcomes.{answered-outcome}
use Rattle.checks.specs.Checks.{all_finite}
use Rattle.checks.specs.declared.Refusal.TheVariants.{Overflow}
use Rattle.sgal3.specs.Elements as Elements
use Rattle.sgal3.specs.declared.Element.{Element}
use Rattle.sgal3_calls.specs.Composition.{element_answer}
use Rattle.sgal3_calls.specs.Outcomes.{element}

pub finished : (e : Element) → all_finite (Elements.coeffs e) ≡ true → element_answer e ≡ Ok e
unfolding element_answer
finished e h = rw h

pub overflowed : (e : Element) → all_finite (Elements.coeffs e) ≡ false → element_answer e ≡ Err Overflow
unfolding element_answer
overflowed e h = rw h

-- its values, or an overflow
pub element-outcome : (a : Element) → element (element_answer a) ≡ result (Elements.coeffs a) []
unfolding element element_answer answered
element-outcome a = answered-outcome Elements.coeffs [] a

-- The parts fill the block.
use mathlib.Core.List.{[], ◌∷◌, ◌++◌}
use Rattle.checks.proofs.Finite.{finite-append}
use Rattle.sgal3.specs.Elements.{coeffs}
use Rattle.linear.specs.Records.{vector_values}
use Rattle.element_bytes.specs.Steps.{quaternion_values}
use Rattle.element_bytes.proofs.Stored.{element-sets}
use Rattle.element_bytes.proofs.put_element.Goals as goal

-- the search stops at its limit for the velocity alone, behind seven values and before one
pub put_vector-requires-2-clause-a_value : goal.put_vector-requires-2-clause-a_value
unfolding coeffs
put_vector-requires-2-clause-a_value c =
    let e = c.args.e in
    let rest = finite-append (vector_values e.translation ++ quaternion_values e.rotation) (vector_values e.velocity ++ (e.time ∷ [])) c.requires.e_value in
    (finite-append (vector_values e.velocity) (e.time ∷ []) rest.1).0

pub returns : goal.returns
returns c =
    rw (c.put_finite_value.ensures, c.put_vector-2.ensures, c.put_quaternion.ensures, c.put_vector.ensures)
    (element-sets c.args.out.now c.args.at c.args.e)

-- The calls of any group, at SGal(3): the definitions of this crate. Assumes nothing.
use mathlib.Core.Path.{◌≡◌, refl}
use mathlib.Core.List.{List}
use lib.Ieee.{Float}
use Rattle.manifold.specs.Answers.{answered}
use Rattle.manifold.specs.Group.{from_param_slice, validate_params, try_from_param_slice}
use Rattle.manifold_calls.specs.Calls as Calls
use Rattle.sgal3.specs.Elements as Elements
use Rattle.sgal3.specs.Elements.{rep_size}
use Rattle.sgal3.specs.Group.{group}
use Rattle.sgal3_calls.specs.Composition.{Answer, check_element, element_answer, compose_answers, inverse_answer, compose, inverse}
use Rattle.checks.specs.Checks.{check_length, check_param_block}
use Rattle.checks.proofs.Passed.{passed_length}
use Rattle.std.specs.Prelude.{Ok, Err, ⊤}
use Rattle.checks.specs.declared.Refusal.{Refusal}
use borrow.Author.Tests.{eq-eqb}
use lib.ListN.{length}

pub checked : (s : List Float) (t : Float) → try_from_param_slice group s t ≡ check_element s t
unfolding try_from_param_slice validate_params check_element
checked s t = refl

pub answers : (left right : Answer) → Calls.compose_answers group Elements.coeffs left right ≡ compose_answers left right
unfolding Calls.compose_answers compose_answers element_answer answered
answers left right = refl

pub composed : (left right : List Float) (t : Float) → Calls.compose group Elements.coeffs left right t ≡ compose left right t
unfolding Calls.compose Calls.compose_answers compose compose_answers element_answer answered try_from_param_slice validate_params check_element
composed left right t = refl

pub inverted : (block : List Float) (t : Float) → Calls.inverse group Elements.coeffs block t ≡ inverse block t
unfolding Calls.inverse Calls.inverse_answer inverse inverse_answer element_answer answered try_from_param_slice validate_params check_element
inverted block t = refl

-- a block that passed has the length that the element needs
pub taken : (s : List Float) (t : Float) (x : ⊤) → check_param_block s rep_size 3 t ≡ Ok x → from_param_slice group s ≡ check_element s t
unfolding from_param_slice check_element check_length
taken s t x e =
    let h : length s ≡ rep_size = passed_length s rep_size 3 t e in
    rw (e, eq-eqb (length s) rep_size h)

pub refused : (s : List Float) (t : Float) (r : Refusal) → check_param_block s rep_size 3 t ≡ Err r → check_element s t ≡ Err r
unfolding check_element
refused s t r e = rw e

-- An accepted compose: its time is the rounded sum of the two times, and finite. Assumes nothing.
use mathlib.Core.Path.{◌≡◌, refl, sym, ap, ◌∙◌, subst}
use mathlib.Core.Bool.{true}
use mathlib.Core.List.{List}
use lib.Dec.{T, lit<}
use lib.Ieee.{Float, binary64, add}
use lib.Ieee.Scale.{finite}
use Rattle.std.specs.Prelude.{Ok}
use Rattle.checks.specs.Checks.{both, all_finite, check_param_block}
use Rattle.checks.proofs.Finite.{finite-at}
use Rattle.checks.proofs.Passed.{same, followed, passed-left, passed-right}
use Rattle.manifold.specs.Answers.{answered}
use Rattle.manifold.proofs.Outcomes.{finished}
use Rattle.law.specs.Galilean as Law
use Rattle.sgal3.specs.Elements as Elements
use Rattle.sgal3.specs.Elements.{rep_size}
use Rattle.sgal3_calls.specs.Composition as Composition
use Rattle.sgal3_calls.specs.Composition.{Answer}
use Rattle.sgal3.specs.declared.Element.{Element}
use Rattle.time_sum.specs.RunningSum.{time_of}

-- ---- what was composed
pub record Composed (left right : Answer) (c : Element) : Type 0 where
  pub a : Element
  pub b : Element
  pub left_is : left ≡ Ok a
  pub right_is : right ≡ Ok b
  pub time : c.time ≡ add binary64 a.time b.time
  pub finite : T (finite c.time)

pub composed : (left right : Answer) (c : Element) → Composition.compose_answers left right ≡ Ok c → Composed left right c
unfolding Composition.compose_answers Composition.element_answer answered
composed left right c h =
    let f = followed (both left right) _ c h in
    let a = f.answer.0 in
    let b = f.answer.1 in
    let D = finished Elements.coeffs (Elements.compose a b) c f.after in
    record {
      a = a;
      b = b;
      left_is = passed-left left right f.answer f.is;
      right_is = passed-right left right f.answer f.is;
      time = ap (λ (e : Element). e.time) (sym D.is) ∙ sum_of a b;
      finite = last c D.finite;
    }
  where
    sum_of : (a b : Element) → (Elements.compose a b).time ≡ add binary64 a.time b.time
    sum_of a b = unfold Elements.compose Law.compose Law.compose_at in refl

    last : (e : Element) → all_finite (Elements.coeffs e) ≡ true → T (finite e.time)
    last e h = unfold Elements.coeffs in subst T (sym (finite-at (Elements.coeffs e) h 10 (lit< tt))) tt

-- ---- the element of a block that passed
pub checked : (tolerance : Float) (s : List Float) (e : Element) → Composition.check_element s tolerance ≡ Ok e → e.time ≡ time_of s
unfolding Composition.check_element Elements.element_of time_of
checked tolerance s e h = let f = followed (check_param_block s rep_size 3 tolerance) _ e h in ap (λ (x : Element). x.time) (sym (same f.after))

pub own-time : (e : Element) → time_of (Elements.coeffs e) ≡ e.time
unfolding time_of Elements.coeffs
own-time e = refl

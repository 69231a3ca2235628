-- The values that are stored are finite: every answer that is an element has finite values. Assumes nothing.
use Prim.Native.Nat.{ℕ, zero, suc, ◌*◌}
use mathlib.Core.Path.{◌≡◌, refl, ap, ◌∙◌}
use mathlib.Core.Bool.{Bool, true, false}
use mathlib.Core.List.{List}
use lib.ListN.{take, drop}
use lib.Ieee.{Float}
use Rattle.std.specs.Prelude.{Ok, Err}
use Rattle.checks.specs.Checks.{Check, and_then, both, all_finite, check_param_block}
use Rattle.checks.proofs.Passed.{passed-finite}
use Rattle.sgal3.specs.Elements as Elements
use Rattle.sgal3.specs.Elements.{element_of, rep_size}
use Rattle.sgal3.specs.declared.Element.{Element}
use Rattle.element_bytes.specs.Bytes.{values_at}
use Rattle.element_bytes.proofs.Values.{element-values}
use Rattle.byte_chain.specs.Steps.{chain_after}
use Rattle.sgal3_calls.specs.Composition.{Answer, check_element, element_answer, compose_answers, inverse_answer, chain_from}
use Rattle.sgal3_calls.proofs.Answers.{finished, overflowed}
use Rattle.handset.specs.Steps.{Finite}

answer-finite : (e : Element) → Finite (element_answer e)
unfolding Finite
answer-finite e = go (all_finite (Elements.coeffs e)) refl
  where
    go : (b : Bool) → all_finite (Elements.coeffs e) ≡ b → Finite (element_answer e)
    go true h = rw (finished e h) h
    go false h = rw (overflowed e h) tt

composed-finite : (a b : Answer) → Finite (compose_answers a b)
unfolding Finite compose_answers both
composed-finite (Ok a) (Ok b) = answer-finite (Elements.compose a b)
composed-finite (Ok a) (Err s) = tt
composed-finite (Err r) (Ok b) = tt
composed-finite (Err r) (Err s) = tt

pub inverse-finite : (a : Answer) → Finite (inverse_answer a)
unfolding Finite inverse_answer
inverse-finite (Ok a) = answer-finite (Elements.inverse a)
inverse-finite (Err r) = tt

chain-finite : (t : Float) (n : ℕ) (s : List Float) (held : Answer) → Finite held → Finite (chain_from t held n s)
unfolding chain_from
chain-finite t zero s held h = h
chain-finite t (suc n) s held h = chain-finite t n (drop rep_size s) _ (composed-finite held (check_element (take rep_size s) t))

block-finite : (s : List ℕ) (i : ℕ) (t : Float) → Finite (check_element (values_at rep_size s i) t)
unfolding Finite check_element
block-finite s i t = go (check_param_block (values_at rep_size s i) rep_size 3 t) refl
  where
    go : (c : Check) → check_param_block (values_at rep_size s i) rep_size 3 t ≡ c → Finite (and_then c (λ _. Ok (element_of (values_at rep_size s i))))
    go (Ok passed) e = ap all_finite (element-values s i) ∙ passed-finite (values_at rep_size s i) rep_size 3 t e
    go (Err r) e = tt

pub after-finite : (t : Float) (f : List ℕ) (n : ℕ) (s : List ℕ) → Finite (chain_after t f n s)
unfolding chain_after
after-finite t f n s = chain-finite t n (values_at (n * rep_size) s 0) _ (block-finite f 0 t)

-- what is stored is finite
pub ruleset finite_values = (after-finite, inverse-finite)

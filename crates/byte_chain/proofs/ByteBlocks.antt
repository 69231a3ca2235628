-- A chain of byte blocks, block by block. Assumes nothing.
use Prim.Native.Nat.{ℕ, suc, ◌+◌, ◌*◌, ◌/◌, ◌<◌}
use mathlib.Core.Path.{◌≡◌, refl, ap, ◌∙◌}
use mathlib.Core.Bool.{true, false}
use mathlib.Core.List.{List, ◌++◌}
use native.Mathlib.Omega.{arith}
use lib.ListN.{length, length-append}
use lib.Seq.{take_at, drop_at}
use lib.Ieee.{Float}
use borrow.Author.Tests.{eq-eqb, ne_eqb}
use Rattle.std.specs.Prelude.{Ok, Err}
use Rattle.checks.specs.Refusals.{earlier}
use Rattle.checks.specs.Checks as Checks
use Rattle.checks.specs.Checks.{both, all_finite, check_param_block}
use Rattle.checks.proofs.Passed.{passed-finite}
use Rattle.checks.specs.declared.Refusal.{Refusal}
use Rattle.checks.specs.declared.Refusal.TheVariants.{Length, Overflow}
use Rattle.sgal3.specs.Elements as Elements
use Rattle.sgal3.specs.Elements.{element_of, rep_size}
use Rattle.sgal3.specs.declared.Element.{Element}
use Rattle.element_bytes.specs.Bytes.{values_at, element_size}
use Rattle.element_bytes.proofs.Values.{values_length, values-joined}
use Rattle.sgal3_calls.specs.Composition.{Answer, check_element, element_answer, compose_answers, chain_from}
use Rattle.sgal3_calls.proofs.Answers.{finished, overflowed}
use Rattle.byte_chain.specs.Blocks as Blocks
use Rattle.byte_chain.specs.Steps.{chain_after, chain_on}

-- ---- the element of a block that is checked
pub passed : (v : List Float) (t : Float) → check_param_block v rep_size 3 t ≡ Checks.passed → check_element v t ≡ Ok (element_of v)
unfolding check_element
passed v t e = rw e

pub refused : (v : List Float) (t : Float) (r : Refusal) → check_param_block v rep_size 3 t ≡ Err r → check_element v t ≡ Err r
unfolding check_element
refused v t r e = rw e

pub block_of : (s : List ℕ) (t : Float) → length s ≡ element_size → Blocks.check_block s t ≡ check_element (values_at rep_size s 0) t
unfolding Blocks.check_block
block_of s t e = rw (eq-eqb _ _ e)

pub no_block : (s : List ℕ) (t : Float) → (length s ≡ element_size → ⊥) → Blocks.check_block s t ≡ Err (Length element_size (length s))
unfolding Blocks.check_block
no_block s t e = rw (ne_eqb _ _ e)

-- ---- a chain's first block, and the rest
one : (t : Float) (held : Answer) (n : ℕ) (block rest : List Float) → length block ≡ rep_size
    → chain_from t held (suc n) (block ++ rest) ≡ chain_from t (compose_answers held (check_element block t)) n rest
unfolding chain_from
one t held n block rest h = rw (take_at block rest rep_size h, drop_at block rest rep_size h)

module _ (t : Float) (s block rest : List ℕ) (e : s ≡ block ++ rest) (h : length block ≡ element_size) where
  split : values_at (length s / element_size * rep_size) s 0 ≡ values_at rep_size block 0 ++ values_at (length rest / element_size * rep_size) rest 0
  split =
      let n : length s / element_size * rep_size ≡ rep_size + length rest / element_size * rep_size = omega (arith, ap length e ∙ length-append block rest) in
      rw (n, e) (values-joined rep_size (length rest / element_size * rep_size) block rest h)

  pub next : (held : Answer) → chain_on t held s ≡ chain_on t (compose_answers held (check_element (values_at rep_size block 0) t)) rest
  unfolding chain_on
  next held =
      let n : length s / element_size ≡ suc (length rest / element_size) = omega (arith, ap length e ∙ length-append block rest) in
      rw (split, n) (one t held (length rest / element_size) (values_at rep_size block 0) _ (values_length rep_size block 0))

  -- what is held is an element: the next block is composed with it, or refused
  composes : (a : Element) → check_param_block (values_at rep_size block 0) rep_size 3 t ≡ Checks.passed
      → chain_on t (Ok a) s ≡ chain_on t (element_answer (Elements.compose a (element_of (values_at rep_size block 0)))) rest
  unfolding compose_answers both
  composes a p = next (Ok a) ∙ rw (passed (values_at rep_size block 0) t p)

  pub goes_on : (a : Element) → check_param_block (values_at rep_size block 0) rep_size 3 t ≡ Checks.passed
      → all_finite (Elements.coeffs (Elements.compose a (element_of (values_at rep_size block 0)))) ≡ true
      → chain_on t (Ok a) s ≡ chain_on t (Ok (Elements.compose a (element_of (values_at rep_size block 0)))) rest
  goes_on a p f = composes a p ∙ rw (finished _ f)

  pub overflows : (a : Element) → check_param_block (values_at rep_size block 0) rep_size 3 t ≡ Checks.passed
      → all_finite (Elements.coeffs (Elements.compose a (element_of (values_at rep_size block 0)))) ≡ false
      → chain_on t (Ok a) s ≡ chain_on t (Err Overflow) rest
  overflows a p f = composes a p ∙ rw (overflowed _ f)

  pub stops : (a : Element) (q : Refusal) → check_param_block (values_at rep_size block 0) rep_size 3 t ≡ Err q → chain_on t (Ok a) s ≡ chain_on t (Err q) rest
  unfolding compose_answers both
  stops a q p = next (Ok a) ∙ rw (refused (values_at rep_size block 0) t q p)

  -- what is held is a refusal already
  pub passed-by : (r : Refusal) → check_param_block (values_at rep_size block 0) rep_size 3 t ≡ Checks.passed → chain_on t (Err r) s ≡ chain_on t (Err r) rest
  unfolding compose_answers both
  passed-by r p = next (Err r) ∙ rw (passed (values_at rep_size block 0) t p)

  pub refused-by : (r q : Refusal) → check_param_block (values_at rep_size block 0) rep_size 3 t ≡ Err q → chain_on t (Err r) s ≡ chain_on t (Err (earlier r q)) rest
  unfolding compose_answers both
  refused-by r q p = next (Err r) ∙ rw (refused (values_at rep_size block 0) t q p)

pub end : (t : Float) (held : Answer) (s : List ℕ) → length s < element_size → chain_on t held s ≡ held
unfolding chain_on chain_from
end t held s h = let e : length s / element_size ≡ 0 = omega arith in rw e

-- ---- the chain after a first block
pub after : (t : Float) (f s : List ℕ) → chain_after t f (length s / element_size) s ≡ chain_on t (check_element (values_at rep_size f 0) t) s
unfolding chain_after chain_on
after t f s = refl

-- a chain's first block
pub ruleset first = (after, passed, refused, passed-finite)

-- one more block of a chain, and its end
pub ruleset blocks = (goes_on, overflows, stops, passed-by, refused-by, end, passed-finite)

-- The order of refusals of compose and of the chain is the scope's (`compose-order`, `chain-order`). Assumes nothing.
use Prim.Native.Nat.{ℕ, zero, suc, ◌<◌}
use mathlib.Core.Path.{◌≡◌, refl, sym, ap, ◌∙◌, subst}
use mathlib.Core.Bool.{Bool, true, false, cond}
use mathlib.Core.List.{List, [], ◌∷◌}
use native.Mathlib.Omega.{arith}
use lib.Dec.{eqb, lit<}
use lib.ListN.{length, take, drop}
use lib.Ieee.{Float, lt, of_bits, sub, binary64}
use lib.Ieee.Scale.{finite}
use Rattle.std.specs.Prelude.{Ok, Err}
use Rattle.float.specs.Exact.{abs}
use Rattle.checks.specs.Refusals.{number, tried, place, earlier, earliest}
use Rattle.checks.specs.Checks.{passed, and_then, both, permitted, check_tolerance, all_finite, norm_of, check_norm, check_unit_quaternion, check_length, check_values, check_param_block}
use Rattle.checks.specs.declared.Refusal.{Refusal}
use Rattle.checks.specs.declared.Refusal.TheVariants.{Length, NotFinite, Tolerance, NotUnit, Overflow}
use Rattle.checks.proofs.Order.{Picked, left, right, picked, literal-order}
use Rattle.sgal3.specs.Elements as Elements
use Rattle.sgal3.specs.Elements.{rep_size}
use Rattle.sgal3_calls.specs.Composition.{Answer, check_element, element_answer, compose_answers, compose, chain_from, starts, chain_blocks}
use Rattle.sgal3_calls.specs.Order.{checks, refusals, step, compose_all, unless_refused, in_order}
use Rattle.sgal3_calls.proofs.Answers.{finished, overflowed}
use Rattle.sgal3.specs.declared.Element.{Element}

-- ---- a block's refusal comes before an overflow
abbrev BeforeOverflow : Answer → Type 0
BeforeOverflow (Ok e) = Unit {0}
BeforeOverflow (Err r) = place tried (number r) < place tried (number Overflow)

abbrev All : List Answer → Type 0
All [] = Unit {0}
All (o ∷ os) = BeforeOverflow o × All os

block : (s : List Float) (t : Float) → BeforeOverflow (check_element s t)
unfolding check_element check_param_block check_values check_length check_unit_quaternion check_norm check_tolerance number tried place
block s t = go (eqb (length s) rep_size) (all_finite s) (finite (norm_of (take 4 (drop 3 s)))) (permitted t) (lt t (abs (sub binary64 (norm_of (take 4 (drop 3 s))) (of_bits binary64 0x3ff0_0000_0000_0000))))
  where
    go : (a b c p d : Bool)
        → BeforeOverflow
        (and_then
        (and_then (and_then (cond a passed (Err (Length rep_size (length s)))) (λ _. cond b passed (Err NotFinite)))
        (λ _. cond c (and_then (cond p passed (Err Tolerance)) (λ _. cond d (Err (NotUnit (norm_of (take 4 (drop 3 s))))) passed)) (Err NotFinite)))
        (λ _. Ok (Elements.element_of s)))
    go true true true true true = lit< tt
    go true true true true false = tt
    go true true true false d = lit< tt
    go true true false p d = lit< tt
    go true false c p d = lit< tt
    go false b c p d = lit< tt

blocks : (tolerance : Float) (n : ℕ) (s : List Float) → All (checks tolerance n s)
unfolding checks
blocks tolerance zero s = tt
blocks tolerance (suc n) s = (block (take rep_size s) tolerance, blocks tolerance n (drop rep_size s))

-- ---- the chain is a fold over the answers of its blocks
folded : Answer → List Answer → Answer
folded held [] = held
folded held (o ∷ os) = folded (compose_answers held o) os

chain-folded : (tolerance : Float) (held : Answer) (n : ℕ) (s : List Float) → chain_from tolerance held n s ≡ folded held (checks tolerance n s)
unfolding chain_from checks folded
chain-folded tolerance held zero s = refl
chain-folded tolerance held (suc n) s = chain-folded tolerance (compose_answers held (check_element (take rep_size s) tolerance)) n (drop rep_size s)

-- ---- a refusal, once met, gives way only to one that is tried earlier
refused : (r : Refusal) (os : List Answer) → folded (Err r) os ≡ Err (earliest r (refusals os))
unfolding folded refusals earliest compose_answers both
refused r [] = refl
refused r (Ok b ∷ os) = refused r os
refused r (Err q ∷ os) = refused (earlier r q) os

-- an overflow gives way to any block's refusal
overflow : (rs : List Refusal) (os : List Answer) → refusals os ≡ rs → All os → Err (earliest Overflow rs) ≡ unless_refused rs (Err Overflow)
unfolding earliest unless_refused
overflow [] os e h = refl
overflow (r ∷ rs) os e h = ap Err (gives (picked Overflow r) (first os e h) ∙ sym (literal-order r rs r))
  where
    first : (os : List Answer) → refusals os ≡ r ∷ rs → All os → place tried (number r) < place tried (number Overflow)
    first [] e h = absurd (no (unfold refusals in e))
      where
        no : [] ≡ r ∷ rs → ⊥
        no p = let z : ◌≡◌ {A = ℕ} 0 1 = cc in omega arith
    first (Ok b ∷ os) e h = first os (unfold refusals in e) h.1
    first (Err q ∷ os) e h = let p : q ≡ r = (unfold refusals in cc) in subst (λ (x : Refusal). place tried (number x) < place tried (number Overflow)) p h.0

    gives : Picked Overflow r → place tried (number r) < place tried (number Overflow) → earliest (earlier Overflow r) rs ≡ earliest r rs
    gives (left l e) h = absurd (omega arith)
    gives (right l e) h = ap (λ (x : Refusal). earliest x rs) e

-- ---- the fold is the scope's order
stays : (os : List Answer) (r : Refusal) → compose_all os (Err r) ≡ Err r
unfolding compose_all step
stays [] r = refl
stays (o ∷ os) r = stays os r

from-overflow : (os : List Answer) → All os → folded (Err Overflow) os ≡ unless_refused (refusals os) (compose_all os (Err Overflow))
from-overflow os h = refused Overflow os ∙ overflow (refusals os) os refl h ∙ ap (unless_refused (refusals os)) (sym (stays os Overflow))

in_order_lem : (a : Element) (os : List Answer) → All os → folded (Ok a) os ≡ in_order (Ok a) os
unfolding in_order folded refusals compose_all step unless_refused compose_answers both
in_order_lem a [] h = refl
in_order_lem a (Err q ∷ os) h = refused q os ∙ ap Err (sym (literal-order q (refusals os) q))
in_order_lem a (Ok b ∷ os) h = go (all_finite (Elements.coeffs (Elements.compose a b))) refl (in_order_lem (Elements.compose a b) os h.1)
  where
    go : (c : Bool) → all_finite (Elements.coeffs (Elements.compose a b)) ≡ c → folded (Ok (Elements.compose a b)) os ≡ unless_refused (refusals os) (compose_all os (Ok (Elements.compose a b)))
        → folded (element_answer (Elements.compose a b)) os ≡ unless_refused (refusals os) (compose_all os (element_answer (Elements.compose a b)))
    go true e ih = rw (finished (Elements.compose a b) e) ih
    go false e ih = rw (overflowed (Elements.compose a b) e) (from-overflow os h.1)

-- from whatever stands before the blocks
from-any : (first : Answer) (os : List Answer) → All os → folded first os ≡ in_order first os
unfolding in_order refusals unless_refused
from-any (Ok a) os h = in_order_lem a os h
from-any (Err r) os h = refused r os ∙ ap Err (sym (literal-order r (refusals os) r))

pub chain-order : (tolerance : Float) (n : ℕ) (s : List Float) → chain_blocks tolerance n s ≡ in_order (starts tolerance) (checks tolerance n s)
unfolding chain_blocks
chain-order tolerance n s = chain-folded tolerance (starts tolerance) n s ∙ from-any (starts tolerance) (checks tolerance n s) (blocks tolerance n s)

two-in-order : (a b : Answer) → compose_answers a b ≡ unless_refused (refusals (a ∷ b ∷ [])) (step a b)
unfolding compose_answers both refusals step unless_refused earliest
two-in-order (Ok a) (Ok b) = refl
two-in-order (Ok a) (Err s) = ap Err (sym (literal-order s [] s))
two-in-order (Err r) (Ok b) = ap Err (sym (literal-order r [] r))
two-in-order (Err r) (Err s) = ap Err (sym (literal-order r (s ∷ []) r))

pub compose-order : (l r : List Float) (tolerance : Float) → compose l r tolerance ≡ unless_refused (refusals (check_element l tolerance ∷ check_element r tolerance ∷ [])) (step (check_element l tolerance) (check_element r tolerance))
unfolding compose
compose-order l r tolerance = two-in-order (check_element l tolerance) (check_element r tolerance)

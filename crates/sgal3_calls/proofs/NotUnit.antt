-- Only a block that is handed in is refused as 3: an element made on the way, such as a partial element of a chain, is no block. Assumes nothing.
use Prim.Native.Nat.{ℕ, zero, suc}
use mathlib.Core.Path.{◌≡◌, refl, sym}
use mathlib.Core.Bool.{Bool, true, false, cond}
use mathlib.Core.List.{List, Memᴰ}
use mathlib.Core.Logic.{◌⊎◌, inl, inr}
use native.Mathlib.Omega.{arith}
use lib.ListN.{take, drop}
use lib.Ieee.{Float}
use Rattle.std.specs.Prelude.{Ok, Err}
use Rattle.checks.specs.Checks.{both, permitted, check_tolerance, all_finite}
use Rattle.checks.specs.declared.Refusal.TheVariants.{NotUnit, Overflow}
use Rattle.checks.proofs.Order.{Picked, left, right, picked}
use Rattle.sgal3.specs.Elements as Elements
use Rattle.sgal3.specs.Elements.{rep_size}
use Rattle.sgal3.specs.declared.Element.{Element}
use Rattle.sgal3_calls.specs.Composition.{Answer, check_element, element_answer, compose_answers, inverse_answer, compose, inverse, chain_from, starts, chain_blocks}
use Rattle.sgal3_calls.specs.Order.{checks}

module _ (norm : Float) where
  -- refused as 3, with that norm
  abbrev pub RefusedAs3 : Answer → Type 0
  RefusedAs3 o = o ≡ Err (NotUnit norm)

  -- a result is never refused with 3
  pub made : (e : Element) → RefusedAs3 (element_answer e) → ⊥
  unfolding element_answer
  made e = go (all_finite (Elements.coeffs e))
    where
      go : (b : Bool) → RefusedAs3 (cond b (Ok e) (Err Overflow)) → ⊥
      go true h = let z : ◌≡◌ {A = ℕ} 0 1 = cc in omega arith
      go false h = let z : ◌≡◌ {A = ℕ} 0 1 = cc in omega arith

  of_two : (a b : Answer) → RefusedAs3 (compose_answers a b) → RefusedAs3 a ⊎ RefusedAs3 b
  unfolding compose_answers both
  of_two (Ok a) (Ok b) h = absurd (made (Elements.compose a b) h)
  of_two (Ok a) (Err s) h = inr h
  of_two (Err r) (Ok b) h = inl h
  of_two (Err r) (Err s) h = go (picked r s)
    where
      go : Picked r s → RefusedAs3 (Err r) ⊎ RefusedAs3 (Err s)
      go (left l e) = inl (cc)
      go (right l e) = inr (cc)

  pub compose-not-unit : (l r : List Float) (tolerance : Float) → RefusedAs3 (compose l r tolerance) → RefusedAs3 (check_element l tolerance) ⊎ RefusedAs3 (check_element r tolerance)
  unfolding compose
  compose-not-unit l r tolerance = of_two (check_element l tolerance) (check_element r tolerance)

  pub inverse-not-unit : (s : List Float) (tolerance : Float) → RefusedAs3 (inverse s tolerance) → RefusedAs3 (check_element s tolerance)
  unfolding inverse inverse_answer
  inverse-not-unit s tolerance = go (check_element s tolerance)
    where
      go : (a : Answer) → RefusedAs3 (inverse_answer a) → RefusedAs3 a
      go (Ok a) h = absurd (made (Elements.inverse a) h)
      go (Err r) h = h

  from-held : (tolerance : Float) (held : Answer) (n : ℕ) (s : List Float) → RefusedAs3 (chain_from tolerance held n s)
      → RefusedAs3 held ⊎ Memᴰ (Err (NotUnit norm)) (checks tolerance n s)
  unfolding chain_from checks
  from-held tolerance held zero s h = inl h
  from-held tolerance held (suc n) s h = go (from-held tolerance (compose_answers held (check_element (take rep_size s) tolerance)) n (drop rep_size s) h)
    where
      first : RefusedAs3 held ⊎ RefusedAs3 (check_element (take rep_size s) tolerance) → RefusedAs3 held ⊎ Memᴰ (Err (NotUnit norm)) (checks tolerance (suc n) s)
      first (inl e) = inl e
      first (inr e) = inr (Memᴰ.head (sym e))

      go : RefusedAs3 (compose_answers held (check_element (take rep_size s) tolerance)) ⊎ Memᴰ (Err (NotUnit norm)) (checks tolerance n (drop rep_size s))
          → RefusedAs3 held ⊎ Memᴰ (Err (NotUnit norm)) (checks tolerance (suc n) s)
      go (inl e) = first (of_two held (check_element (take rep_size s) tolerance) e)
      go (inr m) = inr (Memᴰ.tail m)

  begins : (tolerance : Float) → RefusedAs3 (starts tolerance) → ⊥
  unfolding starts check_tolerance
  begins tolerance h = go (permitted tolerance) refl
    where
      go : (b : Bool) → permitted tolerance ≡ b → ⊥
      go true p = let z : ◌≡◌ {A = ℕ} 0 1 = cc in omega arith
      go false p = let z : ◌≡◌ {A = ℕ} 0 1 = cc in omega arith

  pub chain-not-unit : (tolerance : Float) (n : ℕ) (s : List Float) → RefusedAs3 (chain_blocks tolerance n s) → Memᴰ (Err (NotUnit norm)) (checks tolerance n s)
  unfolding chain_blocks
  chain-not-unit tolerance n s h = go (from-held tolerance (starts tolerance) n s h)
    where
      go : RefusedAs3 (starts tolerance) ⊎ Memᴰ (Err (NotUnit norm)) (checks tolerance n s) → Memᴰ (Err (NotUnit norm)) (checks tolerance n s)
      go (inl e) = absurd (begins tolerance e)
      go (inr m) = m

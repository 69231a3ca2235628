-- The chain of byte blocks after a first block: of one block it is compose's answer, and after the identity's it is the chain's. Assumes nothing.
use Prim.Native.Nat.{ℕ, ◌*◌, ◌/◌, ◌≤◌, ◌<◌}
use mathlib.Core.Path.{◌≡◌, refl, sym, subst, ◌∙◌}
use mathlib.Core.Bool.{Bool, true, false, ◌&&◌, cond}
use mathlib.Core.List.{List, [], ◌∷◌}
use borrow.Author.Tests.{lt-ltb}
use native.Mathlib.Omega.{arith}
use native.Mathlib.Nat.{zero-mul}
use lib.Dec.{T, ltb, lit<}
use lib.Arith.{le→nltb}
use lib.IntN.{pos}
use lib.Ieee.Bits.{is_false}
use lib.Ieee.Scale.{finite}
use lib.ListN.{length}
use Rattle.std.proofs.lemmas.List.{append-nil}
use lib.Ieee.{Float, nan, inf, fin, up, down, binary64, of_bits, units, size, add, sub, mul, lt}
use Rattle.std.specs.Prelude.{Ok, Err}
use Rattle.law.specs.Vector as Vector
use Rattle.law.specs.Quaternion as Quaternion
use Rattle.law.specs.Galilean as Galilean
use Rattle.float.specs.Exact.{count, abs}
use Rattle.float.specs.Root.{isqrt, nearest_root, square_root}
use Rattle.checks.specs.Checks as Checks
use Rattle.checks.specs.Checks.{passed, check_chain_length}
use Rattle.checks.specs.declared.Refusal.{Refusal}
use Rattle.checks.specs.declared.Refusal.TheVariants.{Length, NotUnit, Tolerance}
use Rattle.checks.proofs.Finite.{both}
use Rattle.words.specs.Word.{word_at, value_at}
use Rattle.manifold.specs.Answers.{vector_at, quaternion_at}
use Rattle.sgal3.specs.Elements as Elements
use Rattle.sgal3.specs.Elements.{rep_size}
use Rattle.element_bytes.specs.Bytes.{values_at, element_size}
use Rattle.sgal3_calls.specs.Composition as Composition
use Rattle.byte_chain.specs.Blocks as Blocks
use Rattle.byte_chain.specs.Steps as Steps
use Rattle.byte_chain.proofs.ByteBlocks.{block_of, next, end, after}

pub one_block : (t : Float) (f s : List ℕ) → length f ≡ element_size → length s ≡ element_size → Steps.chain_after t f (length s / element_size) s ≡ Composition.compose_answers (Blocks.check_block f t) (Blocks.check_block s t)
one_block t f s d e =
    rw (block_of f t d, block_of s t e) (after t f s ∙ next t s s [] (sym (append-nil s)) e _ ∙ end t _ [] (lit< tt))

-- the identity's bytes: 1.0 at the place of the quaternion's w
abbrev pub identity_block : List ℕ
identity_block =
    0 ∷ 0 ∷ 0 ∷ 0 ∷ 0 ∷ 0 ∷ 0 ∷ 0
    ∷ 0 ∷ 0 ∷ 0 ∷ 0 ∷ 0 ∷ 0 ∷ 0 ∷ 0
    ∷ 0 ∷ 0 ∷ 0 ∷ 0 ∷ 0 ∷ 0 ∷ 0 ∷ 0
    ∷ 0 ∷ 0 ∷ 0 ∷ 0 ∷ 0 ∷ 0 ∷ 240 ∷ 63
    ∷ 0 ∷ 0 ∷ 0 ∷ 0 ∷ 0 ∷ 0 ∷ 0 ∷ 0
    ∷ 0 ∷ 0 ∷ 0 ∷ 0 ∷ 0 ∷ 0 ∷ 0 ∷ 0
    ∷ 0 ∷ 0 ∷ 0 ∷ 0 ∷ 0 ∷ 0 ∷ 0 ∷ 0
    ∷ 0 ∷ 0 ∷ 0 ∷ 0 ∷ 0 ∷ 0 ∷ 0 ∷ 0
    ∷ 0 ∷ 0 ∷ 0 ∷ 0 ∷ 0 ∷ 0 ∷ 0 ∷ 0
    ∷ 0 ∷ 0 ∷ 0 ∷ 0 ∷ 0 ∷ 0 ∷ 0 ∷ 0
    ∷ 0 ∷ 0 ∷ 0 ∷ 0 ∷ 0 ∷ 0 ∷ 0 ∷ 0 ∷ []

-- its norm is 1, which no permitted tolerance refuses
identity-check : (tolerance : Float) → Checks.check_param_block (values_at rep_size identity_block 0) rep_size 3 tolerance
    ≡ Checks.and_then (Checks.check_tolerance tolerance) (λ _. cond (lt tolerance (of_bits binary64 0)) (Err (NotUnit (of_bits binary64 0x3ff0_0000_0000_0000))) Checks.passed)
unfolding Checks.check_param_block Checks.check_values Checks.check_length Checks.check_tolerance Checks.check_unit_quaternion Checks.check_norm Checks.norm_of Checks.all_finite values_at value_at word_at of_bits square_root nearest_root count isqrt units size add sub mul abs
identity-check tolerance = refl

none : (n : ℕ) → 0 ≤ n
none n = omega arith

not-below-zero : (t : Float) → T (lt (of_bits binary64 0) t) → lt t (of_bits binary64 0) ≡ false
unfolding lt of_bits
not-below-zero nan h = refl
not-below-zero (inf true) h = absurd h
not-below-zero (inf false) h = refl
not-below-zero (fin true m e) h = absurd h
not-below-zero (fin false m e) h = rw (zero-mul (down e)) (is_false (ltb (m * up e * down (pos 0)) 0) (le→nltb (m * up e * down (pos 0)) 0 (none (m * up e * down (pos 0)))))

-- at every tolerance the check of the identity's block gives what a chain starts with
pub identity-block : (tolerance : Float) → Composition.check_element (values_at rep_size identity_block 0) tolerance ≡ Composition.starts tolerance
unfolding Composition.check_element Composition.starts Checks.check_tolerance
identity-block tolerance = rw (identity-check tolerance) (go (Checks.permitted tolerance) refl)
  where
    the-element : Elements.element_of (values_at rep_size identity_block 0) ≡ Elements.identity
    the-element = unfold values_at value_at word_at of_bits Elements.identity Elements.element_of vector_at quaternion_at Galilean.identity Vector.zero Quaternion.identity in refl

    above : Checks.permitted tolerance ≡ true → T (lt (of_bits binary64 0) tolerance)
    above e = unfold Checks.permitted in subst T (sym (both (finite tolerance) _ (both (finite tolerance && lt (of_bits binary64 0) tolerance) _ e).0).1) tt

    go : (b : Bool) → Checks.permitted tolerance ≡ b → Checks.and_then (Checks.and_then (cond b Checks.passed (Err Tolerance)) (λ _. cond (lt tolerance (of_bits binary64 0)) (Err (NotUnit (of_bits binary64 0x3ff0_0000_0000_0000))) Checks.passed)) (λ _. Ok (Elements.element_of (values_at rep_size identity_block 0)))
        ≡ Checks.and_then (cond b Checks.passed (Err Tolerance)) (λ _. Ok Elements.identity)
    go true e = rw (not-below-zero tolerance (above e), the-element)
    go false e = refl

pub after-identity : (t : Float) (n : ℕ) (s : List ℕ) → Steps.chain_after t identity_block n s ≡ Blocks.chain_blocks t n s
unfolding Steps.chain_after Blocks.chain_blocks Composition.chain_blocks
after-identity t n s = rw (identity-block t)

-- ---- the chain's length
pub too_long : (t : Float) (most : ℕ) (s : List ℕ) → most < length s → Blocks.chain most s t ≡ Err (Length most (length s))
unfolding Blocks.chain check_chain_length
too_long t most s h = rw (lt-ltb _ _ h)

pub refused-chain : (t : Float) (most : ℕ) (s : List ℕ) (r : Refusal) → check_chain_length (length s) element_size most ≡ Err r → Blocks.chain most s t ≡ Err r
unfolding Blocks.chain
refused-chain t most s r e = rw e

pub whole-blocks : (t : Float) (most : ℕ) (s : List ℕ) → check_chain_length (length s) element_size most ≡ passed → Blocks.chain most s t ≡ Blocks.chain_blocks t (length s / element_size) s
unfolding Blocks.chain
whole-blocks t most s e = rw e

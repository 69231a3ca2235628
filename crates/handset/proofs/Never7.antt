-- An entry at 1e-6 never returns 7: that tolerance is permitted. Assumes nothing.
use Prim.Native.Nat.{ℕ, zero, suc, ◌-◌, ◌*◌, ◌/◌, ◌%◌}
use mathlib.Core.Path.{◌≡◌, sym, subst, ◌∙◌}
use mathlib.Core.Bool.{Bool, true, false, cond}
use mathlib.Core.List.{List}
use native.Mathlib.Omega.{arith}
use lib.Dec.{eqb, ltb}
use lib.ListN.{length, take, drop}
use lib.Ieee.{Float, binary64, of_bits, sub, lt}
use lib.Ieee.Scale.{finite}
use Rattle.std.specs.Prelude.{Result, Ok, Err}
use Rattle.float.specs.Exact.{abs}
use Rattle.checks.specs.Refusals.{number}
use Rattle.checks.specs.Checks.{passed, and_then, both, quaternion_norm_tolerance, all_finite, norm_of, check_norm, check_unit_quaternion, check_length, check_chain_length, check_values, check_param_block}
use Rattle.checks.specs.declared.Refusal.{Refusal}
use Rattle.checks.specs.declared.Refusal.TheVariants.{Length, NotFinite, NotUnit, Overflow}
use Rattle.checks.proofs.Order.{Picked, left, right, picked}
use Rattle.checks.proofs.Passed.{millionth_permitted}
use Rattle.sgal3.specs.Elements as Elements
use Rattle.sgal3.specs.Elements.{rep_size}
use Rattle.sgal3.specs.declared.Element.{Element}
use Rattle.sgal3_calls.specs.Composition as Composition
use Rattle.sgal3_calls.specs.Composition.{Answer}
use Rattle.element_bytes.specs.Bytes.{values_at, element_size}
use Rattle.byte_chain.specs.Blocks as Blocks
use Rattle.handset.specs.Entries as Entries
use Rattle.handset.proofs.Outputs.{done-number, refused-number}

-- not refused, or with another number
abbrev Not7 : {A : Type 0} → Result A Refusal → Type 0
Not7 (Ok x) = Unit {0}
Not7 (Err r) = number r ≡ 7 → ⊥

both_not : {A B : Type 0} (a : Result A Refusal) (b : Result B Refusal) → Not7 a → Not7 b → Not7 (both a b)
unfolding both
both_not (Ok x) (Ok y) h k = tt
both_not (Ok x) (Err s) h k = k
both_not (Err r) (Ok y) h k = h
both_not (Err r) (Err s) h k = go (picked r s)
  where
    go : Picked r s → Not7 (both {A = ℕ} {B = ℕ} (Err r) (Err s))
    go (left l e) = subst (λ (x : Refusal). number x ≡ 7 → ⊥) (sym e) h
    go (right l e) = subst (λ (x : Refusal). number x ≡ 7 → ⊥) (sym e) k

then_not : {A B : Type 0} (a : Result A Refusal) (f : A → Result B Refusal) → Not7 a → ((x : A) → Not7 (f x)) → Not7 (and_then a f)
then_not (Ok x) f h k = k x
then_not (Err r) f h k = h

-- ---- a block, the answer of an operation, two blocks, a chain
checked : (v : List Float) → Not7 (check_param_block v rep_size 3 quaternion_norm_tolerance)
unfolding check_param_block check_values check_length check_unit_quaternion check_norm number
checked v =
    rw millionth_permitted
    (go (eqb (length v) rep_size) (all_finite v) (finite n) (lt quaternion_norm_tolerance (abs (sub binary64 n (of_bits binary64 0x3ff0_0000_0000_0000)))))
  where
    n : Float
    n = norm_of (take 4 (drop 3 v))

    go : (a b c d : Bool)
        → Not7
        (and_then (and_then (cond a passed (Err (Length rep_size (length v)))) (λ _. cond b passed (Err NotFinite)))
        (λ _. cond c (and_then passed (λ _. cond d (Err (NotUnit n)) passed)) (Err NotFinite)))
    go true true true true = λ e. omega arith
    go true true true false = tt
    go true true false d = λ e. omega arith
    go true false c d = λ e. omega arith
    go false b c d = λ e. omega arith

taken : (v : List Float) → Not7 (Composition.check_element v quaternion_norm_tolerance)
unfolding Composition.check_element
taken v = then_not (check_param_block v rep_size 3 quaternion_norm_tolerance) (λ _. Ok (Elements.element_of v)) (checked v) (λ x. tt)

one_block : (s : List ℕ) → Not7 (Blocks.check_block s quaternion_norm_tolerance)
unfolding Blocks.check_block number
one_block s = go (eqb (length s) element_size)
  where
    go : (b : Bool) → Not7 (cond b (Composition.check_element (values_at rep_size s 0) quaternion_norm_tolerance) (Err (Length element_size (length s))))
    go true = taken (values_at rep_size s 0)
    go false = λ e. omega arith

result_not : (e : Element) → Not7 (Composition.element_answer e)
unfolding Composition.element_answer number
result_not e = go (all_finite (Elements.coeffs e))
  where
    go : (b : Bool) → Not7 (cond b (Ok e) (Err Overflow))
    go true = tt
    go false = λ q. omega arith

composed : (a b : Answer) → Not7 a → Not7 b → Not7 (Composition.compose_answers a b)
unfolding Composition.compose_answers
composed a b h k = then_not (both a b) (λ p. Composition.element_answer (Elements.compose p.0 p.1)) (both_not a b h k) (λ p. result_not (Elements.compose p.0 p.1))

inverted : (a : Answer) → Not7 a → Not7 (Composition.inverse_answer a)
unfolding Composition.inverse_answer
inverted a h = then_not a (λ x. Composition.element_answer (Elements.inverse x)) h (λ x. result_not (Elements.inverse x))

from_held : (n : ℕ) (s : List Float) (held : Answer) → Not7 held → Not7 (Composition.chain_from quaternion_norm_tolerance held n s)
unfolding Composition.chain_from
from_held zero s held h = h
from_held (suc n) s held h = from_held n (drop rep_size s) _ (composed held (Composition.check_element (take rep_size s) quaternion_norm_tolerance) h (taken (take rep_size s)))

lengths : (n m : ℕ) → Not7 (check_chain_length n element_size m)
unfolding check_chain_length number
lengths n m = go (ltb m n) (eqb (n % element_size) 0)
  where
    go : (a b : Bool) → Not7 (cond a (Err (Length m n)) (cond b passed (Err (Length (n - n % element_size) n))))
    go true b = λ e. omega arith
    go false true = tt
    go false false = λ e. omega arith

chained : (most : ℕ) (s : List ℕ) → Not7 (Blocks.chain most s quaternion_norm_tolerance)
unfolding Blocks.chain Blocks.chain_blocks Composition.chain_blocks Composition.starts
chained most s =
    then_not (check_chain_length (length s) element_size most) _ (lengths (length s) most)
    (λ x. rw millionth_permitted (from_held (length s / element_size) _ (Ok Elements.identity) tt))

-- ---- with the output as one more block
with_output : (out : List ℕ) (a : Answer) → Not7 a → Not7 (Entries.into out a)
unfolding Entries.into Entries.check_output number
with_output out a h = then_not (both a _) (λ p. Ok p.0) (both_not a _ h (go (eqb (length out) element_size))) (λ p. tt)
  where
    go : (b : Bool) → Not7 (cond b passed (Err (Length element_size (length out))))
    go true = tt
    go false = λ e. omega arith

returned : (a : Answer) → Not7 a → Entries.number a ≡ 7 → ⊥
returned (Ok e) h q = omega (arith, done-number e, q)
returned (Err r) h q = h (sym (refused-number r) ∙ q)

pub compose-never-7 : (l r out : List ℕ) → Entries.number (Entries.compose l r quaternion_norm_tolerance out) ≡ 7 → ⊥
unfolding Entries.compose
compose-never-7 l r out = returned _ (with_output out _ (composed _ _ (one_block l) (one_block r)))

pub in-place-never-7 : (held step : List ℕ) → Entries.number (Entries.compose_in_place held step quaternion_norm_tolerance) ≡ 7 → ⊥
unfolding Entries.compose_in_place
in-place-never-7 held step = compose-never-7 held step held

pub inverse-never-7 : (s out : List ℕ) → Entries.number (Entries.inverse s quaternion_norm_tolerance out) ≡ 7 → ⊥
unfolding Entries.inverse
inverse-never-7 s out = returned _ (with_output out _ (inverted _ (one_block s)))

pub chain-never-7 : (s out : List ℕ) → Entries.number (Entries.chain s quaternion_norm_tolerance out) ≡ 7 → ⊥
unfolding Entries.chain
chain-never-7 s out = returned _ (with_output out _ (chained (Composition.most_blocks * element_size) s))

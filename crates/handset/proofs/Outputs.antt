-- What an output block of the right length, and of another, makes of an answer. Assumes nothing.
use Prim.Native.Nat.{ℕ, suc, ◌≤◌}
use mathlib.Core.Path.{◌≡◌, refl, sym, ap, ◌∙◌}
use mathlib.Core.Bool.{Bool, true, false, cond}
use mathlib.Core.List.{List, [], ◌∷◌}
use native.Mathlib.Omega.{arith}
use borrow.Author.Tests.{eq-eqb, ne_eqb, eqb-true}
use lib.Dec.{eqb}
use lib.ListN.{length}
use lib.Ieee.{Float}
use Rattle.std.specs.Prelude.{Ok, Err}
use Rattle.checks.specs.Refusals as Refusals
use Rattle.checks.specs.Checks.{passed, and_then, both}
use Rattle.sgal3.specs.declared.Element.{Element}
use Rattle.checks.specs.declared.Refusal.{Refusal}
use Rattle.checks.specs.declared.Refusal.TheVariants.{Length}
use Rattle.checks.specs.Outcomes.{outcome}
use Rattle.checks.proofs.Order.{Picked, left, right, picked}
use Rattle.checks.proofs.Outcomes.{not-zero}
use Rattle.element_bytes.specs.Bytes.{values_at, element_bytes, element_size}
use Rattle.element_bytes.proofs.Stored.{element-over}
use Rattle.byte_chain.specs.Blocks as Blocks
use Rattle.byte_chain.proofs.ByteBlocks.{block_of, no_block}
use Rattle.sgal3_calls.specs.Composition as Composition
use Rattle.sgal3_calls.specs.Composition.{Answer}
use Rattle.sgal3_calls.specs.Outcomes.{element}
use Rattle.sgal3.specs.Elements.{rep_size}
use Rattle.handset.specs.Entries.{number, written, Answered, check_output, into}
use Rattle.handset.specs.Steps.{Stored, first_or}

-- ---- an answer's number, and the output after it
pub done-number : (e : Element) → number (Ok e) ≡ 0
unfolding number element outcome
done-number e = refl

pub done-written : (e : Element) (out : List ℕ) → written (Ok e) out ≡ element_bytes e
unfolding written number element outcome element_bytes
done-written e out = refl

pub refused-number : (r : Refusal) → number (Err r) ≡ Refusals.number r
unfolding number element outcome
refused-number r = refl

pub refused-written : (r : Refusal) (out : List ℕ) → written (Err r) out ≡ out
unfolding written number element outcome
refused-written r out = rw (not-zero r)

pub ruleset stored = (done-number, done-written, refused-number, refused-written, element-over)

-- a refusal leaves the output as it was
untouched : (a : Answer) (out : List ℕ) → (number a ≡ 0 → ⊥) → written a out ≡ out
unfolding written
untouched a out h = rw (ne_eqb _ _ h)

refused : (out : List ℕ) (a : Answer) (r : Refusal) (n : ℕ) → a ≡ Err r → n ≡ Refusals.number r → Answered a out out n
refused out a r n e h = rw e (record { returned = h ∙ sym (refused-number r); output = sym (refused-written r out); untouched = λ z. refl })

-- ---- the output's length
pub right-length : (out : List ℕ) (a : Answer) → length out ≡ element_size → into out a ≡ a
unfolding into check_output
right-length out a e = rw (eq-eqb _ _ e) (alone a)
  where
    alone : (a : Answer) → and_then (both a passed) (λ p. Ok p.0) ≡ a
    alone (Ok e) = unfold both in refl
    alone (Err r) = unfold both in refl

-- of the right length: a is what was stored or left, and b what it is by definition
pub taken-output : (out after : List ℕ) (a b : Answer) (r : ℕ) → length out ≡ element_size → a ≡ b → Stored a out after r → Answered (into out b) out after r
taken-output out after a b r e p h =
    let q : a ≡ into out b = p ∙ sym (right-length out b e) in
    record {
      returned = h.0 ∙ ap number q;
      output = h.1 ∙ ap (λ (o : Answer). written o out) q;
      untouched = λ n. h.1 ∙ untouched a out (λ z. n (h.0 ∙ z));
    }

pub refusal-output : (out : List ℕ) (q : Refusal) (b : Answer) (n : ℕ) → length out ≡ element_size → Err q ≡ b → n ≡ Refusals.number q → Answered (into out b) out out n
refusal-output out q b n e p h = rw (right-length out b e) (refused out b q n (sym p) h)

pub refused-length : (out : List ℕ) (b : Answer) (n m : ℕ) → length out ≡ element_size → b ≡ Err (Length n m) → Answered (into out b) out out 1
unfolding Refusals.number
refused-length out b n m e p = refusal-output out (Length n m) b 1 e (sym p) refl

-- ---- a length that is refused beside another answer: the number is 1
record Refuses (a : Answer) : Type 0 where
  refusal : Refusal
  is : a ≡ Err refusal
  one : 1 ≡ Refusals.number refusal

one-refused : (out : List ℕ) (a : Answer) → Refuses a → Answered a out out 1
one-refused out a h = refused out a h.refusal 1 h.is h.one

one : (n m : ℕ) → Refusals.number (Length n m) ≡ 1
unfolding Refusals.number
one n m = refl

-- a wrong length stands first in the order of trial, and nothing else stands there
length-place : (n m : ℕ) → Refusals.place Refusals.tried (Refusals.number (Length n m)) ≡ 0
unfolding Refusals.place Refusals.tried Refusals.number
length-place n m = refl

at_head : (k : ℕ) (ks : List ℕ) (n : ℕ) → Refusals.place (k ∷ ks) n ≤ 0 → n ≡ k
unfolding Refusals.place
at_head k ks n = go (eqb n k) refl
  where
    go : (b : Bool) → eqb n k ≡ b → cond b 0 (suc (Refusals.place ks n)) ≤ 0 → n ≡ k
    go true e h = eqb-true n k e
    go false e h = absurd (omega arith)

only-length : (r : Refusal) → Refusals.place Refusals.tried (Refusals.number r) ≤ 0 → Refusals.number r ≡ 1
unfolding Refusals.tried
only-length r h = at_head 1 _ (Refusals.number r) h

module _ (n m : ℕ) where
  one-left : (r : Refusal) → Picked (Length n m) r → 1 ≡ Refusals.number (Refusals.earlier (Length n m) r)
  one-left r (left l e) = sym (ap Refusals.number e ∙ one n m)
  one-left r (right l e) = absurd (omega (arith, rw (length-place n m) at l))

  one-right : (r : Refusal) → Picked r (Length n m) → 1 ≡ Refusals.number (Refusals.earlier r (Length n m))
  one-right r (left l e) = sym (ap Refusals.number e ∙ only-length r (rw (length-place n m) at l))
  one-right r (right l e) = sym (ap Refusals.number e ∙ one n m)

  length-left : (f : Element × Element → Answer) (b : Answer) → Refuses (and_then (both (Err (Length n m)) b) f)
  unfolding both
  length-left f (Ok e) = record { refusal = Length n m; is = refl; one = sym (one n m) }
  length-left f (Err r) = record { refusal = Refusals.earlier (Length n m) r; is = refl; one = one-left r (picked (Length n m) r) }

  length-right : {B : Type 0} (f : Element × B → Answer) (a : Answer) → Refuses (and_then (both a (Err (Length n m))) f)
  unfolding both
  length-right f (Ok e) = record { refusal = Length n m; is = refl; one = sym (one n m) }
  length-right f (Err r) = record { refusal = Refusals.earlier r (Length n m); is = refl; one = one-right r (picked r (Length n m)) }

-- of another length: the answer 1, and nothing written
pub refused-output : (out : List ℕ) (a : Answer) → (length out ≡ element_size → ⊥) → Answered (into out a) out out 1
unfolding into check_output
refused-output out a e = rw (ne_eqb _ _ e) (one-refused out _ (length-right element_size (length out) _ a))

-- ---- the block that a chain starts from
pub first-empty : (f held : List ℕ) → length f ≡ 0 → first_or f held ≡ held
unfolding first_or
first-empty [] held e = refl
first-empty (b ∷ f) held e = absurd (omega arith)

pub first-given : (f held : List ℕ) → (length f ≡ 0 → ⊥) → first_or f held ≡ f
unfolding first_or
first-given [] held e = absurd (e refl)
first-given (b ∷ f) held e = refl

pub first_block : (f held : List ℕ) → length f ≡ element_size → first_or f held ≡ f
first_block f held e = first-given f held (λ z. omega arith)

pub ruleset firsts = (first-empty, first-given, first_block)

-- ---- the output of the right length, and an input of another
pub refused-block : (s out : List ℕ) (t : Float) → length out ≡ element_size → (length s ≡ element_size → ⊥) → Answered (into out (Composition.inverse_answer (Blocks.check_block s t))) out out 1
unfolding Composition.inverse_answer
refused-block s out t o e = refused-length out _ element_size (length s) o (rw (no_block s t e))

-- the left block of a compose, and the right one
pub refused-left : (s out : List ℕ) (t : Float) (b : Answer) → length out ≡ element_size → (length s ≡ element_size → ⊥) → Answered (into out (Composition.compose_answers (Blocks.check_block s t) b)) out out 1
unfolding Composition.compose_answers
refused-left s out t b o e = rw (right-length out _ o, no_block s t e) (one-refused out _ (length-left element_size (length s) _ b))

pub refused-right : (s out : List ℕ) (t : Float) (a : Answer) → length out ≡ element_size → (length s ≡ element_size → ⊥) → Answered (into out (Composition.compose_answers a (Blocks.check_block s t))) out out 1
unfolding Composition.compose_answers
refused-right s out t a o e = rw (right-length out _ o, no_block s t e) (one-refused out _ (length-right element_size (length s) _ a))

-- ---- the inverse
pub inverse-block : (s : List ℕ) (t : Float) → length s ≡ element_size → Composition.inverse_answer (Composition.check_element (values_at rep_size s 0) t) ≡ Composition.inverse_answer (Blocks.check_block s t)
inverse-block s t e = rw (block_of s t e)

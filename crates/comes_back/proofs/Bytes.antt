-- What the C entries write comes back, whatever bytes they are handed and whatever the tolerance. Assumes nothing.
use Prim.Native.Nat.{ℕ, ◌+◌, ◌*◌, ◌/◌}
use mathlib.Core.Path.{◌≡◌, refl, sym, ◌∙◌, subst}
use mathlib.Core.Bool.{Bool, true, false, cond, false≢true}
use mathlib.Core.List.{List}
use borrow.Author.Tests.{eq-eqb}
use lib.Dec.{T, eqb}
use lib.ListN.{length}
use lib.Ieee.{Float, binary64, fits}
use Rattle.std.specs.Prelude.{Ok, Err}
use Rattle.checks.specs.Checks.{quaternion_norm_tolerance, check_chain_length, check_param_block}
use Rattle.checks.specs.declared.Refusal.TheVariants.{Length}
use Rattle.checks.proofs.Outcomes.{not-zero}
use Rattle.checks.proofs.Passed.{never, same, followed, second-passed}
use Rattle.sgal3.specs.Elements as Elements
use Rattle.sgal3.specs.Elements.{rep_size}
use Rattle.sgal3.specs.declared.Element.{Element}
use Rattle.sgal3_calls.specs.Composition.{Answer, check_element, most_blocks}
use Rattle.sgal3_calls.proofs.Generic.{checked}
use Rattle.element_bytes.specs.Bytes.{values_at, element_bytes, element_size}
use Rattle.element_bytes.proofs.RoundTrips.{values-back}
use Rattle.element_bytes.proofs.Stored.{element-length}
use Rattle.byte_chain.specs.Blocks as Blocks
use Rattle.byte_chain.proofs.ByteBlocks.{block_of}
use Rattle.handset.specs.Entries as Entries
use Rattle.handset.specs.Entries.{number, written, into}
use Rattle.handset.proofs.Outputs.{done-written, refused-number}
use Rattle.time_sum.proofs.EntryRuns.{answered}
use Rattle.time_sum.proofs.ByteChain.{values}
use Rattle.comes_back.specs.ComesBack.{ElementComesBack, BytesComeBack}
use Rattle.comes_back.proofs.AnyGroup.{AllAccepted}
use Rattle.comes_back.proofs.Groups.{elements}
use Rattle.comes_back.proofs.Elements.{ElementMade, AllMade, made-comes-back, block-accepted, composed-made, inverse-made, partial-made}

-- ---- a block of bytes is the block of its values
block-values : (s : List ℕ) (t : Float) (e : Element) → Blocks.check_block s t ≡ Ok e → check_element (values_at rep_size s 0) t ≡ Ok e
unfolding Blocks.check_block
block-values s t e = go (eqb (length s) element_size)
  where
    go : (b : Bool) → cond b (check_element (values_at rep_size s 0) t) (Err (Length element_size (length s))) ≡ Ok e → check_element (values_at rep_size s 0) t ≡ Ok e
    go true h = h
    go false h = never h

bytes-accepted : (s : List ℕ) (t : Float) → AllAccepted elements (Blocks.check_block s t)
bytes-accepted s t e h = block-accepted (values_at rep_size s 0) t (λ k l. values rep_size s 0 (3 + k)) e (block-values s t e h)

bytes-time : (s : List ℕ) (t : Float) (e : Element) → Blocks.check_block s t ≡ Ok e → T (fits binary64 e.time)
unfolding check_element Elements.element_of
bytes-time s t e h =
    let f = followed (check_param_block (values_at rep_size s 0) rep_size 3 t) _ e (block-values s t e h) in
    subst (λ (a : Element). T (fits binary64 a.time)) (same f.after) (values rep_size s 0 10)

-- ---- the bytes of an element that was made
pub record Written (bytes : List ℕ) : Type 0 where
  pub element : Element
  pub are : bytes ≡ element_bytes element
  pub made : ElementMade element

pub bytes-come-back : {bytes : List ℕ} → Written bytes → BytesComeBack bytes
bytes-come-back {bytes} W =
    record {
      element = W.element;
      are = W.are;
      comes_back = back;
      accepted = rw (W.are, block_of (element_bytes W.element) quaternion_norm_tolerance (element-length W.element), values-back W.element W.made.binary64, ← checked (Elements.coeffs W.element) quaternion_norm_tolerance) back.accepted;
    }
  where
    back : ElementComesBack W.element
    back = made-comes-back W.made

-- ---- the entries
written-made : (a : Answer) (out : List ℕ) → AllMade a → number a ≡ 0 → Written (written a out)
written-made (Ok e) out A h = record { element = e; are = done-written e out; made = A e refl }
written-made (Err r) out A h = absurd (false≢true (sym (not-zero r) ∙ eq-eqb _ _ (sym (refused-number r) ∙ h)))

into-made : (a : Answer) (out : List ℕ) → AllMade a → AllMade (into out a)
into-made a out A e h = A e (answered out a e h)

compose-answered : (left right : List ℕ) (t : Float) (out : List ℕ) → AllMade (Entries.compose left right t out)
unfolding Entries.compose
compose-answered left right t out = into-made _ out (composed-made (Blocks.check_block left t) (Blocks.check_block right t) (bytes-accepted left t) (bytes-accepted right t))

inverse-answered : (block : List ℕ) (t : Float) (out : List ℕ) → AllMade (Entries.inverse block t out)
unfolding Entries.inverse
inverse-answered block t out = into-made _ out (inverse-made (Blocks.check_block block t) (bytes-accepted block t) (bytes-time block t))

partial-answered : (t : Float) (n : ℕ) (s : List ℕ) → AllMade (Blocks.chain_blocks t n s)
unfolding Blocks.chain_blocks
partial-answered t n s = partial-made t n (values_at (n * rep_size) s 0) (values (n * rep_size) s 0)

chain-answered : (blocks : List ℕ) (t : Float) (out : List ℕ) → AllMade (Entries.chain blocks t out)
unfolding Entries.chain Blocks.chain
chain-answered blocks t out = into-made _ out (λ c h. partial-answered t (length blocks / element_size) blocks c (second-passed (check_chain_length (length blocks) element_size (most_blocks * element_size)) _ h))

-- where the number is 0 the output holds bytes that come back; the entries without a tolerance are these at 1e-6
pub compose-writes : (left right : List ℕ) (t : Float) (out : List ℕ) → number (Entries.compose left right t out) ≡ 0 → Written (written (Entries.compose left right t out) out)
compose-writes left right t out = written-made _ out (compose-answered left right t out)

pub compose-comes-back : (left right : List ℕ) (t : Float) (out : List ℕ) → number (Entries.compose left right t out) ≡ 0 → BytesComeBack (written (Entries.compose left right t out) out)
compose-comes-back left right t out h = bytes-come-back (compose-writes left right t out h)

pub in-place-comes-back : (held step : List ℕ) (t : Float) → number (Entries.compose_in_place held step t) ≡ 0 → BytesComeBack (written (Entries.compose_in_place held step t) held)
unfolding Entries.compose_in_place
in-place-comes-back held step t = compose-comes-back held step t held

pub inverse-comes-back : (block : List ℕ) (t : Float) (out : List ℕ) → number (Entries.inverse block t out) ≡ 0 → BytesComeBack (written (Entries.inverse block t out) out)
inverse-comes-back block t out h = bytes-come-back (written-made _ out (inverse-answered block t out) h)

pub chain-comes-back : (blocks : List ℕ) (t : Float) (out : List ℕ) → number (Entries.chain blocks t out) ≡ 0 → BytesComeBack (written (Entries.chain blocks t out) out)
chain-comes-back blocks t out h = bytes-come-back (written-made _ out (chain-answered blocks t out) h)

-- the element after the first n blocks of a byte chain, for every n
pub partial-comes-back : (t : Float) (n : ℕ) (s : List ℕ) (c : Element) → Blocks.chain_blocks t n s ≡ Ok c → ElementComesBack c
partial-comes-back t n s c h = made-comes-back (partial-answered t n s c h)

-- The book of demand 3, on values and on the bytes of the C entries: what is held comes back after any run of calls, each at a tolerance of its own, so at
-- 1e-6 only the step can be refused with 3. Assumes nothing.
use Prim.Native.Nat.{ℕ}
use mathlib.Core.Path.{◌≡◌, refl, sym, ap, ◌∙◌, subst}
use mathlib.Core.Bool.{Bool, true, false, cond}
use mathlib.Core.List.{List, [], ◌∷◌}
use native.Mathlib.Omega.{arith}
use lib.Dec.{eqb}
use lib.ListN.{length}
use lib.Ieee.{Float}
use Rattle.std.specs.Prelude.{Ok, Err}
use Rattle.checks.specs.Refusals as Refusals
use Rattle.checks.specs.Checks.{passed, and_then, both, quaternion_norm_tolerance}
use Rattle.checks.specs.declared.Refusal.{Refusal}
use Rattle.checks.specs.declared.Refusal.TheVariants.{Length}
use Rattle.checks.proofs.Order.{Picked, left as Picked·left, right as Picked·right, picked}
use Rattle.checks.proofs.Outcomes.{above_zero}
use Rattle.sgal3.specs.Elements as Elements
use Rattle.sgal3.specs.declared.Element.{Element}
use Rattle.sgal3_calls.specs.Composition as Composition
use Rattle.sgal3_calls.specs.Composition.{Answer, check_element}
use Rattle.sgal3_calls.proofs.Generic.{checked}
use Rattle.sgal3_calls.proofs.NotUnit.{RefusedAs3, made}
use Rattle.byte_chain.specs.Blocks as Blocks
use Rattle.handset.specs.Entries as Entries
use Rattle.handset.specs.Entries.{number, written}
use Rattle.handset.proofs.Outputs.{done-number, refused-number, refused-written}
use Rattle.time_sum.specs.RunningSum as Values
use Rattle.time_sum.specs.EntryRuns as Bytes
use Rattle.element_bytes.specs.Bytes.{element_size}
use Rattle.comes_back.specs.ComesBack.{ElementComesBack, BytesComeBack}
use Rattle.comes_back.proofs.Elements.{ElementMade, made-comes-back, identity-made, at, block-accepted, composed-made}
use Rattle.comes_back.proofs.Bytes.{Written, bytes-come-back, compose-writes}

-- ---- with an element that is accepted a call is refused with 3 only where its step is
module _ (norm : Float) where
  of-step : (a : Element) (step : Answer) → RefusedAs3 norm (Composition.compose_answers (Ok a) step) → RefusedAs3 norm step
  unfolding Composition.compose_answers both
  of-step a (Ok b) h = absurd (made norm (Elements.compose a b) h)
  of-step a (Err r) h = h

  apart : {n m : ℕ} → RefusedAs3 norm (Err (Length n m)) → ⊥
  apart h = let z : ◌≡◌ {A = ℕ} 0 1 = cc in omega arith

  -- an output of another length is refused with 1
  of-answer : (out : List ℕ) (a : Answer) → RefusedAs3 norm (Entries.into out a) → RefusedAs3 norm a
  unfolding Entries.into Entries.check_output both
  of-answer out a = go (eqb (length out) element_size) a
    where
      go : (b : Bool) (a : Answer) → RefusedAs3 norm (and_then (both a (cond b passed (Err (Length element_size (length out))))) (λ p. Ok p.0)) → RefusedAs3 norm a
      go true (Ok e) h = h
      go false (Ok e) h = absurd (apart h)
      go true (Err r) h = h
      go false (Err r) h = picks (picked r (Length element_size (length out))) h
        where
          picks : Picked r (Length element_size (length out)) → RefusedAs3 norm (Err (Refusals.earlier r (Length element_size (length out)))) → RefusedAs3 norm (Err r)
          picks (Picked·left l e) h = ap Err (sym e) ∙ h
          picks (Picked·right l e) h = absurd (apart (ap Err (sym e) ∙ h))

-- ---- on values
one-call : (b : Values.RunningSum) (step : List Float) (t : Float) (answer : Answer) → Composition.compose (Elements.coeffs b.held) step t ≡ answer → Composition.Binary64 step → ElementMade b.held → ElementMade (Values.entered b step answer).held
unfolding Values.entered Composition.compose
one-call b step t (Ok e) h f M =
    composed-made (check_element (Elements.coeffs b.held) t) (check_element step t) (block-accepted _ t (at 3 _ M.binary64)) (block-accepted step t (at 3 step f)) e h
one-call b step t (Err r) h f M = M

calls : (b : Values.RunningSum) (cs : List Values.Call) → Values.Binary64 (Values.steps cs) → ElementMade b.held → ElementMade (Values.after b cs).held
unfolding Values.after Values.steps
calls b [] f M = M
calls b (c ∷ cs) f M = calls (Values.entered b c.step (Composition.compose (Elements.coeffs b.held) c.step c.tolerance)) cs f.1 (one-call b c.step c.tolerance _ refl f.0 M)

pub run-comes-back : (cs : List Values.Call) → Values.Binary64 (Values.steps cs) → ElementComesBack (Values.after Values.start cs).held
run-comes-back cs f = made-comes-back (calls Values.start cs f (unfold Values.start in identity-made))

-- the next call at 1e-6
pub only-the-step : (norm : Float) (cs : List Values.Call) → Values.Binary64 (Values.steps cs) → (step : List Float)
    → RefusedAs3 norm (Composition.compose (Elements.coeffs (Values.after Values.start cs).held) step quaternion_norm_tolerance) → RefusedAs3 norm (check_element step quaternion_norm_tolerance)
unfolding Composition.compose
only-the-step norm cs f step h =
    let e = (Values.after Values.start cs).held in
    of-step norm e (check_element step quaternion_norm_tolerance) (rw (sym (checked (Elements.coeffs e) quaternion_norm_tolerance) ∙ (run-comes-back cs f).accepted) at h)

-- ---- on the bytes of the C entries
refusal-entered : (b : Bytes.EntryRun) (step taken left : List ℕ) (r : Refusal) → left ≡ b.held → Written b.held → Written (Bytes.entered b step (Refusals.number r) taken left).held
unfolding Bytes.entered
refusal-entered b step taken left r e W = rw (above_zero r) (subst Written (sym e) W)

one-entry : (b : Bytes.EntryRun) (step : List ℕ) (t : Float) (out left : List ℕ) (a : Answer) → Entries.compose b.held step t out ≡ a → ((r : Refusal) → a ≡ Err r → left ≡ b.held)
    → Written b.held → Written (Bytes.entered b step (number a) (written a out) left).held
one-entry b step t out left (Ok e) h k W =
    rw (done-number e) (unfold Bytes.entered in subst (λ (x : Answer). Written (written x out)) h (compose-writes b.held step t out (ap number h ∙ done-number e)))
one-entry b step t out left (Err r) h k W = rw (refused-number r) (refusal-entered b step (written (Err r) out) left r (k r refl) W)

entries : (b : Bytes.EntryRun) (l : List Bytes.Call) → Written b.held → Written (Bytes.after b l).held
unfolding Bytes.after Bytes.called
entries b [] W = W
entries b (Bytes.composed step t out ∷ l) W =
    entries (Bytes.called b (Bytes.composed step t out)) l (one-entry b step t out b.held (Entries.compose b.held step t out) refl (λ r e. refl) W)
entries b (Bytes.composed_in_place step t ∷ l) W =
    let a = Entries.compose_in_place b.held step t in
    entries (Bytes.called b (Bytes.composed_in_place step t)) l (one-entry b step t b.held (written a b.held) a (unfold Entries.compose_in_place in refl) (λ r e. ap (λ (x : Answer). written x b.held) e ∙ refused-written r b.held) W)

pub entries-come-back : (l : List Bytes.Call) → BytesComeBack (Bytes.after Bytes.start l).held
entries-come-back l = bytes-come-back (entries Bytes.start l (unfold Bytes.start in record { element = Elements.identity; are = refl; made = identity-made }))

pub entries-only-the-step : (norm : Float) (l : List Bytes.Call) (step out : List ℕ)
    → RefusedAs3 norm (Entries.compose (Bytes.after Bytes.start l).held step quaternion_norm_tolerance out) → RefusedAs3 norm (Blocks.check_block step quaternion_norm_tolerance)
unfolding Entries.compose
entries-only-the-step norm l step out h =
    let B = entries-come-back l in
    of-step norm B.element (Blocks.check_block step quaternion_norm_tolerance) (rw B.accepted at (of-answer norm out _ h))

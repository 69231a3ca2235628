-- Demand 3 of the C entries: after any run of compose calls on bytes, into an output or in place, each at any tolerance, refused ones included, the held
-- time is within (n - 1) * M / 2 ^ 53 of the exact sum of the accepted steps' times, with no hypothesis. Assumes nothing.
use Prim.Native.Nat.{ℕ, suc, ◌+◌, ◌-◌}
use mathlib.Core.Path.{◌≡◌, refl, sym, ap, ◌∙◌, subst}
use mathlib.Core.Bool.{Bool, true, false, cond}
use mathlib.Core.List.{List, [], ◌∷◌}
use native.Mathlib.Nat.{le_trans, mul-le-mul_right}
use lib.Dec.{T, eqb}
use lib.IntN.{ℤ, ◌+ℤ◌}
use lib.ListN.{length}
use lib.Ieee.{Float, binary64, add, fits}
use lib.Ieee.Bits.{of_bits-fits}
use lib.Ieee.Fits.{add-fits}
use Rattle.float.specs.Exact.{exact, count}
use Rattle.rounding.proofs.Laws.{add-operands}
use Rattle.law.specs.Galilean as Law
use Rattle.std.specs.Prelude.{Ok, Err}
use Rattle.checks.specs.Checks.{Check, and_then, both}
use Rattle.checks.specs.Refusals as Refusals
use Rattle.checks.specs.declared.Refusal.{Refusal}
use Rattle.checks.specs.declared.Refusal.TheVariants.{Length}
use Rattle.checks.proofs.Outcomes.{above_zero}
use Rattle.words.specs.Word.{value_at, word_at}
use Rattle.sgal3.specs.Elements as Elements
use Rattle.sgal3.specs.Elements.{rep_size}
use Rattle.sgal3.specs.declared.Element.{Element}
use Rattle.element_bytes.specs.Bytes.{values_at, element_bytes, element_size}
use Rattle.element_bytes.proofs.RoundTrips.{time-back}
use Rattle.element_bytes.proofs.Stored.{element-length}
use Rattle.sgal3_calls.specs.Composition as Composition
use Rattle.sgal3_calls.specs.Composition.{Answer}
use Rattle.byte_chain.specs.Blocks.{check_block}
use Rattle.handset.specs.Entries as Entries
use Rattle.handset.specs.Entries.{number, written, check_output, into, Answered}
use Rattle.handset.proofs.Outputs.{done-number, done-written, refused-number, refused-written}
use Rattle.time_sum.specs.RunningSum.{time_of}
use Rattle.time_sum.specs.EntryRuns.{Call, composed as Call·composed, composed_in_place, EntryRun, start, time_at, entered, called, after, Within}
use Rattle.time_sum.proofs.Bound.{Summed, starts, adds}
use Rattle.checks.proofs.Passed.{never}
use Rattle.time_sum.proofs.Times.{composed, checked}
use Rattle.time_sum.proofs.TimeSum.{one_less}

-- ---- an entry that answers: its output has the right length, and its blocks passed
pub answered : (out : List ℕ) (a : Answer) (c : Element) → into out a ≡ Ok c → a ≡ Ok c
unfolding into both
answered out a c = go a (check_output out)
  where
    go : (a : Answer) (o : Check) → and_then (both a o) (λ p. Ok p.0) ≡ Ok c → a ≡ Ok c
    go (Ok b) (Ok passed) h = h
    go (Ok b) (Err r) h = never h
    go (Err q) (Ok passed) h = never h
    go (Err q) (Err r) h = never h

block-time : (tolerance : Float) (s : List ℕ) (e : Element) → check_block s tolerance ≡ Ok e → e.time ≡ time_at s
unfolding check_block
block-time tolerance s e = go (eqb (length s) element_size)
  where
    last : time_of (values_at rep_size s 0) ≡ time_at s
    last = unfold time_of time_at values_at in refl

    go : (b : Bool) → cond b (Composition.check_element (values_at rep_size s 0) tolerance) (Err (Length element_size (length s))) ≡ Ok e → e.time ≡ time_at s
    go true h = checked tolerance (values_at rep_size s 0) e h ∙ last
    go false h = never h

stored-time : (e : Element) → T (fits binary64 e.time) → time_at (element_bytes e) ≡ e.time
unfolding time_at
stored-time e f = time-back e f

-- every eight bytes are a binary64
time-fits : (s : List ℕ) → T (fits binary64 (time_at s))
unfolding time_at value_at
time-fits s = of_bits-fits binary64 (word_at s 80)

-- ---- one call
accepts : {n : ℕ} {S : ℤ} {M : ℕ} (tolerance : Float) (held step out : List ℕ) (c : Element) → Entries.compose held step tolerance out ≡ Ok c → Summed (time_at held) n S M
    → Summed (time_at (element_bytes c)) (suc n) (S +ℤ exact (time_at step)) (M + count (time_at step))
unfolding Entries.compose
accepts tolerance held step out c h i =
    let k = composed (check_block held tolerance) (check_block step tolerance) c (answered out _ c h) in
    let is : c.time ≡ add binary64 (time_at held) (time_at step) =
    k.time ∙ ap (λ (x : Float). add binary64 x k.b.time) (block-time tolerance held k.a k.left_is) ∙ ap (add binary64 (time_at held)) (block-time tolerance step k.b k.right_is) in
    let stored : time_at (element_bytes c) ≡ c.time = stored-time c (subst (λ (x : Float). T (fits binary64 x)) (sym is) (add-fits binary64 (time_at held) (time_at step))) in
    let finite-sum = rw is at k.finite in
    rw (stored, is) (adds (time_at step) i (record { is_binary64 = time-fits step; is_finite = (add-operands (time_at held) (time_at step) finite-sum).1 }) finite-sum)

-- what holds after a list of calls
abbrev Holds : EntryRun → Type 0
Holds b = Summed (time_at b.held) b.n b.S b.M

refusal-enters : (b : EntryRun) (step taken left : List ℕ) (r : Refusal) → left ≡ b.held → Holds b → Holds (entered b step (Refusals.number r) taken left)
unfolding entered
refusal-enters b step taken left r e i = rw (above_zero r) as_before
  where
    as_before : Summed (time_at left) b.n b.S b.M
    as_before = rw e i

one-call : (b : EntryRun) (tolerance : Float) (step out left : List ℕ) (a : Answer) → Entries.compose b.held step tolerance out ≡ a → ((r : Refusal) → a ≡ Err r → left ≡ b.held)
    → Holds b → Holds (entered b step (number a) (written a out) left)
one-call b tolerance step out left (Ok c) e k i = rw (done-number c, done-written c out) (unfold entered in accepts tolerance b.held step out c e i)
one-call b tolerance step out left (Err r) e k i = rw (refused-number r) (refusal-enters b step (written (Err r) out) left r (k r refl) i)

calls : (b : EntryRun) (l : List Call) → Holds b → Holds (after b l)
unfolding after called
calls b [] i = i
calls b (Call·composed step tolerance out ∷ l) i =
    calls (called b (Call·composed step tolerance out)) l (one-call b tolerance step out b.held (Entries.compose b.held step tolerance out) refl (λ r e. refl) i)
calls b (composed_in_place step tolerance ∷ l) i =
    let a = Entries.compose_in_place b.held step tolerance in
    calls (called b (composed_in_place step tolerance)) l (one-call b tolerance step b.held (written a b.held) a in_place (λ r e. kept a r e) i)
  where
    in_place : Entries.compose b.held step tolerance b.held ≡ Entries.compose_in_place b.held step tolerance
    in_place = unfold Entries.compose_in_place in refl

    kept : (a : Answer) (r : Refusal) → a ≡ Err r → written a b.held ≡ b.held
    kept a r e = rw e (refused-written r b.held)

begins : Holds start
unfolding start Elements.identity Law.identity
begins = rw (stored-time Elements.identity (of_bits-fits binary64 0)) starts

-- the promise with n - 1, for every list of calls
pub entries-time-sum-sharp : (l : List Call) → Within ((after start l).n - 1) (after start l)
entries-time-sum-sharp l = (calls start l begins).bound

-- the promise as the scope words it
pub entries-time-sum : (l : List Call) → Within (after start l).n (after start l)
entries-time-sum l = le_trans (entries-time-sum-sharp l) (mul-le-mul_right (after start l).M (one_less (after start l).n))

-- ---- the book enters what the contracts say of a call: the number r that it returned, and the bytes that it left
pub composed-entered : (b : EntryRun) (tolerance : Float) (step out left : List ℕ) (r : ℕ) → Answered (Entries.compose b.held step tolerance out) out left r
    → entered b step r left b.held ≡ called b (Call·composed step tolerance out)
unfolding called
composed-entered b tolerance step out left r a = rw (a.returned, a.output)

pub in-place-entered : (b : EntryRun) (tolerance : Float) (step left : List ℕ) (r : ℕ) → Answered (Entries.compose_in_place b.held step tolerance) b.held left r
    → entered b step r left left ≡ called b (composed_in_place step tolerance)
unfolding called
in-place-entered b tolerance step left r a = rw (a.returned, a.output)

-- ---- what is held has an element's length, after every call
written-length : (a : Answer) (out : List ℕ) → length out ≡ element_size → length (written a out) ≡ element_size
written-length (Ok e) out h = rw (done-written e out) (element-length e)
written-length (Err r) out h = rw (refused-written r out) h

refusal-length : (b : EntryRun) (step taken left : List ℕ) (r : Refusal) → length left ≡ element_size → length (entered b step (Refusals.number r) taken left).held ≡ element_size
unfolding entered
refusal-length b step taken left r h = rw (above_zero r) h

call_length : (b : EntryRun) (step out left : List ℕ) (a : Answer) → length left ≡ element_size → length (entered b step (number a) (written a out) left).held ≡ element_size
call_length b step out left (Ok e) h = rw (done-number e, done-written e out) (unfold entered in element-length e)
call_length b step out left (Err r) h = rw (refused-number r) (refusal-length b step (written (Err r) out) left r h)

calls-length : (b : EntryRun) (l : List Call) → length b.held ≡ element_size → length (after b l).held ≡ element_size
unfolding after called
calls-length b [] h = h
calls-length b (Call·composed step tolerance out ∷ l) h =
    calls-length (called b (Call·composed step tolerance out)) l (call_length b step out b.held (Entries.compose b.held step tolerance out) h)
calls-length b (composed_in_place step tolerance ∷ l) h =
    let a = Entries.compose_in_place b.held step tolerance in
    calls-length (called b (composed_in_place step tolerance)) l (call_length b step b.held (written a b.held) a (written-length a b.held h))

-- Demand 3: after any run of compose calls, each at any tolerance, and of any chain that is not refused, the composed time is within (n - 1) * M / 2 ^ 53 of
-- the exact sum of the steps' times, for every n. Assumes nothing.
use Prim.Native.Nat.{ℕ, zero, suc, ◌+◌, ◌-◌, ◌*◌, ◌/◌, ◌^◌, ◌≤◌}
use mathlib.Core.Path.{◌≡◌, refl, sym, ap, ◌∙◌}
use mathlib.Core.List.{List, [], ◌∷◌}
use native.Mathlib.Nat.{le_trans, mul-le-mul_right, add-zero, zero-add, add_assoc, add-suc, suc-add}
use native.Mathlib.Omega.{arith}
use lib.Dec.{T}
use lib.IntN.{ℤ, pos, nat_abs, ◌+ℤ◌, ◌-ℤ◌, +ℤ_assoc, +ℤ_idl, +ℤ_idr}
use lib.ListN.{length, take, drop}
use lib.Ieee.{Float, binary64, add, fits}
use lib.Ieee.Fits.{nan-fits}
use Rattle.std.specs.Prelude.{Ok, Err}
use Rattle.checks.specs.Checks.{Check, and_then, check_tolerance}
use Rattle.float.specs.Exact.{exact, count}
use Rattle.rounding.proofs.Laws.{add-operands}
use Rattle.law.specs.Galilean as Law
use Rattle.sgal3.specs.Elements as Elements
use Rattle.sgal3.specs.Elements.{rep_size}
use Rattle.sgal3_calls.specs.Composition as Composition
use Rattle.sgal3_calls.specs.Composition.{Answer}
use Rattle.sgal3.specs.declared.Element.{Element}
use Rattle.time_sum.specs.RunningSum.{RunningSum, start, time_of, entered, Call, after, steps, Binary64, Within, blocks, exact_sum, magnitude_sum}
use Rattle.time_sum.proofs.Bound.{Summed, starts, adds}
use Rattle.checks.proofs.Passed.{never, second-passed}
use Rattle.time_sum.proofs.Times.{composed, checked, own-time}

-- ---- one composed step: the held element's time is t, the step's block is s
takes : {n : ℕ} {S : ℤ} {M : ℕ} (tolerance : Float) (held : Answer) (s : List Float) (a c : Element) → held ≡ Ok a
    → Composition.compose_answers held (Composition.check_element s tolerance) ≡ Ok c → T (fits binary64 (time_of s)) → Summed a.time n S M
    → Summed c.time (suc n) (S +ℤ exact (time_of s)) (M + count (time_of s))
takes {n} {S} {M} tolerance held s a c e h f i =
    let k = composed held (Composition.check_element s tolerance) c h in
    let same-a : k.a ≡ a = let p : ◌≡◌ {A = Answer} (Ok k.a) (Ok a) = sym k.left_is ∙ e in cc in
    let is : c.time ≡ add binary64 a.time (time_of s) =
    k.time ∙ ap (λ (x : Element). add binary64 x.time k.b.time) same-a ∙ ap (add binary64 a.time) (checked tolerance s k.b k.right_is) in
    let finite-sum = rw is at k.finite in
    rw is (adds (time_of s) i (record { is_binary64 = f; is_finite = (add-operands a.time (time_of s) finite-sum).1 }) finite-sum)

-- ---- a run of calls
one-call : (tolerance : Float) (b : RunningSum) (s : List Float) (o : Answer) → Composition.compose (Elements.coeffs b.held) s tolerance ≡ o → T (fits binary64 (time_of s))
    → Summed b.held.time b.n b.S b.M → Summed (entered b s o).held.time (entered b s o).n (entered b s o).S (entered b s o).M
unfolding entered Composition.compose
one-call tolerance b s (Ok c) e f i =
    let k = composed (Composition.check_element (Elements.coeffs b.held) tolerance) (Composition.check_element s tolerance) c e in
    let j : Summed k.a.time b.n b.S b.M = rw (checked tolerance (Elements.coeffs b.held) k.a k.left_is ∙ own-time b.held) i in
    takes tolerance (Composition.check_element (Elements.coeffs b.held) tolerance) s k.a c k.left_is e f j
one-call tolerance b s (Err r) e f i = i

-- what holds after the whole list
abbrev Holds : RunningSum → Type 0
Holds b = Summed b.held.time b.n b.S b.M

calls : (b : RunningSum) (cs : List Call) → Binary64 (steps cs) → Holds b → Holds (after b cs)
unfolding after steps
calls b [] f i = i
calls b (c ∷ cs) f i =
    calls (entered b c.step (Composition.compose (Elements.coeffs b.held) c.step c.tolerance)) cs f.1
    (one-call c.tolerance b c.step (Composition.compose (Elements.coeffs b.held) c.step c.tolerance) refl (unfold time_of in f.0 10) i)

begins : Holds start
unfolding start Elements.identity Law.identity
begins = starts

-- the promise with n - 1, for every n
pub time-sum-sharp : (cs : List Call) → Binary64 (steps cs) → Within ((after start cs).n - 1) (after start cs)
time-sum-sharp cs f = (calls start cs f begins).bound

pub one_less : (n : ℕ) → n - 1 ≤ n
one_less n = omega arith

-- the promise as the scope words it, of which the limit of 4,096 is not needed
pub time-sum : (cs : List Call) → Binary64 (steps cs) → Within (after start cs).n (after start cs)
time-sum cs f = le_trans (time-sum-sharp cs f) (mul-le-mul_right (after start cs).M (one_less (after start cs).n))

-- ---- the chain: a refusal stays one
refused : (tolerance : Float) (n : ℕ) (s : List Float) (c : Element) (held : Answer) → ((a : Element) → held ≡ Ok a → ⊥) → Composition.chain_from tolerance held n s ≡ Ok c → ⊥
unfolding Composition.chain_from
refused tolerance zero s c held r h = r c h
refused tolerance (suc n) s c held r h =
    refused tolerance n (drop rep_size s) c (Composition.compose_answers held (Composition.check_element (take rep_size s) tolerance))
    (λ a e. let k = composed held (Composition.check_element (take rep_size s) tolerance) a e in r k.a k.left_is) h

chain-from : {m : ℕ} {S : ℤ} {M : ℕ} (tolerance : Float) (n : ℕ) (s : List Float) (held : Answer) (a c : Element) → held ≡ Ok a → Composition.chain_from tolerance held n s ≡ Ok c
    → Binary64 (blocks n s) → Summed a.time m S M → Summed c.time (m + n) (S +ℤ exact_sum (blocks n s)) (M + magnitude_sum (blocks n s))
unfolding Composition.chain_from blocks exact_sum magnitude_sum
chain-from {m} {S} {M} tolerance zero s held a c e h f i =
    let q : a ≡ c = let p : ◌≡◌ {A = Answer} (Ok a) (Ok c) = sym e ∙ h in cc in
    rw (add-zero m, +ℤ_idr S, add-zero M, ← q) i
chain-from {m} {S} {M} tolerance (suc n) s held a c e h f i =
    go (Composition.compose_answers held (Composition.check_element (take rep_size s) tolerance)) refl h (λ b k j. chain-from {m = suc m} {S = S +ℤ exact x} {M = M + count x} tolerance n (drop rep_size s) (Ok b) b c refl k f.1 j)
  where
    x : Float
    x = time_of (take rep_size s)

    rest : List (List Float)
    rest = blocks n (drop rep_size s)

    go : (o : Answer) → Composition.compose_answers held (Composition.check_element (take rep_size s) tolerance) ≡ o → Composition.chain_from tolerance o n (drop rep_size s) ≡ Ok c
        → ((b : Element) → Composition.chain_from tolerance (Ok b) n (drop rep_size s) ≡ Ok c → Summed b.time (suc m) (S +ℤ exact x) (M + count x)
        → Summed c.time (suc m + n) (S +ℤ exact x +ℤ exact_sum rest) (M + count x + magnitude_sum rest))
        → Summed c.time (m + suc n) (S +ℤ (exact x +ℤ exact_sum rest)) (M + (count x + magnitude_sum rest))
    go (Ok b) p k more =
        rw (add-suc m n, ← suc-add m n, ← +ℤ_assoc S (exact x) (exact_sum rest), ← add_assoc M (count x) (magnitude_sum rest))
        (more b k (takes tolerance held (take rep_size s) a b e p (unfold time_of in f.0 10) i))
    go (Err r) p k more = absurd (refused tolerance n (drop rep_size s) c (Err r) (λ a e. never e) k)

-- a chain that is not refused started with the identity
started : (tolerance : Float) (n : ℕ) (s : List Float) (c : Element) → Composition.chain_blocks tolerance n s ≡ Ok c → Composition.chain_from tolerance (Ok Elements.identity) n s ≡ Ok c
unfolding Composition.chain_blocks Composition.starts
started tolerance n s c = go (check_tolerance tolerance)
  where
    go : (k : Check) → Composition.chain_from tolerance (and_then k (λ _. Ok Elements.identity)) n s ≡ Ok c → Composition.chain_from tolerance (Ok Elements.identity) n s ≡ Ok c
    go (Ok p) h = h
    go (Err r) h = absurd (refused tolerance n s c (Err r) (λ a e. never e) h)

pub chained : (tolerance : Float) (n : ℕ) (s : List Float) (c : Element) → Composition.chain_blocks tolerance n s ≡ Ok c → Binary64 (blocks n s)
    → 2 ^ 53 * nat_abs (exact c.time -ℤ exact_sum (blocks n s)) ≤ (n - 1) * magnitude_sum (blocks n s)
chained tolerance n s c h f =
    let i : Summed (Elements.identity).time 0 (pos 0) 0 = unfold Elements.identity Law.identity in starts in
    rw (zero-add n, +ℤ_idl (exact_sum (blocks n s)), zero-add (magnitude_sum (blocks n s))) at
    (chain-from tolerance n s (Ok Elements.identity) Elements.identity c refl (started tolerance n s c h) f i).bound

-- ---- a chain's values are binary64, so those of its blocks are
values-take : (n : ℕ) (s : List Float) → Composition.Binary64 s → Composition.Binary64 (take n s)
values-take zero s f = λ i. nan-fits binary64
values-take (suc n) [] f = f
values-take (suc n) (x ∷ s) f = go (values-take n s (λ i. f (suc i)))
  where
    go : Composition.Binary64 (take n s) → Composition.Binary64 (x ∷ take n s)
    go g zero = f 0
    go g (suc i) = g i

values-drop : (n : ℕ) (s : List Float) → Composition.Binary64 s → Composition.Binary64 (drop n s)
values-drop zero s f = f
values-drop (suc n) [] f = f
values-drop (suc n) (x ∷ s) f = values-drop n s (λ i. f (suc i))

pub values-blocks : (n : ℕ) (s : List Float) → Composition.Binary64 s → Binary64 (blocks n s)
unfolding blocks
values-blocks zero s f = tt
values-blocks (suc n) s f = (values-take rep_size s f, values-blocks n (drop rep_size s) (values-drop rep_size s f))

-- ---- a chain that is not refused has whole blocks
whole : (tolerance : Float) (s : List Float) (c : Element) → Composition.chain s tolerance ≡ Ok c → Composition.chain_blocks tolerance (length s / rep_size) s ≡ Ok c
unfolding Composition.chain
whole tolerance s c = second-passed _ _

-- the same promise of every chain that is not refused: n is the number of its blocks
pub chain-time-sum-sharp : (tolerance : Float) (s : List Float) → Composition.Binary64 s → (c : Element) → Composition.chain s tolerance ≡ Ok c
    → 2 ^ 53 * nat_abs (exact c.time -ℤ exact_sum (blocks (length s / rep_size) s)) ≤ (length s / rep_size - 1) * magnitude_sum (blocks (length s / rep_size) s)
chain-time-sum-sharp tolerance s f c h = chained tolerance (length s / rep_size) s c (whole tolerance s c h) (values-blocks (length s / rep_size) s f)

pub chain-time-sum : (tolerance : Float) (s : List Float) → Composition.Binary64 s → (c : Element) → Composition.chain s tolerance ≡ Ok c
    → 2 ^ 53 * nat_abs (exact c.time -ℤ exact_sum (blocks (length s / rep_size) s)) ≤ length s / rep_size * magnitude_sum (blocks (length s / rep_size) s)
chain-time-sum tolerance s f c h = le_trans (chain-time-sum-sharp tolerance s f c h) (mul-le-mul_right (magnitude_sum (blocks (length s / rep_size) s)) (one_less (length s / rep_size)))

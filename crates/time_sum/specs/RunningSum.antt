-- A run of compose calls beside the exact sum of its steps' times. Definitions only.
use Rattle.std.specs.Prelude.{ℕ, zero, suc, ◌+◌, ◌*◌, ◌^◌, ◌≤◌, List, [], ◌∷◌, ℤ, pos, nat_abs, ◌+ℤ◌, ◌-ℤ◌, get_or, take, drop, Ok, Err, Float}
use Rattle.std.specs.Float.{nan}
use Rattle.float.specs.Exact.{exact, count}
use Rattle.sgal3.specs.Elements.{identity, rep_size, coeffs}
use Rattle.sgal3_calls.specs.Composition as Composition
use Rattle.sgal3_calls.specs.Composition.{Answer}
use Rattle.sgal3.specs.declared.Element.{Element}

-- The scope's book of demand 3: the element held, and of the accepted steps the number n, the exact sum S of their times and the sum M of the times'
-- magnitudes, both in counts of 2 ^ -1074.
pub record RunningSum : Type 0 where
  pub held : Element
  pub n : ℕ
  pub S : ℤ
  pub M : ℕ

unfoldable pub start : RunningSum
start = record { held = identity; n = 0; S = pos 0; M = 0 }

-- the time of a step's block
unfoldable pub time_of : List Float → Float
time_of block = get_or block 10 nan

-- an accepted call's answer becomes the element held, and the step's time is counted; a refused call changes nothing
unfoldable pub entered : RunningSum → List Float → Answer → RunningSum
entered b step (Ok e) = record { held = e; n = suc b.n; S = b.S +ℤ exact (time_of step); M = b.M + count (time_of step) }
entered b step (Err r) = b

-- a call of compose: its step, any block at all, and its tolerance, any at all
pub record Call : Type 0 where
  pub step : List Float
  pub tolerance : Float

-- one call after another: each composes the element held with its step
unfoldable pub after : RunningSum → List Call → RunningSum
after b [] = b
after b (c ∷ cs) = after (entered b c.step (Composition.compose (coeffs b.held) c.step c.tolerance)) cs

unfoldable pub steps : List Call → List (List Float)
steps [] = []
steps (c ∷ cs) = c.step ∷ steps cs

-- The only hypothesis, of every step's block. The contract of the call `compose` ensures it of the step that it was handed, and that of `chain` of its blocks.
abbrev pub Binary64 : List (List Float) → Type 0
Binary64 [] = Unit {0}
Binary64 (block ∷ blocks) = Composition.Binary64 block × Binary64 blocks

-- 2 ^ 53 times the distance of the held time from the exact sum is at most k * M
abbrev pub Within : ℕ → RunningSum → Type 0
Within k b = 2 ^ 53 * nat_abs (exact b.held.time -ℤ b.S) ≤ k * b.M

-- ---- the chain: its blocks, and the sums over their times
unfoldable pub blocks : ℕ → List Float → List (List Float)
blocks zero s = []
blocks (suc n) s = take rep_size s ∷ blocks n (drop rep_size s)

unfoldable pub exact_sum : List (List Float) → ℤ
exact_sum [] = pos 0
exact_sum (block ∷ rest) = exact (time_of block) +ℤ exact_sum rest

unfoldable pub magnitude_sum : List (List Float) → ℕ
magnitude_sum [] = 0
magnitude_sum (block ∷ rest) = count (time_of block) + magnitude_sum rest

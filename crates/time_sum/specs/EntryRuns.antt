-- A run of calls of the C entries beside the exact sum of its steps' times, all read from the bytes. Definitions only.
use Rattle.std.specs.Prelude.{ℕ, zero, suc, ◌+◌, ◌*◌, ◌^◌, ◌≤◌, List, [], ◌∷◌, ℤ, pos, nat_abs, ◌+ℤ◌, ◌-ℤ◌, Float}
use Rattle.float.specs.Exact.{exact, count}
use Rattle.words.specs.Word.{value_at}
use Rattle.sgal3.specs.Elements.{identity}
use Rattle.element_bytes.specs.Bytes.{element_bytes}
use Rattle.handset.specs.Entries as Entries
use Rattle.handset.specs.Entries.{number, written}

-- one call: `sgal3_compose_within` of the block held and a step into an output, or `sgal3_compose_in_place_within`; a step and an output are any bytes, of
-- any length, and the tolerance is any at all. Of `sgal3_compose` and `sgal3_compose_in_place` it is 1e-6.
pub data Call : Type 0 where
  composed : (step : List ℕ) (tolerance : Float) (out : List ℕ) → Call
  composed_in_place : (step : List ℕ) (tolerance : Float) → Call

-- the scope's book of demand 3, over bytes: the block held, and of the accepted steps n, S and M
pub record EntryRun : Type 0 where
  pub held : List ℕ
  pub n : ℕ
  pub S : ℤ
  pub M : ℕ

unfoldable pub start : EntryRun
start = record { held = element_bytes identity; n = 0; S = pos 0; M = 0 }

-- the time of a block of bytes
unfoldable pub time_at : List ℕ → Float
time_at block = value_at block 80

-- number 0: the block `taken` is held, and the step's time is counted; any other number: the block `left` is held
unfoldable pub entered : EntryRun → List ℕ → ℕ → List ℕ → List ℕ → EntryRun
entered b step zero taken left = record { held = taken; n = suc b.n; S = b.S +ℤ exact (time_at step); M = b.M + count (time_at step) }
entered b step (suc r) taken left = record { held = left; n = b.n; S = b.S; M = b.M }

-- after an answer the output's bytes are held, after a refusal those held before; in place the bytes held are what the entry leaves, in both cases
unfoldable pub called : EntryRun → Call → EntryRun
called b (composed step tolerance out) = let a = Entries.compose b.held step tolerance out in entered b step (number a) (written a out) b.held
called b (composed_in_place step tolerance) = let a = Entries.compose_in_place b.held step tolerance in entered b step (number a) (written a b.held) (written a b.held)

unfoldable pub after : EntryRun → List Call → EntryRun
after b [] = b
after b (c ∷ calls) = after (called b c) calls

-- 2 ^ 53 times the distance of the held time from the exact sum is at most k * M
abbrev pub Within : ℕ → EntryRun → Type 0
Within k b = 2 ^ 53 * nat_abs (exact (time_at b.held) -ℤ b.S) ≤ k * b.M

-- Demand 3 of the byte entry: the same promise of every byte chain that is not refused, with no hypothesis, since every eight bytes are a binary64. Assumes
-- nothing.
use Prim.Native.Nat.{ℕ, zero, suc, ◌+◌, ◌-◌, ◌*◌, ◌/◌, ◌^◌, ◌≤◌}
use mathlib.Core.Path.{◌≡◌}
use mathlib.Core.List.{List}
use native.Mathlib.Nat.{le_trans, mul-le-mul_right}
use lib.IntN.{nat_abs, ◌-ℤ◌}
use lib.ListN.{length}
use lib.Ieee.{Float, binary64}
use lib.Ieee.Bits.{of_bits-fits}
use lib.Ieee.Fits.{nan-fits}
use Rattle.std.specs.Prelude.{Ok}
use Rattle.float.specs.Exact.{exact}
use Rattle.words.specs.Word.{value_at, word_at}
use Rattle.sgal3.specs.Elements.{rep_size}
use Rattle.sgal3.specs.declared.Element.{Element}
use Rattle.sgal3_calls.specs.Composition as Composition
use Rattle.element_bytes.specs.Bytes.{values_at, element_size}
use Rattle.byte_chain.specs.Blocks.{chain_blocks, chain}
use Rattle.time_sum.specs.RunningSum.{blocks, exact_sum, magnitude_sum}
use Rattle.checks.proofs.Passed.{second-passed}
use Rattle.time_sum.proofs.TimeSum.{values-blocks, chained, one_less}

pub values : (n : ℕ) (s : List ℕ) (at : ℕ) → Composition.Binary64 (values_at n s at)
unfolding values_at value_at
values zero s at = λ i. nan-fits binary64
values (suc n) s at = go (values n s (at + 8))
  where
    go : Composition.Binary64 (values_at n s (at + 8)) → Composition.Binary64 (values_at (suc n) s at)
    go f zero = of_bits-fits binary64 (word_at s at)
    go f (suc i) = f i

whole : (tolerance : Float) (most : ℕ) (s : List ℕ) (c : Element) → chain most s tolerance ≡ Ok c → chain_blocks tolerance (length s / element_size) s ≡ Ok c
unfolding chain
whole tolerance most s c = second-passed _ _

-- the blocks of a byte chain, as values
abbrev pub value_blocks : List ℕ → List (List Float)
value_blocks s = blocks (length s / element_size) (values_at (length s / element_size * rep_size) s 0)

pub byte-chain-time-sum-sharp : (tolerance : Float) (most : ℕ) (s : List ℕ) (c : Element) → chain most s tolerance ≡ Ok c
    → 2 ^ 53 * nat_abs (exact c.time -ℤ exact_sum (value_blocks s)) ≤ (length s / element_size - 1) * magnitude_sum (value_blocks s)
unfolding chain_blocks
byte-chain-time-sum-sharp tolerance most s c h =
    let n = length s / element_size in
    chained tolerance n (values_at (n * rep_size) s 0) c (whole tolerance most s c h) (values-blocks n (values_at (n * rep_size) s 0) (values (n * rep_size) s 0))

pub byte-chain-time-sum : (tolerance : Float) (most : ℕ) (s : List ℕ) (c : Element) → chain most s tolerance ≡ Ok c
    → 2 ^ 53 * nat_abs (exact c.time -ℤ exact_sum (value_blocks s)) ≤ length s / element_size * magnitude_sum (value_blocks s)
byte-chain-time-sum tolerance most s c h = le_trans (byte-chain-time-sum-sharp tolerance most s c h) (mul-le-mul_right (magnitude_sum (value_blocks s)) (one_less (length s / element_size)))

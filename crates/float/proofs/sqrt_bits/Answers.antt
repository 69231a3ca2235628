use Rattle.std.proofs.Common.{◌≡◌, ℕ, refl, sym, ap, ◌∙◌, arith}
use lib.Ieee.{of_bits, to_bits}
use Rattle.float.specs.Root.{square_root, square_root_bits}
use Rattle.float.proofs.Bits.{root-above-zero, no-root}
use Rattle.float.proofs.sqrt_bits.Goals as goal

-- a pattern k that is its own root
itself : (b k : ℕ) → b ≡ k → k ≡ square_root_bits k → b ≡ square_root_bits b
itself b k e h = e ∙ h ∙ ap square_root_bits (sym e)

pub returns-then-b-eq0 : goal.returns-then-b-eq0
unfolding square_root_bits square_root of_bits to_bits
returns-then-b-eq0 c = itself c.args.b 0 c.if-b-eq0.true refl

pub returns-then-b-lt-INFINITY : goal.returns-then-b-lt-INFINITY
returns-then-b-lt-INFINITY c = root-above-zero c.args.b c.root_bits.result (omega arith) (omega arith) c.root_bits.ensures

pub returns-then-b-eq-INFINITY : goal.returns-then-b-eq-INFINITY
unfolding square_root_bits square_root of_bits to_bits
returns-then-b-eq-INFINITY c = itself c.args.b 0x7ff0_0000_0000_0000 c.if-b-eq-INFINITY.true refl

pub returns-then-b-eq9223372036854775808 : goal.returns-then-b-eq9223372036854775808
unfolding square_root_bits square_root of_bits to_bits
returns-then-b-eq9223372036854775808 c = itself c.args.b 0x8000_0000_0000_0000 c.if-b-eq9223372036854775808.true refl

pub returns : goal.returns
returns c = no-root c.args.b (omega arith) (omega arith) c.if-b-eq9223372036854775808.false

-- One byte more than the longest chain is enough to read: what is printed for an input depends on no byte behind it. Assumes nothing.
use Prim.Native.Nat.{ℕ, ◌<◌}
use mathlib.Core.Path.{◌≡◌, refl, sym, ap, ◌∙◌}
use mathlib.Core.Bool.{Bool, true, false}
use mathlib.Core.List.{List}
use native.Mathlib.Omega.{arith}
use borrow.Author.Tests.{ltb-true, ltb-false}
use lib.Dec.{ltb}
use lib.ListN.{length, take}
use lib.Seq.{take_all, length-take-le}
use Rattle.checks.specs.Checks.{quaternion_norm_tolerance}
use Rattle.checks.specs.Refusals.{number}
use Rattle.checks.specs.declared.Refusal.TheVariants.{Length}
use Rattle.byte_chain.proofs.Chains as Chains
use Rattle.report_text.specs.Lines.{refusal}
use Rattle.report.specs.Text.{most_bytes, space, report_of}
use Rattle.report.proofs.Printed.{refused-text}

too_long : (s : List ℕ) → most_bytes < length s → report_of s ≡ refusal 1
unfolding report_of number
too_long s h = rw (Chains.too_long quaternion_norm_tolerance most_bytes s h) (refused-text (Length most_bytes (length s)))

-- whatever number of bytes above the longest chain's is read
pub enough : (m : ℕ) (s : List ℕ) → most_bytes < m → report_of (take m s) ≡ report_of s
enough m s h = go (ltb (length s) m) refl
  where
    go : (b : Bool) → ltb (length s) m ≡ b → report_of (take m s) ≡ report_of s
    go true e = let l = ltb-true (length s) m e in ap report_of (take_all m s (omega arith))
    go false e =
        let l = ltb-false (length s) m e in
        let n : length (take m s) ≡ m = length-take-le m s l in
        too_long (take m s) (omega arith) ∙ sym (too_long s (omega arith))

pub one-byte-more : (s : List ℕ) → report_of (take space s) ≡ report_of s
one-byte-more s = enough space s (omega arith)

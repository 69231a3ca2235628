-- While those before are finite, the values that are left decide.
use Rattle.std.proofs.Common.{◌≡◌, ◌+◌, ◌-◌, ◌*◌}
use Rattle.checks.specs.Checks.{all_finite}
use Rattle.sgal3.specs.Elements.{rep_size}
use Rattle.element_bytes.specs.Bytes as Bytes
use Rattle.element_bytes.proofs.values_finite.Given as goal

abbrev pub invariant-loop-i : goal.invariant-loop-i
invariant-loop-i l = all_finite (Bytes.values_at rep_size l.s l.start) ≡ all_finite (Bytes.values_at (rep_size - l.i) l.s (l.start + l.i * 8))

-- The loop keeps what out holds once the values that are left are stored.
use Rattle.std.proofs.Common.{◌≡◌, ◌+◌, ◌*◌, ◌≤◌, length, drop}
use Rattle.std.proofs.lemmas.List.Edits.{sets}
use Rattle.outcomes.specs.Outcomes.{bits}
use Rattle.outcomes.proofs.put_values.Given as goal

abbrev pub invariant-loop-k : goal.invariant-loop-k
invariant-loop-k l =
    (l.k ≤ length l.values) × (length l.out ≡ length l.fn.out) × (sets l.out (l.at + l.k * 8) (bits (drop l.k l.values)) ≡ sets l.fn.out l.at (bits l.values))

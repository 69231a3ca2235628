-- The loop keeps what out holds once the zeros that are left are stored.
use Rattle.std.proofs.Common.{◌≡◌, ◌+◌, ◌*◌, ◌≤◌, length}
use lib.ListN.{drop, replicate}
use Rattle.std.proofs.lemmas.List.Edits.{sets}
use Rattle.law.specs.Rounded.{rounded}
use Rattle.outcomes.specs.Outcomes.{bits}
use Rattle.outcomes.proofs.put_zeros.Given as goal

abbrev pub invariant-loop-k : goal.invariant-loop-k
invariant-loop-k l =
    let zeros = replicate l.n rounded.zero in
    (l.k ≤ l.n) × (length l.out ≡ length l.fn.out) × (sets l.out (l.at + l.k * 8) (bits (drop l.k zeros)) ≡ sets l.fn.out l.at (bits zeros))

-- So many numbers as were passed, and the place among those that are left.
use Rattle.std.proofs.Common.{◌≡◌, ◌+◌, drop}
use Rattle.checks.specs.Refusals.{tried, place}
use Rattle.checks.proofs.Refusal.place.Given as goal

abbrev pub invariant-loop-k : goal.invariant-loop-k
invariant-loop-k l = place tried l.n ≡ l.k + place (drop l.k tried) l.n

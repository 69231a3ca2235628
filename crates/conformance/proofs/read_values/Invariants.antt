-- The loop keeps that the places before k hold their words' numbers.
use Rattle.conformance.specs.Values.{Values}
use Rattle.conformance.proofs.read_values.Given as goal

abbrev pub invariant-loop-k : goal.invariant-loop-k
invariant-loop-k l = Values l.k l.bytes l.values

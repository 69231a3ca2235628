-- The pieces so far were whole, and their pairs are counted.
use Rattle.sqrt_vectors.proofs.Compared.{Pieces}
use Rattle.sqrt_vectors.proofs.compare_file.Given as goal

abbrev pub invariant-loop : goal.invariant-loop
invariant-loop g l = Pieces l.counter l.tally.compared l.tally.different (g.R.Read.remaining l.initial.file) (g.R.Read.remaining l.file)

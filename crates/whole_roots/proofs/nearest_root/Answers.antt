use Rattle.std.proofs.Common.{arith}
use Rattle.whole_roots.proofs.Squares.{root-near}
use Rattle.whole_roots.proofs.nearest_root.Goals as goal

-- a guess that is confirmed is the root, and otherwise the loop's is
pub returns : goal.returns
returns c = root-near c.args.a c.whole_root.result (omega arith) c.whole_root.ensures

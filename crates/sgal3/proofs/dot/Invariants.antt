-- The sum so far and the products of the places that are left.
use Rattle.std.proofs.Common.{◌≡◌}
use Rattle.std.specs.Iterator.Adapters.{zip_first, zip_second}
use Rattle.std.specs.Slice.Iter.{iter_rest}
use Rattle.law.specs.Rounded.{rounded}
use Rattle.law.specs.Rows as Rows
use Rattle.sgal3.specs.Algebra as Algebra
use Rattle.sgal3.proofs.dot.Given as goal

abbrev pub invariant-loop-a : goal.invariant-loop-a
invariant-loop-a l =
    Rows.dot_from rounded l.sum (iter_rest (zip_first l.a-iterator)) (iter_rest (zip_second l.a-iterator)) ≡ Algebra.dot l.fn.r l.fn.t

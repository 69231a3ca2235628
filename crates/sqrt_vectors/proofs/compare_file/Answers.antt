use Rattle.std.proofs.Common.{◌≡◌, arith, length, take, rules}
use Rattle.std.proofs.Math.Seq.{length-take-le}
use Rattle.sqrt_vectors.proofs.Compared.{whole_piece, last_piece}
use Rattle.sqrt_vectors.proofs.compare_file.Goals as goal

-- a piece that is full is a whole one
pub loop-preserved : goal.loop-preserved
loop-preserved g c =
    let buf = c.fill-n.new.buf in
    let n = c.fill-n.result in
    let fits = c.fill-n.ensures.in_bounds in
    let long : length buf ≡ 65536 = search rules in
    whole_piece _ _ _ _ _ (take n buf) _ _ _ c.loop.invariant c.fill-n.ensures.bytes c.add_pairs.ensures.compared c.add_pairs.ensures.different
    (omega (arith, length-take-le n buf fits, fits, long))

-- one that is not is the last
pub returns-then-n-lt65536 : goal.returns-then-n-lt65536
returns-then-n-lt65536 g c =
    last_piece c.add_pairs.new.self _ _ _ _ _ _ _ _ c.loop.invariant c.fill-n.ensures.bytes c.add_pairs.ensures.compared c.add_pairs.ensures.different
    c.in_ok-check_end.ensures.none c.in_ok-check_end.ensures.end

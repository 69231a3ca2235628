use Rattle.std.proofs.Common.{ℕ, ◌*◌, ◌%◌, ◌^◌, subst, arith}
use Rattle.whole_roots.specs.Roots.{Between}
use Rattle.float.proofs.SquareRoot.{even-of, same, root-bits}
use Rattle.float.proofs.root_bits.Goals as goal

pub guess-requires-clause-a_bound : goal.guess-requires-clause-a_bound
guess-requires-clause-a_bound c =
    let m = c.split-s.result.m in
    let j = c.split-s.result.j in
    let e = even-of m j c.split-s.ensures.low c.split-s.ensures.high in
    omega (arith, same m (j % 2) e, e.high, e.low)

pub nearest_root-q-requires-clause-a_bound : goal.nearest_root-q-requires-clause-a_bound
nearest_root-q-requires-clause-a_bound c =
    let m = c.split-s.result.m in
    let j = c.split-s.result.j in
    let e = even-of m j c.split-s.ensures.low c.split-s.ensures.high in
    omega (arith, same m (j % 2) e, e.high, e.low)

pub returns : goal.returns
returns c =
    let m = c.split-s.result.m in
    let j = c.split-s.result.j in
    let e = even-of m j c.split-s.ensures.low c.split-s.ensures.high in
    let near = subst (λ (a : ℕ). Between (a * 2 ^ 54) c.nearest_root-q.result) (same m (j % 2) e) c.nearest_root-q.ensures in
    root-bits _ c.split-s.result c.nearest_root-q.result c.split-s.ensures near

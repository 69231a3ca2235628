use Rattle.std.proofs.Common.{◌+◌, ◌*◌, refl, sym, ◌∙◌, rules, arith}
use Rattle.outcomes.proofs.Stores.{no-value-yet, next-zero, no_zero}
use Rattle.outcomes.proofs.put_zeros.Goals as goal

pub loop-k-init : goal.loop-k-init
loop-k-init c = (omega arith, refl, no-value-yet _ _ _)

pub loop-k-preserved : goal.loop-k-preserved
loop-k-preserved c =
    let l = c.loop-k in
    let next = next-zero l.out c.args.at l.k c.args.n (omega arith) in (
      omega arith,
      search rules,
      rw c.put_zero.ensures (sym next ∙ l.invariant.2),
    )

pub returns : goal.returns
returns c =
    let l = c.loop-k in
    sym (no_zero l.out (c.args.at + l.k * 8) l.k c.args.n (omega arith)) ∙ l.invariant.2

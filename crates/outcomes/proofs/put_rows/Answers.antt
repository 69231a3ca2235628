use Rattle.std.proofs.Common.{◌+◌, ◌*◌, ◌≤◌, ◌<◌, length, refl, sym, ◌∙◌, rules, arith}
use Rattle.outcomes.proofs.Stores.{next_row, next-row-count, no_row, no-row-count}
use Rattle.outcomes.proofs.put_rows.Goals as goal

pub loop-k-init : goal.loop-k-init
loop-k-init c = (omega arith, refl, omega arith, refl)

pub loop-k-preserved : goal.loop-k-preserved
loop-k-preserved c =
    let l = c.loop-k in
    let rows = c.args.rows.now in
    let below : l.k < length rows = omega (arith, c.told-rows) in
    let ten = c.put_row.ensures.count in (
      omega arith,
      search rules,
      omega (arith, next-row-count rows _ l.k below ten, l.invariant.2),
      rw c.put_row.ensures.stored (sym (next_row l.out rows _ l.k below ten) ∙ l.invariant.3),
    )

pub returns-clause-count : goal.returns-clause-count
returns-clause-count c =
    let l = c.loop-k in
    let done : length c.args.rows.now ≤ l.k = omega (arith, c.told-rows) in
    omega (arith, no-row-count l.k c.args.rows.now done, l.invariant.2)

pub returns-clause-stored : goal.returns-clause-stored
returns-clause-stored c =
    let l = c.loop-k in
    let done : length c.args.rows.now ≤ l.k = omega (arith, c.told-rows) in
    sym (no_row l.out (32 + l.k * 80) l.k c.args.rows.now done) ∙ l.invariant.3

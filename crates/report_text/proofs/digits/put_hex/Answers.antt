use Rattle.std.proofs.Common.{sym, ◌∙◌}
use Rattle.report_text.proofs.DigitsStored.{next-digit, no_digit}
use Rattle.report_text.proofs.digits.put_hex.Goals as goal

pub loop-k-preserved : goal.loop-k-preserved
loop-k-preserved c =
    let l = c.loop-k in
    let next = next-digit c.args.case l.out c.args.at l.k l.rest c.loop-k-test.true in
    rw c.digit.ensures (sym next ∙ l.invariant)

pub returns : goal.returns
returns c =
    let l = c.loop-k in
    sym (no_digit c.args.case l.out c.args.at l.k l.rest c.loop-k-test.false) ∙ l.invariant

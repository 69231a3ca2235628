use mathlib.Core.Path.{refl}
use borrow.Author.Rules.{rules}
use Rattle.report.proofs.Printed.{answer-length, number-below, done-text, refused-text}
use Rattle.report.proofs.put_answer.Goals as goal

pub put_refusal-requires-clause-n_bound : goal.put_refusal-requires-clause-n_bound
put_refusal-requires-clause-n_bound c =
    let below = number-below c.in-Err.r in
    search rules

pub returns-in-Ok-clause-value : goal.returns-in-Ok-clause-value
returns-in-Ok-clause-value c = rw c.in-Ok.is (answer-length _)

pub returns-in-Ok-clause-out_after : goal.returns-in-Ok-clause-out_after
returns-in-Ok-clause-out_after c = rw c.in-Ok.is (rw (c.put_lines.ensures, c.coeffs.ensures, done-text _) refl)

pub returns-in-Err-clause-value : goal.returns-in-Err-clause-value
returns-in-Err-clause-value c = rw (c.in-Err.is, refused-text _, ← c.number.ensures) c.put_refusal.ensures.value

pub returns-in-Err-clause-out_after : goal.returns-in-Err-clause-out_after
returns-in-Err-clause-out_after c = rw (c.in-Err.is, refused-text _, ← c.number.ensures) c.put_refusal.ensures.out_after

-- The header, then the values.
use mathlib.Core.Path.{sym, ap, ◌∙◌}
use lib.Seq.{sets}
use borrow.Author.Rules.{rules}
use Rattle.outcomes.proofs.Stores.{of-answer, same-refusal, answer-count, after-header}
use Rattle.outcomes.proofs.put.Goals as goal

pub returns-in-Ok : goal.returns-in-Ok
returns-in-Ok g c =
    let values = g.A.Values.values in
    rw c.in-Ok.is
    (record {
      returned = rw c.COUNT-in-Ok.ensures (answer-count values g.A.ToWords.ZEROS _ c.in-Ok.a c.store.ensures.count);
      stored =
          rw (c.store.ensures.stored, c.put_header.ensures, c.COUNT.ensures, ← c.store.ensures.count)
          (after-header _ _ _ _ ∙ ap (sets _ 0) (sym (of-answer values g.A.ToWords.ZEROS c.in-Ok.a)));
      fits = search rules;
    })

pub returns-in-Err : goal.returns-in-Err
returns-in-Err g c = rw (c.in-Err.is, same-refusal, ← c.ZEROS.ensures) c.put_refusal.ensures

-- The header, then the word; or a refusal without values.
use mathlib.Core.Path.{ap, ◌∙◌}
use lib.Seq.{sets}
use borrow.Author.Rules.{rules}
use Rattle.outcomes.proofs.Stores.{refused-valid, one-for-yes, answered-valid, valid-count, after-header}
use Rattle.outcomes.proofs.put_valid.Goals as goal

pub returns-in-Ok : goal.returns-in-Ok
returns-in-Ok c =
    rw c.in-Ok.is
    (record {
      returned = valid-count c.in-Ok.b;
      stored = rw (c.put_word.ensures, c.put_header.ensures, c.from.ensures, one-for-yes c.in-Ok.b) (after-header _ _ _ _ ∙ ap (sets _ 0) (answered-valid c.in-Ok.b));
      fits = search rules;
    })

pub returns-in-Err : goal.returns-in-Err
returns-in-Err c = rw (c.in-Err.is, refused-valid) c.put_check.ensures

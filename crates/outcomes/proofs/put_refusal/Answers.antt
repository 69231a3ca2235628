-- The header, then the zeros.
use mathlib.Core.Path.{sym, ap, ◌∙◌}
use lib.Seq.{sets}
use lib.Ieee.{Float}
use mathlib.Core.List.{List}
use borrow.Author.Rules.{rules}
use Rattle.outcomes.specs.Outcomes as Outcomes
use Rattle.outcomes.proofs.Stores.{of-refused, refused-count, after-header}
use Rattle.outcomes.proofs.put_refusal.Goals as goal

pub returns : goal.returns
unfolding Outcomes.of_refusal
returns c =
    record {
      returned = refused-count (λ (s : List Float). s) c.args.zeros c.args.r;
      stored =
          rw (c.put_zeros.ensures, c.put_header.ensures)
          (after-header _ _ _ _ ∙ ap (sets _ 0) (sym (of-refused (λ (s : List Float). s) c.args.zeros c.args.r)));
      fits = search rules;
    }

use borrow.Author.Rules.{rules}
use Rattle.outcomes.proofs.Stores.{check-count, of-check}
use Rattle.outcomes.proofs.put_check.Goals as goal

pub returns : goal.returns
returns c = record { returned = check-count _; stored = rw (of-check _) c.put_header.ensures; fits = search rules }

use Rattle.std.proofs.Common.{sym, ◌∙◌}
use Rattle.sgal3.proofs.Sums.{sum_tells}
use Rattle.sgal3.proofs.ElementValues.is_finite.Goals as goal

pub returns-then-is_finite : goal.returns-then-is_finite
returns-then-is_finite c = sym (sum_tells _ (sym c.is_finite.ensures ∙ c.if-is_finite.true))

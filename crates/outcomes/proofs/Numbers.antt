-- What an answered request is known to leave. Assumes nothing.
use Prim.Native.Nat.{ℕ, ◌≤◌}
use mathlib.Core.Path.{◌≡◌, sym, subst, ap, ◌∙◌}
use mathlib.Core.List.{List}
use lib.ListN.{length}
use lib.Seq.{length-sets}
use Rattle.std.specs.Prelude.{Option, Some, None}
use Rattle.outcomes.specs.Outcomes.{Answered}

-- the bytes that were put fit where they stand
fits : (n : ℕ) (before after : List ℕ) (answer : Option (List ℕ)) → Answered (Some n) before after answer → n ≤ length after
unfolding Answered
fits n before after (Some bytes) h = subst (λ (k : ℕ). n ≤ k) (sym (ap length h.stored ∙ length-sets before 0 bytes)) h.fits
fits n before after None h = absurd h

pub answer_fits : (result : Option ℕ) (n : ℕ) (before after : List ℕ) (answer : Option (List ℕ)) → result ≡ Some n → Answered result before after answer → n ≤ length after
answer_fits result n before after answer e h = fits n before after answer (subst (λ (r : Option ℕ). Answered r before after answer) e h)

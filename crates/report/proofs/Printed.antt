-- The length of what is printed, and that it stands at the start. Assumes nothing.
use Prim.Native.Nat.{ℕ, ◌+◌, ◌≤◌, ◌<◌}
use mathlib.Core.Path.{◌≡◌, refl, sym, ap, ◌∙◌}
use mathlib.Core.List.{List, ◌++◌}
use native.Mathlib.Omega.{arith}
use lib.ListN.{length, take, drop}
use lib.Seq.{sets, sets-eq, take_at, length-sets}
use Rattle.checks.specs.Refusals.{number}
use Rattle.checks.specs.Outcomes.{outcome}
use Rattle.checks.specs.declared.Refusal.{Refusal}
use Rattle.checks.specs.declared.Refusal.TheVariants.{Length, NotFinite, NotUnit, Turn, Overflow, Tolerance}
use Rattle.checks.proofs.Outcomes.{not-zero}
use Rattle.sgal3.specs.Elements.{coeffs}
use Rattle.sgal3.specs.declared.Element.{Element}
use Rattle.sgal3_calls.specs.Outcomes.{element}
use Rattle.sgal3_calls.specs.Composition.{Answer}
use Rattle.std.specs.Prelude.{Ok, Err}
use Rattle.report_text.specs.Lines.{lines, refusal}
use Rattle.report_text.proofs.LinesStored.{lines-length, refusal-short}
use Rattle.report_run.specs.Reports.{Written}
use Rattle.report.specs.Text.{page, text}

pub number-below : (r : Refusal) → number r < 100
unfolding number
number-below (Length n m) = omega arith
number-below NotFinite = omega arith
number-below (NotUnit x) = omega arith
number-below Turn = omega arith
number-below Overflow = omega arith
number-below Tolerance = omega arith

pub done-text : (e : Element) → text (Ok e) ≡ lines 0 (coeffs e)
unfolding text element outcome
done-text e = refl

pub refused-text : (r : Refusal) → text (Err r) ≡ refusal (number r)
unfolding text element outcome
refused-text r = rw (not-zero r)

pub answer-length : (e : Element) → page ≡ length (text (Ok e))
unfolding coeffs
answer-length e = rw (done-text e) (sym (lines-length _ (coeffs e)))

text-short : (a : Answer) → length (text a) ≤ page
text-short (Ok e) = omega (arith, answer-length e)
text-short (Err r) = rw (refused-text r) (refusal-short _)

-- what was stored from 0 on is what the first places hold
pub written : (l x : List ℕ) (a : Answer) (n : ℕ) → length l ≡ page → n ≡ length (text a) → x ≡ sets l 0 (text a) → Written n x (text a)
written l x a n h p q =
    let s : length (text a) ≤ page = text-short a in
    let e : x ≡ text a ++ drop (0 + length (text a)) l = q ∙ sets-eq (text a) l 0 (omega arith) in
    let w : length x ≡ page = ap length q ∙ length-sets l 0 (text a) ∙ h in
    (omega arith, ap (take n) e ∙ take_at (text a) (drop (0 + length (text a)) l) n (sym p))

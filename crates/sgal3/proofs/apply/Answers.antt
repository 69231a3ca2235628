use Rattle.std.proofs.Common.{◌∙◌, ◌≡◌, List, length, refl, ap, subst, arith, sym}
use mathlib.Core.List.{map}
use Rattle.std.proofs.lemmas.List.{take_all}
use Rattle.std.specs.Float.{nan, Float}
use Rattle.law.specs.Rounded.{rounded}
use Rattle.law.specs.Galilean as Law
use Rattle.law.specs.Rows as Rows
use Rattle.ten_rows.proofs.Ten.{ten}
use Rattle.sgal3.specs.Algebra as Algebra
use Rattle.sgal3.specs.Tangents as Tangents
use Rattle.sgal3.proofs.apply.Goals as goal

-- of ten values
read : (l : List Float) → length l ≡ 10 → Tangents.tangent_of l ≡ Tangents.of_tangent (Law.tangent rounded l)
unfolding Tangents.tangent_of Law.tangent
read l h = subst (λ (k : List Float). Tangents.tangent_of k ≡ Tangents.of_tangent (Law.tangent rounded k)) (ten l nan h) refl

pub returns : goal.returns
unfolding Algebra.apply Algebra.dot Law.apply_tangent Rows.apply
returns c =
    let l = c.loop-i in
    let row = λ (r : List Float). Algebra.dot r c.args.t in
    let e : l.values ≡ map row c.args.m = sym (take_all l.i _ (omega arith)) ∙ l.invariant.1 ∙ ap (map row) (take_all l.i _ (omega arith)) in
    c.tangent_of.ensures ∙ read _ (omega arith) ∙ ap (λ (k : List Float). Tangents.of_tangent (Law.tangent rounded k)) e

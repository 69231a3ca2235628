-- A sum that is finite has finite terms. Assumes nothing.
use mathlib.Core.Path.{◌≡◌, refl}
use mathlib.Core.Bool.{Bool, true, false, false≢true, beq, cond}
use lib.Ieee.{Float, nan, inf, fin, binary64, add}
use lib.Ieee.Scale.{finite}
use Rattle.checks.specs.Checks.{all_finite}
use Rattle.sgal3.specs.Elements as Elements
use Rattle.sgal3.specs.declared.Element.{Element}

terms : (a b : Float) → finite (add binary64 a b) ≡ true → (finite a ≡ true) × (finite b ≡ true)
unfolding add
terms nan b h = absurd (false≢true h)
terms (inf s) nan h = absurd (false≢true h)
terms (inf s) (inf t) h = absurd (neither (beq s t) h)
  where
    neither : (b : Bool) → finite (cond b (inf s) nan) ≡ true → ⊥
    neither true h = false≢true h
    neither false h = false≢true h
terms (inf s) (fin t n d) h = absurd (false≢true h)
terms (fin s m e) nan h = absurd (false≢true h)
terms (fin s m e) (inf t) h = absurd (false≢true h)
terms (fin s m e) (fin t n d) h = (refl, refl)

pub sum_tells : (e : Element)
    → (let t = e.translation in
    let q = e.rotation in
    let v = e.velocity in
    finite (add binary64 (add binary64 (add binary64 (add binary64 t.x q.w) (add binary64 q.y v.x)) (add binary64 (add binary64 t.y q.x) (add binary64 q.z v.y))) (add binary64 (add binary64 t.z v.z) e.time)) ≡ true)
    → all_finite (Elements.coeffs e) ≡ true
unfolding Elements.coeffs all_finite
sum_tells e h =
    let all = terms _ _ h in
    let pairs = terms _ _ all.0 in
    let first = terms _ _ pairs.0 in
    let second = terms _ _ pairs.1 in
    let a = terms _ _ first.0 in
    let b = terms _ _ first.1 in
    let c = terms _ _ second.0 in
    let d = terms _ _ second.1 in
    let last = terms _ _ all.1 in
    let z = terms _ _ last.0 in
    rw (a.0, c.0, z.0, a.1, c.1, b.0, d.0, b.1, d.1, z.1, last.1)

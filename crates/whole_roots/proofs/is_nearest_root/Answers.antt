-- o, the odd number below 2 * q, by its two halves: what is left of a * 2 ^ 54 after the three parts of its square.
use Rattle.std.proofs.Common.{ℕ, ◌≡◌, ◌+◌, ◌-◌, ◌*◌, ◌/◌, ◌%◌, ◌^◌, ◌<◌, ap, arith}
use Rattle.std.proofs.lemmas.Bool.{ltb-true}
use Rattle.whole_roots.specs.Roots.{square, Between}
use Rattle.whole_roots.proofs.is_nearest_root.Goals as goal

halves : (a q o h l s t : ℕ) → o + 1 ≡ q * 2 → o ≡ h * 2 ^ 27 + l → a ≡ h * h + s → s * 2 ^ 27 ≡ h * l * 2 + t → l * l < t * 2 ^ 27 → t * 2 ^ 27 < l * l + o * 4 + 4 → Between (a * 2 ^ 54) q
halves a q o h l s t e p x y u v =
    let w : square o ≡ square (h * 2 ^ 27 + l) = ap square p in
    record { odd = o; next = omega arith; above = omega arith; under = omega arith }

pub returns : goal.returns
returns c = λ e.
    let a = c.args.a in
    let q = c.args.q in
    let o = q * 2 - 1 in
    let h = o / 2 ^ 27 in
    let l = o % 2 ^ 27 in
    let s = a - h * h in
    let t = s * 2 ^ 27 - h * l * 2 in
    let d : t * 2 ^ 27 - l * l < o * 4 + 4 = ltb-true (t * 2 ^ 27 - l * l) (o * 4 + 4) e in
    halves a q o h l s t (omega arith) (omega arith) (omega arith) (omega arith) (omega arith) (omega arith)

-- What `root_bits` and `square_root` rest on: the bits of a candidate that is confirmed are those of the root (`root-bits`, `root-of-field`), and `square_root` of each kind of value. Assumes nothing.
use mathlib.Core.Path.{◌≡◌, refl, sym, ap, subst, ◌∙◌}
use mathlib.Core.Bool.{Bool, true, false, not, ◌&&◌, true≢false, false≢true}
use Prim.Native.Nat.{ℕ, zero, suc, ◌+◌, ◌-◌, ◌*◌, ◌/◌, ◌%◌, ◌^◌, ◌≤◌, ◌<◌}
use native.Mathlib.Nat.{lt_of_lt_of_le, lt_of_le_of_lt, mod-eq_of_lt}
use native.Mathlib.Omega.{arith}
use lib.Dec.{T, eqb, eqb→eq, ltb→lt, nltb→le}
use lib.Ieee.{Float, nan, inf, fin, binary64, lt, eq, ne, fits, is_nan, of_bits, to_bits}
use lib.Ieee.Compare.{differs_from_itself}
use lib.Ieee.Fits.{and_l}
use Rattle.whole_roots.specs.Roots.{Between}
use Rattle.whole_roots.proofs.Squares.{square-lt}
use Rattle.float.specs.Root.{nearest_root, square_root}
use Rattle.float.specs.Steps.{Split, Rooted, pattern_count}
use Rattle.float.specs.declared.Scaled.{Scaled}
use Rattle.float.proofs.Candidate.{confirmed}
use Rattle.float.proofs.Patterns.{read, written, split-high}
use Rattle.float.proofs.Zero.{zero64, is, isnt, mine, zeros, no-zeros, some, clash, zero-level, zero-equal}

-- ---- the number whose root is taken has 53 or 54 digits
pub record Even (m p : ℕ) : Type 0 where
  pub low : 2 ^ 52 ≤ m * 2 ^ p
  pub high : m * 2 ^ p + 1 < 2 ^ 54

even : (m p : ℕ) → 2 ^ 52 ≤ m → m < 2 ^ 53 → p < 2 → Even m p
even m zero lo hi h = omega arith
even m (suc zero) lo hi h = omega arith
even m (suc (suc p)) lo hi h = absurd (no p h)
  where
    no : (p : ℕ) → suc (suc p) < 2 → ⊥
    no p h = omega arith

pub even-of : (m j : ℕ) → 2 ^ 52 ≤ m → m < 2 ^ 53 → Even m (j % 2)
even-of m j lo hi = even m (j % 2) lo hi (omega arith)

pub same : (m p : ℕ) → Even m p → m * 2 ^ p % 2 ^ 64 ≡ m * 2 ^ p
same m p e = mod-eq_of_lt (omega (arith, e.high))

-- ---- the nearest root of a * 2 ^ 52 has 53 digits
pub near-low : (a q : ℕ) → 2 ^ 52 ≤ a → Between (a * 2 ^ 54) q → 2 ^ 52 ≤ q
near-low a q A r =
    let s = square-lt (2 ^ 53) (r.odd + 2) (lt_of_le_of_lt (omega arith) r.under) in
    omega (arith, r.next)

pub near-high : (a q : ℕ) → a + 1 < 2 ^ 54 → Between (a * 2 ^ 54) q → q < 2 ^ 53
near-high a q A r =
    let s = square-lt r.odd (2 ^ 54 - 1) (lt_of_lt_of_le r.above (omega arith)) in
    omega (arith, r.next)

pub root-bits : (b : ℕ) (s : Scaled) (q : ℕ) → Split (pattern_count b * 2 ^ 1074) s → Between (s.m * 2 ^ (s.j % 2) * 2 ^ 54) q
    → Rooted b ((s.j / 2 - 26) * 2 ^ 52 + q)
root-bits b s q p r =
    let m = s.m in
    let j = s.j in
    let e = even-of m j p.low p.high in
    let a = m * 2 ^ (j % 2) in
    let lo : 2 ^ 52 ≤ q = near-low a q e.low r in
    let hi : q < 2 ^ 53 = near-high a q e.high r in
    let f : 1022 ≤ j = p.far in
    let n : j < 3120 = p.near in
    record {
      finite = omega arith;
      value =
          written (j / 2 - 26) q lo hi (omega arith)
          ∙ sym (confirmed m j q p.low p.high (omega arith) (omega (arith, e.high)) r)
          ∙ ap nearest_root p.exact;
    }

-- where the exponent's field of b is f, and not 0
pub root-of-field : (b f q : ℕ) → b / 2 ^ 52 ≡ f → 0 < f → f < 2047 → Between ((b % 2 ^ 52 + 2 ^ 52) * 2 ^ ((f + 1073) % 2) * 2 ^ 54) q
    → Rooted b (((b / 2 ^ 52 + 1073) / 2 - 26) * 2 ^ 52 + q)
root-of-field b f q e lo hi r =
    root-bits b (record { m = b % 2 ^ 52 + 2 ^ 52; j = b / 2 ^ 52 + 1073 }) q (split-high b (omega arith) (λ z. omega arith))
    (subst (λ (x : ℕ). Between ((b % 2 ^ 52 + 2 ^ 52) * 2 ^ ((x + 1073) % 2) * 2 ^ 54) q) (sym e) r)

-- ---- `square_root`, by the tests that the code makes
pub of_nan : (x : Float) → ne x x ≡ true → nan ≡ square_root x
unfolding square_root
of_nan x e = rw (differs_from_itself x (subst T (sym e) tt))

-- a zero, of either sign
pub at_zero : (x : Float) → eq x zero64 ≡ true → x ≡ square_root x
unfolding eq square_root
at_zero nan h = refl
at_zero (inf s) h = absurd (false≢true h)
at_zero (fin s zero e) h = refl
at_zero (fin s (suc m) e) h = absurd (clash (mine (suc m) e) (zeros e) (no-zeros e) (some m e) (eqb→eq (mine (suc m) e) (zeros e) (and_l (eqb (mine (suc m) e) (zeros e)) _ (is h))))

-- neither above zero nor a zero: below zero, or a NaN
pub no-root : (x : Float) → lt zero64 x ≡ false → eq x zero64 ≡ false → nan ≡ square_root x
unfolding lt eq square_root
no-root nan h k = refl
no-root (inf true) h k = refl
no-root (inf false) h k = absurd (true≢false h)
no-root (fin true (suc m) e) h k = refl
no-root (fin false (suc m) e) h k = absurd (flat (mine (suc m) e) (zeros e) (no-zeros e) (some m e) (nltb→le (zeros e) (mine (suc m) e) (isnt h)))
  where
    flat : (a b : ℕ) → b ≡ 0 → 0 < a → a ≤ b → ⊥
    flat a b e h k = omega arith
no-root (fin s zero e) h k = absurd (true≢false (zero-equal s e k))

pub not_finite : (x : Float) → lt zero64 x ≡ true → lt x (inf false) ≡ false → x ≡ square_root x
unfolding lt square_root
not_finite nan h k = refl
not_finite (inf true) h k = absurd (true≢false k)
not_finite (inf false) h k = refl
not_finite (fin s m e) h k = absurd (true≢false k)

-- what is left: finite, and above zero
pub record Positive (x : Float) : Type 0 where
  pub plain : T (not (is_nan x))
  pub some : 0 < to_bits binary64 x
  pub finite : to_bits binary64 x < 0x7ff0_0000_0000_0000
  pub value : (r : ℕ) → Rooted (to_bits binary64 x) r → of_bits binary64 r ≡ square_root x

pub positive : (x : Float) → T (fits binary64 x) → lt zero64 x ≡ true → lt x (inf false) ≡ true → Positive x
unfolding lt is_nan square_root
positive nan t h k = absurd (false≢true h)
positive (inf s) t h k = absurd (stuck s h k)
  where
    stuck : (s : Bool) → not s ≡ true → (s && true) ≡ true → ⊥
    stuck true a b = false≢true a
    stuck false a b = false≢true b
positive (fin true m e) t h k = absurd (false≢true h)
positive (fin false zero e) t h k = absurd (lost (mine 0 e) (zeros e) (zero-level e) (ltb→lt (zeros e) (mine 0 e) (is h)))
  where
    lost : (a b : ℕ) → a ≡ 0 → b < a → ⊥
    lost a b x h = omega arith
positive (fin false (suc m) e) t h k =
    let g = read m e t in
    record {
      plain = tt;
      some = g.some;
      finite = g.finite;
      value = λ r v. v.value ∙ ap (λ (n : ℕ). nearest_root (n * 2 ^ 1074)) (sym g.counted);
    }

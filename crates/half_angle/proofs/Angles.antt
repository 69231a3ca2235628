-- The angles that are answered: from 0 to 1.6, a number brought into that range, Newton's step, and the multiples of 2 ^ -52. Assumes nothing.
use mathlib.Core.Path.{◌≡◌, refl, sym, ◌∙◌, subst}
use mathlib.Core.Bool.{Bool, true, false, cond}
use Prim.Native.Nat.{ℕ, zero-le, ◌+◌, ◌*◌, ◌^◌, ◌≤◌, ◌<◌}
use native.Mathlib.Nat.{add-zero, zero-add, le_trans, le_of_eq, lt_of_lt_of_le, mul-one, mul-lt-mul_of_pos_right}
use native.Mathlib.Omega.{arith}
use lib.Dec.{T, ltb, ltb→lt, nltb→le, lit<, lit≤}
use lib.Pow.{pow_pos}
use lib.Ieee.{Float, nan, inf, fin, binary64, of_bits, of_int, sub, lt, fits, round}
use lib.Ieee.Fits.{round-fits}
use lib.Ieee.Scale.{round_same}
use lib.Ieee.Exact.{HasValue, round_exact}
use Rattle.float.specs.Exact.{count, negative}
use Rattle.float.proofs.Counts.{counted}
use Rattle.rounding.specs.Number.{Number, limit, plus_part, minus_part}
use Rattle.rounding.specs.Error.{Within}
use Rattle.rounding.proofs.Round.{value-finite}
use Rattle.rounding.proofs.Laws.{zero64, zero-number, zero-sign, zero-count, parts-sum, plus-parts, minus-parts, sub_number, sub_parts, mul_is, lt-is}
use Rattle.trigonometry.proofs.Accuracy.{zero-parts}
use Rattle.half_angle.specs.HalfAngles.{end, good, in_range, angle, last}

pub record Angle (a : Float) : Type 0 where
  pub number : Number a
  pub sign : negative a ≡ false
  pub most : count a ≤ count end

zero-angle : Angle zero64
zero-angle = record { number = zero-number; sign = zero-sign; most = le_trans (le_of_eq zero-count) zero-le }

end-number : Number end
unfolding of_bits fits
end-number = record { is_binary64 = tt; is_finite = tt }

end-sign : negative end ≡ false
unfolding of_bits negative
end-sign = refl

end-angle : Angle end
end-angle = record { number = end-number; sign = end-sign; most = le_of_eq refl }

-- ---- into the range
above-zero : {x : Float} → Number x → lt zero64 x ≡ ltb (minus_part x) (plus_part x)
above-zero {x} X = lt-is zero-number X ∙ rw (zero-parts.0, zero-parts.1, zero-add (minus_part x), add-zero (plus_part x)) refl

below-end : {x : Float} → Number x → lt x end ≡ ltb (plus_part x) (count end + minus_part x)
below-end {x} X = let p = plus-parts end end-sign in lt-is X end-number ∙ rw (p.0, p.1, add-zero (plus_part x)) refl

zero-below-end : lt zero64 end ≡ true
zero-below-end = unfold of_bits lt in refl

-- 0 is below the end
in_range-is : (x : Float) → in_range x ≡ cond (lt zero64 x) (cond (lt x end) x end) zero64
unfolding in_range
in_range-is x = go (lt zero64 x)
  where
    go : (b : Bool) → let above = cond b x zero64 in cond (lt above end) above end ≡ cond b (cond (lt x end) x end) zero64
    go true = refl
    go false = rw zero-below-end refl

-- what was near to a number in the range is so afterwards
pub record Clamped (x a : Float) : Type 0 where
  pub angle : Angle a
  pub near : (g t : ℕ) → g ≤ count end → Within (plus_part x) (g + minus_part x) t → Within (count a) g t

pub clamped : {x : Float} → Number x → Clamped x (in_range x)
clamped {x} X = subst (Clamped x) (sym (in_range-is x)) (go (lt zero64 x) (lt x end) (sym (above-zero X)) (sym (below-end X)))
  where
    m : ℕ
    m = minus_part x

    p : ℕ
    p = plus_part x

    at-zero : (p m n g t : ℕ) → n ≡ 0 → p ≤ m → Within p (g + m) t → Within n g t
    at-zero p m n g t e h w = record { over = omega arith; under = omega (arith, w.under) }

    at-end : (p m n g t : ℕ) → n + m ≤ p → g ≤ n → Within p (g + m) t → Within n g t
    at-end p m n g t h k w = record { over = omega (arith, w.over); under = omega arith }

    inside : (p m n g t : ℕ) → p ≡ n → m ≡ 0 → Within p (g + m) t → Within n g t
    inside p m n g t e f w = record { over = omega (arith, w.over); under = omega (arith, w.under) }

    most : (p m n e : ℕ) → p ≡ n → m ≡ 0 → p < e + m → n ≤ e
    most p m n e h i k = omega arith

    unsigned : (s : Bool) → negative x ≡ s → m < p → negative x ≡ false
    unsigned false e h = e
    unsigned true e h = let r = minus-parts x e in absurd (none m p r.1 h)
      where
        none : (m p : ℕ) → p ≡ 0 → m < p → ⊥
        none m p e h = omega arith

    go : (b d : Bool) → ltb m p ≡ b → ltb p (count end + m) ≡ d → Clamped x (cond b (cond d x end) zero64)
    go false d h l =
        let k : p ≤ m = nltb→le m p (rw h tt) in
        record { angle = zero-angle; near = λ g t i w. at-zero p m (count zero64) g t zero-count k w }
    go true false h l =
        let k : count end + m ≤ p = nltb→le p (count end + m) (rw l tt) in
        record { angle = end-angle; near = λ g t i w. at-end p m (count end) g t k i w }
    go true true h l =
        let s = unsigned (negative x) refl (ltb→lt m p (rw h tt)) in
        let r = plus-parts x s in
        record {
          angle = record { number = X; sign = s; most = most p m (count x) (count end) r.0 r.1 (ltb→lt p (count end + m) (rw l tt)) };
          near = λ g t i w. inside p m (count x) g t r.0 r.1 w;
        }

pub in-range : (x : Float) → T (fits binary64 x) → Angle (in_range x)
in-range nan f = unfold of_bits in_range lt in zero-angle
in-range (inf false) f = unfold of_bits in_range lt in end-angle
in-range (inf true) f = unfold of_bits in_range lt in zero-angle
in-range (fin s m e) f = let X : Number (fin s m e) = record { is_binary64 = f; is_finite = tt } in (clamped X).angle

-- 2 ^ -52 in counts: a bound of how far a difference in the range is rounded, and the spacing of the angles that bisection tries
abbrev pub spacing : ℕ
spacing = 2 ^ 1022

-- ---- Newton's step: how far the answer is from the guess g, where g's excess is e
unfoldable pub step : ℕ
step = count good + spacing

step-room : count end + count good ≤ 2 ^ 53 * spacing
unfolding of_bits count
step-room = lit≤ tt

step-limit : count end + count good ≤ limit
unfolding of_bits count limit
step-limit = lit≤ tt

pub newton : {g e : Float} → Angle g → Number e → count e ≤ count good
    → let a = in_range (sub binary64 g e) in (Angle a) × (Within (count a) (count g) step)
unfolding step
newton {g} {e} G E h =
    let both = sum-most (count g) (count e) (count end) (count good) G.most h in
    let X = sub_number G.number E (le_trans both step-limit) in
    let c = clamped X in
    let z = sub binary64 g e in
    let p = plus-parts g G.sign in
    let w = rw (p.0, p.1) at (sub_parts G.number E X.is_finite) in
    let near =
    moved (plus_part z) (minus_part z) (plus_part e) (minus_part e) (count e) (count g) (count good) spacing _
    (parts-sum e) h (le_trans both step-room) w in
    (c.angle, c.near (count g) step G.most near)
  where
    sum-most : (g e f t : ℕ) → g ≤ f → e ≤ t → g + e ≤ f + t
    sum-most g e f t h i = omega arith

    moved : (zp zm ep em e g t u s : ℕ) → e ≡ ep + em → e ≤ t → s ≤ 2 ^ 53 * u
        → Within (2 ^ 53 * (zp + (0 + ep))) (2 ^ 53 * (zm + (g + em))) s → Within zp (g + zm) (t + u)
    moved zp zm ep em e g t u s i h k w = record { over = omega (arith, w.over); under = omega (arith, w.under) }

-- ---- v times 2 ^ -52, exactly
pub record At (n : ℕ) (a : Float) : Type 0 where
  pub number : Number a
  pub sign : negative a ≡ false
  pub is : count a ≡ n

-- a fraction that is a whole number of counts, of at most 53 digits and some zeros, is not rounded
round-at : (q j num den : ℕ) → q < 2 ^ 53 → q * 2 ^ j < 2 ^ 2098 → 0 < den → num * 2 ^ 1074 ≡ q * 2 ^ j * den
    → At (q * 2 ^ j) (round binary64 false num den)
round-at q j num den h l p e =
    let n = q * 2 ^ j in
    let L = 2 ^ 1074 in
    let x = round binary64 false n L in
    let v : HasValue x false n L = round_exact binary64 false n L q j (pow_pos 1074) h l refl in
    let f : T (fits binary64 x) = round-fits binary64 false n L in
    let c = counted x false n f v in
    let X : Number x = record { is_binary64 = f; is_finite = value-finite x false n L v } in
    rw (round_same binary64 false num den n L p (pow_pos 1074) e) (record { number = X; sign = c.sign; is = c.size })

-- the last of them is the end of the range
pub last-end : last * spacing ≡ count end
unfolding of_bits count
last-end = refl

abbrev spacing64 : Float
spacing64 = of_bits binary64 0x3cb0_0000_0000_0000

spacing64-number : Number spacing64
unfolding of_bits fits
spacing64-number = record { is_binary64 = tt; is_finite = tt }

spacing64-sign : negative spacing64 ≡ false
unfolding of_bits negative
spacing64-sign = refl

spacing64-count : count spacing64 ≡ spacing
unfolding of_bits count
spacing64-count = refl

pub angle-at : (v : ℕ) → v ≤ last → At (v * spacing) (angle v)
unfolding angle of_int
angle-at v h =
    let l : v < 2 ^ 53 = omega arith in
    let a = round-at v 1074 v 1 l (fine v 1074 l (lit≤ tt)) (lit< tt) (sym (mul-one (v * 2 ^ 1074))) in
    let x = round binary64 false v 1 in
    rw (mul_is a.number spacing64-number, a.sign, spacing64-sign, a.is, spacing64-count)
    (round-at v 1022 (v * 2 ^ 1074 * spacing) (2 ^ 2148) l (fine v 1022 l (lit≤ tt)) (pow_pos 2148) (turned v (2 ^ 1074) spacing (2 ^ 2148) refl))
  where
    fine : (v j : ℕ) → v < 2 ^ 53 → 2 ^ 53 * 2 ^ j ≤ 2 ^ 2098 → v * 2 ^ j < 2 ^ 2098
    fine v j l h = lt_of_lt_of_le (mul-lt-mul_of_pos_right l (pow_pos j)) h

    turned : (v L r M : ℕ) → L * L ≡ M → v * L * r * L ≡ v * r * M
    turned v L r M e = rw (← e) (omega arith)

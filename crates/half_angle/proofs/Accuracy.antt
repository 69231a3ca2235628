-- For every s and c of SineCosine, whatever the guess, the half-angle a that is answered is from 0 to 1.6, c sine(a) and s cosine(a) are within 2 ^ -40 of
-- each other, by the exact Taylor sums, and cosine(a) c + sine(a) s is above 0. Assumes nothing.
use mathlib.Core.Path.{◌≡◌, refl, ap}
use mathlib.Core.Bool.{Bool, true, false, cond}
use Prim.Native.Nat.{ℕ, zero, suc, zero-le, ◌+◌, ◌-◌, ◌*◌, ◌/◌, ◌^◌, ◌≤◌, ◌<◌}
use native.Mathlib.Nat.{le_refl, le_trans, le_of_eq, mul-le-mul_left, mul-le-mul_right, pow-suc}
use native.Mathlib.Omega.{arith}
use lib.Dec.{lit≤}
use lib.IntN.{ℤ, pos, negsuc, nat_abs, ◌+ℤ◌, ◌-ℤ◌, ◌*ℤ◌}
use lib.Ieee.{Float, binary64, of_bits, sub, le}
use lib.Ieee.Fits.{add-fits}
use Rattle.float.specs.Exact.{count, signed, exact, abs}
use Rattle.rounding.specs.Number.{one}
use Rattle.rounding.proofs.Integers.{dist, above, below, Difference, difference-add, difference-less, difference-abs, difference-times}
use Rattle.rounding.proofs.Close.{error_unit, product_error, product_size, sum_error}
use Rattle.rounding.proofs.Laws.{zero64}
use Rattle.trigonometry.specs.Taylor.{factorial, denominator, sine_sum, cosine_sum}
use Rattle.trigonometry.proofs.Terms.{total, sine_added, sine_subtracted, cosine_added, cosine_subtracted, sine-signed, cosine-signed}
use Rattle.trigonometry.proofs.Sign.{up-to-2}
use Rattle.half_angle.specs.HalfAngles.{end, last, good, excess, in_range, guess, angle, halvings, halved, bisected, half_angle, SineCosine, HalfAngle}
use Rattle.half_angle.proofs.Sides.{left, right, NotBeyond, NotShort, Apart, level, moved, between}
use Rattle.half_angle.proofs.Turned.{turned}
use Rattle.half_angle.proofs.Computed.{slack, Computed, computed}
use Rattle.half_angle.proofs.Levels.{within-good, not-beyond, not-short, apart}
use Rattle.half_angle.proofs.Angles.{Angle, spacing, step, in-range, newton, last-end, angle-at}

-- ---- 1.6 in counts
end-two : count end ≤ 2 * one
unfolding of_bits count one
end-two = lit≤ tt

end-fifths : 5 * count end ≤ 8 * one
unfolding of_bits count one
end-fifths = lit≤ tt

angle-two : {a : Float} → Angle a → count a ≤ 2 * one
angle-two A = le_trans A.most end-two

-- ---- what the sides may be apart, in counts: after Newton's step, and after the halvings
newton-small : 2 ^ 40 * (count good + slack + 8 * step) ≤ one
unfolding of_bits count one slack step error_unit product_error product_size sum_error
newton-small = lit≤ tt

halved-small : 2 ^ 40 * (slack + 8 * spacing) ≤ one
unfolding one slack error_unit product_error product_size sum_error
halved-small = lit≤ tt

-- ---- the two ends
at-0 : (p q : ℕ) → NotBeyond slack (0 * spacing) p q
at-0 p q = unfold left total factorial one in nothing p q _
  where
    nothing : (p q r : ℕ) → p * 0 + q * 0 ≤ r
    nothing p q r = omega arith

cosine-not-above-0 : total (count end) one cosine_added ≤ total (count end) one cosine_subtracted
unfolding total factorial one of_bits count
cosine-not-above-0 = lit≤ tt

at-end : (p q : ℕ) → NotShort slack (count end) p q
unfolding left right
at-end p q = weighed p q _ _ _ _ _ (up-to-2 (count end) one end-two) cosine-not-above-0
  where
    weighed : (p q A B C D s : ℕ) → A ≤ C → B ≤ D → p * A + q * B ≤ p * C + q * D + s
    weighed p q A B C D s h k = omega (arith, mul-le-mul_left p h, mul-le-mul_left q k)

-- ---- over ℤ
weighted : (x : ℤ) (a b M : ℕ) → Difference x a b → Difference (x *ℤ pos M) (M * a) (M * b)
weighted x a b M h = go (above (x *ℤ pos M)) (below (x *ℤ pos M)) (above x) (below x) a b M (difference-times x M) h
  where
    go : (o u p q a b M : ℕ) → o + q * M ≡ u + p * M → p + b ≡ q + a → o + M * b ≡ u + M * a
    go o u p q a b M e f = omega (arith, e, ap (λ (y : ℕ). y * M) f)

above-zero : (z : ℤ) (a b : ℕ) → Difference z a b → b < a → (k : ℕ) × (z ≡ pos (suc k))
above-zero (pos zero) a b h l = absurd (omega arith)
above-zero (pos (suc k)) a b h l = (k, refl)
above-zero (negsuc k) a b h l = absurd (omega arith)

module _ {s c : Float} (S : SineCosine s c) where
  abbrev p : ℕ
  p = count c

  abbrev q : ℕ
  q = count s

  answered : {a : Float} → Angle a → (x : ℕ) → Apart x (count a) p q → 2 ^ 40 * x ≤ one → HalfAngle s c a
  unfolding left right
  answered {a} A x w h =
      let n = count a in
      let d = one in
      let e : exact a ≡ pos n = unfold exact in ap (λ (b : Bool). signed b n) A.sign in
      let sin = sine_sum d (pos n) in
      let cos = cosine_sum d (pos n) in
      let Sa = total n d sine_added in
      let Ss = total n d sine_subtracted in
      let Ca = total n d cosine_added in
      let Cs = total n d cosine_subtracted in
      let sin-is = λ (M : ℕ). weighted sin Sa Ss M (sine-signed false n d) in
      let cos-is = λ (M : ℕ). weighted cos Ca Cs M (cosine-signed false n d) in
      let l = level x n p q w h in
      let f : nat_abs (sin *ℤ pos p -ℤ cos *ℤ pos q) ≡ dist (p * Sa + q * Cs) (p * Ss + q * Ca) =
      difference-abs _ _ _ (difference-less (sin *ℤ pos p) (cos *ℤ pos q) (p * Sa) (p * Ss) (q * Ca) (q * Cs) (sin-is p) (cos-is q)) in
      let t =
      above-zero (cos *ℤ pos p +ℤ sin *ℤ pos q) (p * Ca + q * Sa) (p * Cs + q * Ss)
      (difference-add (cos *ℤ pos p) (sin *ℤ pos q) (p * Ca) (p * Cs) (q * Sa) (q * Ss) (cos-is p) (sin-is q))
      (turned n p q A.most (angle-two A) l S.least) in
      record {
        number = A.number;
        sign = A.sign;
        most = le_trans (mul-le-mul_left 5 A.most) end-fifths;
        level = rw (e, f) (far (p * Sa + q * Cs) (p * Ss + q * Ca) (d * denominator d) l.over l.under);
        turned = rw e t;
      }
    where
      far : (L R Y : ℕ) → 2 ^ 40 * L ≤ 2 ^ 40 * R + Y → 2 ^ 40 * R ≤ 2 ^ 40 * L + Y → 2 ^ 40 * dist L R ≤ Y
      far L R Y h k = omega arith

  computed-at : {a : Float} → Angle a → Computed (count a) p q (excess a s c)
  computed-at A = computed S A.number A.sign (le_trans (angle-two A) (mul-le-mul_right one (lit≤ tt)))

  -- ---- Newton's step
  stepped : {g : Float} → Angle g → le (abs (excess g s c)) good ≡ true → HalfAngle s c (in_range (sub binary64 g (excess g s c)))
  stepped {g} G t =
      let z = computed-at G in
      let a = newton G z.number (within-good z.number t) in
      let w = moved S.cosine_most S.sine_most (count good + slack) step (apart z t) a.1.under a.1.over (angle-two G) (angle-two a.0) in
      answered a.0 (count good + slack + 8 * step) w newton-small

  -- ---- bisection
  in_counts : (v : ℕ) → v ≤ last → v * spacing ≤ count end
  in_counts v h = le_trans (mul-le-mul_right spacing h) (le_of_eq last-end)

  counted : (v : ℕ) → v ≤ last → Angle (angle v)
  counted v h = let a = angle-at v h in record { number = a.number; sign = a.sign; most = le_trans (le_of_eq a.is) (in_counts v h) }

  computed-counted : (v : ℕ) → v ≤ last → Computed (v * spacing) p q (excess (angle v) s c)
  computed-counted v h = rw (angle-at v h).is at (computed-at (counted v h))

  record Found (v : ℕ) : Type 0 where
    most : v ≤ last
    apart : Apart (slack + 8 * spacing) (v * spacing) p q

  abbrev Halves : ℕ → Type 0
  Halves k = (low high : ℕ) → low ≤ high → high ≤ last → high ≤ low + 2 ^ k → NotBeyond slack (low * spacing) p q → NotShort slack (high * spacing) p q
      → Found (halved k low high s c)

  halves-next : (k : ℕ) → Halves k → (low high middle : ℕ) → low ≤ middle → middle ≤ high → high ≤ last → middle ≤ low + 2 ^ k → high ≤ middle + 2 ^ k
      → NotBeyond slack (low * spacing) p q → NotShort slack (high * spacing) p q
      → (b : Bool) → le (excess (angle middle) s c) zero64 ≡ b → Found (halved k (cond b middle low) (cond b high middle) s c)
  halves-next k r low high middle i j h l m A B true e = r middle high j h m (not-beyond (computed-counted middle (le_trans j h)) e) B
  halves-next k r low high middle i j h l m A B false e = let h' = le_trans j h in r low middle i h' l A (not-short (computed-counted middle h') e)

  halves : (k : ℕ) → Halves k
  unfolding halved
  halves zero low high h l g A B =
      let two = le_trans (in_counts high l) end-two in
      let w = between S.cosine_most S.sine_most slack spacing A B (mul-le-mul_right spacing h) (neighbours low high spacing g) two in
      record { most = le_trans h l; apart = w }
    where
      neighbours : (low high t : ℕ) → high ≤ low + 1 → high * t ≤ low * t + t
      neighbours low high t h = omega (arith, mul-le-mul_right t h)
  halves (suc k) low high h l g A B =
      let middle = low + (high - low) / 2 in
      let g' : high ≤ low + 2 ^ k * 2 = rw (pow-suc 2 k) at g in
      halves-next k (halves k) low high middle (omega arith) (omega arith) l (lower low high (2 ^ k) h g') (upper low high (2 ^ k) h g') A B
      (le (excess (angle middle) s c) zero64) refl
    where
      lower : (low high P : ℕ) → low ≤ high → high ≤ low + P * 2 → low + (high - low) / 2 ≤ low + P
      lower low high P h i = omega arith

      upper : (low high P : ℕ) → low ≤ high → high ≤ low + P * 2 → high ≤ low + (high - low) / 2 + P
      upper low high P h i = omega arith

  by-halves : HalfAngle s c (angle (bisected s c))
  unfolding bisected
  by-halves =
      let v = halved halvings 0 last s c in
      let f = halves halvings 0 last zero-le (le_refl last) (lit≤ tt) (at-0 p q) (rw last-end (at-end p q)) in
      answered (counted v f.most) (slack + 8 * spacing) (rw (angle-at v f.most).is f.apart) halved-small

-- ---- the theorem
pub half-angle : {s c : Float} → SineCosine s c → HalfAngle s c (half_angle s c)
unfolding half_angle
half-angle {s} {c} S = go (le (abs (excess (guess s c) s c)) good) refl
  where
    guessed : Angle (guess s c)
    guessed = unfold guess in in-range _ (add-fits binary64 _ _)

    go : (b : Bool) → let g = guess s c in let e = excess g s c in
        le (abs e) good ≡ b → HalfAngle s c (cond b (in_range (sub binary64 g e)) (angle (bisected s c)))
    go true t = stepped S guessed t
    go false t = by-halves S

-- The squared norm of a quaternion, exactly, and the rounded sums of the four squares beside it. Assumes nothing.
use Prim.Native.Nat.{ℕ, ◌+◌, ◌*◌, ◌^◌, ◌≤◌}
use mathlib.Core.Path.{◌≡◌, refl, sym, ap, ◌∙◌}
use mathlib.Core.Bool.{false}
use native.Mathlib.Nat.{le_trans, le_of_eq, mul-le-mul_left, mul-le-mul_right}
use native.Mathlib.Omega.{arith}
use lib.IntN.{ℤ, pos, negsuc, nat_abs, ◌+ℤ◌, ◌*ℤ◌, pos-*ℤ-pos, negsuc-*ℤ-negsuc}
use lib.Ieee.{Float, binary64, add, mul}
use lib.Dec.{T, lit≤}
use lib.Ieee.Fits.{mul-fits, add-fits}
use lib.Ieee.Scale.{finite}
use Rattle.whole_roots.specs.Roots.{square}
use Rattle.float.specs.Exact.{exact, count, negative}
use Rattle.rounding.specs.Number.{Number, one}
use Rattle.rounding.specs.Error.{Within}
use Rattle.rounding.proofs.Laws.{exact-size, mul-sign, mul-error, add-sign, add-error-plus, add-operands, unlike-self}
use Rattle.law.specs.Arithmetic.{Arithmetic}
use Rattle.law.specs.Vector as Vector
use Rattle.law.specs.Quaternion as Quaternion
use Rattle.law.specs.Quaternion.{Quaternion}
use Rattle.law.specs.Rounded.{rounded}
use Rattle.law.specs.Exact as Exact
use Rattle.law.proofs.Model.{exact_integers}
use Rattle.law.proofs.Rotation.{norm_squared-mul}
use Rattle.unit_norm.specs.SquaredNorm.{squared_norm}
use Rattle.unit_norm.proofs.Sums.{slack, abs-mul, Near, sizes-near, product, looser, first-three, in-turn, in-pairs}

-- ---- over integers: the formulas of `law`, exactly
abbrev pub o : Arithmetic ℤ
o = Exact.exact exact_integers

abbrev pub exactly : Quaternion Float → Quaternion ℤ
exactly q = record { w = exact q.w; x = exact q.x; y = exact q.y; z = exact q.z }

abbrev pub squares : Quaternion ℤ → ℕ
squares q = square (nat_abs q.w) + square (nat_abs q.x) + square (nat_abs q.y) + square (nat_abs q.z)

pub exactly-squares : (q : Quaternion Float) → squares (exactly q) ≡ squared_norm q
unfolding squared_norm
exactly-squares q = rw (exact-size q.w, exact-size q.x, exact-size q.y, exact-size q.z) refl

square-is : (x : ℤ) → x *ℤ x ≡ pos (square (nat_abs x))
square-is (pos n) = pos-*ℤ-pos n n
square-is (negsuc n) = negsuc-*ℤ-negsuc n n

-- in pairs, as normalising adds them, and in turn, as the check does
in-pairs-is : (q : Quaternion ℤ) → nat_abs (Quaternion.norm_squared o q) ≡ squares q
unfolding Quaternion.norm_squared
in-pairs-is q = rw (square-is q.w, square-is q.x, square-is q.y, square-is q.z) (omega arith)

in-turn-is : (q : Quaternion ℤ) → nat_abs (q.w *ℤ q.w +ℤ q.x *ℤ q.x +ℤ q.y *ℤ q.y +ℤ q.z *ℤ q.z) ≡ squares q
in-turn-is q = rw (square-is q.w, square-is q.x, square-is q.y, square-is q.z) refl

-- and of the vector part alone
abbrev pub vector_squares : Quaternion ℤ → ℕ
vector_squares q = square (nat_abs q.x) + square (nat_abs q.y) + square (nat_abs q.z)

vector-is : (q : Quaternion ℤ) → nat_abs (q.x *ℤ q.x +ℤ q.y *ℤ q.y +ℤ q.z *ℤ q.z) ≡ vector_squares q
vector-is q = rw (square-is q.x, square-is q.y, square-is q.z) refl

-- the squared norm of a product is the product of the squared norms
pub squares-mul : (p q : Quaternion ℤ) → squares (Quaternion.mul o p q) ≡ squares p * squares q
squares-mul p q =
    sym (in-pairs-is (Quaternion.mul o p q))
    ∙ ap nat_abs (norm_squared-mul exact_integers p q)
    ∙ abs-mul (Quaternion.norm_squared o p) (Quaternion.norm_squared o q)
    ∙ rw (in-pairs-is p, in-pairs-is q) refl

-- ---- rounded
pub record Numbers (q : Quaternion Float) : Type 0 where
  pub w : Number q.w
  pub x : Number q.x
  pub y : Number q.y
  pub z : Number q.z

-- g is a number, not negative, and near to s
pub record SumOfSquares (s : ℕ) (g : Float) : Type 0 where
  pub number : Number g
  pub sign : negative g ≡ false
  pub near : Within (2 ^ 53 * (count g * one)) (2 ^ 53 * s) (4 * s + 7 * slack)

-- ---- a sum of squares that is finite: g is a number, not negative, and the exact sum s is at most c times g and one more
pub record FiniteSum (s c : ℕ) (g : Float) : Type 0 where
  pub number : Number g
  pub sign : negative g ≡ false
  pub least : s ≤ c * (count g * one + one)

finite-square : {x : Float} → Number x → T (finite (mul binary64 x x)) → FiniteSum (count x * count x) 2 (mul binary64 x x)
finite-square {x} X t =
    record {
      number = record { is_binary64 = mul-fits binary64 x x; is_finite = t };
      sign = mul-sign X X t ∙ unlike-self (negative x);
      least = half (count x * count x) (count (mul binary64 x x) * one) one (mul-error X X t).under;
    }
  where
    half : (p z o : ℕ) → 2 ^ 53 * p ≤ 2 ^ 53 * z + (p + 2 ^ 52 * o) → p ≤ 2 * (z + o)
    half p z o h = omega arith

-- the factor doubles, since a sum is at least half the exact one
finite-add : {s t c : ℕ} {x y : Float} → FiniteSum s c x → FiniteSum t c y → T (finite (add binary64 x y)) → FiniteSum (s + t) (2 * c) (add binary64 x y)
finite-add {s} {t} {c} {x} {y} X Y f =
    record {
      number = record { is_binary64 = add-fits binary64 x y; is_finite = f };
      sign = add-sign X.number Y.number X.sign Y.sign f;
      least =
          le_trans (le_trans (joined s t _ _ X.least Y.least) (le_of_eq (gathered c (count x) (count y) one)))
          (le_trans (mul-le-mul_left c (double (count x) (count y) (count (add binary64 x y)) one (add-error-plus X.number Y.number X.sign Y.sign f).under)) (le_of_eq (halved c _)));
    }
  where
    joined : (a b c d : ℕ) → a ≤ c → b ≤ d → a + b ≤ c + d
    joined a b c d h k = omega arith

    gathered : (c x y o : ℕ) → c * (x * o + o) + c * (y * o + o) ≡ c * ((x + y) * o + 2 * o)
    gathered c x y o = omega arith

    double : (x y z o : ℕ) → 2 ^ 53 * (x + y) ≤ 2 ^ 53 * z + (x + y) → (x + y) * o + 2 * o ≤ 2 * (z * o + o)
    double x y z o h = let l : x + y ≤ 2 * z = omega arith in omega (arith, mul-le-mul_right o l)

    halved : (c n : ℕ) → c * (2 * n) ≡ 2 * c * n
    halved c n = omega arith

finite-more : {s c d : ℕ} {x : Float} → c ≤ d → FiniteSum s c x → FiniteSum s d x
finite-more {c = c} {d = d} {x = x} h X = record { number = X.number; sign = X.sign; least = le_trans X.least (mul-le-mul_right (count x * one + one) h) }

module _ {q : Quaternion Float} (Q : Numbers q) where
  infixl 60 ◌⊕◌
  abbrev ◌⊕◌ : Float → Float → Float
  x ⊕ y = add binary64 x y

  abbrev sq : Float → Float
  sq x = mul binary64 x x

  finite-pairs : T (finite ((sq q.x ⊕ sq q.z) ⊕ (sq q.y ⊕ sq q.w))) → FiniteSum ((count q.x * count q.x + count q.z * count q.z) + (count q.y * count q.y + count q.w * count q.w)) 8 ((sq q.x ⊕ sq q.z) ⊕ (sq q.y ⊕ sq q.w))
  finite-pairs t =
      let a = add-operands (sq q.x ⊕ sq q.z) (sq q.y ⊕ sq q.w) t in
      let b = add-operands (sq q.x) (sq q.z) a.0 in
      let c = add-operands (sq q.y) (sq q.w) a.1 in
      finite-add (finite-add (finite-square Q.x b.0) (finite-square Q.z b.1) a.0) (finite-add (finite-square Q.y c.0) (finite-square Q.w c.1) a.1) t

  pub finite-turn : T (finite (sq q.w ⊕ sq q.x ⊕ sq q.y ⊕ sq q.z)) → FiniteSum (squared_norm q) 16 (sq q.w ⊕ sq q.x ⊕ sq q.y ⊕ sq q.z)
  unfolding squared_norm
  finite-turn t =
      let a = add-operands (sq q.w ⊕ sq q.x ⊕ sq q.y) (sq q.z) t in
      let b = add-operands (sq q.w ⊕ sq q.x) (sq q.y) a.0 in
      let c = add-operands (sq q.w) (sq q.x) b.0 in
      let wx = finite-add (finite-square Q.w c.0) (finite-square Q.x c.1) b.0 in
      let wxy = finite-add wx (finite-more (lit≤ tt) (finite-square Q.y b.1)) a.0 in
      finite-add wxy (finite-more (lit≤ tt) (finite-square Q.z a.1)) t

  vector-sign : T (finite (sq q.x ⊕ sq q.y ⊕ sq q.z)) → negative (sq q.x ⊕ sq q.y ⊕ sq q.z) ≡ false
  vector-sign t =
      let a = add-operands (sq q.x ⊕ sq q.y) (sq q.z) t in
      let b = add-operands (sq q.x) (sq q.y) a.0 in
      let xy = finite-add (finite-square Q.x b.0) (finite-square Q.y b.1) a.0 in
      (finite-add xy (finite-more (lit≤ tt) (finite-square Q.z a.1)) t).sign

  module _ (h : squared_norm q ≤ 2 ^ 7 * (one * one)) where
    bounds : (count q.w * count q.w ≤ 2 ^ 7 * (one * one)) × (count q.x * count q.x ≤ 2 ^ 7 * (one * one)) × (count q.y * count q.y ≤ 2 ^ 7 * (one * one)) × (count q.z * count q.z ≤ 2 ^ 7 * (one * one))
    unfolding squared_norm
    bounds = each (count q.w * count q.w) (count q.x * count q.x) (count q.y * count q.y) (count q.z * count q.z) (2 ^ 7 * (one * one)) h
      where
        each : (a b c d s : ℕ) → a + b + c + d ≤ s → (a ≤ s) × (b ≤ s) × (c ≤ s) × (d ≤ s)
        each a b c d s h = (omega arith, omega arith, omega arith, omega arith)

    W : Near (exact q.w *ℤ exact q.w) (count q.w * count q.w) 1 1 (sq q.w)
    W = product Q.w Q.w bounds.0

    X : Near (exact q.x *ℤ exact q.x) (count q.x * count q.x) 1 1 (sq q.x)
    X = product Q.x Q.x bounds.1

    Y : Near (exact q.y *ℤ exact q.y) (count q.y * count q.y) 1 1 (sq q.y)
    Y = product Q.y Q.y bounds.2

    Z : Near (exact q.z *ℤ exact q.z) (count q.z * count q.z) 1 1 (sq q.z)
    Z = product Q.z Q.z bounds.3

    -- the exact sum of a rounded one
    with-size : {w : ℤ} {b s : ℕ} {g : Float} → Near w b 4 7 g → nat_abs w ≡ s → b ≡ s → negative g ≡ false → SumOfSquares s g
    with-size {w} {b} {s} {g} N e f n = record { number = N.number; sign = n; near = rw (← f) (rw (e, ← f) at (sizes-near N)) }

    pub norm_squared-near : SumOfSquares (squared_norm q) (Quaternion.norm_squared rounded q)
    unfolding squared_norm Quaternion.norm_squared
    norm_squared-near = let N = in-pairs X Z Y W (omega (arith, h)) in with-size N (in-pairs-is (exactly q) ∙ exactly-squares q) (omega arith) (finite-pairs N.number.is_finite).sign

    pub check-near : SumOfSquares (squared_norm q) (sq q.w ⊕ sq q.x ⊕ sq q.y ⊕ sq q.z)
    unfolding squared_norm
    check-near = let N = in-turn W X Y Z h in with-size N (in-turn-is (exactly q) ∙ exactly-squares q) refl (finite-turn N.number.is_finite).sign

    -- of the vector part
    pub vector-near : SumOfSquares (vector_squares (exactly q)) (Vector.norm_squared rounded (Quaternion.vector rounded q))
    unfolding squared_norm Vector.norm_squared Quaternion.vector
    vector-near =
        let N = looser (lit≤ tt) (lit≤ tt) (first-three X Y Z W (omega (arith, h))) in
        with-size N (vector-is (exactly q)) (rw (exact-size q.x, exact-size q.y, exact-size q.z) refl) (vector-sign N.number.is_finite)

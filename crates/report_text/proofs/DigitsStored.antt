-- Hexadecimal digits stored one by one, from the last on; how many digits a number has. Assumes nothing.
use Prim.Native.Nat.{ℕ, zero, suc, ◌+◌, ◌-◌, ◌/◌, ◌%◌, ◌≤◌, ◌<◌}
use mathlib.Core.Path.{◌≡◌, refl, sym, ap, ◌∙◌}
use mathlib.Core.Bool.{Bool, true, false, cond}
use mathlib.Core.List.{List, [], ◌∷◌}
use native.Mathlib.Omega.{arith}
use lib.Dec.{ltb}
use lib.ListN.{length, set, length-append}
use lib.Seq.{sets, set_comm}
use Rattle.words.proofs.Stores.{sets-append}
use Prim.Native.Char.{code}
use Rattle.report_text.specs.Digits.{digit, hex, lower_hex, decimal, digit_from, digits_from, digit_in, hex_in}
use Rattle.report_text.specs.declared.digits.Case.{Case}
use Rattle.report_text.specs.declared.digits.Case.TheVariants.{Lower, Upper}

digits_from-length : (letter b k n : ℕ) → length (digits_from letter b k n) ≡ k
digits_from-length letter b zero n = refl
digits_from-length letter b (suc k) n =
    length-append (digits_from letter b k (n / b)) (digit_from letter (n % b) ∷ []) ∙ omega (arith, digits_from-length letter b k (n / b))

pub hex-length : (k n : ℕ) → length (hex k n) ≡ k
unfolding hex
hex-length k n = digits_from-length (code "A") 16 k n

pub lower_hex-length : (k n : ℕ) → length (lower_hex k n) ≡ k
unfolding lower_hex
lower_hex-length k n = digits_from-length (code "a") 16 k n

-- a store behind a run may come before it
set-behind : (a l : List ℕ) (i j d : ℕ) → i + length a ≤ j → set (sets l i a) j d ≡ sets (set l j d) i a
set-behind [] l i j d h = refl
set-behind (x ∷ a) l i j d h =
    set-behind a (set l i x) (suc i) j d (omega arith)
    ∙ ap (λ (k : List ℕ). sets k (suc i) a) (set_comm l i j x d (λ e. omega arith))

last-digit : (letter b : ℕ) (l : List ℕ) (i k n : ℕ)
    → sets l i (digits_from letter b (suc k) n) ≡ sets (set l (i + k) (digit_from letter (n % b))) i (digits_from letter b k (n / b))
last-digit letter b l i k n =
    let h : length (digits_from letter b k (n / b)) ≡ k = digits_from-length letter b k (n / b) in
    sym (sets-append (digits_from letter b k (n / b)) (digit_from letter (n % b) ∷ []) l i (i + k) (omega arith))
    ∙ set-behind (digits_from letter b k (n / b)) l i (i + k) (digit_from letter (n % b)) (omega arith)

last-hex : (case : Case) (l : List ℕ) (i k n : ℕ) → sets l i (hex_in case (suc k) n) ≡ sets (set l (i + k) (digit_in case (n % 16))) i (hex_in case k (n / 16))
unfolding hex lower_hex digit
last-hex Lower l i k n = last-digit (code "a") 16 l i k n
last-hex Upper l i k n = last-digit (code "A") 16 l i k n

pub next-digit : (case : Case) (l : List ℕ) (i left n : ℕ) → 0 < left
    → sets l i (hex_in case left n) ≡ sets (set l (i + (left - 1)) (digit_in case (n % 16))) i (hex_in case (left - 1) (n / 16))
next-digit case l i left n h =
    let e : left ≡ suc (left - 1) = omega arith in
    ap (λ (k : ℕ). sets l i (hex_in case k n)) e ∙ last-hex case l i (left - 1) n

pub no_digit : (case : Case) (l : List ℕ) (i left n : ℕ) → left ≤ 0 → sets l i (hex_in case left n) ≡ l
unfolding hex lower_hex
no_digit Lower l i left n h = let e : left ≡ 0 = omega arith in rw e
no_digit Upper l i left n h = let e : left ≡ 0 = omega arith in rw e

pub decimal_short : (n : ℕ) → length (decimal n) ≤ 2
unfolding decimal
decimal_short n = go (ltb n 10)
  where
    go : (b : Bool) → length (cond b (digit n ∷ []) (digit (n / 10) ∷ digit (n % 10) ∷ [])) ≤ 2
    go true = omega arith
    go false = omega arith

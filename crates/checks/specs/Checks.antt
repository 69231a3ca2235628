-- The checks of a parameter block, in the scope's order: length, values and norm finite, the tolerance, how far the norm is from 1. Definitions only.
use Rattle.std.specs.Prelude.{ℕ, Bool, true, not, ◌&&◌, ◌-◌, ◌%◌, cond, List, [], ◌∷◌, eqb, ltb, length, get_or, take, drop, Result, Ok, Err, ⊤, Float}
use Rattle.std.specs.Float.{nan, binary64}
use Rattle.std.specs.Float.Ieee.{of_bits, add, sub, mul, lt}
use Rattle.std.specs.Float.Ieee.Scale.{finite}
use Rattle.float.specs.Exact.{abs}
use Rattle.float.specs.Root.{square_root}
use Rattle.checks.specs.Refusals.{earlier}
use Rattle.checks.specs.declared.Refusal.{Refusal}
use Rattle.checks.specs.declared.Refusal.TheVariants.{Length, NotFinite, Tolerance, NotUnit}

-- a check that passed has nothing to add
abbrev pub Check : Type 0
Check = Result ⊤ Refusal

abbrev pub passed : Check
passed = Ok tt

-- what follows where nothing was refused
abbrev pub and_then : {A B : Type 0} → Result A Refusal → (A → Result B Refusal) → Result B Refusal
and_then (Ok a) f = f a
and_then (Err r) f = Err r

-- of two, the refusal that is tried first
unfoldable pub both : {A B : Type 0} → Result A Refusal → Result B Refusal → Result (A × B) Refusal
both (Ok a) (Ok b) = Ok (a, b)
both (Ok a) (Err s) = Err s
both (Err r) (Ok b) = Err r
both (Err r) (Err s) = Err (earlier r s)

-- where the caller chooses none: the f64 nearest 1e-6
unfoldable pub quaternion_norm_tolerance : Float
quaternion_norm_tolerance = of_bits binary64 0x3eb0_c6f7_a0b5_ed8d

-- finite, above 0 and at most 1/1024
unfoldable pub permitted : Float → Bool
permitted t = (finite t && lt (of_bits binary64 0) t) && not (lt (of_bits binary64 0x3f50_0000_0000_0000) t)

unfoldable pub check_tolerance : Float → Check
check_tolerance t = cond (permitted t) passed (Err Tolerance)

unfoldable pub all_finite : List Float → Bool
all_finite [] = true
all_finite (x ∷ xs) = finite x && all_finite xs

-- the root of the four squares, added in the order w, x, y, z
unfoldable pub norm_of : List Float → Float
norm_of q = square_root (sq 0 ⊕ sq 1 ⊕ sq 2 ⊕ sq 3)
  where
    infixl 60 ◌⊕◌
    ◌⊕◌ : Float → Float → Float
    a ⊕ b = add binary64 a b

    sq : ℕ → Float
    sq i = mul binary64 (get_or q i nan) (get_or q i nan)

-- a norm that is not finite is refused before the tolerance, and that before a norm more than the tolerance from 1
unfoldable pub check_norm : Float → Float → Check
check_norm n tolerance =
    cond (finite n)
    (and_then (check_tolerance tolerance) (λ _.
    cond (lt tolerance (abs (sub binary64 n (of_bits binary64 0x3ff0_0000_0000_0000)))) (Err (NotUnit n)) passed))
    (Err NotFinite)

unfoldable pub check_unit_quaternion : List Float → Float → Check
check_unit_quaternion q tolerance = check_norm (norm_of q) tolerance

unfoldable pub check_length : List Float → ℕ → Check
check_length s len = cond (eqb (length s) len) passed (Err (Length len (length s)))

-- how long a chain is: at most `most`, and whole blocks; the length expected is the largest permitted one not above the actual
unfoldable pub check_chain_length : ℕ → ℕ → ℕ → Check
check_chain_length actual block most =
    cond (ltb most actual) (Err (Length most actual))
    (cond (eqb (actual % block) 0) passed (Err (Length (actual - actual % block) actual)))

-- a block of len values
unfoldable pub check_values : List Float → ℕ → Check
check_values s len = and_then (check_length s len) (λ _. cond (all_finite s) passed (Err NotFinite))

-- the quaternion of a block of len values is the four from `at` on
unfoldable pub check_param_block : List Float → ℕ → ℕ → Float → Check
check_param_block s len at tolerance = and_then (check_values s len) (λ _. check_unit_quaternion (take 4 (drop at s)) tolerance)

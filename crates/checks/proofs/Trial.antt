-- A block is refused with the first number of `tried` that it fails: 2 before 7 and 7 before 3 within a block, too. Assumes nothing.
use Prim.Native.Nat.{ℕ}
use mathlib.Core.Path.{◌≡◌, refl}
use mathlib.Core.Bool.{Bool, true, false, not, ◌&&◌, cond}
use mathlib.Core.List.{List}
use lib.Dec.{eqb}
use lib.ListN.{length, take, drop}
use lib.Ieee.{Float, binary64, of_bits, sub, lt}
use lib.Ieee.Scale.{finite}
use Rattle.std.specs.Prelude.{Err}
use Rattle.float.specs.Exact.{abs}
use Rattle.checks.specs.Refusals.{number, tried}
use Rattle.checks.specs.Checks.{passed, and_then, permitted, check_tolerance, all_finite, norm_of, check_norm, check_unit_quaternion, check_length, check_values, check_param_block}
use Rattle.checks.specs.declared.Refusal.TheVariants.{Length, NotFinite, Tolerance, NotUnit}
use Rattle.checks.specs.Trial.{fails, first_failed, number_of}

pub block-order : (s : List Float) (len at : ℕ) (tolerance : Float) → number_of (check_param_block s len at tolerance) ≡ first_failed tried (fails s len at tolerance)
unfolding check_param_block check_values check_length check_unit_quaternion check_norm check_tolerance number number_of tried fails first_failed
block-order s len at tolerance =
    go (eqb (length s) len) (all_finite s) (finite n) (permitted tolerance) (lt tolerance (abs (sub binary64 n (of_bits binary64 0x3ff0_0000_0000_0000))))
  where
    n : Float
    n = norm_of (take 4 (drop at s))

    go : (a b c p d : Bool)
        → number_of
        (and_then (and_then (cond a passed (Err (Length len (length s)))) (λ _. cond b passed (Err NotFinite)))
        (λ _. cond c (and_then (cond p passed (Err Tolerance)) (λ _. cond d (Err (NotUnit n)) passed)) (Err NotFinite)))
        ≡ cond (not a) 1 (cond (not (b && c)) 2 (cond (not p) 7 (cond d 3 0)))
    go true true true true true = refl
    go true true true true false = refl
    go true true true false d = refl
    go true true false p d = refl
    go true false c p d = refl
    go false b c p d = refl

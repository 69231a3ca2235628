-- What a block that passed its check is known to be. Assumes nothing.
use Prim.Native.Nat.{ℕ}
use mathlib.Core.Path.{◌≡◌, refl, ap}
use mathlib.Core.Bool.{Bool, true, false, cond}
use mathlib.Core.List.{List}
use native.Mathlib.Omega.{arith}
use lib.Dec.{T, eqb, eqb→eq}
use lib.ListN.{length}
use lib.Ieee.{Float, binary64, of_bits, sub, lt}
use Rattle.float.specs.Exact.{abs}
use lib.Ieee.Scale.{finite}
use Rattle.std.specs.Prelude.{Result, Ok, Err, ⊤}
use Rattle.checks.specs.Checks.{Check, passed, and_then, both, quaternion_norm_tolerance, permitted, check_tolerance, all_finite, check_norm, check_length, check_values, check_param_block}
use Rattle.checks.specs.declared.Refusal.{Refusal}
use Rattle.checks.specs.declared.Refusal.TheVariants.{Length, NotFinite, NotUnit, Tolerance}

-- a refusal is no answer
pub never : {A T : Type 0} {r : Refusal} {x : T} → ◌≡◌ {A = Result T Refusal} (Err r) (Ok x) → A
never {A} {r} e = let z : ◌≡◌ {A = ℕ} 0 1 = cc in absurd (apart z)
  where
    apart : ◌≡◌ {A = ℕ} 0 1 → ⊥
    apart z = omega arith

pub same : {T : Type 0} {x y : T} → ◌≡◌ {A = Result T Refusal} (Ok x) (Ok y) → x ≡ y
same e = cc

-- an answer that follows another: the first one, and what was made of it
pub record Followed {A T : Type 0} (r : Result A Refusal) (f : A → Result T Refusal) (c : T) : Type 0 where
  pub answer : A
  pub is : r ≡ Ok answer
  pub after : f answer ≡ Ok c

pub followed : {A T : Type 0} (r : Result A Refusal) (f : A → Result T Refusal) (c : T) → and_then r f ≡ Ok c → Followed r f c
followed (Ok a) f c e = record { answer = a; is = refl; after = e }
followed (Err r) f c e = never e

first-passed : {x : ⊤} (a b : Check) → and_then a (λ _. b) ≡ Ok x → a ≡ passed
first-passed (Ok y) b e = refl
first-passed (Err r) b e = never e

-- what is answered after a check is what follows it
pub second-passed : {A B : Type 0} {x : B} (a : Result A Refusal) (b : Result B Refusal) → and_then a (λ _. b) ≡ Ok x → b ≡ Ok x
second-passed (Ok y) b e = e
second-passed (Err r) b e = never e

pub length_passed : (s : List Float) (len : ℕ) → check_length s len ≡ passed → length s ≡ len
unfolding check_length
length_passed s len = go (eqb (length s) len) (eqb→eq (length s) len)
  where
    go : (b : Bool) → (T b → length s ≡ len) → cond b passed (Err (Length len (length s))) ≡ passed → length s ≡ len
    go true h e = h tt
    go false h e = never e

pub values_passed : (s : List Float) (len : ℕ) → check_values s len ≡ passed → length s ≡ len
unfolding check_values
values_passed s len e = length_passed s len (first-passed _ _ e)

values-finite : (s : List Float) (len : ℕ) → check_values s len ≡ passed → all_finite s ≡ true
unfolding check_values
values-finite s len e = go (all_finite s) (second-passed _ _ e)
  where
    go : (c : Bool) → cond c passed (Err NotFinite) ≡ passed → c ≡ true
    go true e = refl
    go false e = never e

pub passed_length : (s : List Float) (len at : ℕ) (t : Float) → check_param_block s len at t ≡ passed → length s ≡ len
unfolding check_param_block
passed_length s len at t e = values_passed s len (first-passed _ _ e)

pub passed-finite : (s : List Float) (len at : ℕ) (t : Float) → check_param_block s len at t ≡ passed → all_finite s ≡ true
unfolding check_param_block
passed-finite s len at t e = values-finite s len (first-passed _ _ e)

-- of two results that answer together each is an answer
pub passed-left : {A B : Type 0} (a : Result A Refusal) (b : Result B Refusal) (p : A × B) → both a b ≡ Ok p → a ≡ Ok p.0
unfolding both
passed-left {A} {B} (Ok x) (Ok y) p e = ap left e
  where
    left : Result (A × B) Refusal → Result A Refusal
    left (Ok q) = Ok q.0
    left (Err r) = Err r
passed-left (Err r) (Ok y) p e = never e
passed-left (Ok x) (Err s) p e = never e
passed-left (Err r) (Err s) p e = never e

pub passed-right : {A B : Type 0} (a : Result A Refusal) (b : Result B Refusal) (p : A × B) → both a b ≡ Ok p → b ≡ Ok p.1
unfolding both
passed-right {A} {B} (Ok x) (Ok y) p e = ap right e
  where
    right : Result (A × B) Refusal → Result B Refusal
    right (Ok q) = Ok q.1
    right (Err r) = Err r
passed-right (Err r) (Ok y) p e = never e
passed-right (Ok x) (Err s) p e = never e
passed-right (Err r) (Err s) p e = never e

-- ---- 1e-6 is permitted, so a check at it never gives 7
pub millionth_permitted : check_tolerance quaternion_norm_tolerance ≡ passed
unfolding check_tolerance permitted quaternion_norm_tolerance of_bits lt
millionth_permitted = refl

pub millionth-never-7 : (norm : Float) → check_norm norm quaternion_norm_tolerance ≡ Err Tolerance → ⊥
unfolding check_norm
millionth-never-7 norm e = go (finite norm) (lt quaternion_norm_tolerance (abs (sub binary64 norm (of_bits binary64 0x3ff0_0000_0000_0000)))) (rw millionth_permitted at e)
  where
    go : (b c : Bool) → cond b (cond c (Err (NotUnit norm)) passed) (Err NotFinite) ≡ Err Tolerance → ⊥
    go true true e = let z : ◌≡◌ {A = ℕ} 0 1 = cc in omega arith
    go true false e = let z : ◌≡◌ {A = ℕ} 0 1 = cc in omega arith
    go false c e = let z : ◌≡◌ {A = ℕ} 0 1 = cc in omega arith

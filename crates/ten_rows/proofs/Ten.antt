-- A list of ten, place by place. Assumes nothing.
use Prim.Native.Nat.{◌≤◌, ◌<◌}
use mathlib.Core.Path.{◌≡◌}
use mathlib.Core.List.{List, [], ◌∷◌}
use native.Mathlib.Omega.{arith}
use lib.ListN.{length, get_or, drop_of_length-le}
use lib.Seq.{drop-cons}

pub ten : {A : Type 0} (m : List A) (d : A) → length m ≡ 10
    → get_or m 0 d ∷ get_or m 1 d ∷ get_or m 2 d ∷ get_or m 3 d ∷ get_or m 4 d ∷ get_or m 5 d ∷ get_or m 6 d ∷ get_or m 7 d ∷ get_or m 8 d ∷ get_or m 9 d ∷ [] ≡ m
ten m d h =
    let l0 : 0 < length m = omega arith in
    let l1 : 1 < length m = omega arith in
    let l2 : 2 < length m = omega arith in
    let l3 : 3 < length m = omega arith in
    let l4 : 4 < length m = omega arith in
    let l5 : 5 < length m = omega arith in
    let l6 : 6 < length m = omega arith in
    let l7 : 7 < length m = omega arith in
    let l8 : 8 < length m = omega arith in
    let l9 : 9 < length m = omega arith in
    let e : length m ≤ 10 = omega arith in
    rw (
      ← drop_of_length-le m e,
      ← drop-cons m 9 d l9,
      ← drop-cons m 8 d l8,
      ← drop-cons m 7 d l7,
      ← drop-cons m 6 d l6,
      ← drop-cons m 5 d l5,
      ← drop-cons m 4 d l4,
      ← drop-cons m 3 d l3,
      ← drop-cons m 2 d l2,
      ← drop-cons m 1 d l1,
      ← drop-cons m 0 d l0,
    )

-- The 39 numbers of an adjoint and the hundred places of the whole matrix: which stands where, and that they are finite together. Assumes nothing.
use Prim.Native.Nat.{ℕ}
use mathlib.Core.Path.{◌≡◌, refl, ap, ◌∙◌}
use mathlib.Core.Bool.{Bool, true, ◌&&◌}
use mathlib.Core.List.{List, [], ◌∷◌, ◌++◌, map}
use borrow.Author.Tests.{ltb-true}
use lib.Dec.{ltb}
use lib.ListN.{length, get_or}
use lib.Ieee.{Float, nan, of_bits}
use Rattle.std.specs.Cmp.{both_ways}
use Rattle.law.specs.Rounded.{rounded}
use Rattle.law.specs.Vector as Vector
use Rattle.law.specs.Galilean as Law
use Rattle.linear.specs.Records.{vector_values, matrix_values}
use Rattle.checks.specs.Checks.{all_finite}
use Rattle.checks.proofs.Finite.{both, finite-at, finite-parts}
use Rattle.ten_rows.specs.TenRows as TenRows
use Rattle.ten_rows.specs.declared.Adjoint.{Adjoint}
use Rattle.ten_rows.specs.Adjoints.{opened, values}

-- the values of a list at these places
abbrev pub at : List ℕ → List Float → List Float
at places l = map (λ i. get_or l i nan) places

-- what stands in each of the hundred places: one of the 39 numbers, counted from 0, or 0 or 1, counted 39 and 40
abbrev pub spread : List ℕ
spread =
    0 ∷ 1 ∷ 2 ∷ 9 ∷ 10 ∷ 11 ∷ 18 ∷ 19 ∷ 20 ∷ 36
    ∷ 3 ∷ 4 ∷ 5 ∷ 12 ∷ 13 ∷ 14 ∷ 21 ∷ 22 ∷ 23 ∷ 37
    ∷ 6 ∷ 7 ∷ 8 ∷ 15 ∷ 16 ∷ 17 ∷ 24 ∷ 25 ∷ 26 ∷ 38
    ∷ 39 ∷ 39 ∷ 39 ∷ 0 ∷ 1 ∷ 2 ∷ 27 ∷ 28 ∷ 29 ∷ 39
    ∷ 39 ∷ 39 ∷ 39 ∷ 3 ∷ 4 ∷ 5 ∷ 30 ∷ 31 ∷ 32 ∷ 39
    ∷ 39 ∷ 39 ∷ 39 ∷ 6 ∷ 7 ∷ 8 ∷ 33 ∷ 34 ∷ 35 ∷ 39
    ∷ 39 ∷ 39 ∷ 39 ∷ 39 ∷ 39 ∷ 39 ∷ 0 ∷ 1 ∷ 2 ∷ 39
    ∷ 39 ∷ 39 ∷ 39 ∷ 39 ∷ 39 ∷ 39 ∷ 3 ∷ 4 ∷ 5 ∷ 39
    ∷ 39 ∷ 39 ∷ 39 ∷ 39 ∷ 39 ∷ 39 ∷ 6 ∷ 7 ∷ 8 ∷ 39
    ∷ 39 ∷ 39 ∷ 39 ∷ 39 ∷ 39 ∷ 39 ∷ 39 ∷ 39 ∷ 39 ∷ 40
    ∷ []

-- in which place each of the 39 numbers stands first
abbrev pub held : List ℕ
held =
    0 ∷ 1 ∷ 2 ∷ 10 ∷ 11 ∷ 12 ∷ 20 ∷ 21 ∷ 22
    ∷ 3 ∷ 4 ∷ 5 ∷ 13 ∷ 14 ∷ 15 ∷ 23 ∷ 24 ∷ 25
    ∷ 6 ∷ 7 ∷ 8 ∷ 16 ∷ 17 ∷ 18 ∷ 26 ∷ 27 ∷ 28
    ∷ 36 ∷ 37 ∷ 38 ∷ 46 ∷ 47 ∷ 48 ∷ 56 ∷ 57 ∷ 58
    ∷ 9 ∷ 19 ∷ 29
    ∷ []

pub opened-spread : (d : Adjoint) → TenRows.values (opened d) ≡ at spread (values d ++ rounded.zero ∷ rounded.one ∷ [])
unfolding opened values TenRows.values Law.opened Law.by_blocks Law.row10 Vector.zero
opened-spread d = refl

pub opened-held : (d : Adjoint) → values d ≡ at held (TenRows.values (opened d))
unfolding opened values TenRows.values Law.opened Law.by_blocks Law.row10 Vector.zero
opened-held d = refl

-- ---- finite
abbrev below : ℕ → List ℕ → Bool
below n [] = true
below n (i ∷ places) = ltb i n && below n places

at-finite : (places : List ℕ) (l : List Float) → below (length l) places ≡ true → all_finite l ≡ true → all_finite (at places l) ≡ true
unfolding all_finite
at-finite [] l h f = refl
at-finite (i ∷ places) l h f =
    let p = both (ltb i (length l)) (below (length l) places) h in
    rw (finite-at l f i (ltb-true i (length l) p.0), at-finite places l p.1 f)

-- 39 tests tell what a hundred would
pub opened-finite : (d : Adjoint) → all_finite (TenRows.values (opened d)) ≡ all_finite (values d)
opened-finite d = both_ways (all_finite (TenRows.values (opened d))) (all_finite (values d)) to-short to-whole
  where
    to-short : all_finite (TenRows.values (opened d)) ≡ true → all_finite (values d) ≡ true
    to-short f = ap all_finite (opened-held d) ∙ at-finite held (TenRows.values (opened d)) (unfold TenRows.values opened Law.opened Law.by_blocks Law.row10 in refl) f

    to-whole : all_finite (values d) ≡ true → all_finite (TenRows.values (opened d)) ≡ true
    to-whole f =
        ap all_finite (opened-spread d)
        ∙ at-finite spread (values d ++ rounded.zero ∷ rounded.one ∷ []) (unfold values in refl)
        (finite-parts (values d) (rounded.zero ∷ rounded.one ∷ []) ∙ rw f (unfold all_finite of_bits in refl))

-- block by block
pub values_finite : (d : Adjoint) → all_finite (values d)
    ≡ (all_finite (matrix_values d.rotation) && (all_finite (matrix_values d.rho_nu) && (all_finite (matrix_values d.rho_theta)
    && (all_finite (matrix_values d.nu_theta) && all_finite (vector_values d.rho_s)))))
unfolding values
values_finite d =
    let tail : List Float = matrix_values d.nu_theta ++ vector_values d.rho_s in
    finite-parts (matrix_values d.rotation) (matrix_values d.rho_nu ++ matrix_values d.rho_theta ++ tail)
    ∙ rw (finite-parts (matrix_values d.rho_nu) (matrix_values d.rho_theta ++ tail), finite-parts (matrix_values d.rho_theta) tail, finite-parts (matrix_values d.nu_theta) (vector_values d.rho_s)) refl

-- The formulas read as expressions: an arithmetic that writes down what it is asked, unknowns, and the ring solver on vectors, quaternions, matrices, elements and rows. Assumes nothing.
use Prim.Native.Nat.{ℕ, ◌+◌}
use mathlib.Core.Path.{◌≡◌, refl, ap, ap₂}
use mathlib.Core.Bool.{Bool, true, false, ◌&&◌}
use mathlib.Core.List.{List, [], ◌∷◌}
use lib.Dec.{T}
use lib.Ieee.Fits.{and_l, and_r}
use lib.ListN.{get_or}
use Rattle.law.specs.Arithmetic.{Arithmetic}
use Rattle.law.specs.Vector.{Vector}
use Rattle.law.specs.Matrix.{Matrix}
use Rattle.law.specs.Quaternion.{Quaternion}
use Rattle.law.specs.Galilean.{Element, Tangent}
use Rattle.ring.specs.Ring.{Ring}
use Rattle.ring.proofs.Solver.{Expr, var, zer, one, sum, product, minus, same_by, eval, solve-by}

-- over expressions, by a given quotient; no identity here takes a root
abbrev pub written_by : (Expr → Expr → Expr) → Arithmetic Expr
written_by quotient =
    record {
      zero = zer;
      one = one;
      two = sum one one;
      add = sum;
      sub = λ a b. sum a (minus b);
      mul = product;
      neg = minus;
      div = quotient;
      root = λ a. a;
    }

-- where nothing is divided
abbrev pub written : Arithmetic Expr
written = written_by (λ a b. a)

-- where ½ is unknown i, and nothing else is divided
abbrev pub written_with_half : ℕ → Arithmetic Expr
written_with_half i = written_by (λ a b. var i)

-- unknowns, from number i on
abbrev pub vector : ℕ → Vector Expr
vector i = record { x = var i; y = var (i + 1); z = var (i + 2) }

abbrev pub quaternion : ℕ → Quaternion Expr
quaternion i = record { w = var i; x = var (i + 1); y = var (i + 2); z = var (i + 3) }

abbrev pub matrix : ℕ → Matrix Expr
matrix i = record { row0 = vector i; row1 = vector (i + 3); row2 = vector (i + 6) }

abbrev pub element : ℕ → Element Expr
element i = record { translation = vector i; rotation = quaternion (i + 3); velocity = vector (i + 7); time = var (i + 10) }

abbrev pub tangent : ℕ → Tangent Expr
tangent i = record { rho = vector i; nu = vector (i + 3); theta = vector (i + 6); s = var (i + 9) }

-- the values in the order of the unknowns, put before those of another list
module _ {A : Type 0} where
  abbrev pub of_vector : Vector A → List A → List A
  of_vector a l = a.x ∷ a.y ∷ a.z ∷ l

  abbrev pub of_quaternion : Quaternion A → List A → List A
  of_quaternion q l = q.w ∷ q.x ∷ q.y ∷ q.z ∷ l

  abbrev pub of_matrix : Matrix A → List A → List A
  of_matrix m l = of_vector m.row0 (of_vector m.row1 (of_vector m.row2 l))

  abbrev pub of_element : Element A → List A → List A
  of_element a l = of_vector a.translation (of_quaternion a.rotation (of_vector a.velocity (a.time ∷ l)))

  abbrev pub of_tangent : Tangent A → List A → List A
  of_tangent ξ l = of_vector ξ.rho (of_vector ξ.nu (of_vector ξ.theta (ξ.s ∷ l)))

  -- and back, from place i on, n where there is none
  abbrev to_vector : A → List A → ℕ → Vector A
  to_vector n l i = record { x = get_or l i n; y = get_or l (i + 1) n; z = get_or l (i + 2) n }

  abbrev to_quaternion : A → List A → ℕ → Quaternion A
  to_quaternion n l i = record { w = get_or l i n; x = get_or l (i + 1) n; y = get_or l (i + 2) n; z = get_or l (i + 3) n }

  abbrev to_matrix : A → List A → Matrix A
  to_matrix n l = record { row0 = to_vector n l 0; row1 = to_vector n l 3; row2 = to_vector n l 6 }

  abbrev to_element : A → List A → Element A
  to_element n l = record { translation = to_vector n l 0; rotation = to_quaternion n l 3; velocity = to_vector n l 7; time = get_or l 10 n }

-- l and r differ, entry by entry, by the multiples c of a - b, and are equal where c has ended
unfoldable pub agree : Expr → Expr → List Expr → List Expr → List Expr → Bool
unfolding same_by
agree a b c [] [] = true
agree a b c [] (y ∷ r) = false
agree a b c (x ∷ l) [] = false
agree a b [] (x ∷ l) (y ∷ r) = same_by a b zer x y && agree a b [] l r
agree a b (d ∷ c) (x ∷ l) (y ∷ r) = same_by a b d x y && agree a b c l r

unfoldable pub agrees : Expr → Expr → List (List Expr) → List (List Expr) → List (List Expr) → Bool
unfolding agree
agrees a b c [] [] = true
agrees a b c [] (y ∷ r) = false
agrees a b c (x ∷ l) [] = false
agrees a b [] (x ∷ l) (y ∷ r) = agree a b [] x y && agrees a b [] l r
agrees a b (d ∷ c) (x ∷ l) (y ∷ r) = agree a b d x y && agrees a b c l r

module _ {A : Type 0} (𝓡 : Ring A) (xs : List A) where
  abbrev value : Expr → A
  value e = eval 𝓡 (λ i. get_or xs i 𝓡.zero) e

  abbrev vector_value : Vector Expr → Vector A
  vector_value a = record { x = value a.x; y = value a.y; z = value a.z }

  abbrev quaternion_value : Quaternion Expr → Quaternion A
  quaternion_value q = record { w = value q.w; x = value q.x; y = value q.y; z = value q.z }

  abbrev matrix_value : Matrix Expr → Matrix A
  matrix_value m = record { row0 = vector_value m.row0; row1 = vector_value m.row1; row2 = vector_value m.row2 }

  abbrev element_value : Element Expr → Element A
  element_value a =
      record {
        translation = vector_value a.translation;
        rotation = quaternion_value a.rotation;
        velocity = vector_value a.velocity;
        time = value a.time;
      }

  abbrev row_value : List Expr → List A
  row_value [] = []
  row_value (x ∷ l) = value x ∷ row_value l

  abbrev rows_value : List (List Expr) → List (List A)
  rows_value [] = []
  rows_value (x ∷ l) = row_value x ∷ rows_value l

  -- where a ≡ b is given
  module _ (a b : Expr) (e : value a ≡ value b) where
    pub solve_value_by : (c l r : Expr) → T (same_by a b c l r) → value l ≡ value r
    solve_value_by c l r h = solve-by 𝓡 (λ i. get_or xs i 𝓡.zero) a b c l r e h

    row_by : (c l r : List Expr) → T (agree a b c l r) → row_value l ≡ row_value r
    unfolding agree
    row_by c [] [] h = refl
    row_by c [] (y ∷ r) h = absurd h
    row_by c (x ∷ l) [] h = absurd h
    row_by [] (x ∷ l) (y ∷ r) h =
        ap₂ {C = List A} (λ s t. s ∷ t)
        (solve_value_by zer x y (and_l (same_by a b zer x y) (agree a b [] l r) h))
        (row_by [] l r (and_r (same_by a b zer x y) (agree a b [] l r) h))
    row_by (d ∷ c) (x ∷ l) (y ∷ r) h =
        ap₂ {C = List A} (λ s t. s ∷ t)
        (solve_value_by d x y (and_l (same_by a b d x y) (agree a b c l r) h))
        (row_by c l r (and_r (same_by a b d x y) (agree a b c l r) h))

    pub solve_rows_by : (c l r : List (List Expr)) → T (agrees a b c l r) → rows_value l ≡ rows_value r
    unfolding agrees
    solve_rows_by c [] [] h = refl
    solve_rows_by c [] (y ∷ r) h = absurd h
    solve_rows_by c (x ∷ l) [] h = absurd h
    solve_rows_by [] (x ∷ l) (y ∷ r) h =
        ap₂ {C = List (List A)} (λ s t. s ∷ t)
        (row_by [] x y (and_l (agree a b [] x y) (agrees a b [] l r) h))
        (solve_rows_by [] l r (and_r (agree a b [] x y) (agrees a b [] l r) h))
    solve_rows_by (d ∷ c) (x ∷ l) (y ∷ r) h =
        ap₂ {C = List (List A)} (λ s t. s ∷ t)
        (row_by d x y (and_l (agree a b d x y) (agrees a b c l r) h))
        (solve_rows_by c l r (and_r (agree a b d x y) (agrees a b c l r) h))

    pub solve_vector_by : (c l r : Vector Expr) → T (agree a b (of_vector c []) (of_vector l []) (of_vector r [])) → vector_value l ≡ vector_value r
    solve_vector_by c l r h = ap (λ k. to_vector 𝓡.zero k 0) (row_by (of_vector c []) (of_vector l []) (of_vector r []) h)

    pub solve_quaternion_by : (c l r : Quaternion Expr) → T (agree a b (of_quaternion c []) (of_quaternion l []) (of_quaternion r []))
        → quaternion_value l ≡ quaternion_value r
    solve_quaternion_by c l r h = ap (λ k. to_quaternion 𝓡.zero k 0) (row_by (of_quaternion c []) (of_quaternion l []) (of_quaternion r []) h)

    pub solve_element_by : (c l r : Element Expr) → T (agree a b (of_element c []) (of_element l []) (of_element r [])) → element_value l ≡ element_value r
    solve_element_by c l r h = ap (to_element 𝓡.zero) (row_by (of_element c []) (of_element l []) (of_element r []) h)

  -- where nothing is given
  pub solve_value : (l r : Expr) → T (agree zer zer [] (l ∷ []) (r ∷ [])) → value l ≡ value r
  solve_value l r h = ap (λ (k : List A). get_or k 0 𝓡.zero) (row_by zer zer refl [] (l ∷ []) (r ∷ []) h)

  pub solve_vector : (l r : Vector Expr) → T (agree zer zer [] (of_vector l []) (of_vector r [])) → vector_value l ≡ vector_value r
  solve_vector l r h = ap (λ k. to_vector 𝓡.zero k 0) (row_by zer zer refl [] (of_vector l []) (of_vector r []) h)

  pub solve_quaternion : (l r : Quaternion Expr) → T (agree zer zer [] (of_quaternion l []) (of_quaternion r [])) → quaternion_value l ≡ quaternion_value r
  solve_quaternion l r h = ap (λ k. to_quaternion 𝓡.zero k 0) (row_by zer zer refl [] (of_quaternion l []) (of_quaternion r []) h)

  pub solve_matrix : (l r : Matrix Expr) → T (agree zer zer [] (of_matrix l []) (of_matrix r [])) → matrix_value l ≡ matrix_value r
  solve_matrix l r h = ap (to_matrix 𝓡.zero) (row_by zer zer refl [] (of_matrix l []) (of_matrix r []) h)

  pub solve_element : (l r : Element Expr) → T (agree zer zer [] (of_element l []) (of_element r [])) → element_value l ≡ element_value r
  solve_element l r h = ap (to_element 𝓡.zero) (row_by zer zer refl [] (of_element l []) (of_element r []) h)

  pub solve_rows : (l r : List (List Expr)) → T (agrees zer zer [] l r) → rows_value l ≡ rows_value r
  solve_rows l r h = solve_rows_by zer zer refl [] l r h

-- Matrices of any size, as lists of rows. Definitions only.
use mathlib.Core.List.{List, [], ◌∷◌, ◌++◌, map}
use Rattle.law.specs.Arithmetic.{Arithmetic}

-- the values, one row after the other
unfoldable pub by_row : {A : Type 0} → List (List A) → List A
by_row [] = []
by_row (r ∷ m) = r ++ by_row m

module _ {A : Type 0} (o : Arithmetic A) where
  infixl 60 ◌⊕◌ ◌⊖◌
  infixl 70 ◌⊗◌
  open o use {zero as 𝟘, add as ◌⊕◌, sub as ◌⊖◌, mul as ◌⊗◌, neg as ⊝}

  -- s and the products of the places
  abbrev pub dot_from : A → List A → List A → A
  dot_from s [] bs = s
  dot_from s (a ∷ as') [] = s
  dot_from s (a ∷ as') (b ∷ bs) = dot_from (s ⊕ a ⊗ b) as' bs

  -- from the left, the first product first
  unfoldable pub dot : List A → List A → A
  dot [] bs = 𝟘
  dot (a ∷ as') [] = 𝟘
  dot (a ∷ as') (b ∷ bs) = dot_from (a ⊗ b) as' bs

  -- a row put on top of columns
  abbrev on_top : List A → List (List A) → List (List A)
  on_top [] m = []
  on_top (a ∷ as') [] = (a ∷ []) ∷ on_top as' []
  on_top (a ∷ as') (c ∷ m) = (a ∷ c) ∷ on_top as' m

  unfoldable pub transpose : List (List A) → List (List A)
  transpose [] = []
  transpose (r ∷ m) = on_top r (transpose m)

  unfoldable pub mul : List (List A) → List (List A) → List (List A)
  unfolding dot transpose
  mul m n = map (λ r. map (λ c. dot r c) (transpose n)) m

  unfoldable pub apply : List (List A) → List A → List A
  unfolding dot
  apply m p = map (λ r. dot r p) m

  abbrev sub_row : List A → List A → List A
  sub_row [] bs = []
  sub_row (a ∷ as') [] = []
  sub_row (a ∷ as') (b ∷ bs) = (a ⊖ b) ∷ sub_row as' bs

  unfoldable pub sub : List (List A) → List (List A) → List (List A)
  sub [] n = []
  sub (r ∷ m) [] = []
  sub (r ∷ m) (s ∷ n) = sub_row r s ∷ sub m n

  unfoldable pub neg : List (List A) → List (List A)
  neg m = map (λ r. map (λ a. ⊝ a) r) m

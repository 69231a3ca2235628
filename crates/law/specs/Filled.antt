-- The adjoint as sgal3.rs fills it: ten rows of zeros, and each block copied into its place. Definitions only.
use Rattle.std.specs.Prelude.{ℕ, List, [], ◌∷◌, ◌++◌, take, drop, replicate}
use Rattle.std.proofs.lemmas.List.Edits.{sets}
use Rattle.law.specs.Arithmetic.{Arithmetic}
use Rattle.law.specs.Vector.{Vector}
use Rattle.law.specs.Matrix as Matrix
use Rattle.law.specs.Matrix.{Matrix}
use Rattle.law.specs.Galilean.{Element, rotation_matrix}

module _ {A : Type 0} where
  -- the rows of a block over the first rows of a matrix: `sets` puts the values into a row from column j on
  unfoldable pub over_rows : ℕ → List (List A) → List (List A) → List (List A)
  over_rows j [] m = m
  over_rows j (values ∷ block) [] = []
  over_rows j (values ∷ block) (row ∷ m) = sets row j values ∷ over_rows j block m

  -- fixed_view_mut(i, j) and copy_from: the upper left place of the block is row i, column j
  unfoldable pub copy : ℕ → ℕ → List (List A) → List (List A) → List (List A)
  copy i j block m = take i m ++ over_rows j block (drop i m)

  abbrev pub row : Vector A → List A
  row v = v.x ∷ v.y ∷ v.z ∷ []

  abbrev pub block : Matrix A → List (List A)
  block m = row m.row0 ∷ row m.row1 ∷ row m.row2 ∷ []

  abbrev pub column : Vector A → List (List A)
  column v = (v.x ∷ []) ∷ (v.y ∷ []) ∷ (v.z ∷ []) ∷ []

module _ {A : Type 0} (o : Arithmetic A) where
  abbrev pub zeros : List (List A)
  zeros = replicate 10 (replicate 10 o.zero)

  unfoldable pub adjoint : Element A → List (List A)
  adjoint a =
      let r = rotation_matrix o a in
      let nu_hat = Matrix.hat o a.velocity in
      let m0 = copy 0 0 (block r) zeros in
      let m1 = copy 0 3 (block (Matrix.scale o r (o.neg a.time))) m0 in
      let m2 = copy 0 6 (block (Matrix.mul o (Matrix.sub o (Matrix.hat o a.translation) (Matrix.scale o nu_hat a.time)) r)) m1 in
      let m3 = copy 0 9 (column a.velocity) m2 in
      let m4 = copy 3 3 (block r) m3 in
      let m5 = copy 3 6 (block (Matrix.mul o nu_hat r)) m4 in
      let m6 = copy 6 6 (block r) m5 in
      copy 9 9 ((o.one ∷ []) ∷ []) m6

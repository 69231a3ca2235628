-- Matrices of three rows of three values. Definitions only.
use Rattle.law.specs.Arithmetic.{Arithmetic}
use Rattle.law.specs.Vector as Vector
use Rattle.law.specs.Vector.{Vector}

pub record Matrix (A : Type 0) : Type 0 where
  pub row0 : Vector A
  pub row1 : Vector A
  pub row2 : Vector A

module _ {A : Type 0} (o : Arithmetic A) where
  infixl 60 ◌⊕◌
  infixl 70 ◌⊗◌
  open o use {zero as 𝟘, one as 𝟙, add as ◌⊕◌, mul as ◌⊗◌, neg as ⊝}

  unfoldable pub identity : Matrix A
  identity =
      record {
        row0 = record { x = 𝟙; y = 𝟘; z = 𝟘 };
        row1 = record { x = 𝟘; y = 𝟙; z = 𝟘 };
        row2 = record { x = 𝟘; y = 𝟘; z = 𝟙 };
      }

  unfoldable pub add : Matrix A → Matrix A → Matrix A
  add m n = record { row0 = Vector.add o m.row0 n.row0; row1 = Vector.add o m.row1 n.row1; row2 = Vector.add o m.row2 n.row2 }

  unfoldable pub sub : Matrix A → Matrix A → Matrix A
  sub m n = record { row0 = Vector.sub o m.row0 n.row0; row1 = Vector.sub o m.row1 n.row1; row2 = Vector.sub o m.row2 n.row2 }

  unfoldable pub neg : Matrix A → Matrix A
  neg m = record { row0 = Vector.neg o m.row0; row1 = Vector.neg o m.row1; row2 = Vector.neg o m.row2 }

  unfoldable pub scale : Matrix A → A → Matrix A
  scale m k = record { row0 = Vector.scale o m.row0 k; row1 = Vector.scale o m.row1 k; row2 = Vector.scale o m.row2 k }

  unfoldable pub transpose : Matrix A → Matrix A
  transpose m =
      record {
        row0 = record { x = m.row0.x; y = m.row1.x; z = m.row2.x };
        row1 = record { x = m.row0.y; y = m.row1.y; z = m.row2.y };
        row2 = record { x = m.row0.z; y = m.row1.z; z = m.row2.z };
      }

  -- products sum columns in rising order, the first product first
  unfoldable pub apply : Matrix A → Vector A → Vector A
  apply m p = record { x = Vector.dot o m.row0 p; y = Vector.dot o m.row1 p; z = Vector.dot o m.row2 p }

  unfoldable pub row_by : Vector A → Matrix A → Vector A
  row_by a m =
      record {
        x = a.x ⊗ m.row0.x ⊕ a.y ⊗ m.row1.x ⊕ a.z ⊗ m.row2.x;
        y = a.x ⊗ m.row0.y ⊕ a.y ⊗ m.row1.y ⊕ a.z ⊗ m.row2.y;
        z = a.x ⊗ m.row0.z ⊕ a.y ⊗ m.row1.z ⊕ a.z ⊗ m.row2.z;
      }

  unfoldable pub mul : Matrix A → Matrix A → Matrix A
  mul m n = record { row0 = row_by m.row0 n; row1 = row_by m.row1 n; row2 = row_by m.row2 n }

  -- the matrix of the cross product: hat a times b is a × b
  unfoldable pub hat : Vector A → Matrix A
  hat a =
      record {
        row0 = record { x = 𝟘; y = ⊝ a.z; z = a.y };
        row1 = record { x = a.z; y = 𝟘; z = ⊝ a.x };
        row2 = record { x = ⊝ a.y; y = a.x; z = 𝟘 };
      }

-- Quaternions w + x i + y j + z k. Definitions only.
use Rattle.law.specs.Arithmetic.{Arithmetic}
use Rattle.law.specs.Vector as Vector
use Rattle.law.specs.Vector.{Vector}
use Rattle.law.specs.Matrix.{Matrix}

pub record Quaternion (A : Type 0) : Type 0 where
  pub w : A
  pub x : A
  pub y : A
  pub z : A

module _ {A : Type 0} (o : Arithmetic A) where
  infixl 60 ◌⊕◌ ◌⊖◌
  infixl 70 ◌⊗◌ ◌⊘◌
  open o use {zero as 𝟘, one as 𝟙, two as 𝟚, add as ◌⊕◌, sub as ◌⊖◌, mul as ◌⊗◌, div as ◌⊘◌, neg as ⊝, root}

  -- of vectors
  infixl 60 ◌⊕ᵥ◌
  infixl 70 ◌·◌ ◌⨯◌
  abbrev ◌⊕ᵥ◌ : Vector A → Vector A → Vector A
  a ⊕ᵥ b = Vector.add o a b

  abbrev ◌·◌ : Vector A → A → Vector A
  a · k = Vector.scale o a k

  abbrev ◌⨯◌ : Vector A → Vector A → Vector A
  a ⨯ b = Vector.cross o a b

  unfoldable pub identity : Quaternion A
  identity = record { w = 𝟙; x = 𝟘; y = 𝟘; z = 𝟘 }

  unfoldable pub vector : Quaternion A → Vector A
  vector q = record { x = q.x; y = q.y; z = q.z }

  -- (x² + z²) + (y² + w²)
  unfoldable pub norm_squared : Quaternion A → A
  norm_squared q = (q.x ⊗ q.x ⊕ q.z ⊗ q.z) ⊕ (q.y ⊗ q.y ⊕ q.w ⊗ q.w)

  unfoldable pub norm : Quaternion A → A
  norm q = root (norm_squared q)

  unfoldable pub divide : Quaternion A → A → Quaternion A
  divide q k = record { w = q.w ⊘ k; x = q.x ⊘ k; y = q.y ⊘ k; z = q.z ⊘ k }

  -- each value divided by the norm
  unfoldable pub normalize : Quaternion A → Quaternion A
  normalize q = divide q (norm q)

  -- Hamilton's product, by the terms of q from the left
  unfoldable pub mul : Quaternion A → Quaternion A → Quaternion A
  mul q r =
      record {
        w = q.w ⊗ r.w ⊖ q.x ⊗ r.x ⊖ q.y ⊗ r.y ⊖ q.z ⊗ r.z;
        x = q.w ⊗ r.x ⊕ q.x ⊗ r.w ⊕ q.y ⊗ r.z ⊖ q.z ⊗ r.y;
        y = q.w ⊗ r.y ⊖ q.x ⊗ r.z ⊕ q.y ⊗ r.w ⊕ q.z ⊗ r.x;
        z = q.w ⊗ r.z ⊕ q.x ⊗ r.y ⊖ q.y ⊗ r.x ⊕ q.z ⊗ r.w;
      }

  unfoldable pub conjugate : Quaternion A → Quaternion A
  conjugate q = record { w = q.w; x = ⊝ q.x; y = ⊝ q.y; z = ⊝ q.z }

  -- with u the vector part and c = 2 (u × p): (c w + u × c) + p
  unfoldable pub rotate : Quaternion A → Vector A → Vector A
  rotate q p =
      let u = vector q in
      let c = (u ⨯ p) · 𝟚 in
      (c · q.w ⊕ᵥ u ⨯ c) ⊕ᵥ p

  unfoldable pub rotation_matrix : Quaternion A → Matrix A
  rotation_matrix q =
      let ww = q.w ⊗ q.w in
      let ii = q.x ⊗ q.x in
      let jj = q.y ⊗ q.y in
      let kk = q.z ⊗ q.z in
      let ij = q.x ⊗ q.y ⊗ 𝟚 in
      let wk = q.w ⊗ q.z ⊗ 𝟚 in
      let wj = q.w ⊗ q.y ⊗ 𝟚 in
      let ik = q.x ⊗ q.z ⊗ 𝟚 in
      let jk = q.y ⊗ q.z ⊗ 𝟚 in
      let wi = q.w ⊗ q.x ⊗ 𝟚 in
      record {
        row0 = record { x = ww ⊕ ii ⊖ jj ⊖ kk; y = ij ⊖ wk; z = wj ⊕ ik };
        row1 = record { x = wk ⊕ ij; y = ww ⊖ ii ⊕ jj ⊖ kk; z = jk ⊖ wi };
        row2 = record { x = ik ⊖ wj; y = wi ⊕ jk; z = ww ⊖ ii ⊖ jj ⊕ kk };
      }

-- Vectors of three values. Definitions only.
use Rattle.law.specs.Arithmetic.{Arithmetic}

pub record Vector (A : Type 0) : Type 0 where
  pub x : A
  pub y : A
  pub z : A

module _ {A : Type 0} (o : Arithmetic A) where
  infixl 60 ◌⊕◌ ◌⊖◌
  infixl 70 ◌⊗◌ ◌⊘◌
  open o use {zero as 𝟘, add as ◌⊕◌, sub as ◌⊖◌, mul as ◌⊗◌, div as ◌⊘◌, neg as ⊝, root}

  unfoldable pub zero : Vector A
  zero = record { x = 𝟘; y = 𝟘; z = 𝟘 }

  unfoldable pub add : Vector A → Vector A → Vector A
  add a b = record { x = a.x ⊕ b.x; y = a.y ⊕ b.y; z = a.z ⊕ b.z }

  unfoldable pub sub : Vector A → Vector A → Vector A
  sub a b = record { x = a.x ⊖ b.x; y = a.y ⊖ b.y; z = a.z ⊖ b.z }

  unfoldable pub neg : Vector A → Vector A
  neg a = record { x = ⊝ a.x; y = ⊝ a.y; z = ⊝ a.z }

  unfoldable pub scale : Vector A → A → Vector A
  scale a k = record { x = a.x ⊗ k; y = a.y ⊗ k; z = a.z ⊗ k }

  unfoldable pub divide : Vector A → A → Vector A
  divide a k = record { x = a.x ⊘ k; y = a.y ⊘ k; z = a.z ⊘ k }

  unfoldable pub cross : Vector A → Vector A → Vector A
  cross a b = record { x = a.y ⊗ b.z ⊖ a.z ⊗ b.y; y = a.z ⊗ b.x ⊖ a.x ⊗ b.z; z = a.x ⊗ b.y ⊖ a.y ⊗ b.x }

  -- from the left, the first product first
  unfoldable pub dot : Vector A → Vector A → A
  dot a b = a.x ⊗ b.x ⊕ a.y ⊗ b.y ⊕ a.z ⊗ b.z

  -- (x² + y²) + z²
  unfoldable pub norm_squared : Vector A → A
  norm_squared a = a.x ⊗ a.x ⊕ a.y ⊗ a.y ⊕ a.z ⊗ a.z

  unfoldable pub norm : Vector A → A
  norm a = root (norm_squared a)

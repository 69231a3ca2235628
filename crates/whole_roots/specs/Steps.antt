-- What the digits of a root require and ensure. Definitions only.
use Rattle.std.specs.Prelude.{ℕ, ◌+◌, ◌*◌, ◌^◌, ◌≤◌, ◌<◌, ◌≡◌}
use Rattle.whole_roots.specs.Roots.{square}
use Rattle.whole_roots.specs.declared.Digits.{Digits}

-- the root so far, what its square leaves, and the digits to come, as one number that grows fourfold with each digit
abbrev pub total : Digits → ℕ
total s = (square s.root + s.rest) * 2 ^ 54 + s.digits

pub record Ready (s : Digits) : Type 0 where
  pub rest : s.rest ≤ 2 * s.root
  pub digits : s.digits < 2 ^ 54

pub record Extended (s r : Digits) : Type 0 where
  pub ready : Ready r
  pub root : r.root ≤ 2 * s.root + 1
  pub exact : total r ≡ 4 * total s

-- One piece after another. Assumes nothing.
use Rattle.std.proofs.Common.{ℕ, ◌≡◌, ◌+◌, ◌*◌, ◌/◌, Option, None, Some, List, [], ◌++◌, length, length-append, append-nil, arith, ◌∙◌, ap}
use Rattle.std.proofs.KnownBytes.{Consumes-nil, Consumes-trans}
use Rattle.std.specs.Io.KnownBytes.{Consumes, IsAtEnd}
use Rattle.sqrt_pairs.specs.Pairs.{wrong_pairs}
use Rattle.sqrt_pairs.specs.declared.Tally.{Tally}
use Rattle.sqrt_pairs.proofs.Runs.{pairs-of-both}
use Rattle.sqrt_vectors.specs.Compared.{AllCompared}

-- these bytes came, with so many pairs, so many of them wrong
pub record Counted (bytes : List ℕ) (compared different : ℕ) (before after : Option (List ℕ)) : Type 0 where
  pub read : Consumes before after bytes
  pub all : compared ≡ length bytes / 16
  pub wrong : different ≡ wrong_pairs bytes (length bytes / 16)

-- n whole pieces came
pub record Pieces (n compared different : ℕ) (before after : Option (List ℕ)) : Type 0 where
  pub bytes : List ℕ
  pub size : length bytes ≡ 65536 * n
  pub counted : Counted bytes compared different before after

-- before the first piece
pub none_yet : (a : Option (List ℕ)) → Pieces 0 0 0 a a
unfolding wrong_pairs
none_yet a = record {
  bytes = [];
  size = omega arith;
  counted = record { read = Consumes-nil a; all = omega arith; wrong = omega arith };
}

-- a piece more
with_piece : (n s t s' t' : ℕ) (piece : List ℕ) (a b c : Option (List ℕ)) (p : Pieces n s t a b) → Consumes b c piece
    → s' ≡ s + length piece / 16 → t' ≡ t + wrong_pairs piece (length piece / 16) → Counted (p.bytes ++ piece) s' t' a c
with_piece n s t s' t' piece a b c p came e f =
    let first : length p.bytes / 16 ≡ 4096 * n = omega (arith, p.size) in
    let count : length (p.bytes ++ piece) / 16 ≡ 4096 * n + length piece / 16 = omega (arith, length-append p.bytes piece, p.size) in
    let both : wrong_pairs (p.bytes ++ piece) (4096 * n + length piece / 16) ≡ wrong_pairs p.bytes (4096 * n) + wrong_pairs piece (length piece / 16) =
    pairs-of-both p.bytes piece (4096 * n) (length piece / 16) (omega (arith, p.size))
    in
    let all : wrong_pairs (p.bytes ++ piece) (length (p.bytes ++ piece) / 16) ≡ wrong_pairs p.bytes (length p.bytes / 16) + wrong_pairs piece (length piece / 16) =
    rw (count, first) both
    in
    record {
      read = Consumes-trans a b c p.bytes piece p.counted.read came;
      all = omega (arith, p.counted.all, e);
      wrong = omega (arith, p.counted.wrong, f, all);
    }

-- a whole one
pub whole_piece : (n s t s' t' : ℕ) (piece : List ℕ) (a b c : Option (List ℕ)) → Pieces n s t a b → Consumes b c piece
    → s' ≡ s + length piece / 16 → t' ≡ t + wrong_pairs piece (length piece / 16) → length piece ≡ 65536 → Pieces (n + 1) s' t' a c
whole_piece n s t s' t' piece a b c p came e f size = record {
  bytes = p.bytes ++ piece;
  size = omega (arith, length-append p.bytes piece, p.size);
  counted = with_piece n s t s' t' piece a b c p came e f;
}

all_counted : (r : Tally) (bytes : List ℕ) (a b c : Option (List ℕ)) → Counted bytes r.compared r.different a b → Consumes b c [] → IsAtEnd c
    → AllCompared r a
all_counted r bytes None b c g came end = tt
all_counted r bytes (Some xs) None c g came end = absurd g.read
all_counted r bytes (Some xs) (Some ys) None g came end = absurd came
all_counted r bytes (Some xs) (Some ys) (Some zs) g came end =
    let e : xs ≡ bytes = g.read ∙ ap (λ l. bytes ++ l) (came ∙ end) ∙ append-nil bytes in
    rw e (g.all, g.wrong)

-- the last one
pub last_piece : (r : Tally) (n s t : ℕ) (piece : List ℕ) (a b c d : Option (List ℕ)) → Pieces n s t a b → Consumes b c piece
    → r.compared ≡ s + length piece / 16 → r.different ≡ t + wrong_pairs piece (length piece / 16) → Consumes c d [] → IsAtEnd d → AllCompared r a
last_piece r n s t piece a b c d p came e f none end =
    all_counted r (p.bytes ++ piece) a c d (with_piece n s t r.compared r.different piece a b c p came e f) none end

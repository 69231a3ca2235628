-- The bytes of several reads, one after the other. Assumes nothing.
use Rattle.std.proofs.Common.{ℕ, ◌≡◌, ◌+◌, ◌≤◌, ◌∙◌, ap, sym, subst, Option, List, ◌++◌, length, take, drop}
use Rattle.std.proofs.Math.Seq.{length-take-le, take-append-add}
use Rattle.std.proofs.KnownBytes.{Consumes-trans}
use Rattle.std.proofs.lemmas.List.{take-append-le}
use Rattle.std.specs.Io.KnownBytes.{Consumes}
use borrow.Rule.Slice.PartMut.{put_mid}

-- one read more, to what stands behind the bytes that came before
pub more_came : (a b c : Option (List ℕ)) (buf came : List ℕ) (done k n : ℕ) → done ≤ length buf → n ≤ length came
    → Consumes a b (take done buf) → Consumes b c (take n came) → Consumes a c (take (done + n) (put_mid done k buf came))
more_came a b c buf came done k n fits room first second =
    let joined : take (done + n) (put_mid done k buf came) ≡ take done buf ++ take n came =
    ap (λ m. take (m + n) (put_mid done k buf came)) (sym (length-take-le done buf fits))
    ∙ take-append-add (take done buf) (came ++ drop k (drop done buf)) n
    ∙ ap (λ l. take done buf ++ l) (take-append-le n came (drop k (drop done buf)) room)
    in
    subst (Consumes a c) (sym joined) (Consumes-trans a b c (take done buf) (take n came) first second)

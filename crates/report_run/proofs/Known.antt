-- The report of all the bytes that a reader gives. Assumes nothing.
use Rattle.std.proofs.Common.{ℕ, ◌≡◌, ◌<◌, ◌≤◌, ◌∙◌, refl, sym, ap, Bool, true, false, Option, None, Some, IfSome, List, [], ◌++◌, append-nil, length, take, arith}
use Rattle.std.proofs.Math.Seq.{length-take-le}
use Rattle.std.proofs.lemmas.List.{take_at}
use Rattle.std.specs.Io.KnownBytes.{Consumes, IsAtEnd}
use borrow.Author.Tests.{ltb-true, ltb-false}
use lib.Dec.{ltb}
use Rattle.report_run.specs.Reports.{Written}

-- what was read is all the input, or enough of it
all-reported : (report_of : List ℕ → List ℕ) (xs ys space : List ℕ) (n size : ℕ) → n ≤ length space → length space ≡ size → xs ≡ take n space ++ ys
    → (n < length space → ys ≡ []) → ((s : List ℕ) → report_of (take size s) ≡ report_of s) → report_of (take n space) ≡ report_of xs
all-reported report_of xs ys space n size fits is e end enough = go (ltb n (length space)) refl
  where
    go : (t : Bool) → ltb n (length space) ≡ t → report_of (take n space) ≡ report_of xs
    go true l =
        ap report_of (sym (e ∙ ap (λ (k : List ℕ). take n space ++ k) (end (ltb-true n (length space) l)) ∙ append-nil (take n space)))
    go false l =
        let full : length (take n space) ≡ size = length-take-le n space fits ∙ omega (arith, ltb-false n (length space) l) in
        ap report_of (sym (ap (take size) e ∙ take_at (take n space) ys size full)) ∙ enough xs

pub whole : (report_of : List ℕ → List ℕ) (a b : Option (List ℕ)) (space page : List ℕ) (n put size : ℕ) → n ≤ length space → length space ≡ size
    → Consumes a b (take n space) → (n < length space → IsAtEnd b) → ((s : List ℕ) → report_of (take size s) ≡ report_of s)
    → Written put page (report_of (take n space)) → IfSome a (λ input. Written put page (report_of input))
whole report_of None b space page n put size fits is came end enough w = tt
whole report_of (Some xs) None space page n put size fits is came end enough w = absurd came
whole report_of (Some xs) (Some ys) space page n put size fits is came end enough w =
    (w.0, w.1 ∙ all-reported report_of xs ys space n size fits is came end enough)

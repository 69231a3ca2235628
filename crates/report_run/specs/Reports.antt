-- What reading an input and reporting it gives, where `report_of` says what is printed for an input. Definitions only.
use Rattle.std.specs.Prelude.{ℕ, ◌≤◌, List, ◌≡◌, length, take, Option, Result, IfOk, IfSome, MatchResult}
use Rattle.report_run.specs.declared.Report.{Report}

-- the first n bytes of page are t
abbrev pub Written : ℕ → List ℕ → List ℕ → Type 0
Written n page t = (n ≤ length page) × (take n page ≡ t)

-- page begins with the report of the bytes that space begins with, or it is as it was before
abbrev pub Reported : {E : Type 0} → (List ℕ → List ℕ) → Result Report E → List ℕ → List ℕ → List ℕ → Type 0
Reported report_of result space before page =
    MatchResult result (λ r. (r.read ≤ length space) × Written r.put page (report_of (take r.read space))) (λ _. page ≡ before)

-- page begins with the report of all the bytes that the reader had left, where they are known
abbrev pub ReportedWhole : {E : Type 0} → (List ℕ → List ℕ) → Result Report E → Option (List ℕ) → List ℕ → Type 0
ReportedWhole report_of result known page = IfOk result (λ r. IfSome known (λ input. Written r.put page (report_of input)))

-- The loop keeps what out holds once the rows that are left are stored, and their length.
use Rattle.std.proofs.Common.{◌≡◌, ◌+◌, ◌*◌, ◌≤◌, length, drop}
use Rattle.std.proofs.lemmas.List.Edits.{sets}
use Rattle.ten_rows.specs.TenRows as TenRows
use Rattle.outcomes.specs.Outcomes.{bits}
use Rattle.outcomes.proofs.put_rows.Given as goal

abbrev pub invariant-loop-k : goal.invariant-loop-k
invariant-loop-k l =
    (l.k ≤ 10) × (length l.out ≡ length l.fn.out)
    × (length (TenRows.values (drop l.k l.rows)) + l.k * 10 ≡ length (TenRows.values l.rows))
    × (sets l.out (32 + l.k * 80) (bits (TenRows.values (drop l.k l.rows))) ≡ sets l.fn.out 32 (bits (TenRows.values l.rows)))

-- The loop keeps what out holds once the lines that are left are stored.
use Rattle.std.proofs.Common.{◌≡◌, ◌*◌, drop}
use Rattle.std.proofs.lemmas.List.Edits.{sets}
use Rattle.report_text.specs.Lines.{lines}
use Rattle.report_text.proofs.lines.put_lines.Given as goal

abbrev pub invariant-loop-k : goal.invariant-loop-k
invariant-loop-k l = sets l.out (l.k * 20) (lines l.k (drop l.k l.fn.values)) ≡ sets l.fn.out 0 (lines 0 l.fn.values)

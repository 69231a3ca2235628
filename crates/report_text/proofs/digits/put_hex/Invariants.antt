-- The loop keeps what out holds once the digits that are left are stored.
use Rattle.std.proofs.Common.{◌≡◌}
use Rattle.std.proofs.lemmas.List.Edits.{sets}
use Rattle.report_text.specs.Digits.{hex_in}
use Rattle.report_text.proofs.digits.put_hex.Given as goal

abbrev pub invariant-loop-k : goal.invariant-loop-k
invariant-loop-k l = sets l.out l.at (hex_in l.case l.k l.rest) ≡ sets l.fn.out l.at (hex_in l.case 16 l.n)

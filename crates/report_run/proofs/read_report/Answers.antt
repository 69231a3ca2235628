use Rattle.std.proofs.Common.{rules}
use Rattle.report_run.proofs.Known.{whole}
use Rattle.report_run.proofs.read_report.Goals as goal

-- the input was read to its end, or as much of it as decides
pub returns-clause-whole : goal.returns-clause-whole
returns-clause-whole g c =
    whole
    _ _ _ _ _ _ _ _ c.in_ok-read.ensures.in_bounds (search rules) c.in_ok-read.ensures.bytes c.in_ok-read.ensures.end g.met.P.Program.enough c.report-put.ensures.text

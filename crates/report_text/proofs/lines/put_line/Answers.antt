-- Three runs of stores in a row.
use Rattle.report_text.proofs.LinesStored.{line_sets}
use Rattle.report_text.proofs.lines.put_line.Goals as goal

pub returns : goal.returns
returns c =
    rw (c.put_ending.ensures, c.put_hex.ensures, c.to_bits.ensures, c.put_place.ensures)
    (line_sets c.args.out.now c.args.at c.args.k c.args.x)

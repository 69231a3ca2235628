use Rattle.std.proofs.Common.{◌∙◌}
use Rattle.words.proofs.Bytes.{from_eight}
use Rattle.words.proofs.word.Goals as goal

pub returns : goal.returns
returns c = c.from_le_bytes.ensures ∙ from_eight c.args.s.now c.args.at

use Rattle.std.proofs.Common.{◌∙◌, refl, rules}
use Rattle.sqrt_pairs.proofs.Line.{pattern-stored}
use Rattle.sqrt_pairs.proofs.pattern_line.Goals as goal

-- sixteen digits after the name leave the last byte, the line's end
pub returns : goal.returns
returns c =
    c.put_hex.ensures
    ∙ rw c.copy_from_slice.ensures.after (pattern-stored c.args.name.now _ c.args.b (search rules) refl refl)

-- What the program `chain` prints: eleven lines, or the line of a refusal. Definitions only.
use Rattle.std.specs.Prelude.{ℕ, ◌+◌, ◌*◌, cond, List, eqb}
use Rattle.checks.specs.Checks.{quaternion_norm_tolerance}
use Rattle.sgal3.specs.Elements.{rep_size}
use Rattle.sgal3_calls.specs.Outcomes.{element}
use Rattle.sgal3_calls.specs.Composition.{Answer}
use Rattle.element_bytes.specs.Bytes.{element_size}
use Rattle.byte_chain.specs.Blocks as Blocks
use Rattle.report_text.specs.Lines.{lines, refusal}

-- of an answer's outcome: where the number is 0 a line for each value, and otherwise the line of the number
unfoldable pub text : Answer → List ℕ
text answer = let o = element answer in cond (eqb o.number 0) (lines 0 o.values) (refusal o.number)

-- the longest chain that the program reads: 744 blocks
abbrev pub most_bytes : ℕ
most_bytes = 744 * element_size

-- as much of an input as is read: one byte more is enough to refuse a longer one
abbrev pub space : ℕ
space = most_bytes + 1

-- a line for each value of an element
abbrev pub page : ℕ
page = rep_size * 20

-- what is printed for an input, at 1e-6
unfoldable pub report_of : List ℕ → List ℕ
report_of input = text (Blocks.chain most_bytes input quaternion_norm_tolerance)

-- The worked examples, by computation. Assumes nothing.
use mathlib.Core.Path.{◌≡◌, refl}
use mathlib.Core.List.{map}
use lib.Count.{count_trailing_zeros}
use lib.Ieee.{of_fields, of_bits, to_bits, add, sub, mul, div, lt, sum, round, size, span, climb, odd, units}
use Rattle.float.specs.Exact.{count, abs}
use Rattle.float.specs.Root.{isqrt, nearest_root, square_root}
use Rattle.law.specs.Vector as Vector
use Rattle.law.specs.Quaternion as Quaternion
use Rattle.law.specs.Rotation as Rotation
use Rattle.law.specs.Galilean as Galilean
use Rattle.checks.specs.Refusals as Refusals
use Rattle.checks.specs.Checks as Checks
use Rattle.checks.specs.Outcomes.{outcome}
use Rattle.manifold.specs.Answers as Answers
use Rattle.sgal3.specs.Elements as Elements
use Rattle.sgal3_calls.specs.Composition as Composition
use Rattle.sgal3_calls.specs.Outcomes as ElementOutcome
use Rattle.words.specs.Word as Word
use Rattle.element_bytes.specs.Bytes as Bytes
use Rattle.byte_chain.specs.Blocks as Blocks
use Rattle.report_text.specs.Digits as Digits
use Rattle.report_text.specs.Ascii.{ascii}
use Rattle.report_text.specs.Lines as Lines
use Rattle.report.specs.Text as Text
use Rattle.report.specs.Worked.{Worked, examples}

pub worked : map (λ (w : Worked). Text.report_of w.input) examples ≡ map (λ (w : Worked). ascii w.said) examples
unfolding examples Text.report_of Text.text ElementOutcome.element outcome Lines.lines Lines.line Digits.place Digits.tens Digits.hex Digits.digit Lines.refusal Digits.decimal Blocks.chain Blocks.chain_blocks Bytes.values_at Word.value_at Word.word_at Word.bytes_of Word.word_bytes Composition.chain_blocks Composition.starts Composition.chain_from Composition.compose_answers Checks.both Composition.check_element Composition.element_answer Elements.identity Elements.compose Elements.coeffs Elements.element_of Answers.vector_at Answers.quaternion_at Checks.quaternion_norm_tolerance Checks.permitted Checks.check_tolerance Checks.all_finite Checks.norm_of Checks.check_norm Checks.check_unit_quaternion Checks.check_param_block Checks.check_values Checks.check_length Checks.check_chain_length Refusals.number Refusals.figures Refusals.tried Refusals.place Refusals.earlier Galilean.identity Galilean.compose Galilean.compose_at Galilean.rotation_impl Rotation.unit_quaternion Quaternion.identity Quaternion.mul Quaternion.normalize Quaternion.divide Quaternion.norm Quaternion.norm_squared Quaternion.rotate Quaternion.vector Vector.zero Vector.add Vector.scale Vector.cross add sub mul div lt abs square_root nearest_root count isqrt sum round size span climb odd units count_trailing_zeros of_fields of_bits to_bits
worked = refl

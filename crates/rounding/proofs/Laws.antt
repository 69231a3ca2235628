-- The laws of rounding that other crates cite, by subject. x and y are numbers (finite binary64), counts are of 2 ^ -1074, and `one` is how many of them 1 is.

-- an integer as a difference of two whole numbers, their distance, and the triangle inequality
pub use Rattle.rounding.proofs.Integers.{dist, above, below, difference-self, difference-add, difference-less, difference-abs, abs-add, abs_neg}
-- a number: its exact value, its magnitude's count, and its parts above and below zero
pub use Rattle.rounding.proofs.Counts.{exact-size, exact_above, exact_below, parts-sum, plus-parts, minus-parts, one-part}
-- negation is exact
pub use Rattle.rounding.proofs.Counts.{neg-number, neg-count, neg-sign, neg-parts}
pub use Rattle.rounding.proofs.Operations.{neg-exact}
-- and so is the magnitude
pub use Rattle.rounding.proofs.Counts.{magnitude-number, magnitude-sign, magnitude-count}
-- +0
pub use Rattle.rounding.proofs.Counts.{zero64, zero-number, zero-sign, zero-count}
-- each operation is one rounding of its operands' counts; the root is one by its definition
pub use Rattle.rounding.proofs.Counts.{add_is, mul_is, div_is}
pub use Rattle.rounding.proofs.Operations.{sub_is}
-- a result is a number where the exact one is within the limit; a sum is one only of numbers
pub use Rattle.rounding.proofs.Operations.{one-pos, one-large, one-limit, add-number, sub_number, mul-number, div-number, add-operands}
-- |rounded - exact| ≤ |exact| / 2 ^ 53, and half a count more for a product or a quotient; for a sum and a difference also at most either operand's magnitude
pub use Rattle.rounding.proofs.Sum.{add-error}
pub use Rattle.rounding.proofs.Operations.{sub-error, mul-error, mul-error-exact, div-error}
-- the same with the parts of each number, and the signs
pub use Rattle.rounding.proofs.Operations.{add_parts, sub_parts, mul-parts, add-sign, mul-sign, div-sign, add-error-plus, add-size}
-- the root of a number above zero: a number, not negative, its error, and that no other number is as near
pub use Rattle.rounding.proofs.SquareRoot.{Rooted, sqrt-root, sqrt-fits, root-squared, root-pos}
-- and the root of a zero
pub use Rattle.rounding.proofs.SquareRoot.{root-zero}
-- the order of numbers is that of their counts
pub use Rattle.rounding.proofs.Order.{lt-is, le_is, eq_is, lt-plain, le-plain}
-- squares, and sums of such: neither a NaN nor with a minus sign, and no larger for operands that are no larger
pub use Rattle.rounding.proofs.Squares.{Unsigned, square-unsigned, add-unsigned, unlike-self, NotAbove, not-above, squares-keep, sums-keep, root-within-limit}

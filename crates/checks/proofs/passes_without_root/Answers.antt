-- An f64 is a binary64, and the constants pass the tests of `Bounds`.
use Rattle.std.proofs.Common.{sym, subst}
use lib.Dec.{T}
use lib.Ieee.{of_bits, fits}
use Rattle.float.specs.Exact.{count, negative}
use Rattle.rounding.specs.Number.{one}
use Rattle.checks.proofs.NearOne.{passes-without-root}
use Rattle.checks.proofs.passes_without_root.Goals as goal

pub returns : goal.returns
unfolding of_bits fits count negative one
returns c e =
    passes-without-root _ _ c.args.squared c.args.tolerance (subst T (sym c.well_formed.0.1) tt) (subst T (sym c.well_formed.1.0.1) tt) e
    (record { low = tt; high = tt; least = tt; most = tt })

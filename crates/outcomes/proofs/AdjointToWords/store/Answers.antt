-- Each block after those before it.
use Rattle.std.proofs.Common.{refl, ap, ◌∙◌, ◌++◌}
use lib.Seq.{sets}
use Rattle.linear.specs.Records.{vector_values, matrix_values}
use Rattle.ten_rows.specs.Adjoints as Adjoints
use Rattle.outcomes.specs.Outcomes.{bits}
use Rattle.outcomes.proofs.Stores.{more-values}
use Rattle.outcomes.proofs.AdjointToWords.store.Goals as goal

pub returns-clause-count : goal.returns-clause-count
returns-clause-count c = unfold Adjoints.values in refl

pub returns-clause-stored : goal.returns-clause-stored
unfolding Adjoints.values
returns-clause-stored c =
    let l = c.args.out.now in
    let r = matrix_values c.args.self.now.rotation in
    let b = matrix_values c.args.self.now.rho_nu in
    let p = matrix_values c.args.self.now.rho_theta in
    let n = matrix_values c.args.self.now.nu_theta in
    let v = vector_values c.args.self.now.rho_s in
    rw (c.put_values.ensures, c.vector_values.ensures, c.put_matrix-4.ensures, c.put_matrix-3.ensures, c.put_matrix-2.ensures, c.put_matrix.ensures)
    (ap (λ t. sets (sets (sets t 176 (bits p)) 248 (bits n)) 320 (bits v)) (more-values l 32 104 r b refl)
    ∙ ap (λ t. sets (sets t 248 (bits n)) 320 (bits v)) (more-values l 32 176 (r ++ b) p refl)
    ∙ ap (λ t. sets t 320 (bits v)) (more-values l 32 248 (r ++ b ++ p) n refl)
    ∙ more-values l 32 320 (r ++ b ++ p ++ n) v refl)

-- The adjoint of a Galilean element by its blocks: 39 numbers, and the hundred places of the whole matrix. Definitions only.
use Rattle.std.specs.Prelude.{List, ◌++◌, Float}
use Rattle.law.specs.Rounded.{rounded}
use Rattle.law.specs.Galilean as Law
use Rattle.linear.specs.Records.{vector, vec3, matrix, mat3, vector_values, matrix_values}
use Rattle.ten_rows.specs.declared.Adjoint.{Adjoint}

-- the code's record and the formulas', field by field
abbrev pub adjoint : Adjoint → Law.Adjoint Float
adjoint d = record { rotation = matrix d.rotation; rho_nu = matrix d.rho_nu; rho_theta = matrix d.rho_theta; nu_theta = matrix d.nu_theta; rho_s = vector d.rho_s }

abbrev pub of_adjoint : Law.Adjoint Float → Adjoint
of_adjoint d = record { rotation = mat3 d.rotation; rho_nu = mat3 d.rho_nu; rho_theta = mat3 d.rho_theta; nu_theta = mat3 d.nu_theta; rho_s = vec3 d.rho_s }

-- the ten rows
unfoldable pub opened : Adjoint → List (List Float)
opened d = Law.opened rounded (adjoint d)

-- the 39 numbers, block after block, each by row
unfoldable pub values : Adjoint → List Float
values d = matrix_values d.rotation ++ matrix_values d.rho_nu ++ matrix_values d.rho_theta ++ matrix_values d.nu_theta ++ vector_values d.rho_s

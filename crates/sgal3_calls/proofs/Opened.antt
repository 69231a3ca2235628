-- Of SGal(3): a call that answers with an adjoint's ten rows answers with the 39 numbers that the short call does, opened, and is refused exactly where
-- that is, with the same refusal. Assumes nothing.
use mathlib.Core.Path.{◌≡◌}
use mathlib.Core.List.{List}
use lib.Ieee.{Float}
use Rattle.std.specs.Prelude.{Ok}
use Rattle.checks.specs.Checks.{and_then}
use Rattle.manifold_calls.specs.Calls as Calls
use Rattle.manifold_calls.proofs.Opened as Generic
use Rattle.ten_rows.specs.Adjoints.{opened, values}
use Rattle.ten_rows.specs.TenRows as TenRows
use Rattle.ten_rows.proofs.Opened.{opened-finite}
use Rattle.sgal3.specs.Group.{group, tangents}

pub adjoint-opened : (block : List Float) (tolerance : Float)
    → Calls.adjoint group TenRows.values opened block tolerance
    ≡ and_then (Calls.short_adjoint group values block tolerance) (λ d. Ok (opened d))
adjoint-opened = Generic.adjoint-opened TenRows.values values opened opened-finite group

pub compose_jacobian_self-opened : (left right : List Float) (tolerance : Float)
    → Calls.compose_jacobian_self group TenRows.values opened left right tolerance
    ≡ and_then (Calls.short_compose_jacobian_self group values left right tolerance) (λ d. Ok (opened d))
compose_jacobian_self-opened = Generic.compose_jacobian_self-opened TenRows.values values opened opened-finite group

pub right_plus_jacobian_self-opened : (block s : List Float) (tolerance : Float)
    → Calls.right_plus_jacobian_self group tangents TenRows.values opened block s tolerance
    ≡ and_then (Calls.short_right_plus_jacobian_self group tangents values block s tolerance) (λ d. Ok (opened d))
right_plus_jacobian_self-opened = Generic.right_plus_jacobian_self-opened TenRows.values values opened opened-finite group tangents

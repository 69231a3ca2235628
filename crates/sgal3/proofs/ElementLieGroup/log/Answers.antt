use mathlib.Core.Path.{◌∙◌, sym, ap}
use Rattle.so3.specs.Elements as So3Elements
use Rattle.so3.specs.Tangents as So3Tangents
use Rattle.sgal3.proofs.Branches.{log-above-limit, log-up-to-limit}
use Rattle.sgal3.proofs.ElementLieGroup.log.Goals as goal

pub returns-then-leaves_series : goal.returns-then-leaves_series
returns-then-leaves_series c =
    let turn = c.log-turn.ensures ∙ ap So3Elements.log c.rotation_impl.ensures in
    rw (
      log-above-limit c.args.self (ap So3Tangents.leaves_series (sym turn) ∙ sym c.leaves_series.ensures ∙ c.if-leaves_series.true),
      c.log_by.ensures,
      c.s_nu_coupling_closed.ensures,
      c.left_jacobian_inv_closed-v_inv.ensures,
      c.of_square-w.ensures,
      c.theta_squared.ensures,
      c.log-turn.ensures,
      c.rotation_impl.ensures,
    )

pub returns-else-leaves_series : goal.returns-else-leaves_series
returns-else-leaves_series c =
    let turn = c.log-turn.ensures ∙ ap So3Elements.log c.rotation_impl.ensures in
    rw (
      log-up-to-limit c.args.self (ap So3Tangents.leaves_series (sym turn) ∙ sym c.leaves_series.ensures ∙ c.if-leaves_series.false),
      c.log_by-else-leaves_series.ensures,
      c.s_nu_coupling_series.ensures,
      c.left_jacobian_inv_series-v_inv.ensures,
      c.log-turn.ensures,
      c.rotation_impl.ensures,
    )

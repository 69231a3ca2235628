use mathlib.Core.Path.{◌∙◌, sym, ap}
use Rattle.so3.specs.Tangents as So3Tangents
use Rattle.sgal3.proofs.Branches.{exp-above-limit, exp-up-to-limit}
use Rattle.sgal3.proofs.TangentTangent.exp.Goals as goal

pub returns-then-leaves_series : goal.returns-then-leaves_series
returns-then-leaves_series c = rw (
  exp-above-limit c.args.self (ap So3Tangents.leaves_series (sym c.turn-turn.ensures) ∙ sym c.leaves_series.ensures ∙ c.if-leaves_series.true),
  c.exp_by.ensures,
  c.s_nu_coupling_closed.ensures,
  c.exp_closed.ensures,
  c.left_jacobian_closed-v_matrix.ensures,
  c.of_square-w.ensures,
  c.theta_squared.ensures,
  c.turn-turn.ensures,
)

pub returns-else-leaves_series : goal.returns-else-leaves_series
returns-else-leaves_series c = rw (
  exp-up-to-limit c.args.self (ap So3Tangents.leaves_series (sym c.turn-turn.ensures) ∙ sym c.leaves_series.ensures ∙ c.if-leaves_series.false),
  c.exp_by-else-leaves_series.ensures,
  c.s_nu_coupling_series.ensures,
  c.exp_series.ensures,
  c.left_jacobian_series-v_matrix.ensures,
  c.turn-turn.ensures,
)

use mathlib.Core.Path.{refl}
use Rattle.sgal3.specs.Elements as Elements
use Rattle.sgal3.specs.Events as Events
use Rattle.linear.specs.Quaternions as Quaternions
use Rattle.linear.specs.Vectors as Vectors
use Rattle.law.specs.Galilean as Law
use Rattle.sgal3.proofs.Element.act_event.Goals as goal

pub returns : goal.returns
returns c = rw (
  c.add-point.ensures,
  c.add.ensures,
  c.scale.ensures,
  c.rotate.ensures,
  c.rotation_quaternion.ensures,
) (unfold Events.act_event Elements.rotation_quaternion Quaternions.rotate Vectors.add Vectors.scale Law.act_event Law.act_event_at in refl)

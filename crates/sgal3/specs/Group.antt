-- SGal(3) as a group with its tangents. Definitions only.
use Rattle.std.specs.Prelude.{Bool, List, Float}
use Rattle.manifold.specs.Group as Manifold
use Rattle.ten_rows.specs.declared.Adjoint.{Adjoint}
use Rattle.so3.specs.Tangents as So3Tangents
use Rattle.sgal3.specs.Elements as Elements
use Rattle.sgal3.specs.Tangents as Tangents
use Rattle.sgal3.specs.Matrices as Matrices
use Rattle.sgal3.specs.Algebra as Algebra
use Rattle.sgal3.specs.declared.Element.{Element}
use Rattle.sgal3.specs.declared.Tangent.{Tangent}

-- the squared theta is tested
unfoldable pub turn_too_large : Tangent → Bool
turn_too_large t = So3Tangents.turn_too_large (Tangents.turn t)

abbrev pub group : Manifold.Group Element Tangent (List (List Float)) (List Float) Adjoint
group =
    record {
      rep_size = Elements.rep_size;
      quaternion_place = 3;
      element_of = Elements.element_of;
      identity = Elements.identity;
      compose = Elements.compose;
      inverse = Elements.inverse;
      log = Elements.log;
      act = Elements.act;
      rotation_matrix = Elements.rotation_matrix;
      normalize = Elements.normalize;
      is_valid = Elements.is_valid;
      jacobian_identity = Matrices.jacobian_identity;
      adjoint = Matrices.adjoint;
      inverse_jacobian = Matrices.inverse_jacobian;
      compose_jacobian_self = Matrices.compose_jacobian_self;
      act_jacobian_self = Matrices.act_jacobian_self;
    }

abbrev pub tangents : Manifold.Tangents Element Tangent (List (List Float)) (List Float)
tangents =
    record {
      dim = Tangents.dof;
      tangent_of = Tangents.tangent_of;
      zero = Tangents.zero;
      exp = Tangents.exp;
      turn_too_large = turn_too_large;
      hat = Algebra.hat;
      generator = Algebra.generator;
      small_adj = Algebra.small_adj;
      lie_bracket = Algebra.lie_bracket;
      normalize = Tangents.normalize;
      normalized = Tangents.normalized;
    }

-- SO(3) as a group with its tangents. Definitions only.
use Rattle.manifold.specs.Group as Manifold
use Rattle.linear.specs.Matrices as Matrices
use Rattle.linear.specs.declared.Mat3.{Mat3}
use Rattle.so3.specs.Elements as Elements
use Rattle.so3.specs.Tangents as Tangents
use Rattle.so3.specs.declared.Element.{Element}
use Rattle.so3.specs.declared.Tangent.{Tangent}

abbrev pub group : Manifold.Group Element Tangent Mat3 Mat3 Mat3
group =
    record {
      rep_size = Elements.rep_size;
      quaternion_place = 0;
      element_of = Elements.element_of;
      identity = Elements.identity;
      compose = Elements.compose;
      inverse = Elements.inverse;
      log = Elements.log;
      act = Elements.act;
      rotation_matrix = Elements.rotation_matrix;
      normalize = Elements.normalize;
      is_valid = Elements.is_valid;
      jacobian_identity = Matrices.identity;
      adjoint = Elements.adjoint;
      inverse_jacobian = Elements.inverse_jacobian;
      compose_jacobian_self = Elements.compose_jacobian_self;
      act_jacobian_self = Elements.act_jacobian_self;
    }

abbrev pub tangents : Manifold.Tangents Element Tangent Mat3 Mat3
tangents =
    record {
      dim = Tangents.dof;
      tangent_of = Tangents.tangent_of;
      zero = Tangents.zero;
      exp = Tangents.exp;
      turn_too_large = Tangents.turn_too_large;
      hat = Tangents.hat;
      generator = Tangents.generator;
      small_adj = Tangents.small_adj;
      lie_bracket = Tangents.lie_bracket;
      normalize = Tangents.normalize;
      normalized = Tangents.normalized;
    }

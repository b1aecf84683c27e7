-- What code holds: arrays of nodes, and tables of what is too large for a node.
use Rattle.std.specs.Prelude.{◌≡◌, ℕ, ◌+◌, ◌*◌, ◌-◌, ◌/◌, ◌%◌, List, [], Bool, Option, None, Some, slice_get, if◌then◌else◌, nat_eq, nat_lt}
use Rattle.cxx_type.specs.declared.basic.BasicType.{BasicType}
use Rattle.cxx_type.specs.declared.basic.BasicType.TheVariants as basic
use Rattle.cxx_type.specs.declared.whole.CxxType.{CxxType}
use Rattle.core_pointer.specs.declared.origin.Literal.{Literal}
use Rattle.core_pointer.specs.declared.path.PathStep.{PathStep}
use Rattle.core_shape.specs.declared.shape.Shape.{Shape, roll-Shape}
use Rattle.core_value.specs.declared.value.Value.{Value}
use Rattle.typed_code.specs.declared.expr.ExprNode.{ExprNode}
use Rattle.typed_code.specs.declared.stmt.StmtNode.{StmtNode}
use Rattle.typed_code.specs.declared.basics.TheConstants.{BASIC_TYPES, BASICS}

pub record Arrays : Type 0 where
  pub exprs : List ExprNode
  pub stmts : List StmtNode
  -- entries of lists: numbers of nodes, of parts and of shapes
  pub lists : List ℕ
  pub steps : List PathStep
  pub types : List CxxType
  pub shapes : List Shape
  pub texts : List Literal
  pub values : List Value

abbrev pub no_arrays : Arrays
no_arrays = record { exprs = []; stmts = []; lists = []; steps = []; types = []; shapes = []; texts = []; values = [] }

-- a type without a layer
abbrev pub plain : Bool → Option BasicType → Option CxxType
plain is_const None = None
plain is_const (Some basic) = Some (record { basic = basic; is_const = is_const; layers = [] })

-- the type of a number
abbrev pub type_at : Arrays → ℕ → Option CxxType
type_at a n = if nat_lt n BASIC_TYPES then plain (nat_eq (n % 2) 1) (slice_get BASICS (n / 2)) else slice_get a.types (n - BASIC_TYPES)

-- how many scalars an object of such a type has
abbrev pub scalars_of : BasicType → ℕ
scalars_of basic.MemberOffset = 2
scalars_of _ = 1

abbrev pub scalar_shape : Bool → Option BasicType → Option Shape
scalar_shape is_const None = None
scalar_shape is_const (Some b) = Some (roll-Shape (record { of = record { basic = b; is_const = is_const; layers = [] }; class = None; scalars = scalars_of b; leaves = scalars_of b }))

-- the shape of a number
abbrev pub shape_at : Arrays → ℕ → Option Shape
shape_at a n = if nat_lt n BASIC_TYPES then scalar_shape (nat_eq (n % 2) 1) (slice_get BASICS (n / 2)) else slice_get a.shapes (n - BASIC_TYPES)

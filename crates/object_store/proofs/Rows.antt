-- The definitions of objects, computed.
use Rattle.std.proofs.Common.{ap}
use Rattle.std.specs.Prelude.{◌≡◌, refl, ℕ, Bool, true, false, [], ◌∷◌, None, Some, Ok, ℤ, pos, negsuc}
use Rattle.cxx_base.specs.declared.code.Code.TheVariants.{V2, V3, V4, V5, V6, V7, V11}
use Rattle.cxx_base.specs.declared.operator.CompareOp.TheVariants.{Lt, Eq, Ne}
use Rattle.cxx_base.specs.declared.operator.IntKind.TheVariants as kind
use Rattle.cxx_type.specs.declared.basic.BasicType.TheVariants as basic
use Rattle.cxx_type.specs.declared.runs.Layer.TheVariants as layer
use Rattle.core_pointer.specs.declared.origin.Origin.TheVariants as origin
use Rattle.core_pointer.specs.declared.path.PathStep.{PathStep}
use Rattle.core_pointer.specs.declared.path.PathStep.TheVariants.{Base, Member, Element}
use Rattle.core_pointer.specs.declared.pointer.Pointer.{Pointer}
use Rattle.core_shape.specs.declared.class.Base.{Base as DirectBase}
use Rattle.core_shape.specs.declared.class.Class.{Class}
use Rattle.core_shape.specs.declared.class.Member.{Member as DataMember}
use Rattle.core_shape.specs.declared.shape.Shape.{Shape, Shape-F, out-roll-Shape, roll-Shape}
use Rattle.core_value.specs.declared.scalar.Scalar.{Scalar}
use Rattle.core_value.specs.declared.scalar.Scalar.TheVariants as scalar
use Rattle.core_value.specs.declared.value.Value.{Value}
use Rattle.core_value.specs.declared.value.Value.TheVariants as value
use Rattle.object_store.specs.Trees.{State, NotBegun, Unset, Has, Ended, Marks, Tree, Leaf, Array, end_tree, more_tree}
use Rattle.object_store.specs.Objects.{Form, Object, form, form_under}
use Rattle.object_store.specs.Access.{refused, read_at, written, ended_at, sealed_at, begun_at}
use Rattle.object_store.specs.Pointers.{compared, move_in_array, moved}

abbrev pub Fields : Type 0
Fields = Shape-F DirectBase Class DataMember Shape

-- int[n]
abbrev pub ints_fields : ℕ → Fields
ints_fields n = record { of = record { basic = basic.Int kind.Int; is_const = false; layers = layer.Array n ∷ [] }; class = None; scalars = n; leaves = n }

abbrev pub ints : ℕ → Shape
ints n = roll-Shape (ints_fields n)

abbrev pub int : Shape
int = roll-Shape (record { of = record { basic = basic.Int kind.Int; is_const = false; layers = [] }; class = None; scalars = 1; leaves = 1 })

abbrev pub unsealed : Bool → Marks
unsealed is_const = record { is_const = is_const; is_sealed = false }

abbrev pub closed : Bool → Marks
closed is_const = record { is_const = is_const; is_sealed = true }

abbrev pub one : Scalar
one = scalar.Number (pos 1)

abbrev pub local : ℕ → Shape → Tree → Object
local n s t = record { origin = origin.Local n; shape = s; tree = t }

-- int a[2] of which the first element has the value 1
abbrev pub pair : Object
pair = local 0 (ints 2) (Array (unsealed false) (more_tree (Leaf (unsealed false) true (Has one)) (more_tree (Leaf (unsealed false) true Unset) end_tree)))

abbrev pub element : ℕ → Bool → Pointer
element i past = record { origin = origin.Local 0; path = Element i ∷ []; past = past }

abbrev pub whole : ℕ → Bool → Pointer
whole n past = record { origin = origin.Local n; path = []; past = past }

abbrev pub null : Pointer
null = record { origin = origin.Null; path = []; past = false }

-- Reads

reads_the_first : read_at (pair ∷ []) (element 0 false) ≡ Ok (value.Scalar one)
reads_the_first = refl

reads_without_value : read_at (pair ∷ []) (element 1 false) ≡ refused V5
reads_without_value = refl

reads_past_the_end : read_at (pair ∷ []) (element 1 true) ≡ refused V2
reads_past_the_end = refl

reads_outside : read_at (pair ∷ []) (element 2 false) ≡ refused V2
reads_outside = refl

reads_null : read_at (pair ∷ []) null ≡ refused V3
reads_null = refl

reads_a_foreign_one : read_at (pair ∷ []) (record { origin = origin.Foreign 0; path = []; past = false }) ≡ refused V7
reads_a_foreign_one = refl

-- Const

abbrev pub constant : Marks → State → Object
constant m x = local 0 int (Leaf m true x)

writes_before_it_is_sealed : written (constant (unsealed true) Unset ∷ []) (whole 0 false) (value.Scalar one) ≡ Ok (constant (unsealed true) (Has one) ∷ [])
writes_before_it_is_sealed = refl

writes_after_it_is_sealed : written (constant (closed true) (Has one) ∷ []) (whole 0 false) (value.Scalar one) ≡ refused V6
writes_after_it_is_sealed = refl

seals : sealed_at (constant (unsealed true) (Has one) ∷ []) (whole 0 false) ≡ constant (closed true) (Has one) ∷ []
seals = refl

-- a const part of an object that is not const
abbrev const_part : Object
const_part = local 0 (ints 1) (Array (closed false) (more_tree (Leaf (closed true) true (Has one)) end_tree))

writes_a_const_part : written (const_part ∷ []) (element 0 false) (value.Scalar one) ≡ refused V6
writes_a_const_part = refl

-- Lifetimes

ends : ended_at (constant (unsealed false) (Has one) ∷ []) (whole 0 false) ≡ Ok (constant (unsealed false) Ended ∷ [])
ends = refl

an_ended_one_stays_ended : written (constant (unsealed false) Ended ∷ []) (whole 0 false) (value.Scalar one) ≡ refused V4
an_ended_one_stays_ended = refl

ends_once : ended_at (constant (unsealed false) Ended ∷ []) (whole 0 false) ≡ refused V4
ends_once = refl

has_to_begin : read_at (constant (unsealed false) NotBegun ∷ []) (whole 0 false) ≡ refused V4
has_to_begin = refl

begins : begun_at (constant (unsealed false) NotBegun ∷ []) (whole 0 false) ≡ constant (unsealed false) Unset ∷ []
begins = refl

an_ended_one_does_not_begin_again : begun_at (constant (unsealed false) Ended ∷ []) (whole 0 false) ≡ constant (unsealed false) Ended ∷ []
an_ended_one_does_not_begin_again = refl

-- What is no scalar

abbrev pub no_scalar : Value
no_scalar = value.Object (record { shape = ints 2; scalars = one ∷ one ∷ [] })

writes_no_whole : written (pair ∷ []) (whole 0 false) no_scalar ≡ refused V2
writes_no_whole = refl

writes_no_whole_anywhere : written [] (whole 0 false) no_scalar ≡ refused V2
writes_no_whole_anywhere = refl

writes_no_scalar_to_another_evaluation : written [] (whole 0 false) (value.Scalar one) ≡ refused V7
writes_no_scalar_to_another_evaluation = refl

-- Moves

-- What an array is made of, and what comes of a move from an element of the array that an object is.

abbrev pub form_by : Shape → Fields → Form
form_by shape fields = form_under shape fields.of.layers

pub form_of : (n : ℕ) → form (ints n) ≡ form_by (ints n) (ints_fields n)
form_of n = ap (form_by (ints n)) (out-roll-Shape (ints_fields n))

moves : (p : Pointer) (by : ℤ) (i n : ℕ) → move_in_array p by [] i (Some (form (ints n))) ≡ move_in_array p by [] i (Some (form_by (ints n) (ints_fields n)))
moves p by i n = ap (λ f. move_in_array p by [] i (Some f)) (form_of n)

-- what `new int[0]` allocates
abbrev nothing : Object
nothing = record { origin = origin.Allocation 0; shape = ints 0; tree = Leaf (unsealed false) false Unset }

abbrev to_nothing : Pointer
to_nothing = record { origin = origin.Allocation 0; path = Element 0 ∷ []; past = false }

moves_by_zero_in_nothing : moved (nothing ∷ []) to_nothing (pos 0) ≡ Ok to_nothing
moves_by_zero_in_nothing = moves to_nothing (pos 0) 0 0

moves_by_one_in_nothing : moved (nothing ∷ []) to_nothing (pos 1) ≡ refused V2
moves_by_one_in_nothing = moves to_nothing (pos 1) 0 0

moves_to_the_end : moved (pair ∷ []) (element 0 false) (pos 2) ≡ Ok (element 1 true)
moves_to_the_end = moves (element 0 false) (pos 2) 0 2

moves_back : moved (pair ∷ []) (element 1 true) (negsuc 1) ≡ Ok (element 0 false)
moves_back = moves (element 1 true) (negsuc 1) 1 2

moves_too_far : moved (pair ∷ []) (element 0 false) (pos 3) ≡ refused V2
moves_too_far = moves (element 0 false) (pos 3) 0 2

moves_past_one : moved (constant (unsealed false) Unset ∷ []) (whole 0 false) (pos 1) ≡ Ok (whole 0 true)
moves_past_one = refl

moves_null : moved [] null (pos 1) ≡ refused V3
moves_null = refl

-- Comparisons, by each of the rules

equal_ones : compared Eq (element 0 false) (element 0 false) ≡ Ok true
equal_ones = refl

within_one_array : compared Lt (element 0 false) (element 1 false) ≡ Ok true
within_one_array = refl

the_end_is_behind : compared Lt (element 1 false) (element 1 true) ≡ Ok true
the_end_is_behind = refl

null_differs : compared Ne null (element 0 false) ≡ Ok true
null_differs = refl

two_objects_differ : compared Eq (whole 0 false) (whole 1 false) ≡ Ok false
two_objects_differ = refl

past_an_end_is_not_compared : compared Eq (whole 0 true) (whole 1 false) ≡ refused V11
past_an_end_is_not_compared = refl

two_objects_have_no_order : compared Lt (whole 0 false) (whole 1 false) ≡ refused V11
two_objects_have_no_order = refl

abbrev pub part_of : PathStep → Pointer
part_of step = record { origin = origin.Local 0; path = step ∷ []; past = false }

members_have_an_order : compared Lt (part_of (Member 0)) (part_of (Member 1)) ≡ Ok true
members_have_an_order = refl

a_base_and_a_member_have_none : compared Lt (part_of (Base 0)) (part_of (Member 0)) ≡ refused V11
a_base_and_a_member_have_none = refl

two_members_differ : compared Eq (part_of (Member 0)) (part_of (Member 1)) ≡ Ok false
two_members_differ = refl

abbrev in_literal : ℕ → Pointer
in_literal n = record { origin = origin.Literal (record { number = n; bytes = 97 ∷ [] }); path = Element 0 ∷ []; past = false }

two_literals_are_not_compared : compared Eq (in_literal 0) (in_literal 1) ≡ refused V11
two_literals_are_not_compared = refl

one_literal_is_one_object : compared Eq (in_literal 0) (in_literal 0) ≡ Ok true
one_literal_is_one_object = refl

-- String literals

reads_a_byte : read_at [] (in_literal 0) ≡ Ok (value.Scalar (scalar.Number (pos 97)))
reads_a_byte = refl

writes_no_byte : written [] (in_literal 0) (value.Scalar one) ≡ refused V7
writes_no_byte = refl

-- Static variables

abbrev pub static : Object
static = record { origin = origin.Static (record { 0 = 7 }); shape = int; tree = Leaf (closed true) true (Has one) }

abbrev pub to_static : Pointer
to_static = record { origin = origin.Static (record { 0 = 7 }); path = []; past = false }

reads_a_static : read_at (static ∷ []) to_static ≡ Ok (value.Scalar one)
reads_a_static = refl

writes_no_static : written (static ∷ []) to_static (value.Scalar one) ≡ refused V7
writes_no_static = refl

-- one that is not constexpr is there for its shape alone
abbrev pub hidden : Object
hidden = record static { tree = Leaf (unsealed false) true NotBegun }

reads_no_hidden_static : read_at (hidden ∷ []) to_static ≡ refused V7
reads_no_hidden_static = refl

-- the one that the piece at hand makes
abbrev pub own : State → Object
own x = record static { tree = Leaf (unsealed true) true x }

reads_no_own_static_before_it_begins : read_at (own NotBegun ∷ []) to_static ≡ refused V4
reads_no_own_static_before_it_begins = refl

writes_its_own_static : written (own Unset ∷ []) to_static (value.Scalar one) ≡ Ok (own (Has one) ∷ [])
writes_its_own_static = refl

-- Objects with parts, computed: how they are made, brought in, read and ended.
use denote.Hole.Carrier.{out, roll}
use Rattle.std.proofs.Common.{ap, ◌∙◌, arith}
use Rattle.std.specs.Prelude.{◌≡◌, ◌<◌, refl, ℕ, Bool, true, false, List, [], ◌∷◌, map, None, Some, Ok, pos}
use Rattle.cxx_base.specs.declared.code.Code.TheVariants.{V4, V5, V6, V7}
use Rattle.cxx_base.specs.declared.operator.IntKind.TheVariants as kind
use Rattle.cxx_type.specs.declared.basic.BasicType.TheVariants as basic
use Rattle.cxx_type.specs.declared.runs.Layer.TheVariants as layer
use Rattle.core_words.specs.declared.access.AccessLevel.TheVariants.{Public}
use Rattle.core_pointer.specs.declared.origin.Origin.TheVariants as origin
use Rattle.core_pointer.specs.declared.path.PathStep.TheVariants.{Member, Element}
use Rattle.core_pointer.specs.declared.pointer.Pointer.{Pointer}
use Rattle.core_shape.specs.declared.class.Base.{Base as DirectBase}
use Rattle.core_shape.specs.declared.class.Class.{Class as CompleteClass, Class-F, out-roll-Class, roll-Class}
use Rattle.core_shape.specs.declared.class.CompletedBy.TheVariants as completed
use Rattle.core_shape.specs.declared.class.Member.{Member as DataMember, Member-F, out-roll-Member, roll-Member}
use Rattle.core_shape.specs.declared.shape.Shape.{Shape, out-Shape, out-roll-Shape, roll-Shape}
use Rattle.core_value.specs.declared.scalar.Scalar.{Scalar}
use Rattle.core_value.specs.declared.scalar.Scalar.TheVariants as scalar
use Rattle.core_value.specs.declared.value.Value.TheVariants as value
use Rattle.object_store.specs.Trees.{State, NotBegun, Unset, Has, Ended, Tree, Leaf, Class, Array, end_tree, more_tree, sealed}
use Rattle.object_store.specs.Objects.{IsClass, Object, IsFresh, form, form_under, class_form, base_shape, member_shape, element_shape}
use Rattle.object_store.specs.Access.{refused, read_at, written, ended_at, sealed_at, begun_at}
use Rattle.object_store.specs.Pointers.{move_in_array, moved}
use Rattle.object_store.specs.Answers.{Created, Brought, brought}
use Rattle.object_store.proofs.Rows.{Fields, ints, int, unsealed, closed, one, local, whole, element, part_of, to_static, form_of}

abbrev ClassFields : Type 0
ClassFields = Class-F DirectBase CompleteClass DataMember Shape

abbrev MemberFields : Type 0
MemberFields = Member-F DirectBase CompleteClass DataMember Shape

-- A leaf without scalars: `struct E {}`

abbrev empty : State → Object
empty x = local 0 int (Leaf (unsealed false) false x)

an_empty_one_begins : begun_at (empty NotBegun ∷ []) (whole 0 false) ≡ empty Unset ∷ []
an_empty_one_begins = refl

an_empty_one_is_read : read_at (empty Unset ∷ []) (whole 0 false) ≡ Ok (value.Object (record { shape = int; scalars = [] }))
an_empty_one_is_read = refl

an_empty_one_has_to_begin : read_at (empty NotBegun ∷ []) (whole 0 false) ≡ refused V4
an_empty_one_has_to_begin = refl

an_empty_one_ends : ended_at (empty Unset ∷ []) (whole 0 false) ≡ Ok (empty Ended ∷ [])
an_empty_one_ends = refl

an_ended_empty_one_is_not_read : read_at (empty Ended ∷ []) (whole 0 false) ≡ refused V4
an_ended_empty_one_is_not_read = refl

-- `struct S { int a; const int b; }`: the states of a and of b, and whether b was sealed

abbrev member_b : Bool → State → Tree
member_b is_sealed x = Leaf (record { is_const = true; is_sealed = is_sealed }) true x

abbrev struct_tree : State → Tree → Tree
struct_tree a b = Class (unsealed false) end_tree (more_tree (Leaf (unsealed false) true a) (more_tree b end_tree))

abbrev struct : State → Tree → Object
struct a b = local 0 int (struct_tree a b)

abbrev a : Pointer
a = part_of (Member 0)

abbrev b : Pointer
b = part_of (Member 1)

abbrev two : Scalar
two = scalar.Number (pos 2)

all_of_it_begins : begun_at (struct NotBegun (member_b false NotBegun) ∷ []) (whole 0 false) ≡ struct Unset (member_b false Unset) ∷ []
all_of_it_begins = refl

one_part_begins : begun_at (struct NotBegun (member_b false NotBegun) ∷ []) a ≡ struct Unset (member_b false NotBegun) ∷ []
one_part_begins = refl

a_part_is_read_before_the_whole_lives : read_at (struct (Has one) (member_b false NotBegun) ∷ []) a ≡ Ok (value.Scalar one)
a_part_is_read_before_the_whole_lives = refl

the_whole_lives_where_all_its_parts_do : read_at (struct (Has one) (member_b false NotBegun) ∷ []) (whole 0 false) ≡ refused V4
the_whole_lives_where_all_its_parts_do = refl

its_a_is_written : written (struct Unset (member_b false Unset) ∷ []) a (value.Scalar one) ≡ Ok (struct (Has one) (member_b false Unset) ∷ [])
its_a_is_written = refl

its_b_is_written_before_it_is_sealed : written (struct Unset (member_b false Unset) ∷ []) b (value.Scalar one) ≡ Ok (struct Unset (member_b false (Has one)) ∷ [])
its_b_is_written_before_it_is_sealed = refl

its_b_is_sealed : sealed_at (struct Unset (member_b false (Has one)) ∷ []) b ≡ struct Unset (member_b true (Has one)) ∷ []
its_b_is_sealed = refl

its_b_is_not_written_again : written (struct Unset (member_b true (Has one)) ∷ []) b (value.Scalar two) ≡ refused V6
its_b_is_not_written_again = refl

its_a_still_is : written (struct Unset (member_b true (Has one)) ∷ []) a (value.Scalar two) ≡ Ok (struct (Has two) (member_b true (Has one)) ∷ [])
its_a_still_is = refl

the_whole_is_read_in_order : read_at (struct (Has two) (member_b true (Has one)) ∷ []) (whole 0 false) ≡ Ok (value.Object (record { shape = int; scalars = two ∷ one ∷ [] }))
the_whole_is_read_in_order = refl

the_whole_lacks_a_value : read_at (struct Unset (member_b true (Has one)) ∷ []) (whole 0 false) ≡ refused V5
the_whole_lacks_a_value = refl

its_a_ends : ended_at (struct (Has one) (member_b true (Has one)) ∷ []) a ≡ Ok (struct Ended (member_b true (Has one)) ∷ [])
its_a_ends = refl

the_whole_does_not_live_then : read_at (struct Ended (member_b true (Has one)) ∷ []) (whole 0 false) ≡ refused V4
the_whole_does_not_live_then = refl

the_whole_does_not_end_then : ended_at (struct Ended (member_b true (Has one)) ∷ []) (whole 0 false) ≡ refused V4
the_whole_does_not_end_then = refl

its_b_is_still_read : read_at (struct Ended (member_b true (Has one)) ∷ []) b ≡ Ok (value.Scalar one)
its_b_is_still_read = refl

what_ended_does_not_begin_with_the_whole : begun_at (struct Ended (member_b false NotBegun) ∷ []) (whole 0 false) ≡ struct Ended (member_b false Unset) ∷ []
what_ended_does_not_begin_with_the_whole = refl

-- a const object of which a part is not const
abbrev const_struct : Bool → Object
const_struct is_sealed = local 0 int (Class (record { is_const = true; is_sealed = is_sealed }) end_tree (more_tree (Leaf (unsealed false) true Unset) end_tree))

a_part_of_a_const_one_is_written_while_it_is_made : written (const_struct false ∷ []) a (value.Scalar one)
    ≡ Ok (local 0 int (Class (unsealed true) end_tree (more_tree (Leaf (unsealed false) true (Has one)) end_tree)) ∷ [])
a_part_of_a_const_one_is_written_while_it_is_made = refl

a_part_of_a_const_one_is_not_written_after : written (const_struct true ∷ []) a (value.Scalar one) ≡ refused V6
a_part_of_a_const_one_is_not_written_after = refl

-- Fresh objects

abbrev int_fields : Fields
int_fields = record { of = record { basic = basic.Int kind.Int; is_const = false; layers = [] }; class = None; scalars = 1; leaves = 1 }

a_fresh_int : IsFresh false int (Leaf (unsealed false) true NotBegun)
unfolding out-Shape roll-Shape out roll
a_fresh_int = (refl, refl, refl)

a_fresh_const_int : IsFresh true int (Leaf (unsealed true) true NotBegun)
unfolding out-Shape roll-Shape out roll
a_fresh_const_int = (refl, refl, refl)

abbrev fresh_leaf : Tree
fresh_leaf = Leaf (unsealed false) true NotBegun

abbrev pair_tree : Tree → Tree → Tree
pair_tree x y = Array (unsealed false) (more_tree x (more_tree y end_tree))

a_fresh_pair : IsFresh false (ints 2) (pair_tree fresh_leaf fresh_leaf)
unfolding out-Shape roll-Shape out roll
a_fresh_pair = (refl, (element_shape (ints 2) 2, refl, (let some : 0 < 2 = omega arith in some), ((refl, refl, refl), ((refl, refl, refl), tt))))

-- `const int[2]`: its elements are const, and so is the whole
abbrev const_ints : Shape
const_ints = roll-Shape (record int_fields { of = record { basic = basic.Int kind.Int; is_const = true; layers = layer.Array 2 ∷ [] }; scalars = 2; leaves = 2 })

abbrev const_leaf : Tree
const_leaf = Leaf (unsealed true) true NotBegun

abbrev const_pair : Tree
const_pair = Array (unsealed true) (more_tree const_leaf (more_tree const_leaf end_tree))

a_fresh_const_pair : IsFresh false const_ints const_pair
unfolding out-Shape roll-Shape out roll
a_fresh_const_pair = (refl, (element_shape const_ints 2, refl, (let some : 0 < 2 = omega arith in some), ((refl, refl, refl), ((refl, refl, refl), tt))))

-- a const object of a shape that is not const: the maker's mark is on the whole alone
a_pair_made_const : IsFresh true (ints 2) (Array (unsealed true) (more_tree fresh_leaf (more_tree fresh_leaf end_tree)))
unfolding out-Shape roll-Shape out roll
a_pair_made_const = (refl, (element_shape (ints 2) 2, refl, (let some : 0 < 2 = omega arith in some), ((refl, refl, refl), ((refl, refl, refl), tt))))

-- `struct S { int a; const int b; }`
abbrev member_fields : Shape → MemberFields
member_fields shape = record {
  name = record { 0 = 1 };
  entity = None;
  access = Public;
  align = 4;
  default_init = None;
  shape = shape;
  at = record { offset = 0; scalar = 0; leaf = 0; before = record { missing = 0; consteval = 0; guarded = 0; end_guarded = 0 } };
}

abbrev const_int : Shape
const_int = roll-Shape (record int_fields { of = record { basic = basic.Int kind.Int; is_const = true; layers = [] } })

abbrev class_fields : List DataMember → ClassFields
class_fields members = record {
  head = record {
    entity = record { 0 = 1 };
    by = completed.Text (record { 0 = 3 });
    layout = record { size = 8; align = 4 };
    scalars = 2;
    leaves = 2;
    special = record { has_constructor = false; default_constructor = None; destructor = None; is_destroyed = false; is_aggregate = true; is_consteval_only = false };
    making = record { is_missing = false; is_consteval = false; is_guarded = false; is_end_guarded = false };
  };
  bases = [];
  members = members;
  by_name = [];
  deepest = None;
  depth = 0;
}

abbrev struct_class : ClassFields
struct_class = class_fields (roll-Member (member_fields int) ∷ roll-Member (member_fields const_int) ∷ [])

abbrev struct_fields : Fields
struct_fields = record { of = record { basic = basic.Class (record { 0 = 1 }); is_const = false; layers = [] }; class = Some (roll-Class struct_class); scalars = 2; leaves = 2 }

abbrev struct_shape : Shape
struct_shape = roll-Shape struct_fields

-- what it is made of, opened part by part
form_of_struct : form struct_shape ≡ IsClass [] (int ∷ const_int ∷ [])
form_of_struct =
    ap (λ f. form_under struct_shape f.of.layers) (out-roll-Shape struct_fields)
    ∙ ap (λ f. class_form f.of.basic f.class) (out-roll-Shape struct_fields)
    ∙ ap (λ f. IsClass (map base_shape f.bases) (map member_shape f.members)) (out-roll-Class struct_class)
    ∙ ap (λ f. IsClass [] (f.shape ∷ member_shape (roll-Member (member_fields const_int)) ∷ [])) (out-roll-Member (member_fields int))
    ∙ ap (λ f. IsClass [] (int ∷ f.shape ∷ [])) (out-roll-Member (member_fields const_int))

a_fresh_struct : IsFresh false struct_shape (struct_tree NotBegun (member_b false NotBegun))
unfolding out-Shape roll-Shape out roll
a_fresh_struct = (refl, ([], int ∷ const_int ∷ [], form_of_struct, (let some : 0 < 2 = omega arith in some), tt, ((refl, refl, refl), ((refl, refl, refl), tt))))

-- no other tree is fresh

a_fresh_one_is_const_where_its_shape_is : IsFresh false const_ints (Array (unsealed false) (more_tree const_leaf (more_tree const_leaf end_tree))) → ⊥
unfolding out-Shape roll-Shape out roll
a_fresh_one_is_const_where_its_shape_is h = let t : false ≡ true = ap (λ m. m.is_const) h.0 in absurd cc

it_stands_behind_the_others : Created (ints 2) (origin.Local 1) false (empty Unset ∷ []) (empty Unset ∷ local 1 (ints 2) (pair_tree fresh_leaf fresh_leaf) ∷ [])
it_stands_behind_the_others = (pair_tree fresh_leaf fresh_leaf, a_fresh_pair, refl)

-- Objects that are not made here

-- `constexpr int a[2] = {1, 2};`
abbrev known_pair : Object
known_pair = record {
  origin = to_static.origin;
  shape = ints 2;
  tree = Array (closed true) (more_tree (Leaf (unsealed false) true (Has one)) (more_tree (Leaf (unsealed false) true (Has two)) end_tree));
}

it_comes_in_with_its_value : Brought (ints 2) to_static.origin (Some (value.Object (record { shape = ints 2; scalars = one ∷ two ∷ [] }))) [] (known_pair ∷ [])
it_comes_in_with_its_value = (Array (unsealed true) (more_tree fresh_leaf (more_tree fresh_leaf end_tree)), a_pair_made_const, refl)

abbrev static_element : ℕ → Pointer
static_element i = record to_static { path = Element i ∷ [] }

its_element_is_read : read_at (known_pair ∷ []) (static_element 1) ≡ Ok (value.Scalar two)
its_element_is_read = refl

its_element_is_not_written : written (known_pair ∷ []) (static_element 1) (value.Scalar one) ≡ refused V7
its_element_is_not_written = refl

-- a constexpr local is an object of this evaluation
a_local_that_came_in_is_const : written (record known_pair { origin = origin.Local 0 } ∷ []) (element 1 false) (value.Scalar one) ≡ refused V6
a_local_that_came_in_is_const = refl

-- a value with too few scalars, and one with too many
what_it_lacks_has_not_begun : brought (Some (value.Scalar one)) (pair_tree fresh_leaf fresh_leaf)
    ≡ Array (closed false) (more_tree (Leaf (unsealed false) true (Has one)) (more_tree fresh_leaf end_tree))
what_it_lacks_has_not_begun = refl

what_is_beyond_is_dropped : brought (Some (value.Object (record { shape = ints 2; scalars = one ∷ two ∷ [] }))) fresh_leaf ≡ Leaf (closed false) true (Has one)
what_is_beyond_is_dropped = refl

-- `struct { E e; int a; }`: a leaf without scalars takes no value
an_empty_part_takes_no_value : brought (Some (value.Scalar one)) (Class (unsealed true) end_tree (more_tree (Leaf (unsealed false) false NotBegun) (more_tree fresh_leaf end_tree)))
    ≡ Class (closed true) end_tree (more_tree (Leaf (unsealed false) false Unset) (more_tree (Leaf (unsealed false) true (Has one)) end_tree))
an_empty_part_takes_no_value = refl

-- a static variable that is not constexpr
abbrev shape_alone : Object
shape_alone = record { origin = to_static.origin; shape = ints 2; tree = pair_tree fresh_leaf fresh_leaf }

it_comes_in_for_its_shape : Brought (ints 2) to_static.origin None [] (shape_alone ∷ [])
it_comes_in_for_its_shape = (pair_tree fresh_leaf fresh_leaf, a_fresh_pair, refl)

it_is_not_read : read_at (shape_alone ∷ []) (static_element 0) ≡ refused V7
it_is_not_read = refl

it_is_not_written : written (begun_at (shape_alone ∷ []) (static_element 0)) (static_element 0) (value.Scalar one) ≡ refused V7
it_is_not_written = refl

it_is_moved_in : moved (shape_alone ∷ []) (static_element 0) (pos 1) ≡ Ok (static_element 1)
it_is_moved_in = ap (λ f. move_in_array (static_element 0) (pos 1) [] 0 (Some f)) (form_of 2)

-- of a const shape too
a_const_one_is_not_made : Brought const_ints to_static.origin None [] (record shape_alone { shape = const_ints; tree = Array (unsealed false) (more_tree const_leaf (more_tree const_leaf end_tree)) } ∷ [])
a_const_one_is_not_made = (const_pair, a_fresh_const_pair, refl)

abbrev const_shape_alone : Object
const_shape_alone = record shape_alone { shape = const_ints; tree = Array (unsealed false) (more_tree const_leaf (more_tree const_leaf end_tree)) }

it_is_not_read_either : read_at (const_shape_alone ∷ []) (static_element 0) ≡ refused V7
it_is_not_read_either = refl

it_is_not_written_either : written (begun_at (const_shape_alone ∷ []) (static_element 0)) (static_element 0) (value.Scalar one) ≡ refused V7
it_is_not_written_either = refl

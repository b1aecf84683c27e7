-- Moves and comparisons of pointers, computed: arrays in arrays, what does not fit, and each rule of a comparison.
use denote.Hole.Carrier.{out, roll}
use Rattle.std.specs.Prelude.{◌≡◌, refl, ℕ, Bool, true, false, [], ◌∷◌, None, Some, Ok, pos, negsuc}
use Rattle.cxx_base.specs.declared.code.Code.TheVariants.{V2, V7, V11}
use Rattle.cxx_base.specs.declared.operator.CompareOp.TheVariants.{Lt, Le, Gt, Ge, Eq, Ne}
use Rattle.cxx_base.specs.declared.operator.IntKind.TheVariants as kind
use Rattle.cxx_type.specs.declared.basic.BasicType.TheVariants as basic
use Rattle.cxx_type.specs.declared.runs.Layer.TheVariants as layer
use Rattle.core_pointer.specs.declared.origin.Origin.TheVariants as origin
use Rattle.core_pointer.specs.declared.path.PathStep.{PathStep}
use Rattle.core_pointer.specs.declared.path.PathStep.TheVariants.{Base, Member, Element}
use Rattle.core_pointer.specs.declared.pointer.Pointer.{Pointer}
use Rattle.core_shape.specs.declared.shape.Shape.{Shape, out-Shape, roll-Shape}
use Rattle.object_store.specs.Trees.{Unset, Leaf}
use Rattle.object_store.specs.Objects.{Object}
use Rattle.object_store.specs.Access.{refused}
use Rattle.object_store.specs.Pointers.{compared, moved, within_one_array}
use Rattle.object_store.proofs.Rows.{ints, unsealed, local, pair, element, whole, null, constant, part_of, to_static}

-- Moves

-- int a[2][3]; a move looks at its shape alone
abbrev matrix_shape : Shape
matrix_shape = roll-Shape (record { of = record { basic = basic.Int kind.Int; is_const = false; layers = layer.Array 2 ∷ layer.Array 3 ∷ [] }; class = None; scalars = 6; leaves = 6 })

abbrev matrix : Object
matrix = local 0 matrix_shape (Leaf (unsealed false) true Unset)

abbrev cell : ℕ → ℕ → Bool → Pointer
cell i j past = record { origin = origin.Local 0; path = Element i ∷ Element j ∷ []; past = past }

moves_in_an_inner_array : moved (matrix ∷ []) (cell 0 1 false) (pos 1) ≡ Ok (cell 0 2 false)
unfolding out-Shape roll-Shape out roll
moves_in_an_inner_array = refl

moves_to_its_end : moved (matrix ∷ []) (cell 0 1 false) (pos 2) ≡ Ok (cell 0 2 true)
unfolding out-Shape roll-Shape out roll
moves_to_its_end = refl

moves_not_into_the_next_one : moved (matrix ∷ []) (cell 0 1 false) (pos 3) ≡ refused V2
unfolding out-Shape roll-Shape out roll
moves_not_into_the_next_one = refl

moves_an_inner_array : moved (matrix ∷ []) (element 0 false) (pos 1) ≡ Ok (element 1 false)
unfolding out-Shape roll-Shape out roll
moves_an_inner_array = refl

a_misfit_does_not_move : moved (pair ∷ []) (element 2 false) (pos 0) ≡ refused V2
unfolding out-Shape roll-Shape out roll
a_misfit_does_not_move = refl

no_part_of_a_scalar_moves : moved (constant (unsealed false) Unset ∷ []) (part_of (Member 0)) (pos 0) ≡ refused V2
unfolding out-Shape roll-Shape out roll
no_part_of_a_scalar_moves = refl

before_the_first_there_is_none : moved (pair ∷ []) (element 0 false) (negsuc 0) ≡ refused V2
unfolding out-Shape roll-Shape out roll
before_the_first_there_is_none = refl

what_is_no_element_moves_back : moved (constant (unsealed false) Unset ∷ []) (whole 0 true) (negsuc 0) ≡ Ok (whole 0 false)
what_is_no_element_moves_back = refl

what_is_no_element_stays_past_its_end : moved (constant (unsealed false) Unset ∷ []) (whole 0 true) (pos 0) ≡ Ok (whole 0 true)
what_is_no_element_stays_past_its_end = refl

what_is_no_element_moves_by_one_alone : moved (constant (unsealed false) Unset ∷ []) (whole 0 true) (pos 1) ≡ refused V2
what_is_no_element_moves_by_one_alone = refl

null_moves_by_zero : moved [] null (pos 0) ≡ Ok null
null_moves_by_zero = refl

what_is_not_there_does_not_move : moved [] (element 0 false) (pos 0) ≡ refused V7
what_is_not_there_does_not_move = refl

a_static_that_is_not_there_does_not_move : moved (pair ∷ []) (record to_static { path = Element 0 ∷ [] }) (pos 1) ≡ refused V7
a_static_that_is_not_there_does_not_move = refl

abbrev nothing : Object
nothing = record { origin = origin.Allocation 0; shape = ints 0; tree = Leaf (unsealed false) false Unset }

nothing_is_past_the_end_of_nothing : moved (nothing ∷ []) (record { origin = origin.Allocation 0; path = Element 0 ∷ []; past = true }) (pos 0) ≡ refused V2
unfolding out-Shape roll-Shape out roll
nothing_is_past_the_end_of_nothing = refl

-- Comparisons. First, equal ones are equal.

one_is_not_less_than_itself : compared Lt (element 0 false) (element 0 false) ≡ Ok false
one_is_not_less_than_itself = refl

one_is_at_most_itself : compared Le (element 0 false) (element 0 false) ≡ Ok true
one_is_at_most_itself = refl

two_nulls_are_equal : compared Eq null null ≡ Ok true
two_nulls_are_equal = refl

no_null_is_less : compared Lt null null ≡ Ok false
no_null_is_less = refl

one_past_its_end_is_equal_to_itself : compared Eq (whole 0 true) (whole 0 true) ≡ Ok true
one_past_its_end_is_equal_to_itself = refl

-- Second, within one array by the index.

the_end_is_not_the_last : compared Eq (element 1 true) (element 1 false) ≡ Ok false
the_end_is_not_the_last = refl

the_end_of_what_is_no_element_is_behind_it : compared Gt (whole 0 true) (whole 0 false) ≡ Ok true
the_end_of_what_is_no_element_is_behind_it = refl

within_an_inner_array : compared Ge (cell 1 0 false) (cell 1 1 false) ≡ Ok false
within_an_inner_array = refl

the_indices_are_told : within_one_array (element 1 true) (element 0 false) ≡ Some (2, 0)
the_indices_are_told = refl

two_inner_arrays_are_not_one : within_one_array (cell 0 1 false) (cell 1 0 false) ≡ None
two_inner_arrays_are_not_one = refl

two_objects_are_not_one_array : within_one_array (whole 0 false) (whole 1 false) ≡ None
two_objects_are_not_one_array = refl

null_is_in_no_array : within_one_array null null ≡ None
null_is_in_no_array = refl

-- Third, by == and != null differs from all others.

null_differs_from_an_end : compared Eq null (whole 0 true) ≡ Ok false
null_differs_from_an_end = refl

an_end_differs_from_null : compared Ne (whole 0 true) null ≡ Ok true
an_end_differs_from_null = refl

-- Fourth, of two that are not null none is past its end.

abbrev end_of : PathStep → Pointer
end_of step = record (part_of step) { past = true }

the_end_of_a_member_is_not_compared : compared Eq (end_of (Member 0)) (part_of (Member 1)) ≡ refused V11
the_end_of_a_member_is_not_compared = refl

nor_is_it_by_the_second : compared Ne (part_of (Member 0)) (end_of (Member 1)) ≡ refused V11
nor_is_it_by_the_second = refl

a_whole_and_its_member_differ : compared Eq (whole 0 false) (part_of (Member 0)) ≡ Ok false
a_whole_and_its_member_differ = refl

-- Fifth, the first numbers of elements or data members that differ.

rows_come_before_cells : compared Lt (cell 0 1 false) (cell 1 0 false) ≡ Ok true
rows_come_before_cells = refl

the_end_of_a_row_too : compared Lt (cell 0 1 true) (cell 1 0 false) ≡ Ok true
the_end_of_a_row_too = refl

the_end_of_a_member_too : compared Lt (end_of (Member 0)) (part_of (Member 1)) ≡ Ok true
the_end_of_a_member_too = refl

a_whole_and_its_member_have_no_order : compared Lt (whole 0 false) (part_of (Member 0)) ≡ refused V11
a_whole_and_its_member_have_no_order = refl

two_bases_have_no_order : compared Lt (part_of (Base 0)) (part_of (Base 1)) ≡ refused V11
two_bases_have_no_order = refl

two_members_of_one_base_have_one : compared Gt (record (part_of (Base 0)) { path = Base 0 ∷ Member 1 ∷ [] }) (record (part_of (Base 0)) { path = Base 0 ∷ Member 0 ∷ [] }) ≡ Ok true
two_members_of_one_base_have_one = refl

null_has_no_order : compared Lt null (whole 0 false) ≡ refused V11
null_has_no_order = refl

nor_has_what_is_compared_to_null : compared Ge (element 0 false) null ≡ refused V11
nor_has_what_is_compared_to_null = refl

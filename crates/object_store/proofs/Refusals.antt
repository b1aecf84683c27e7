-- The order of refusals, computed: places with two of them.
use Rattle.std.specs.Prelude.{◌≡◌, refl, true, false, [], ◌∷◌}
use Rattle.cxx_base.specs.declared.code.Code.TheVariants.{V2, V3, V4, V5, V7}
use Rattle.core_pointer.specs.declared.path.PathStep.TheVariants.{Element}
use Rattle.core_value.specs.declared.value.Value.TheVariants as value
use Rattle.object_store.specs.Trees.{State, NotBegun, Unset, Has, Ended, Leaf, Array, end_tree, more_tree}
use Rattle.object_store.specs.Objects.{Object}
use Rattle.object_store.specs.Access.{refused, read_at, written, ended_at}
use Rattle.object_store.proofs.Rows.{ints, unsealed, closed, one, local, pair, element, whole, null, constant, no_scalar, static, to_static, hidden, own}

-- int a[2] with these two elements
abbrev pair_of : State → State → Object
pair_of x y = local 0 (ints 2) (Array (unsealed false) (more_tree (Leaf (unsealed false) true x) (more_tree (Leaf (unsealed false) true y) end_tree)))

-- null, before all others
writes_nothing_to_null : written [] null no_scalar ≡ refused V3
writes_nothing_to_null = refl

writes_no_scalar_to_null : written [] null (value.Scalar one) ≡ refused V3
writes_no_scalar_to_null = refl

reads_null_past_its_end : read_at [] (record null { past = true }) ≡ refused V3
reads_null_past_its_end = refl

-- outside, before of another evaluation
reads_past_the_end_of_nothing : read_at [] (whole 0 true) ≡ refused V2
reads_past_the_end_of_nothing = refl

reads_past_a_hidden_static : read_at (hidden ∷ []) (record to_static { past = true }) ≡ refused V2
reads_past_a_hidden_static = refl

reads_a_misfit_in_a_hidden_static : read_at (hidden ∷ []) (record to_static { path = Element 0 ∷ [] }) ≡ refused V2
reads_a_misfit_in_a_hidden_static = refl

writes_past_a_static : written (static ∷ []) (record to_static { past = true }) (value.Scalar one) ≡ refused V2
writes_past_a_static = refl

writes_no_scalar_to_a_static : written (static ∷ []) to_static no_scalar ≡ refused V2
writes_no_scalar_to_a_static = refl

abbrev static_pair : Object
static_pair = record (pair_of (Has one) (Has one)) { origin = to_static.origin }

writes_a_scalar_to_a_whole_static : written (static_pair ∷ []) to_static (value.Scalar one) ≡ refused V2
writes_a_scalar_to_a_whole_static = refl

-- outside, before outside its lifetime
reads_past_an_ended_one : read_at (constant (unsealed false) Ended ∷ []) (whole 0 true) ≡ refused V2
reads_past_an_ended_one = refl

writes_past_an_ended_one : written (constant (unsealed false) Ended ∷ []) (whole 0 true) (value.Scalar one) ≡ refused V2
writes_past_an_ended_one = refl

reads_outside_an_ended_pair : read_at (pair_of Ended Ended ∷ []) (element 2 false) ≡ refused V2
reads_outside_an_ended_pair = refl

writes_past_the_end : written (pair ∷ []) (element 1 true) (value.Scalar one) ≡ refused V2
writes_past_the_end = refl

writes_a_scalar_to_an_ended_whole : written (pair_of Ended Ended ∷ []) (whole 0 false) (value.Scalar one) ≡ refused V2
writes_a_scalar_to_an_ended_whole = refl

-- of another evaluation, before outside its lifetime
writes_no_hidden_static : written (hidden ∷ []) to_static (value.Scalar one) ≡ refused V7
writes_no_hidden_static = refl

writes_no_static_that_ended : written (record static { tree = Leaf (closed true) true Ended } ∷ []) to_static (value.Scalar one) ≡ refused V7
writes_no_static_that_ended = refl

writes_no_own_static_before_it_begins : written (own NotBegun ∷ []) to_static (value.Scalar one) ≡ refused V4
writes_no_own_static_before_it_begins = refl

-- outside its lifetime, before without a value and before const
reads_no_whole_that_ended_in_part : read_at (pair_of Ended Unset ∷ []) (whole 0 false) ≡ refused V4
reads_no_whole_that_ended_in_part = refl

reads_no_whole_without_a_value : read_at (pair_of (Has one) Unset ∷ []) (whole 0 false) ≡ refused V5
reads_no_whole_without_a_value = refl

writes_no_const_one_that_ended : written (constant (closed true) Ended ∷ []) (whole 0 false) (value.Scalar one) ≡ refused V4
writes_no_const_one_that_ended = refl

writes_no_const_one_before_it_begins : written (constant (closed true) NotBegun ∷ []) (whole 0 false) (value.Scalar one) ≡ refused V4
writes_no_const_one_before_it_begins = refl

-- The end of a lifetime has one refusal.

nothing_ends_past_its_end : ended_at (pair ∷ []) (element 1 true) ≡ refused V4
nothing_ends_past_its_end = refl

nothing_ends_outside : ended_at (pair ∷ []) (element 2 false) ≡ refused V4
nothing_ends_outside = refl

null_does_not_end : ended_at (pair ∷ []) null ≡ refused V4
null_does_not_end = refl

what_is_not_there_does_not_end : ended_at (pair ∷ []) (whole 1 false) ≡ refused V4
what_is_not_there_does_not_end = refl

-- Moves and comparisons of pointers ([expr.add], [expr.rel], [expr.eq]).
use Rattle.std.specs.Prelude.{ℕ, zero, suc, ◌+◌, ◌-◌, Bool, true, false, ◌&&◌, ◌||◌, not, if◌then◌else◌, nat_eq, nat_lt, List, [], ◌∷◌, ◌++◌, Option, None, Some, Result, Ok, ℤ, pos, negsuc, ◌+ℤ◌}
use Rattle.cxx_base.specs.declared.code.Code.TheVariants.{V2, V3, V7, V11}
use Rattle.cxx_base.specs.declared.operator.CompareOp.{CompareOp}
use Rattle.cxx_base.specs.declared.operator.CompareOp.TheVariants.{Lt, Le, Gt, Ge, Eq, Ne}
use Rattle.core_pointer.specs.declared.origin.Origin.{Origin}
use Rattle.core_pointer.specs.declared.origin.Origin.TheVariants as origin
use Rattle.core_pointer.specs.declared.path.PathStep.{PathStep}
use Rattle.core_pointer.specs.declared.path.PathStep.TheVariants.{Base, Member, Element}
use Rattle.core_pointer.specs.declared.pointer.Pointer.{Pointer}
use Rattle.core_shape.specs.declared.shape.Shape.{Shape}
use Rattle.core_words.specs.declared.stop.Cause.{Cause}
use Rattle.object_store.specs.Objects.{Form, IsArray, Object, form, is_same, object_of, shape_at}
use Rattle.object_store.specs.Access.{refused}

-- A way is that of an element, or not: the way to its array, and the number.
pub data Ending : Type 0 where
  NoElement : Ending
  InArray : List PathStep → ℕ → Ending

abbrev ending_after : PathStep → Ending → List PathStep → Ending
ending_after step NoElement path = NoElement
ending_after step (InArray front i) path = InArray (step ∷ front) i

abbrev pub ending : List PathStep → Ending
ending [] = NoElement
ending (Element i ∷ []) = InArray [] i
ending (Base i ∷ []) = NoElement
ending (Member i ∷ []) = NoElement
ending (step ∷ next ∷ path) = ending_after step (ending (next ∷ path)) path

abbrev is_zero : ℤ → Bool
is_zero (pos zero) = true
is_zero _ = false

abbrev is_null : Origin → Bool
is_null origin.Null = true
is_null _ = false

-- Moves

abbrev as_place : ℤ → Option ℕ
as_place (pos n) = Some n
as_place (negsuc n) = None

abbrev past_by : Bool → ℕ
past_by true = 1
past_by false = 0

abbrev to_element : Pointer → List PathStep → ℕ → Pointer
to_element p front i = record p { path = front ++ Element i ∷ []; past = false }

-- the place t of an array of so many elements, or the one behind the last
abbrev at_place : Pointer → List PathStep → ℕ → Option ℕ → Result Pointer Cause
at_place p front n None = refused V2
at_place p front n (Some t) =
    if nat_lt t n then Ok (to_element p front t)
    else if nat_eq t n then Ok (record (to_element p front (n - 1)) { past = true })
    else refused V2

abbrev move_among : Pointer → ℤ → List PathStep → ℕ → ℕ → Result Pointer Cause
move_among p by front i zero = if nat_eq i 0 && not p.past && is_zero by then Ok p else refused V2
move_among p by front i (suc n) =
    if nat_lt i (suc n) then at_place p front (suc n) (as_place (pos (i + past_by p.past) +ℤ by)) else refused V2

abbrev pub move_in_array : Pointer → ℤ → List PathStep → ℕ → Option Form → Result Pointer Cause
move_in_array p by front i (Some (IsArray n e)) = move_among p by front i n
move_in_array p by front i _ = refused V2

abbrev alone : Pointer → Option ℕ → Result Pointer Cause
alone p (Some zero) = Ok (record p { past = false })
alone p (Some (suc zero)) = Ok (record p { past = true })
alone p _ = refused V2

-- an object that is no element is an array of one
abbrev move_alone : Pointer → ℤ → Option Shape → Result Pointer Cause
move_alone p by None = refused V2
move_alone p by (Some s) = alone p (as_place (pos (past_by p.past) +ℤ by))

abbrev form_if : Option Shape → Option Form
form_if None = None
form_if (Some s) = Some (form s)

abbrev move_by_ending : Object → Pointer → ℤ → Ending → Result Pointer Cause
move_by_ending o p by NoElement = move_alone p by (shape_at o.shape p.path)
move_by_ending o p by (InArray front i) = move_in_array p by front i (form_if (shape_at o.shape front))

abbrev move_in : Option Object → Pointer → ℤ → Result Pointer Cause
move_in None p by = refused V7
move_in (Some o) p by = move_by_ending o p by (ending p.path)

-- What comes of a move by so many elements: null by 0 is null, else refused; outside 0 to n is refused; the pointer to an array without elements
-- moves by 0 alone.
abbrev pub moved : List Object → Pointer → ℤ → Result Pointer Cause
moved os p by = if is_null p.origin then (if is_zero by then Ok p else refused V3) else move_in (object_of os p.origin) p by

-- Comparisons

pub data Order : Type 0 where
  Less : Order
  Same : Order
  More : Order

abbrev order_of : ℕ → ℕ → Order
order_of i j = if nat_lt i j then Less else if nat_eq i j then Same else More

abbrev pub holds : CompareOp → Order → Bool
holds Lt Less = true
holds Le Less = true
holds Le Same = true
holds Gt More = true
holds Ge More = true
holds Ge Same = true
holds Eq Same = true
holds Ne Less = true
holds Ne More = true
holds _ _ = false

abbrev same_step : PathStep → PathStep → Bool
same_step (Base i) (Base j) = nat_eq i j
same_step (Member i) (Member j) = nat_eq i j
same_step (Element i) (Element j) = nat_eq i j
same_step _ _ = false

abbrev same_path : List PathStep → List PathStep → Bool
same_path [] [] = true
same_path (s ∷ p) (t ∷ q) = same_step s t && same_path p q
same_path _ _ = false

-- where the first steps that differ are two numbers of elements or of data members, which of them is less
abbrev step_order : PathStep → PathStep → Option Order
step_order (Element i) (Element j) = Some (order_of i j)
step_order (Member i) (Member j) = Some (order_of i j)
step_order _ _ = None

abbrev pub path_order : List PathStep → List PathStep → Option Order
path_order (s ∷ p) (t ∷ q) = if same_step s t then path_order p q else step_order s t
path_order _ _ = None

-- the number in the array, which is that behind the last where the pointer is past it
abbrev number : Pointer → ℕ → ℕ
number p i = i + past_by p.past

abbrev numbers_within : Pointer → Pointer → Ending → Ending → Option (ℕ × ℕ)
numbers_within p q NoElement NoElement = if same_path p.path q.path then Some (number p 0, number q 0) else None
numbers_within p q (InArray front i) (InArray other j) = if same_path front other then Some (number p i, number q j) else None
numbers_within p q _ _ = None

-- The numbers of two pointers that point into one array, where they do: an object that is no element is an array of one. A difference of pointers asks
-- the same.
abbrev pub within_one_array : Pointer → Pointer → Option (ℕ × ℕ)
within_one_array p q =
    if not (is_null p.origin) && is_same p.origin q.origin then numbers_within p q (ending p.path) (ending q.path) else None

abbrev is_literal : Origin → Bool
is_literal (origin.Literal l) = true
is_literal _ = false

-- two that are not within one array, by == and !=
abbrev apart_equal : CompareOp → Pointer → Pointer → Result Bool Cause
apart_equal op p q =
    if is_null p.origin || is_null q.origin then Ok (holds op More)
    else if p.past || q.past || (is_literal p.origin && is_literal q.origin && not (is_same p.origin q.origin)) then refused V11
    else Ok (holds op More)

abbrev by_order : CompareOp → Option Order → Result Bool Cause
by_order op None = refused V11
by_order op (Some o) = Ok (holds op o)

-- by <, <=, > and >=
abbrev apart_ordered : CompareOp → Pointer → Pointer → Result Bool Cause
apart_ordered op p q =
    if is_null p.origin || is_null q.origin || not (is_same p.origin q.origin) then refused V11 else by_order op (path_order p.path q.path)

abbrev apart : CompareOp → Pointer → Pointer → Result Bool Cause
apart Eq p q = apart_equal Eq p q
apart Ne p q = apart_equal Ne p q
apart op p q = apart_ordered op p q

abbrev near : CompareOp → Pointer → Pointer → Option (ℕ × ℕ) → Result Bool Cause
near op p q (Some n) = Ok (holds op (order_of n.0 n.1))
near op p q None = apart op p q

-- What comes of a comparison: the first rule that fits decides. Two nulls are equal; two pointers within one array compare by their numbers, so
-- equal ones are equal.
abbrev pub compared : CompareOp → Pointer → Pointer → Result Bool Cause
compared op p q =
    if is_null p.origin && is_null q.origin then Ok (holds op Same) else near op p q (within_one_array p q)

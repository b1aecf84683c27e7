-- Reads, writes and lifetimes, with the first refusal of each ([basic.life], [basic.indet], [dcl.type.cv], [expr.const]).
use Rattle.std.specs.Prelude.{Bool, true, false, ◌&&◌, not, if◌then◌else◌, List, Option, None, Some, Result, Ok, Err}
use Rattle.cxx_base.specs.declared.cause.TheConstants.{ONE}
use Rattle.cxx_base.specs.declared.code.Code.{Code}
use Rattle.cxx_base.specs.declared.code.Code.TheVariants.{V2, V3, V4, V5, V6, V7}
use Rattle.core_pointer.specs.declared.origin.Origin.{Origin}
use Rattle.core_pointer.specs.declared.origin.Origin.TheVariants as origin
use Rattle.core_pointer.specs.declared.path.PathStep.{PathStep}
use Rattle.core_pointer.specs.declared.pointer.Pointer.{Pointer}
use Rattle.core_shape.specs.declared.shape.Shape.{Shape}
use Rattle.core_value.specs.declared.scalar.Scalar.{Scalar}
use Rattle.core_value.specs.declared.value.Value.{Value}
use Rattle.core_value.specs.declared.value.Value.TheVariants as value
use Rattle.core_words.specs.declared.stop.Cause.{Cause}
use Rattle.object_store.specs.Trees.{Has, Tree, Leaf, begun, ended, sealed, has_values, holds_if, is_closed_on, lives, subobject, values}
use Rattle.object_store.specs.Objects.{Object, changed_at, is_hidden, is_own, object_of, shape_at}

abbrev pub refused : {A : Type 0} → Code → Result A Cause
refused code = Err (record { code = code; detail = ONE })

-- whether what stands at a way in an object lives
abbrev lives_in : Option Object → List PathStep → Bool
lives_in None path = false
lives_in (Some o) path = holds_if lives (subobject o.tree path)

-- What a pointer that is not null nor past the end points to: an object and the part of it at the way. A way that does not fit is outside.
pub record Found : Type 0 where
  pub object : Object
  pub tree : Tree

abbrev found_part : Object → Option Tree → Result Found Cause
found_part o None = refused V2
found_part o (Some t) = Ok (record { object = o; tree = t })

abbrev found_in : Option Object → List PathStep → Result Found Cause
found_in None path = refused V7
found_in (Some o) path = found_part o (subobject o.tree path)

abbrev found_unless : Bool → List Object → Pointer → Result Found Cause
found_unless true os p = refused V2
found_unless false os p = found_in (object_of os p.origin) p.path

abbrev found_from : Origin → List Object → Pointer → Result Found Cause
found_from origin.Null os p = refused V3
found_from _ os p = found_unless p.past os p

abbrev pub found : List Object → Pointer → Result Found Cause
found os p = found_from p.origin os p

-- the value of a subobject whose scalars have values
abbrev value_of : Option Shape → Tree → Option Value
value_of s (Leaf m true (Has v)) = Some (value.Scalar v)
value_of None t = None
value_of (Some s) t = Some (value.Object (record { shape = s; scalars = values t }))

abbrev some_value : Option Value → Result Value Cause
some_value None = refused V2
some_value (Some v) = Ok v

abbrev read_found : List PathStep → Result Found Cause → Result Value Cause
read_found path (Err c) = Err c
read_found path (Ok f) =
    if is_hidden f.object then refused V7
    else if not (lives f.tree) then refused V4
    else if not (has_values f.tree) then refused V5
    else some_value (value_of (shape_at f.object.shape path) f.tree)

-- What is read at a pointer: the first of null, outside, of another evaluation, outside its lifetime, without a value; else the value.
abbrev pub read_at : List Object → Pointer → Result Value Cause
read_at os p = read_found p.path (found os p)

abbrev with_value : Scalar → Tree → Tree
with_value v (Leaf m s x) = Leaf m s (Has v)
with_value v t = t

abbrev is_scalar : Tree → Bool
is_scalar (Leaf m s x) = s
is_scalar _ = false

abbrev write_found : List Object → Pointer → Scalar → Result Found Cause → Result (List Object) Cause
write_found os p v (Err c) = Err c
write_found os p v (Ok f) =
    if not (is_scalar f.tree) then refused V2
    else if not (is_own f.object) then refused V7
    else if not (lives f.tree) then refused V4
    else if is_closed_on p.path f.object.tree then refused V6
    else Ok (changed_at (with_value v) p.origin p.path os)

abbrev unless_null : Origin → Result (List Object) Cause
unless_null origin.Null = refused V3
unless_null _ = refused V2

-- a value that is no scalar is written nowhere
abbrev write_value : List Object → Pointer → Value → Result Found Cause → Result (List Object) Cause
write_value os p (value.Scalar v) f = write_found os p v f
write_value os p (value.Object x) f = unless_null p.origin

-- What comes of a write: the first of null, outside, of another evaluation, outside its lifetime, const; else the objects with the value.
abbrev pub written : List Object → Pointer → Value → Result (List Object) Cause
written os p v = write_value os p v (found os p)

-- its lifetime begins, with that of all in it
abbrev pub begun_at : List Object → Pointer → List Object
begun_at os p = changed_at begun p.origin p.path os

-- Its lifetime ends, with that of all in it, unless it does not live: past its end nothing does. A string literal, which always lives, stays as it is.
abbrev pub ended_at : List Object → Pointer → Result (List Object) Cause
ended_at os p =
    if not p.past && lives_in (object_of os p.origin) p.path then Ok (changed_at ended p.origin p.path os) else refused V4

-- its initialization has ended
abbrev pub sealed_at : List Object → Pointer → List Object
sealed_at os p = changed_at sealed p.origin p.path os

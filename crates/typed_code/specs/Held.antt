-- What code holds, out of how it holds it.
use Rattle.std.specs.Prelude.{List, [], Option, None, Some}
use Rattle.std.specs.Box.{box_value}
use Rattle.std.specs.declared.alloc.Global.{Global}
use Rattle.std.specs.declared.boxed.Box.{Box}
use Rattle.core_pointer.specs.declared.origin.Literal.{Literal}
use Rattle.core_pointer.specs.declared.path.PathStep.{PathStep}
use Rattle.core_shape.specs.declared.shape.Shape.{Shape}
use Rattle.core_value.specs.declared.value.Value.{Value}
use Rattle.cxx_type.specs.declared.whole.CxxType.{CxxType}
use Rattle.typed_code.specs.declared.code.TypedCode.TheInside.{Inside}
use Rattle.typed_code.specs.declared.tables.Tables.{Tables}
use Rattle.typed_code.specs.Arrays.{Arrays}

abbrev steps_of : Option (Box Tables Global) → List PathStep
steps_of None = []
steps_of (Some tables) = tables.value.steps.items

abbrev types_of : Option (Box Tables Global) → List CxxType
types_of None = []
types_of (Some tables) = tables.value.types

abbrev shapes_of : Option (Box Tables Global) → List Shape
shapes_of None = []
shapes_of (Some tables) = tables.value.shapes

abbrev texts_of : Option (Box Tables Global) → List Literal
texts_of None = []
texts_of (Some tables) = tables.value.texts

abbrev values_of : Option (Box Tables Global) → List Value
values_of None = []
values_of (Some tables) = tables.value.values

abbrev pub arrays_of : Inside → Arrays
arrays_of c = record {
  exprs = c.exprs;
  stmts = c.stmts;
  lists = c.lists.items;
  steps = steps_of c.tables;
  types = types_of c.tables;
  shapes = shapes_of c.tables;
  texts = texts_of c.tables;
  values = values_of c.tables;
}

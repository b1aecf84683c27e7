-- Units that are the same.
use Rattle.tree_same.specs.Lists.{AreSame}
use Rattle.unit_same.specs.Statements.{SameItem}
use Rattle.cxx_tree.specs.declared.decl.Unit.{Unit}

abbrev pub SameUnit : Unit → Unit → Type 0
SameUnit x y = AreSame SameItem x.items y.items

-- Two identifiers are the same where they have the same name, and two names are where the same identifiers stand in them.
use Rattle.std.specs.Prelude.{◌≡◌}
use Rattle.tree_same.specs.Lists.{AreSame}
use Rattle.cxx_tree.specs.declared.identifier.Identifier.{Identifier}
use Rattle.cxx_tree.specs.declared.identifier.NameTree.{NameTree}

abbrev pub SameIdentifier : Identifier → Identifier → Type 0
SameIdentifier x y = x.name ≡ y.name

-- `::` begins both or neither, and their parts are the same.
abbrev pub SameName : NameTree → NameTree → Type 0
SameName x y = (x.rooted ≡ y.rooted) × SameIdentifier x.first y.first × AreSame SameIdentifier x.more y.more

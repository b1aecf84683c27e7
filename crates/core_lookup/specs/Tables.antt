-- What lookup takes of a program: its entities, its scopes and its pieces. None of them says where anything stands in the text.
use Rattle.std.specs.Prelude.{ℕ, Bool, true, false, ◌&&◌, ◌||◌, nat_eq, nat_lt, List, Option, None, Some, slice_get}
use Rattle.cxx_base.specs.declared.number.EntityNo.{EntityNo}
use Rattle.cxx_base.specs.declared.number.PieceNo.{PieceNo}
use Rattle.cxx_base.specs.declared.number.ScopeNo.{ScopeNo}
use Rattle.program_tables.specs.declared.entity.Entity.{Entity}
use Rattle.program_tables.specs.declared.entity.EntityKind.{EntityKind}
use Rattle.program_tables.specs.declared.entity.EntityKind.TheVariants as kind
use Rattle.program_tables.specs.declared.entity.ClassText.{ClassText}
use Rattle.program_tables.specs.declared.piece.Piece.{Piece}
use Rattle.program_tables.specs.declared.scope.Scope.{Scope}
use Rattle.program_tables.specs.declared.scope.PieceScope.{PieceScope}
use Rattle.core_tree.specs.declared.program.Program.{Program}

pub record Tables : Type 0 where
  pub entities : List Entity
  pub scopes : List Scope
  pub pieces : List Piece
  -- where each piece stands
  pub standing : List PieceScope

abbrev pub tables_of : Program → Tables
tables_of p = record { entities = p.entities; scopes = p.scopes.tree; pieces = p.pieces.pieces; standing = p.scopes.pieces }

abbrev pub entity_at : Tables → EntityNo → Option Entity
entity_at t e = slice_get t.entities e.0

abbrev pub scope_at : Tables → ScopeNo → Option Scope
scope_at t s = slice_get t.scopes s.0

-- the first definition of a class in the text, if it is a class and has one
abbrev text_by : EntityKind → Option ClassText
text_by (kind.Class c) = c.text
text_by _ = None

abbrev text_if : Option Entity → Option ClassText
text_if None = None
text_if (Some e) = text_by e.kind

abbrev pub text_of : Tables → EntityNo → Option ClassText
text_of t c = text_if (entity_at t c)

-- In its own piece the name of a variable, a class or an enumeration is found, and no other.
abbrev is_found_at_once : EntityKind → Bool
is_found_at_once (kind.Variable v) = true
is_found_at_once (kind.Class c) = true
is_found_at_once (kind.Enumeration e) = true
is_found_at_once _ = false

abbrev is_by : ℕ → EntityKind → Option PieceNo → Bool
is_by k of None = true
is_by k of (Some first) = nat_lt first.0 k || (nat_eq first.0 k && is_found_at_once of)

-- Whether an entity is declared at the point k: by an earlier piece, or before all pieces. In the piece that declares it, its initializer, its bases or
-- its list of enumerators are meant; where its own type is looked up, and of an enumerator in its list, elaboration keeps the name itself.
abbrev pub is_declared : ℕ → Entity → Bool
is_declared k e = is_by k e.kind e.first

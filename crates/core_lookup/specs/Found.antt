-- What a name finds at a point ([basic.lookup]).
use Rattle.std.specs.Prelude.{ℕ, zero, suc, Bool, true, false, ◌&&◌, not, if◌then◌else◌, nat_eq, nat_lt, List, [], ◌∷◌, length, Option, None, Some, slice_get}
use Rattle.cxx_base.specs.Refusals as refusal
use Rattle.cxx_base.specs.declared.code.Code.{Code}
use Rattle.cxx_base.specs.declared.code.Code.TheVariants.{N1, N3, N4, N5}
use Rattle.cxx_base.specs.declared.library.TheConstants.{INFO, SIZE_T}
use Rattle.cxx_base.specs.declared.name.Name.{Name}
use Rattle.cxx_base.specs.declared.number.EntityNo.{EntityNo}
use Rattle.cxx_base.specs.declared.number.PieceNo.{PieceNo}
use Rattle.cxx_base.specs.declared.number.ScopeNo.{ScopeNo}
use Rattle.cxx_base.specs.declared.place.Place.{Place}
use Rattle.cxx_base.specs.declared.refusal.Refusal.{Refusal}
use Rattle.core_words.specs.declared.access.AccessLevel.{AccessLevel}
use Rattle.core_outcome.specs.declared.declared.Declared.{Declared}
use Rattle.core_outcome.specs.declared.declared.Declared.TheVariants as declared
use Rattle.core_outcome.specs.declared.outcome.OutcomeParts.{OutcomeParts}
use Rattle.core_shape.specs.declared.class.Base.{Base, out-Base}
use Rattle.core_shape.specs.declared.class.Class.{Class, out-Class}
use Rattle.core_shape.specs.declared.class.Member.{Member, out-Member}
use Rattle.cxx_tree.specs.declared.identifier.Identifier.{Identifier}
use Rattle.cxx_tree.specs.declared.identifier.NameTree.{NameTree}
use Rattle.cxx_type.specs.declared.basic.BasicType.{BasicType}
use Rattle.cxx_type.specs.declared.basic.BasicType.TheVariants as basic
use Rattle.cxx_type.specs.declared.runs.Layer.{Layer}
use Rattle.program_tables.specs.declared.entity.ClassText.{ClassText}
use Rattle.program_tables.specs.declared.entity.Entity.{Entity}
use Rattle.program_tables.specs.declared.entity.EntityKind.{EntityKind}
use Rattle.program_tables.specs.declared.entity.EntityKind.TheVariants as kind
use Rattle.program_tables.specs.declared.scope.Scope.{Scope}
use Rattle.program_tables.specs.declared.scope.ScopeKind.{ScopeKind}
use Rattle.program_tables.specs.declared.scope.ScopeKind.TheVariants as scope
use Rattle.read_trees.specs.Trees.{ReadTree, Goes, Stops, Reads, and_then}
use Rattle.core_lookup.specs.Tables.{Tables, entity_at, scope_at, text_of}
use Rattle.core_lookup.specs.Scopes.{Around, around, declared_in, is_local}
use Rattle.core_lookup.specs.Classes.{ClassAt, Text, Injected, Incomplete, class_at, class_in, class_of_base, is_refused}
use Rattle.core_lookup.specs.Access.{allowed}

-- What is found: a declared entity, or a member of an injected class by its place.
pub data Match : Type 0 where
  Entity_ : EntityNo → Match
  Described : EntityNo → ℕ → Match

-- a base on the way: its class, and its access
pub record Way : Type 0 where
  pub derived : EntityNo
  pub access : AccessLevel

-- what is found, and the bases on the way to it, outermost first
pub record Hit : Type 0 where
  pub what : Match
  pub way : List Way

-- where the next part of a name is looked up: in a namespace, a class, an enumeration, or a type of the library, which has no member
pub data Inside : Type 0 where
  InNamespace : ScopeNo → Inside
  InClass : EntityNo → Inside
  InEnumeration : ScopeNo → Inside
  InLibrary : Inside

abbrev hit : Match → Hit
hit what = record { what = what; way = [] }

abbrev declared_if : Option EntityNo → Option Hit
declared_if None = None
declared_if (Some e) = Some (hit (Entity_ e))

-- Members of bases are found where they are data or functions.
abbrev is_inherited : EntityKind → Bool
is_inherited (kind.Variable v) = true
is_inherited (kind.DataMember v) = true
is_inherited (kind.Function f) = true
is_inherited _ = false

abbrev inherited_by : EntityNo → Option Entity → Option Hit
inherited_by n None = None
inherited_by n (Some e) = if is_inherited e.kind then Some (hit (Entity_ n)) else None

abbrev inherited_if : Tables → Option EntityNo → Option Hit
inherited_if t None = None
inherited_if t (Some n) = inherited_by n (entity_at t n)

abbrev in_text : Tables → ℕ → Name → Option ClassText → Option EntityNo
in_text t k name None = None
in_text t k name (Some text) = declared_in t k text.scope name

-- the place of a described member
abbrev described_from : EntityNo → Name → ℕ → List Member → Option Hit
described_from c name i [] = None
described_from c name i (m ∷ ms) =
    if nat_eq (out-Member m).name.0 name.0 then Some (hit (Described c i)) else described_from c name (suc i) ms

abbrev bases_in : Option Class → List Base
bases_in None = []
bases_in (Some c) = (out-Class c).bases

abbrev over_base : EntityNo → Base → Option Hit → Option Hit
over_base d b None = None
over_base d b (Some h) = Some (record h { way = record { derived = d; access = (out-Base b).access } ∷ h.way })

abbrev base_entity : Option Class → Option EntityNo
base_entity None = None
base_entity (Some c) = Some (out-Class c).head.entity

-- the class that declares what is declared in a scope; of an enumerator that of its enumeration

abbrev class_by : ScopeKind → Option EntityNo
class_by (scope.Class c) = Some c
class_by _ = None

abbrev class_if : Option Scope → Option EntityNo
class_if None = None
class_if (Some s) = class_by s.kind

abbrev parent_class : Tables → Option ScopeNo → Option EntityNo
parent_class t None = None
parent_class t (Some p) = class_if (scope_at t p)

abbrev class_of_scope : Tables → Option ScopeNo → ScopeKind → Option EntityNo
class_of_scope t parent (scope.Class c) = Some c
class_of_scope t parent (scope.Enumeration e) = parent_class t parent
class_of_scope t parent _ = None

abbrev class_around : Tables → Option Scope → Option EntityNo
class_around t None = None
class_around t (Some s) = class_of_scope t s.parent s.kind

-- the scope of the global namespace, which is the first entity

abbrev global_by : EntityKind → ScopeNo
global_by (kind.Namespace n) = n.scope
global_by _ = record { 0 = 0 }

abbrev global_scope : Option Entity → ScopeNo
global_scope None = record { 0 = 0 }
global_scope (Some e) = global_by e.kind

abbrev has_bases : Option ClassText → Bool
has_bases None = false
has_bases (Some text) = text.has_bases

-- Of the names of the library those of types, from `info` to `member_offset`: these have no member that is found. The others are functions, a template, and
-- names of whole numbers.
abbrev is_library_type : Name → Bool
is_library_type name = not (nat_lt name.0 INFO.0) && nat_lt name.0 SIZE_T.0

-- the refusal of what reads a refused piece
abbrev of_read : Place → ℕ → Refusal
of_read place j = refusal.of_read (record { 0 = j }) place

module _ {Q R : Type 0} (place : Place) where
  abbrev stops : {A : Type 0} → Code → ReadTree Q R OutcomeParts Refusal A
  stops code = Stops (refusal.whole code place)

  abbrev or_else : Option Hit → ReadTree Q R OutcomeParts Refusal (Option Hit) → ReadTree Q R OutcomeParts Refusal (Option Hit)
  or_else None t = t
  or_else (Some h) t = Goes (Some h)

  -- The bases of a class, each with its own bases before the next one.
  abbrev in_bases : (Option EntityNo → ReadTree Q R OutcomeParts Refusal (Option Hit)) → EntityNo → List Base → ReadTree Q R OutcomeParts Refusal (Option Hit)
  in_bases f d [] = Goes None
  in_bases f d (b ∷ bs) = and_then (f (base_entity (class_of_base b))) (λ h. or_else (over_base d b h) (in_bases f d bs))

  abbrev in_base_at : (Option EntityNo → ReadTree Q R OutcomeParts Refusal (Option Hit)) → Tables → ℕ → Name → EntityNo → ClassAt → ReadTree Q R OutcomeParts Refusal (Option Hit)
  in_base_at f t k name c (Injected block class) = Goes (described_from c name 0 (out-Class class).members)
  in_base_at f t k name c (Text closing class) = or_else (inherited_if t (in_text t k name (text_of t c))) (in_bases f c (bases_in class))
  in_base_at f t k name c Incomplete = Goes (inherited_if t (in_text t k name (text_of t c)))

  -- A base is taken as it stands at the point. No class lies deeper than there are entities.
  abbrev in_base : ℕ → Tables → ℕ → Name → Option EntityNo → ReadTree Q R OutcomeParts Refusal (Option Hit)
  in_base n t k name None = Goes None
  in_base zero t k name (Some c) = Goes None
  in_base (suc n) t k name (Some c) = and_then (class_at (of_read place) t k c) (in_base_at (in_base n t k name) t k name c)

  abbrev in_bases_of : Tables → ℕ → Name → EntityNo → Option Class → ReadTree Q R OutcomeParts Refusal (Option Hit)
  in_bases_of t k name d class = in_bases (in_base (length t.entities) t k name) d (bases_in class)

  -- In a class that is named: its members, whatever they are, and then those of its bases.
  abbrev in_class_at : Tables → ℕ → Name → EntityNo → ClassAt → ReadTree Q R OutcomeParts Refusal (Option Hit)
  in_class_at t k name c (Injected block class) = Goes (described_from c name 0 (out-Class class).members)
  in_class_at t k name c (Text closing class) =
      or_else (declared_if (in_text t k name (text_of t c))) (in_bases_of t k name c class)
  in_class_at t k name c Incomplete = Goes (declared_if (in_text t k name (text_of t c)))

  abbrev in_class : Tables → ℕ → Name → EntityNo → ReadTree Q R OutcomeParts Refusal (Option Hit)
  in_class t k name c = and_then (class_at (of_read place) t k c) (in_class_at t k name c)

  -- Outwards through the scopes. A class that has the name is read; a class with bases is read for these; any other is passed.

  abbrev bases_through : Tables → ℕ → Name → EntityNo → Bool → ReadTree Q R OutcomeParts Refusal (Option Hit)
  bases_through t k name c false = Goes None
  bases_through t k name c true =
      and_then (class_at (of_read place) t k c) (λ at. in_bases_of t k name c (class_in at))

  abbrev through_class : Tables → ℕ → Name → EntityNo → Option EntityNo → ReadTree Q R OutcomeParts Refusal (Option Hit)
  through_class t k name c (Some e) = and_then (class_at (of_read place) t k c) (λ at. Goes (Some (hit (Entity_ e))))
  through_class t k name c None = bases_through t k name c (has_bases (text_of t c))

  -- A parameter, a variable or an alias of a body that comes before a piece within it is of another kind there.
  abbrev unless_local : Bool → Option EntityNo → ReadTree Q R OutcomeParts Refusal (Option Hit)
  unless_local b (Some e) = Goes (Some (hit (Entity_ e)))
  unless_local true None = stops N3
  unless_local false None = Goes None

  abbrev through : Tables → ℕ → Name → ScopeNo → Scope → List Around → ScopeKind → ReadTree Q R OutcomeParts Refusal (Option Hit)
  through t k name s here rest (scope.Class c) = through_class t k name c (declared_in t k s name)
  through t k name s here rest _ = unless_local (is_local t k name here rest) (declared_in t k s name)

  abbrev or_hit : Option Hit → ReadTree Q R OutcomeParts Refusal Hit → ReadTree Q R OutcomeParts Refusal Hit
  or_hit None t = t
  or_hit (Some h) t = Goes h

  abbrev outwards : Tables → ℕ → Name → List Around → ReadTree Q R OutcomeParts Refusal Hit
  outwards t k name [] = stops N1
  outwards t k name (a ∷ rest) = and_then (through t k name a.number a.scope (a ∷ rest) a.scope.kind) (λ h. or_hit h (outwards t k name rest))

  abbrev hit_or : Code → Option Hit → ReadTree Q R OutcomeParts Refusal Hit
  hit_or code None = stops code
  hit_or code (Some h) = Goes h

  abbrev inside : Tables → ℕ → Name → Inside → ReadTree Q R OutcomeParts Refusal Hit
  inside t k name (InNamespace s) = hit_or N1 (declared_if (declared_in t k s name))
  inside t k name (InClass c) = and_then (in_class t k name c) (hit_or N4)
  inside t k name (InEnumeration s) = hit_or N4 (declared_if (declared_in t k s name))
  inside t k name InLibrary = stops N4

  -- What stands before `::`: a namespace, a class or an enumeration, or an alias of one. Else it is of another kind.

  abbrev by_enumeration : EntityKind → ReadTree Q R OutcomeParts Refusal Inside
  by_enumeration (kind.Enumeration x) = Goes (InEnumeration x.scope)
  by_enumeration _ = stops N3

  abbrev enumeration_inside : Option Entity → ReadTree Q R OutcomeParts Refusal Inside
  enumeration_inside None = stops N3
  enumeration_inside (Some e) = by_enumeration e.kind

  abbrev basic_inside : Tables → BasicType → ReadTree Q R OutcomeParts Refusal Inside
  basic_inside t (basic.Class c) = Goes (InClass c)
  basic_inside t (basic.Enum e underlying scoped written) = enumeration_inside (entity_at t e)
  basic_inside t basic.Info = Goes InLibrary
  basic_inside t basic.StringView = Goes InLibrary
  basic_inside t basic.AccessContext = Goes InLibrary
  basic_inside t basic.MemberOffset = Goes InLibrary
  basic_inside t basic.InfoVector = Goes InLibrary
  basic_inside t _ = stops N3

  abbrev type_inside : Tables → BasicType → List Layer → ReadTree Q R OutcomeParts Refusal Inside
  type_inside t b [] = basic_inside t b
  type_inside t b (l ∷ ls) = stops N3

  abbrev by_namespace : EntityKind → ReadTree Q R OutcomeParts Refusal Inside
  by_namespace (kind.Namespace n) = Goes (InNamespace n.scope)
  by_namespace _ = stops N3

  abbrev namespace_inside : Option Entity → ReadTree Q R OutcomeParts Refusal Inside
  namespace_inside None = stops N3
  namespace_inside (Some e) = by_namespace e.kind

  abbrev alias_inside : Tables → Declared → ReadTree Q R OutcomeParts Refusal Inside
  alias_inside t (declared.Alias of) = type_inside t of.basic of.layers
  alias_inside t (declared.NamespaceAlias n) = namespace_inside (entity_at t n)
  alias_inside t _ = stops N3

  abbrev alias_read : Tables → ℕ → OutcomeParts → ReadTree Q R OutcomeParts Refusal Inside
  alias_read t j o = if is_refused o then Stops (of_read place j) else alias_inside t o.declared

  abbrev alias_at : Tables → Option PieceNo → ReadTree Q R OutcomeParts Refusal Inside
  alias_at t None = stops N3
  alias_at t (Some j) = Reads j.0 (alias_read t j.0)

  abbrev library_inside : Bool → ReadTree Q R OutcomeParts Refusal Inside
  library_inside true = Goes InLibrary
  library_inside false = stops N3

  abbrev kind_inside : Tables → EntityNo → Entity → EntityKind → ReadTree Q R OutcomeParts Refusal Inside
  kind_inside t n e (kind.Namespace x) = Goes (InNamespace x.scope)
  kind_inside t n e kind.NamespaceAlias = alias_at t e.first
  kind_inside t n e kind.Alias = alias_at t e.first
  kind_inside t n e (kind.Class x) = Goes (InClass n)
  kind_inside t n e (kind.Enumeration x) = Goes (InEnumeration x.scope)
  kind_inside t n e kind.Library = library_inside (is_library_type e.name)
  kind_inside t n e _ = stops N3

  abbrev entity_inside : Tables → EntityNo → Option Entity → ReadTree Q R OutcomeParts Refusal Inside
  entity_inside t n None = stops N3
  entity_inside t n (Some e) = kind_inside t n e e.kind

  abbrev match_inside : Tables → Match → ReadTree Q R OutcomeParts Refusal Inside
  match_inside t (Entity_ n) = entity_inside t n (entity_at t n)
  match_inside t (Described c i) = stops N3

  -- Access: of the member, and of each base on the way.

  abbrev unless_denied : Bool → ReadTree Q R OutcomeParts Refusal Bool → ReadTree Q R OutcomeParts Refusal Bool
  unless_denied false t = Goes false
  unless_denied true t = t

  abbrev member_allowed : Tables → ℕ → ScopeNo → Entity → Option EntityNo → ReadTree Q R OutcomeParts Refusal Bool
  member_allowed t k from e None = Goes true
  member_allowed t k from e (Some c) = allowed (of_read place) t k from c e.access

  abbrev entity_allowed : Tables → ℕ → ScopeNo → Option Entity → ReadTree Q R OutcomeParts Refusal Bool
  entity_allowed t k from None = Goes true
  entity_allowed t k from (Some e) = member_allowed t k from e (class_around t (scope_at t e.scope))

  abbrev match_allowed : Tables → ℕ → ScopeNo → Match → ReadTree Q R OutcomeParts Refusal Bool
  match_allowed t k from (Entity_ n) = entity_allowed t k from (entity_at t n)
  match_allowed t k from (Described c i) = Goes true

  abbrev way_allowed : Tables → ℕ → ScopeNo → List Way → ReadTree Q R OutcomeParts Refusal Bool
  way_allowed t k from [] = Goes true
  way_allowed t k from (w ∷ ws) = and_then (allowed (of_read place) t k from w.derived w.access) (λ b. unless_denied b (way_allowed t k from ws))

  abbrev hit_allowed : Tables → ℕ → ScopeNo → Hit → ReadTree Q R OutcomeParts Refusal Bool
  hit_allowed t k from h = and_then (match_allowed t k from h.what) (λ b. unless_denied b (way_allowed t k from h.way))

  abbrev unless_guarded : {A : Type 0} → A → Bool → ReadTree Q R OutcomeParts Refusal A
  unless_guarded a true = Goes a
  unless_guarded a false = stops N5

  abbrev guarded : {A : Type 0} → Tables → ℕ → ScopeNo → Hit → A → ReadTree Q R OutcomeParts Refusal A
  guarded t k from h a = and_then (hit_allowed t k from h) (unless_guarded a)

  -- Part by part. Of one part, it is not found, then it is of another kind than has to stand before `::`, then it is not accessible.
  abbrev parts : Tables → ℕ → ScopeNo → Hit → List Identifier → ReadTree Q R OutcomeParts Refusal Match
  parts t k from h [] = guarded t k from h h.what
  parts t k from h (next ∷ more) =
      and_then (match_inside t h.what) (λ i. and_then (guarded t k from h i) (λ i. and_then (inside t k next.name i) (λ h. parts t k from h more)))

  abbrev first_part : Tables → ℕ → ScopeNo → Bool → Name → ReadTree Q R OutcomeParts Refusal Hit
  first_part t k from true name = inside t k name (InNamespace (global_scope (slice_get t.entities 0)))
  first_part t k from false name = outwards t k name (around t from)

  abbrev parts_of : Tables → ℕ → ScopeNo → NameTree → ReadTree Q R OutcomeParts Refusal Match
  parts_of t k from name = and_then (first_part t k from name.rooted name.first.name) (λ h. parts t k from h name.more)

-- What a name in a scope finds at the point k, or the first of N1, N3, N4, N5, or R1 where a piece that it reads is refused.
abbrev pub found : {Q R : Type 0} → Tables → ℕ → ScopeNo → NameTree → ReadTree Q R OutcomeParts Refusal Match
found t k from name = parts_of name.span.place t k from name

-- Who may name a member or a base ([class.access]). [class.protected] asks more of the object, which is no rule here.
use Rattle.std.specs.Prelude.{ℕ, zero, suc, ◌-◌, Bool, true, false, ◌&&◌, if◌then◌else◌, nat_eq, nat_lt, List, [], ◌∷◌, length, Option, None, Some, slice_get}
use Rattle.std.specs.List.{filter}
use Rattle.cxx_base.specs.declared.number.EntityNo.{EntityNo}
use Rattle.cxx_base.specs.declared.number.ScopeNo.{ScopeNo}
use Rattle.core_words.specs.declared.access.AccessLevel.{AccessLevel}
use Rattle.core_words.specs.declared.access.AccessLevel.TheVariants as level
use Rattle.core_outcome.specs.declared.outcome.OutcomeParts.{OutcomeParts}
use Rattle.core_shape.specs.declared.class.Base.{Base, out-Base}
use Rattle.core_shape.specs.declared.class.Class.{Class, out-Class}
use Rattle.program_tables.specs.declared.entity.ClassText.{ClassText}
use Rattle.program_tables.specs.declared.entity.Entity.{Entity}
use Rattle.program_tables.specs.declared.entity.EntityKind.{EntityKind}
use Rattle.program_tables.specs.declared.entity.EntityKind.TheVariants as kind
use Rattle.program_tables.specs.declared.scope.ScopeKind.{ScopeKind}
use Rattle.program_tables.specs.declared.scope.ScopeKind.TheVariants as scope
use Rattle.read_trees.specs.Trees.{ReadTree, Goes, and_then}
use Rattle.read_trees.specs.Loops.{first}
use Rattle.core_lookup.specs.Tables.{Tables, text_of, is_declared}
use Rattle.core_lookup.specs.Scopes.{Around, around, is_within}
use Rattle.core_lookup.specs.Classes.{ClassAt, Text, Injected, Incomplete, class_at, class_in, derives}

abbrev has_bases : Option ClassText → Bool
has_bases None = false
has_bases (Some text) = text.has_bases

-- the classes around that have bases, innermost first
abbrev put_derived : Bool → EntityNo → List EntityNo → List EntityNo
put_derived true d more = d ∷ more
put_derived false d more = more

abbrev derived_by : Tables → ScopeKind → List EntityNo → List EntityNo
derived_by t (scope.Class d) more = put_derived (has_bases (text_of t d)) d more
derived_by t _ more = more

abbrev derived_around : Tables → List Around → List EntityNo
derived_around t [] = []
derived_around t (a ∷ rest) = derived_by t a.scope.kind (derived_around t rest)

abbrev found_if : Bool → Option Bool
found_if true = Some true
found_if false = None

abbrev is_found : Option Bool → Bool
is_found None = false
is_found (Some b) = b

-- A class whose name was taken by another kind is a refused declaration, and no member. (Constructors and destructors, which no lookup finds either, are members.)
abbrev is_counted : Bool → EntityKind → Bool
is_counted known (kind.Class c) = known
is_counted known _ = true

-- The members that a definition declares before the point, in order of their first declarations.
abbrev is_member : ℕ → ScopeNo → Entity → Bool
is_member k s e = if nat_eq e.scope.0 s.0 && is_counted e.is_found e.kind then is_declared k e else false

abbrev members_in : Tables → ℕ → Option ClassText → List Entity
members_in t k None = []
members_in t k (Some text) = filter (is_member k text.scope) t.entities

abbrev bases_in : Option Class → List Base
bases_in None = []
bases_in (Some c) = (out-Class c).bases

module _ {Q R E : Type 0} (refused : ℕ → E) where
  -- whether a class around has c as a base at the point
  abbrev derives_at : Tables → ℕ → EntityNo → EntityNo → ReadTree Q R OutcomeParts E (Option Bool)
  derives_at t k c d = and_then (class_at refused t k d) (λ at. Goes (found_if (derives (length t.entities) c (class_in at))))

  abbrev by_derived : Tables → ℕ → EntityNo → List Around → ReadTree Q R OutcomeParts E Bool
  by_derived t k c from = and_then (first (derives_at t k c) (derived_around t from)) (λ found. Goes (is_found found))

  -- Whether a member or a base of c with this access may be named from a scope: a public one everywhere; a private one in the scope of c; a protected
  -- one also in the scope of a class that has c as a base. Only for a protected one the classes around with bases are read, innermost first.
  abbrev pub allowed : Tables → ℕ → ScopeNo → EntityNo → AccessLevel → ReadTree Q R OutcomeParts E Bool
  allowed t k from c level.Public = Goes true
  allowed t k from c level.Private = Goes (is_within c (around t from))
  allowed t k from c level.Protected = if is_within c (around t from) then Goes true else by_derived t k c (around t from)

  abbrev member_allowed : Tables → ℕ → ScopeNo → EntityNo → Option Entity → ReadTree Q R OutcomeParts E Bool
  member_allowed t k from c None = Goes false
  member_allowed t k from c (Some e) = allowed t k from c e.access

  -- bases first, then members
  abbrev part_allowed : Tables → ℕ → ScopeNo → EntityNo → ℕ → List Base → ReadTree Q R OutcomeParts E Bool
  part_allowed t k from c i [] = member_allowed t k from c (slice_get (members_in t k (text_of t c)) i)
  part_allowed t k from c zero (b ∷ bs) = allowed t k from c (out-Base b).access
  part_allowed t k from c (suc i) (b ∷ bs) = part_allowed t k from c i bs

  abbrev of_class : Tables → ℕ → ScopeNo → EntityNo → ℕ → ClassAt → ReadTree Q R OutcomeParts E Bool
  of_class t k from c i (Injected block class) = Goes (nat_lt i (length (out-Class class).members))
  of_class t k from c i (Text closing class) = part_allowed t k from c i (bases_in class)
  of_class t k from c i Incomplete = part_allowed t k from c i []

  -- Whether the base or member of this place is accessible, this one alone: the places count the bases in order and then the members that the class
  -- declares, of an injected class the members that were described, which are all public. Beyond these there is none.
  abbrev pub accessible : Tables → ℕ → ScopeNo → EntityNo → ℕ → ReadTree Q R OutcomeParts E Bool
  accessible t k from c i = and_then (class_at refused t k c) (of_class t k from c i)

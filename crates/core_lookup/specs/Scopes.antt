-- Scopes around scopes, what each declares, and which blocks reach which classes ([basic.scope], P3289R1).
use Rattle.std.specs.Prelude.{ℕ, zero, suc, ◌-◌, Bool, true, false, ◌&&◌, ◌||◌, not, if◌then◌else◌, nat_eq, nat_lt, List, [], ◌∷◌, Option, None, Some, slice_get}
use Rattle.cxx_base.specs.declared.name.Name.{Name}
use Rattle.cxx_base.specs.declared.number.EntityNo.{EntityNo}
use Rattle.cxx_base.specs.declared.number.PieceNo.{PieceNo}
use Rattle.cxx_base.specs.declared.number.ScopeNo.{ScopeNo}
use Rattle.program_tables.specs.declared.entity.Entity.{Entity}
use Rattle.program_tables.specs.declared.entity.EntityKind.{EntityKind}
use Rattle.program_tables.specs.declared.entity.EntityKind.TheVariants as kind
use Rattle.program_tables.specs.declared.piece.Piece.{Piece}
use Rattle.program_tables.specs.declared.piece.PieceKind.{PieceKind}
use Rattle.program_tables.specs.declared.piece.PieceKind.TheVariants as piece
use Rattle.program_tables.specs.declared.scope.Scope.{Scope}
use Rattle.program_tables.specs.declared.scope.ScopeKind.{ScopeKind}
use Rattle.program_tables.specs.declared.scope.ScopeKind.TheVariants as scope
use Rattle.program_tables.specs.declared.scope.LocalName.{LocalName}
use Rattle.program_tables.specs.declared.scope.PieceScope.{PieceScope}
use Rattle.core_lookup.specs.Tables.{Tables, entity_at, scope_at, is_declared}

-- a scope with its number
pub record Around : Type 0 where
  pub number : ScopeNo
  pub scope : Scope

-- A scope and those around it, innermost first. Each stands behind that around it, so there are no more than its number says.
abbrev put_around : ScopeNo → (Option ScopeNo → List Around) → Option Scope → List Around
put_around s more None = []
put_around s more (Some found) = record { number = s; scope = found } ∷ more found.parent

abbrev around_from : Tables → ℕ → Option ScopeNo → List Around
around_from t n None = []
around_from t zero (Some s) = []
around_from t (suc n) (Some s) = put_around s (around_from t n) (scope_at t s)

abbrev pub around : Tables → ScopeNo → List Around
around t s = around_from t (suc s.0) (Some s)

-- What a scope declares

-- The enumeration of an enumerator that is found in the scope around it, too.
abbrev is_unscoped_in : ScopeNo → EntityKind → ScopeNo → Bool
is_unscoped_in s (kind.Enumeration e) of = not e.is_scoped && nat_eq of.0 s.0
is_unscoped_in s _ of = false

abbrev is_unscoped_if : ScopeNo → Option Entity → Bool
is_unscoped_if s None = false
is_unscoped_if s (Some e) = is_unscoped_in s e.kind e.scope

abbrev through : Tables → ScopeNo → EntityKind → Bool
through t s (kind.Enumerator enumeration place) = is_unscoped_if s (entity_at t enumeration)
through t s _ = false

-- whether it is found in the scope: declared there, or an enumerator of an unscoped enumeration that is
abbrev pub is_in : Tables → ScopeNo → Entity → Bool
is_in t s e = nat_eq e.scope.0 s.0 || through t s e.kind

abbrev is_named : Tables → ℕ → ScopeNo → Name → Entity → Bool
is_named t k s name e = e.is_found && nat_eq e.name.0 name.0 && is_in t s e && is_declared k e

abbrev first_from : (Entity → Bool) → ℕ → List Entity → Option EntityNo
first_from f n [] = None
first_from f n (e ∷ es) = if f e then Some (record { 0 = n }) else first_from f (suc n) es

-- the entity that a scope declares under a name before a point
abbrev pub declared_in : Tables → ℕ → ScopeNo → Name → Option EntityNo
declared_in t k s name = first_from (is_named t k s name) 0 t.entities

-- The names of bodies

-- how many pieces the body of a piece encloses
abbrev inner_of : PieceKind → ℕ
inner_of (piece.Body signature inner) = inner
inner_of _ = 0

abbrev inner_if : Option Piece → ℕ
inner_if None = 0
inner_if (Some p) = inner_of p.kind

-- which of the pieces in a body the piece k is, from 0
abbrev index_in : Tables → ℕ → PieceNo → ℕ
index_in t k body = k - (body.0 - inner_if (slice_get t.pieces body.0))

-- the body around, by the scopes from here on
abbrev body_by : ScopeKind → Option PieceNo → Option PieceNo
body_by (scope.Parameters function body) rest = Some body
body_by _ rest = rest

abbrev pub body_around : List Around → Option PieceNo
body_around [] = None
body_around (a ∷ rest) = body_by a.scope.kind (body_around rest)

-- Whether one of these names of a body comes before a piece within it.
abbrev is_before : Name → ℕ → List LocalName → Bool
is_before name i [] = false
is_before name i (l ∷ ls) = (nat_eq l.name.0 name.0 && not (nat_lt i l.inner_before)) || is_before name i ls

abbrev is_hidden_if : Tables → ℕ → Name → List LocalName → Option PieceNo → Bool
is_hidden_if t k name locals None = false
is_hidden_if t k name locals (Some body) = is_before name (index_in t k body) locals

-- whether a scope and those around it begin with a parameter, a variable or an alias of a body under this name, before the piece k in the body
abbrev pub is_local : Tables → ℕ → Name → Scope → List Around → Bool
is_local t k name s here = is_hidden_if t k name s.locals (body_around here)

-- Reach

-- a class or the parameters of a function: no block within reaches a class without, nor the other way round
abbrev is_wall : ScopeKind → Bool
is_wall (scope.Class c) = true
is_wall (scope.Parameters f p) = true
is_wall _ = false

abbrev pub walls : List Around → List ℕ
walls [] = []
walls (a ∷ rest) = if is_wall a.scope.kind then a.number.0 ∷ walls rest else walls rest

abbrev pub is_class : EntityNo → ScopeKind → Bool
is_class c (scope.Class d) = nat_eq c.0 d.0
is_class c _ = false

-- whether these scopes have a definition of the class among them
abbrev pub is_within : EntityNo → List Around → Bool
is_within c [] = false
is_within c (a ∷ rest) = is_class c a.scope.kind || is_within c rest

abbrev same_numbers : List ℕ → List ℕ → Bool
same_numbers [] [] = true
same_numbers (x ∷ xs) (y ∷ ys) = nat_eq x y && same_numbers xs ys
same_numbers _ _ = false

-- Whether a block in one scope reaches a class that is first declared in another: it does not stand in the class, and the same classes and functions
-- enclose both.
abbrev pub reaches : Tables → ScopeNo → ScopeNo → EntityNo → Bool
reaches t block declared c = not (is_within c (around t block)) && same_numbers (walls (around t block)) (walls (around t declared))

abbrev is_reaching : Tables → ScopeNo → EntityNo → PieceScope → Bool
is_reaching t declared c p = p.is_block && reaches t p.scope declared c

-- the blocks among pieces, the first of which has this number, that stand strictly between two and reach a class
abbrev blocks_from : Tables → ScopeNo → EntityNo → ℕ → ℕ → ℕ → List PieceScope → List ℕ
blocks_from t declared c after before n [] = []
blocks_from t declared c after before n (p ∷ ps) =
    if nat_lt after n && nat_lt n before && is_reaching t declared c p
    then n ∷ blocks_from t declared c after before (suc n) ps
    else blocks_from t declared c after before (suc n) ps

abbrev pub blocks_between : Tables → ScopeNo → EntityNo → ℕ → ℕ → List ℕ
blocks_between t declared c after before = blocks_from t declared c after before 0 t.standing

-- The definitions of lookup, computed.
use denote.Hole.Carrier.{out, roll}
use Rattle.std.specs.Prelude.{◌≡◌, refl, ℕ, zero, suc, Bool, true, false, [], ◌∷◌, Option, None, Some, Result, Ok, Err}
use Rattle.cxx_base.specs.Refusals as refusal
use Rattle.cxx_base.specs.declared.code.Code.TheVariants.{N1, N3, N4, N5, V1}
use Rattle.cxx_base.specs.declared.name.Name.{Name}
use Rattle.cxx_base.specs.declared.number.EntityNo.{EntityNo}
use Rattle.cxx_base.specs.declared.number.PieceNo.{PieceNo}
use Rattle.cxx_base.specs.declared.number.ScopeNo.{ScopeNo}
use Rattle.cxx_base.specs.declared.place.Place.{Place}
use Rattle.cxx_base.specs.declared.place.Span.{Span}
use Rattle.core_words.specs.declared.access.AccessLevel.TheVariants.{Public, Private}
use Rattle.core_outcome.specs.declared.declared.Declared.TheVariants as declared
use Rattle.core_shape.specs.declared.class.Class.{Class, out-Class, roll-Class}
use Rattle.core_shape.specs.declared.class.CompletedBy.TheVariants.{Injection}
use Rattle.core_shape.specs.declared.class.Member.{Member, roll-Member}
use Rattle.core_shape.specs.declared.shape.Shape.{Shape, roll-Shape}
use Rattle.cxx_base.specs.declared.operator.IntKind.TheVariants.{Int}
use Rattle.cxx_type.specs.declared.basic.BasicType.TheVariants as basic
use Rattle.core_outcome.specs.declared.outcome.OutcomeParts.{OutcomeParts}
use Rattle.cxx_tree.specs.declared.identifier.Identifier.{Identifier}
use Rattle.cxx_tree.specs.declared.identifier.NameTree.{NameTree}
use Rattle.program_tables.specs.declared.entity.Entity.{Entity}
use Rattle.program_tables.specs.declared.entity.EntityKind.{EntityKind}
use Rattle.program_tables.specs.declared.entity.EntityKind.TheVariants as kind
use Rattle.program_tables.specs.declared.entity.ClassText.{ClassText}
use Rattle.core_words.specs.declared.constexpr_kind.ConstexprKind.TheVariants.{Constexpr}
use Rattle.program_tables.specs.declared.piece.DeclaredTwice.TheVariants.{No}
use Rattle.program_tables.specs.declared.piece.Piece.{Piece}
use Rattle.program_tables.specs.declared.piece.PieceKind.{PieceKind}
use Rattle.program_tables.specs.declared.piece.PieceKind.TheVariants as of
use Rattle.program_tables.specs.declared.scope.LocalKind.TheVariants as local
use Rattle.program_tables.specs.declared.scope.ScopeKind.TheVariants as scope
use Rattle.program_tables.specs.declared.scope.PieceScope.{PieceScope}
use Rattle.read_trees.specs.Trees.{ReadTree, Goes, Stops, Pays, Reads, Asks}
use Rattle.read_trees.specs.Walks.{Facts}
use Rattle.read_trees.specs.Runs.{Came, Ended, Lacks, later, by_fact}
use Rattle.core_lookup.specs.Tables.{Tables}
use Rattle.core_lookup.specs.Classes.{Injected, Incomplete, class_at}
use Rattle.core_lookup.specs.Found.{Entity_, found}
use Rattle.core_lookup.specs.Access.{accessible}

-- what a tree comes to, with its refusal
abbrev come : {O E A : Type 0} → Facts O → ReadTree ⊥ ⊥ O E A → Came (Result A E)
come F (Goes a) = Ended (Ok a) 0
come F (Stops e) = Ended (Err e) 0
come F (Pays t) = later 1 (come F t)
come F (Reads j g) = by_fact (Lacks j 0) (F j) (λ o. come F (g o))
come F (Asks q g) = absurd q

abbrev entity : ℕ → EntityNo
entity n = record { 0 = n }

abbrev piece : ℕ → PieceNo
piece n = record { 0 = n }

abbrev the_scope : ℕ → ScopeNo
the_scope n = record { 0 = n }

abbrev name : ℕ → Name
name n = record { 0 = n }

abbrev an_entity : ℕ → EntityKind → Option PieceNo → Entity
an_entity n of first = record { name = name n; kind = of; scope = the_scope 0; is_found = true; access = Public; first = first; further = []; next = None }

abbrev global : Entity
global = an_entity 0 (kind.Namespace (record { scope = the_scope 0; first = None })) None

-- `struct P;`, and its definition, whose opening is piece 2 and whose closing is piece 3, where it has one
abbrev class_p : Option ClassText → Entity
class_p text = an_entity 100 (kind.Class (record { text = text; constructor = None; destructor = None })) (Some (piece 0))

abbrev a_text : ClassText
a_text = record { opening = piece 2; closing = piece 3; scope = the_scope 1; has_bases = false; first = None }

abbrev standing : Bool → PieceScope
standing is_block = record { scope = the_scope 0; is_block = is_block }

-- piece 0 declares P, piece 1 is a block, and then come others
abbrev program : Option ClassText → Tables
program text = record {
  entities = global ∷ class_p text ∷ [];
  scopes = record { kind = scope.Namespace (entity 0); parent = None; locals = [] } ∷ [];
  pieces = [];
  standing = standing false ∷ standing true ∷ standing false ∷ standing false ∷ standing false ∷ [];
}

abbrev start : Place
start = record { line = 1; column = 1 }

abbrev nothing_known : Facts OutcomeParts
nothing_known j = None

abbrev refused : OutcomeParts
refused = record { declared = declared.Refused; completions = []; refusal = Some (refusal.whole V1 start); steps = 0 }

abbrev block_done : OutcomeParts
block_done = record { declared = declared.Block; completions = []; refusal = None; steps = 0 }

-- P with one member of the name 101, as piece 1 completes it
abbrev int : Shape
int = roll-Shape (record { of = record { basic = basic.Int Int; is_const = false; layers = [] }; class = None; scalars = 1; leaves = 1 })

abbrev described : Member
described = roll-Member (record {
  name = name 101;
  entity = None;
  access = Public;
  align = 4;
  default_init = None;
  shape = int;
  at = record { offset = 0; scalar = 0; leaf = 0; before = record { missing = 0; consteval = 0; guarded = 0; end_guarded = 0 } };
})

abbrev completed_class : Class
completed_class = roll-Class (record {
  head = record {
    entity = entity 1;
    by = Injection (piece 1);
    layout = record { size = 4; align = 4 };
    scalars = 1;
    leaves = 1;
    special = record { has_constructor = false; default_constructor = None; destructor = None; is_destroyed = false; is_aggregate = true; is_consteval_only = false };
    making = record { is_missing = false; is_consteval = false; is_guarded = false; is_end_guarded = false };
  };
  bases = [];
  members = described ∷ [];
  by_name = 0 ∷ [];
  deepest = None;
  depth = 0;
})

abbrev completing : OutcomeParts
completing = record { declared = declared.Block; completions = record { class = completed_class } ∷ []; refusal = None; steps = 0 }

-- the same, refused at its end
abbrev refused_block : OutcomeParts
refused_block = record completing { refusal = Some (refusal.whole V1 start) }

abbrev only : ℕ → OutcomeParts → Facts OutcomeParts
only zero o zero = Some o
only zero o (suc j) = None
only (suc i) o zero = None
only (suc i) o (suc j) = only i o j

-- Classes at a point

the_block_is_read : come nothing_known (class_at (λ j. j) (program None) 2 (entity 1)) ≡ Lacks 1 0
the_block_is_read = refl

a_later_block_is_not_read : come nothing_known (class_at (λ j. j) (program None) 1 (entity 1)) ≡ Ended (Ok Incomplete) 0
a_later_block_is_not_read = refl

a_refused_block_completes_nothing : come (only 1 refused_block) (class_at (λ j. j) (program None) 2 (entity 1)) ≡ Ended (Ok Incomplete) 0
a_refused_block_completes_nothing = refl

a_block_may_complete_nothing : come (only 1 block_done) (class_at (λ j. j) (program None) 2 (entity 1)) ≡ Ended (Ok Incomplete) 0
a_block_may_complete_nothing = refl

a_block_completes_it : come (only 1 completing) (class_at (λ j. j) (program None) 2 (entity 1)) ≡ Ended (Ok (Injected (piece 1) completed_class)) 0
unfolding out-Class roll-Class out roll
a_block_completes_it = refl

it_was_not_complete_before : come (only 1 completing) (class_at (λ j. j) (program None) 1 (entity 1)) ≡ Ended (Ok Incomplete) 0
it_was_not_complete_before = refl

the_text_comes_first : come nothing_known (class_at (λ j. j) (program (Some a_text)) 4 (entity 1)) ≡ Lacks 3 0
the_text_comes_first = refl

a_refused_closing_is_a_refusal : come (only 3 refused) (class_at (λ j. j) (program (Some a_text)) 4 (entity 1)) ≡ Ended (Err 3) 0
a_refused_closing_is_a_refusal = refl

before_its_closing_the_block_is_read : come nothing_known (class_at (λ j. j) (program (Some a_text)) 3 (entity 1)) ≡ Lacks 1 0
before_its_closing_the_block_is_read = refl

-- Names

abbrev span : Span
span = record { place = start; first = 0; end = 1 }

abbrev part : ℕ → Identifier
part n = record { span = span; name = name n }

abbrev plain : ℕ → NameTree
plain n = record { span = span; rooted = false; first = part n; more = [] }

abbrev within : ℕ → ℕ → NameTree
within n m = record { span = span; rooted = false; first = part n; more = part m ∷ [] }

finds_the_class : come nothing_known (found (program None) 1 (the_scope 0) (plain 100)) ≡ Ended (Ok (Entity_ (entity 1))) 0
finds_the_class = refl

finds_it_in_its_own_piece : come nothing_known (found (program None) 0 (the_scope 0) (plain 100)) ≡ Ended (Ok (Entity_ (entity 1))) 0
finds_it_in_its_own_piece = refl

finds_no_other_name : come nothing_known (found (program None) 1 (the_scope 0) (plain 101)) ≡ Ended (Err (refusal.whole N1 start)) 0
finds_no_other_name = refl

a_class_has_no_such_member : come (only 1 block_done) (found (program None) 2 (the_scope 0) (within 100 101)) ≡ Ended (Err (refusal.whole N4 start)) 0
a_class_has_no_such_member = refl

a_member_waits_for_the_block : come nothing_known (found (program None) 2 (the_scope 0) (within 100 101)) ≡ Lacks 1 0
a_member_waits_for_the_block = refl

-- `int f() { int n; consteval { n } }`: the signature is piece 0, the block piece 1, the body piece 2. The name stands before the block or behind it.
abbrev a_piece : PieceKind → Piece
a_piece k = record { kind = k; entity = None; twice = No; way = record { first = 0; count = 0 }; literals = 0 }

abbrev body_with : ℕ → Tables
body_with inner_before = record {
  entities = global ∷ [];
  scopes =
      record { kind = scope.Namespace (entity 0); parent = None; locals = [] } ∷
      record { kind = scope.Parameters (entity 1) (piece 2); parent = Some (the_scope 0); locals = [] } ∷
      record { kind = scope.Statements; parent = Some (the_scope 1); locals = record { name = name 200; kind = local.Variable; inner_before = inner_before } ∷ [] } ∷ [];
  pieces = a_piece of.Signature ∷ a_piece of.Block ∷ a_piece (of.Body (piece 0) 1) ∷ [];
  standing = standing false ∷ record { scope = the_scope 2; is_block = true } ∷ standing false ∷ [];
}

a_local_before_is_of_another_kind : come nothing_known (found (body_with 0) 1 (the_scope 2) (plain 200)) ≡ Ended (Err (refusal.whole N3 start)) 0
a_local_before_is_of_another_kind = refl

a_local_behind_is_not_there : come nothing_known (found (body_with 1) 1 (the_scope 2) (plain 200)) ≡ Ended (Err (refusal.whole N1 start)) 0
a_local_behind_is_not_there = refl

-- Access

-- a class whose closing is piece 3, with a private static data member
abbrev member : Entity
member = record {
  name = name 101;
  kind = kind.Variable (record { is_static = true; evaluated = Constexpr; place = 0; default_init = None });
  scope = the_scope 1;
  is_found = true;
  access = Private;
  first = Some (piece 2);
  further = [];
  next = None;
}

abbrev class_with_member : Tables
class_with_member = record {
  entities = global ∷ class_p (Some a_text) ∷ member ∷ [];
  scopes =
      record { kind = scope.Namespace (entity 0); parent = None; locals = [] } ∷
      record { kind = scope.Class (entity 1); parent = Some (the_scope 0); locals = [] } ∷ [];
  pieces = [];
  standing = standing false ∷ standing false ∷ standing false ∷ standing false ∷ standing false ∷ [];
}

a_private_member_is_not_named_from_outside : come (only 3 block_done) (found class_with_member 4 (the_scope 0) (within 100 101)) ≡ Ended (Err (refusal.whole N5 start)) 0
a_private_member_is_not_named_from_outside = refl

it_is_named_from_its_class : come (only 3 block_done) (found class_with_member 4 (the_scope 1) (plain 101)) ≡ Ended (Ok (Entity_ (entity 2))) 0
it_is_named_from_its_class = refl

a_member_of_a_refused_class_is_refused : come (only 3 refused) (found class_with_member 4 (the_scope 1) (plain 101)) ≡ Ended (Err (refusal.of_read (piece 3) start)) 0
a_member_of_a_refused_class_is_refused = refl

-- Members by their places

its_member_is_not_accessible_from_outside : come (only 3 block_done) (accessible (λ j. j) class_with_member 4 (the_scope 0) (entity 1) 0) ≡ Ended (Ok false) 0
its_member_is_not_accessible_from_outside = refl

its_member_is_accessible_within : come (only 3 block_done) (accessible (λ j. j) class_with_member 4 (the_scope 1) (entity 1) 0) ≡ Ended (Ok true) 0
its_member_is_accessible_within = refl

beyond_its_members_there_is_none : come (only 3 block_done) (accessible (λ j. j) class_with_member 4 (the_scope 1) (entity 1) 1) ≡ Ended (Ok false) 0
beyond_its_members_there_is_none = refl

-- a class before it, whose name was taken by another kind
abbrev hidden_class : Entity
hidden_class = record (class_p None) { scope = the_scope 1; is_found = false; first = Some (piece 2) }

abbrev class_with_hidden_class : Tables
class_with_hidden_class = record class_with_member { entities = global ∷ class_p (Some a_text) ∷ hidden_class ∷ member ∷ [] }

a_refused_class_is_no_member : come (only 3 block_done) (accessible (λ j. j) class_with_hidden_class 4 (the_scope 0) (entity 1) 0) ≡ Ended (Ok false) 0
a_refused_class_is_no_member = refl

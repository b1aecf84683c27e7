-- What it is that each tree of the grammar stands where it was read, and that its names are those of tokens.
use Rattle.std.specs.Prelude.{◌≡◌, ℕ, ◌<◌, ◌≤◌, Bool, List, [], ◌∷◌, length, All, Some, slice_get}
use Rattle.cxx_base.specs.Texts.{Text}
use Rattle.cxx_base.specs.declared.name.Name.{Name}
use Rattle.cxx_tokens.specs.Usable.{IsKnown}
use Rattle.cxx_tokens.specs.declared.token.Token.{Token}
use Rattle.cxx_tokens.specs.declared.token.TokenKind.TheVariants as token_kind
use Rattle.cxx_tokens.specs.declared.token.Tokens.{Tokens}
use Rattle.cxx_tree.specs.Spans.{span_of, span_of_splice, span_of_operation, span_of_type, span_of_basic, span_of_braced, span_of_designator, span_of_args, span_of_arg, span_of_suffix, span_of_init}
use Rattle.cxx_tree.specs.MoreSpans.{span_of_body, span_of_assign, span_of_value, span_of_class, span_of_based, span_of_stmt, span_of_member, span_of_member_value, span_of_decl, span_of_item}
use Rattle.cxx_tree.specs.declared.decl.BasedTree.{BasedTree}
use Rattle.cxx_tree.specs.declared.decl.ClassTree.{ClassTree}
use Rattle.cxx_tree.specs.declared.decl.Decl.{Decl}
use Rattle.cxx_tree.specs.declared.decl.Item.{Item}
use Rattle.cxx_tree.specs.declared.decl.Member.{Member}
use Rattle.cxx_tree.specs.declared.decl.MemberInitValue.{MemberInitValue}
use Rattle.cxx_tree.specs.declared.expr.ArgTree.{ArgTree}
use Rattle.cxx_tree.specs.declared.expr.ArgTrees.{ArgTrees}
use Rattle.cxx_tree.specs.declared.expr.BasicTree.{BasicTree}
use Rattle.cxx_tree.specs.declared.expr.BracedTree.{BracedTree}
use Rattle.cxx_tree.specs.declared.expr.Designator.{Designator}
use Rattle.cxx_tree.specs.declared.expr.Expr.{Expr}
use Rattle.cxx_tree.specs.declared.expr.NewInit.{NewInit}
use Rattle.cxx_tree.specs.declared.expr.Operation.{Operation}
use Rattle.cxx_tree.specs.declared.expr.SpliceTree.{SpliceTree}
use Rattle.cxx_tree.specs.declared.expr.Suffix.{Suffix}
use Rattle.cxx_tree.specs.declared.expr.TypeTree.{TypeTree}
use Rattle.cxx_tree.specs.declared.stmt.AssignTree.{AssignTree}
use Rattle.cxx_tree.specs.declared.stmt.BodyTree.{BodyTree}
use Rattle.cxx_tree.specs.declared.stmt.InitTree.{InitTree}
use Rattle.cxx_tree.specs.declared.stmt.Stmt.{Stmt}
use Rattle.tree_stands.specs.Stands.{Stands, StandsOperation, StandsSuffix, StandsNewInit, StandsName, StandsSplice, StandsType, StandsBasic, StandsArgs, StandsArg, StandsBraced, StandsDesignator, StandsInitTree, StandsLocal, StandsAssign, StandsAssert, StandsAlias, StandsNamespaceAlias, StandsEnum, StandsVariable, StandsFunction, StandsStmt, StandsBody, StandsBlock, StandsBased, StandsClass, StandsMember, StandsMemberValue, StandsDecl, StandsItem}
use Rattle.tree_stands.specs.Known.{KnownItem}
use Rattle.cxx_reading.specs.Reading.{Tree, Rule, span}
use Rattle.cxx_grammar.specs.declared.within.Within.{Within}
use Rattle.cxx_grammar.specs.Read.{read}
use Rattle.cxx_grammar.specs.Locals.{local, assign, assert, alias}
use Rattle.cxx_grammar.specs.Declarations.{namespace_alias, enumeration, variable, function, body, block}
use Rattle.cxx_grammar.specs.Classes.{class}
use Rattle.cxx_grammar.specs.Nesting.{read_nests, declaration}
use Rattle.cxx_grammar.specs.Units.{Derived, Derives, Refused, item, unit}

-- A tree that the rule reads from token i on, where token k is the one behind it, stands from i up to k. It has a token at least,
-- and goes on behind the last one nowhere.
abbrev pub StandsWhereRead : {A : Type 0} → Tokens → (ℕ → ℕ → A → Type 0) → Rule A → Type 0
StandsWhereRead {A} tokens StandsAt rule = (i k : ℕ) (x : A) → rule i ≡ Tree x k → StandsAt i k x × (i < k) × (k ≤ length tokens.list)

-- names, types and expressions at each level
pub record ExpressionsStand (tokens : Tokens) : Type 0 where
  pub of_name : (level : ℕ) → StandsWhereRead tokens (StandsName tokens) (read tokens level).name
  pub of_type : (level : ℕ) → StandsWhereRead tokens (StandsType tokens) (read tokens level).type_tree
  pub of_splice : (level : ℕ) → StandsWhereRead tokens (StandsSplice tokens) (read tokens level).splice
  pub of_args : (level : ℕ) → StandsWhereRead tokens (StandsArgs tokens) (read tokens level).args
  pub of_braced : (level : ℕ) → StandsWhereRead tokens (StandsBraced tokens) (read tokens level).braced
  pub of_unary : (level : ℕ) → StandsWhereRead tokens (Stands tokens) (read tokens level).unary
  pub of_expr : (level : ℕ) → StandsWhereRead tokens (Stands tokens) (read tokens level).expr

-- statements and what stands in them at each level
pub record StatementsStand (tokens : Tokens) : Type 0 where
  pub of_local : (level : ℕ) → StandsWhereRead tokens (StandsLocal tokens) (local tokens level)
  pub of_assign : (level : ℕ) → StandsWhereRead tokens (StandsAssign tokens) (assign tokens level)
  pub of_assert : (level : ℕ) → StandsWhereRead tokens (StandsAssert tokens) (assert tokens level)
  pub of_alias : (level : ℕ) → StandsWhereRead tokens (StandsAlias tokens) (alias tokens level)
  pub of_stmt : (level : ℕ) (within : Within) → StandsWhereRead tokens (StandsStmt tokens) ((read_nests tokens level).stmt within)
  pub of_sub : (level : ℕ) (within : Within) → StandsWhereRead tokens (StandsStmt tokens) ((read_nests tokens level).sub within)
  pub of_body : (level : ℕ) (within : Within) → StandsWhereRead tokens (StandsBody tokens) (body tokens ((read_nests tokens level).stmt within))

-- declarations and what stands in them at each level, and the items of a unit
pub record DeclarationsStand (tokens : Tokens) : Type 0 where
  pub of_namespace_alias : (level : ℕ) → StandsWhereRead tokens (StandsNamespaceAlias tokens) (namespace_alias tokens level)
  pub of_enumeration : (level : ℕ) → StandsWhereRead tokens (StandsEnum tokens) (enumeration tokens level)
  pub of_variable : (level : ℕ) (in_class : Bool) → StandsWhereRead tokens (StandsVariable tokens) (variable tokens level in_class)
  pub of_function : (level inner : ℕ) (within : Within) (in_class : Bool)
      → StandsWhereRead tokens (StandsFunction tokens) (function tokens level ((read_nests tokens inner).stmt within) in_class)
  pub of_block : (level : ℕ) (within : Within) → StandsWhereRead tokens (StandsBlock tokens) (block tokens ((read_nests tokens level).stmt within))
  pub of_class : (level inner : ℕ) → StandsWhereRead tokens (StandsClass tokens) (class tokens level (read_nests tokens inner).member)
  pub of_member : (level : ℕ) → StandsWhereRead tokens (StandsMember tokens) (read_nests tokens level).member
  pub of_declaration : StandsWhereRead tokens (StandsDecl tokens) (declaration tokens)
  pub of_item : StandsWhereRead tokens (StandsItem tokens) (item tokens)

-- Items that stand in turn from token i up to token j: each begins at the token at which the one before it ended.
abbrev pub StandInTurn : Tokens → ℕ → ℕ → List Item → Type 0
StandInTurn tokens i j [] = i ≡ j
StandInTurn tokens i j (x ∷ more) = (k : ℕ) × StandsItem tokens i k x × StandInTurn tokens k j more

-- The items of a unit that is derived stand so from the first token up to the end of the text, and take all tokens of it.
abbrev pub UnitStands : Tokens → Derived → Type 0
UnitStands tokens (Derives items) = StandInTurn tokens 0 (length tokens.list) items
UnitStands tokens (Refused why i) = Unit {0}

-- The span that a tree answers is that of the tokens from which it stands up to the token behind it. Before the `;` behind an
-- assignment the span of the statement ends, and behind the `=` of an initializer its span begins.
pub record SpansAreOfTokens (tokens : Tokens) : Type 0 where
  pub of_splice : (i j : ℕ) (x : SpliceTree) → StandsSplice tokens i j x → span_of_splice x ≡ span tokens i j
  pub of_expr : (i j : ℕ) (x : Expr) → Stands tokens i j x → span_of x ≡ span tokens i j
  pub of_operation : (i j : ℕ) (x : Operation) → StandsOperation tokens i j x → span_of_operation x ≡ span tokens i j
  pub of_type : (i j : ℕ) (x : TypeTree) → StandsType tokens i j x → span_of_type x ≡ span tokens i j
  pub of_basic : (i j : ℕ) (x : BasicTree) → StandsBasic tokens i j x → span_of_basic x ≡ span tokens i j
  pub of_braced : (i j : ℕ) (x : BracedTree) → StandsBraced tokens i j x → span_of_braced x ≡ span tokens i j
  pub of_designator : (i j : ℕ) (x : Designator) → StandsDesignator tokens i j x → span_of_designator x ≡ span tokens i j
  pub of_args : (i j : ℕ) (x : ArgTrees) → StandsArgs tokens i j x → span_of_args x ≡ span tokens i j
  pub of_arg : (i j : ℕ) (x : ArgTree) → StandsArg tokens i j x → span_of_arg x ≡ span tokens i j
  pub of_suffix : (i j : ℕ) (x : Suffix) → StandsSuffix tokens i j x → span_of_suffix x ≡ span tokens i j
  pub of_init : (i j : ℕ) (x : NewInit) → StandsNewInit tokens i j x → span_of_init x ≡ span tokens i j
  pub of_body : (i j : ℕ) (x : BodyTree) → StandsBody tokens i j x → span_of_body x ≡ span tokens i j
  pub of_assign : (i j : ℕ) (x : AssignTree) → StandsAssign tokens i j x → span_of_assign x ≡ span tokens i j
  pub of_class : (i j : ℕ) (x : ClassTree) → StandsClass tokens i j x → span_of_class x ≡ span tokens i j
  pub of_based : (i j : ℕ) (x : BasedTree) → StandsBased tokens i j x → span_of_based x ≡ span tokens i j
  pub of_member : (i j : ℕ) (x : Member) → StandsMember tokens i j x → span_of_member x ≡ span tokens i j
  pub of_member_value : (i j : ℕ) (x : MemberInitValue) → StandsMemberValue tokens i j x → span_of_member_value x ≡ span tokens i j
  pub of_decl : (i j : ℕ) (x : Decl) → StandsDecl tokens i j x → span_of_decl x ≡ span tokens i j
  pub of_item : (i j : ℕ) (x : Item) → StandsItem tokens i j x → span_of_item x ≡ span tokens i j
  pub of_stmt : (i j : ℕ) (x : Stmt) → StandsStmt tokens i j x → (k : ℕ) × (k ≤ j) × (span_of_stmt x ≡ span tokens i k)
  pub of_value : (i j : ℕ) (x : InitTree) → StandsInitTree tokens i j x → (a b : ℕ) × (i ≤ a) × (b ≤ j) × (span_of_value x ≡ span tokens a b)

-- What it is that a unit which is derived has known names alone.
abbrev pub UnitKnown : (Name → Type 0) → Derived → Type 0
UnitKnown IsKnownName (Derives items) = All (KnownItem IsKnownName) items
UnitKnown IsKnownName (Refused why i) = Unit {0}

-- a token is an identifier of this name
abbrev pub IsNameOfToken : Tokens → Name → Type 0
IsNameOfToken tokens name = (i : ℕ) × (token : Token) × (slice_get tokens.list i ≡ Some token) × (token.kind ≡ token_kind.Identifier name)

-- Each name of a unit that is derived is that of one of the tokens.
abbrev pub NamesAreOfTokens : Tokens → Type 0
NamesAreOfTokens tokens = UnitKnown (IsNameOfToken tokens) (unit tokens)

-- So each has its number among any names among which the tokens are known, as those of a text are.
abbrev pub NamesHaveTexts : Tokens → Type 0
NamesHaveTexts tokens = (names : List Text) → All (λ token. IsKnown names token.kind) tokens.list → UnitKnown (λ name. name.0 < length names) (unit tokens)

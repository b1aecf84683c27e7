-- The span that a tree answers is that of the tokens in which it stands.
use Rattle.std.proofs.Common.{◌≡◌, ℕ, ◌≤◌, arith}
use Rattle.cxx_base.specs.declared.place.Span.{Span}
use Rattle.cxx_tokens.specs.declared.token.Tokens.{Tokens}
use Rattle.cxx_reading.specs.Reading.{span}
use Rattle.cxx_tree.specs.Spans.{span_of, span_of_splice, span_of_operation, span_of_type, span_of_basic, span_of_braced, span_of_designator, span_of_args, span_of_arg, span_of_suffix, span_of_init}
use Rattle.cxx_tree.specs.MoreSpans.{span_of_body, span_of_assign, span_of_value, span_of_class, span_of_based, span_of_stmt, span_of_member, span_of_member_value, span_of_decl, span_of_item}
use Rattle.cxx_tree.specs.declared.expr.Expr as expr
use Rattle.cxx_tree.specs.declared.expr.Expr.{Expr, Held-Expr-New-2, Held-Expr-New-3, Row_of-Expr, end_of-Expr, more_of-Expr}
use Rattle.cxx_tree.specs.declared.expr.Expr.{Row_of-ArgTrees, end_of-ArgTrees, more_of-ArgTrees}
use Rattle.cxx_tree.specs.declared.expr.Expr.{Row_of-BasicTree, end_of-BasicTree, more_of-BasicTree}
use Rattle.cxx_tree.specs.declared.expr.Expr.{Row_of-BracedTree, end_of-BracedTree, more_of-BracedTree}
use Rattle.cxx_tree.specs.declared.expr.Expr.{Row_of-NewInit, end_of-NewInit, more_of-NewInit}
use Rattle.cxx_tree.specs.declared.expr.Expr.{Row_of-Operation, end_of-Operation, more_of-Operation}
use Rattle.cxx_tree.specs.declared.expr.Expr.{Row_of-Suffix, end_of-Suffix, more_of-Suffix}
use Rattle.cxx_tree.specs.declared.expr.Expr.{Row_of-TypeTree, end_of-TypeTree, more_of-TypeTree}
use Rattle.cxx_tree.specs.declared.expr.ArgTree as arg
use Rattle.cxx_tree.specs.declared.expr.ArgTree.{ArgTree}
use Rattle.cxx_tree.specs.declared.expr.ArgTrees as args
use Rattle.cxx_tree.specs.declared.expr.ArgTrees.{ArgTrees, Row_of-ArgTree, end_of-ArgTree, more_of-ArgTree}
use Rattle.cxx_tree.specs.declared.expr.BasicTree as basic
use Rattle.cxx_tree.specs.declared.expr.BasicTree.{BasicTree}
use Rattle.cxx_tree.specs.declared.expr.BracedTree as braced
use Rattle.cxx_tree.specs.declared.expr.BracedTree.{BracedTree, Row_of-Designator, end_of-Designator, more_of-Designator}
use Rattle.cxx_tree.specs.declared.expr.Designator as designator
use Rattle.cxx_tree.specs.declared.expr.Designator.{Designator}
use Rattle.cxx_tree.specs.declared.expr.NewInit as init
use Rattle.cxx_tree.specs.declared.expr.NewInit.{NewInit}
use Rattle.cxx_tree.specs.declared.expr.Operation.TheVariants as operation
use Rattle.cxx_tree.specs.declared.expr.Operation.{Operation}
use Rattle.cxx_tree.specs.declared.expr.SpliceTree as splice
use Rattle.cxx_tree.specs.declared.expr.SpliceTree.{SpliceTree}
use Rattle.cxx_tree.specs.declared.expr.Suffix as suffix
use Rattle.cxx_tree.specs.declared.expr.Suffix.{Suffix}
use Rattle.cxx_tree.specs.declared.expr.TypeTree as type
use Rattle.cxx_tree.specs.declared.expr.TypeTree.{TypeTree}
use Rattle.cxx_tree.specs.declared.stmt.InitTree.{InitTree}
use Rattle.cxx_tree.specs.declared.stmt.InitTree.TheVariants as init-of
use Rattle.cxx_tree.specs.declared.stmt.AssignTree.{AssignTree}
use Rattle.cxx_tree.specs.declared.stmt.AssignTree.TheVariants as assign-of
use Rattle.cxx_tree.specs.declared.decl.BasedTree.{BasedTree}
use Rattle.cxx_tree.specs.declared.decl.BasedTree.TheVariants as based-of
use Rattle.cxx_tree.specs.declared.decl.MemberInitValue.{MemberInitValue}
use Rattle.cxx_tree.specs.declared.decl.MemberInitValue.TheVariants as member_init_value-of
use Rattle.cxx_tree.specs.declared.stmt.Stmt as stmt
use Rattle.cxx_tree.specs.declared.stmt.Stmt.{Stmt, Held-Stmt-If-3, Row_of-Stmt, end_of-Stmt, more_of-Stmt, Row_of-ClassTree, end_of-ClassTree, more_of-ClassTree}
use Rattle.cxx_tree.specs.declared.stmt.BodyTree as body
use Rattle.cxx_tree.specs.declared.stmt.BodyTree.{BodyTree}
use Rattle.cxx_tree.specs.declared.decl.ClassTree as class
use Rattle.cxx_tree.specs.declared.decl.ClassTree.{ClassTree, Row_of-Member, end_of-Member, more_of-Member}
use Rattle.cxx_tree.specs.declared.decl.Member as member
use Rattle.cxx_tree.specs.declared.decl.Member.{Member, Held-FunctionTree-body, Row_of-BodyTree, end_of-BodyTree, more_of-BodyTree}
use Rattle.cxx_tree.specs.declared.decl.Decl.{Decl}
use Rattle.cxx_tree.specs.declared.decl.Decl.TheVariants as decl-of
use Rattle.cxx_tree.specs.declared.decl.Item.{Item}
use Rattle.cxx_tree.specs.declared.decl.Item.TheVariants as item-of
use Rattle.tree_stands.specs.Stands.{Spans, Stands, StandsOperation, StandsSuffix, StandsNewInit, StandsSplice, StandsType, StandsBasic, StandsBraced, StandsDesignator, StandsArgs, StandsArg, StandsBody, StandsAssign, StandsInitTree, StandsClass, StandsBased, StandsStmt, StandsMember, StandsMemberValue, StandsDecl, StandsItem}
use Rattle.tree_stands.specs.Laws.{SpansAreOfTokens}

module _ (tokens : Tokens) where
  first : (i j : ℕ) (s : Span) → Spans tokens i j s → s ≡ span tokens i j
  first i j s h = h.0

  pub of_splice : (i j : ℕ) (x : SpliceTree) → StandsSplice tokens i j x → span_of_splice x ≡ span tokens i j
  of_splice i j (splice.Splice' s _ _) h = first i j s h.0

  pub of_expr : (i j : ℕ) (x : Expr) → Stands tokens i j x → span_of x ≡ span tokens i j
  of_expr i j (expr.Integer _ _) h = h.0
  of_expr i j (expr.Character _ _) h = h.0
  of_expr i j (expr.Text _ _) h = h.0
  of_expr i j (expr.Truth _ _) h = h.0
  of_expr i j (expr.Nullptr _) h = h.0
  of_expr i j (expr.This _) h = h.0
  of_expr i j (expr.Name m) h = first i j m.span h.0
  of_expr i j (expr.Paren' s _ _) h = first i j s h.0
  of_expr i j (expr.Splice x) h = of_splice i j x h
  of_expr i j (expr.Braced' s _ _ _ _) h = first i j s h.0
  of_expr i j (expr.FundCall s _ _) h = first i j s h.0
  of_expr i j (expr.TypenameCall' s _ _ _) h = first i j s h.0
  of_expr i j (expr.StaticCast' s _ _ _ _) h = first i j s h.0
  of_expr i j (expr.Extract' s _ _ _ _ _) h = first i j s h.0
  of_expr i j (expr.Postfix' s _ _ _ _) h = first i j s h.0
  of_expr i j (expr.Unary' s _ _ _) h = first i j s h.0
  of_expr i j (expr.ReflectGlobal _) h = h.0
  of_expr i j (expr.Reflect' s _ _) h = first i j s h.0
  of_expr i j (expr.SizeofType' s _ _) h = first i j s h.0
  of_expr i j (expr.SizeofExpr' s _ _) h = first i j s h.0
  of_expr i j (expr.Delete' s _ _ _) h = first i j s h.0
  of_expr i j (expr.New' s _ _ _ _) h = first i j s h.0
  of_expr i j (expr.Chain' s _ _ _ _) h = first i j s h.0
  of_expr i j (expr.Conditional' s _ _ _ _ _ _) h = first i j s h.0

  pub of_operation : (i j : ℕ) (x : Operation) → StandsOperation tokens i j x → span_of_operation x ≡ span tokens i j
  of_operation i j (operation.Operation s _ _) h = first i j s h.0

  pub of_type : (i j : ℕ) (x : TypeTree) → StandsType tokens i j x → span_of_type x ≡ span tokens i j
  of_type i j (type.«Type» s _ _ _ _) h = first i j s h.0

  pub of_basic : (i j : ℕ) (x : BasicTree) → StandsBasic tokens i j x → span_of_basic x ≡ span tokens i j
  of_basic i j (basic.Fund _ _) h = h.0
  of_basic i j (basic.Name m) h = first i j m.span h.0
  of_basic i j (basic.Typename s _) h = first i j s h.0
  of_basic i j (basic.Vector s _) h = first i j s h.0

  pub of_braced : (i j : ℕ) (x : BracedTree) → StandsBraced tokens i j x → span_of_braced x ≡ span tokens i j
  of_braced i j (braced.Clauses' s _ _) h = first i j s h.0
  of_braced i j (braced.Designated' s _ _) h = first i j s h.0

  pub of_designator : (i j : ℕ) (x : Designator) → StandsDesignator tokens i j x → span_of_designator x ≡ span tokens i j
  of_designator i j (designator.Equal s _ _) h = first i j s h.0
  of_designator i j (designator.Braced s _ _) h = first i j s h.0

  pub of_args : (i j : ℕ) (x : ArgTrees) → StandsArgs tokens i j x → span_of_args x ≡ span tokens i j
  of_args i j (args.Args' s _ _) h = first i j s h.0

  pub of_arg : (i j : ℕ) (x : ArgTree) → StandsArg tokens i j x → span_of_arg x ≡ span tokens i j
  of_arg i j (arg.Expr x) h = of_expr i j x h
  of_arg i j (arg.Braced x) h = of_braced i j x h

  pub of_suffix : (i j : ℕ) (x : Suffix) → StandsSuffix tokens i j x → span_of_suffix x ≡ span tokens i j
  of_suffix i j (suffix.Call x) h = of_args i j x h
  of_suffix i j (suffix.Subscript' s _ _) h = first i j s h.0
  of_suffix i j (suffix.Member s _ _) h = first i j s h.0
  of_suffix i j (suffix.MemberSplice s _ _) h = first i j s h.0

  pub of_init : (i j : ℕ) (x : NewInit) → StandsNewInit tokens i j x → span_of_init x ≡ span tokens i j
  of_init i j (init.Args x) h = of_args i j x h
  of_init i j (init.Braced x) h = of_braced i j x h

  pub of_body : (i j : ℕ) (x : BodyTree) → StandsBody tokens i j x → span_of_body x ≡ span tokens i j
  of_body i j (body.Body' s _ _) h = first i j s h.0

  pub of_assign : (i j : ℕ) (x : AssignTree) → StandsAssign tokens i j x → span_of_assign x ≡ span tokens i j
  of_assign i j (assign-of.Equal s _ _) h = first i j s h.0
  of_assign i j (assign-of.Compound s _ _ _) h = first i j s h.0
  of_assign i j (assign-of.Step s _ _) h = first i j s h.0

  pub of_class : (i j : ℕ) (x : ClassTree) → StandsClass tokens i j x → span_of_class x ≡ span tokens i j
  of_class i j (class.Declared s _ _) h = first i j s h.0
  of_class i j (class.Defined' s _ _ _ _ _) h = first i j s h.0

  pub of_based : (i j : ℕ) (x : BasedTree) → StandsBased tokens i j x → span_of_based x ≡ span tokens i j
  of_based i j (based-of.Name x) h = first i j x.span h.0
  of_based i j (based-of.Splice x) h = of_splice i j x h
  of_based i j (based-of.Typename s _) h = first i j s h.0

  pub of_member : (i j : ℕ) (x : Member) → StandsMember tokens i j x → span_of_member x ≡ span tokens i j
  of_member i j (member.Access _ _) h = h.0
  of_member i j (member.Empty _) h = h.0
  of_member i j (member.Alias x) h = first i j x.span h.0
  of_member i j (member.Class x) h = of_class i j x h
  of_member i j (member.Enum x) h = first i j x.span h.0
  of_member i j (member.Assert x) h = first i j x.span h.0
  of_member i j (member.Block' s _) h = first i j s h.0
  of_member i j (member.Data x) h = first i j x.span h.0
  of_member i j (member.Function' s _ _ _ _ _ _ _) h = first i j s h.0
  of_member i j (member.Constructor' s _ _ _ _ _ _ _ _) h = first i j s h.0
  of_member i j (member.Destructor' s _ _ _ _ _) h = first i j s h.0

  pub of_member_value : (i j : ℕ) (x : MemberInitValue) → StandsMemberValue tokens i j x → span_of_member_value x ≡ span tokens i j
  of_member_value i j (member_init_value-of.Args x) h = of_args i j x h
  of_member_value i j (member_init_value-of.Braced x) h = of_braced i j x h

  pub of_decl : (i j : ℕ) (x : Decl) → StandsDecl tokens i j x → span_of_decl x ≡ span tokens i j
  of_decl i j (decl-of.NamespaceAlias x) h = first i j x.span h.0
  of_decl i j (decl-of.Alias x) h = first i j x.span h.0
  of_decl i j (decl-of.Class x) h = of_class i j x h
  of_decl i j (decl-of.Enum x) h = first i j x.span h.0
  of_decl i j (decl-of.Function x) h = first i j x.span h.0
  of_decl i j (decl-of.Variable x) h = first i j x.span h.0
  of_decl i j (decl-of.Assert x) h = first i j x.span h.0
  of_decl i j (decl-of.Block x) h = first i j x.span h.0

  pub of_item : (i j : ℕ) (x : Item) → StandsItem tokens i j x → span_of_item x ≡ span tokens i j
  of_item i j (item-of.NamespaceHead s _) h = first i j s h.0
  of_item i j (item-of.Close _) h = h.0
  of_item i j (item-of.Decl x) h = of_decl i j x h
  of_item i j (item-of.Empty _) h = h.0

  -- A span ends before the `;` behind an assignment, and begins behind the `=` of an initializer.
  of_stmt : (i j : ℕ) (x : Stmt) → StandsStmt tokens i j x → (k : ℕ) × (k ≤ j) × (span_of_stmt x ≡ span tokens i k)
  of_stmt i j (stmt.Body x) h = (j, omega arith, of_body i j x h)
  of_stmt i j (stmt.Empty _) h = (j, omega arith, h.0)
  of_stmt i j (stmt.Assert x) h = (j, omega arith, first i j x.span h.0)
  of_stmt i j (stmt.Alias x) h = (j, omega arith, first i j x.span h.0)
  of_stmt i j (stmt.Class' _ (more_of-ClassTree x _)) h = (j, omega arith, of_class i j x h)
  of_stmt i j (stmt.Block' s _) h = (j, omega arith, first i j s h.0)
  of_stmt i j (stmt.Local x) h = (j, omega arith, first i j x.span h.0)
  of_stmt i j (stmt.Assign x) h = (h.0, omega (arith, h.2), of_assign i h.0 x h.1)
  of_stmt i j (stmt.Expr s _) h = (j, omega arith, first i j s h.0)
  of_stmt i j (stmt.If' s _ _ _ _) h = (j, omega arith, first i j s h.0)
  of_stmt i j (stmt.While' s _ _ _) h = (j, omega arith, first i j s h.0)
  of_stmt i j (stmt.For' s _ _ _) h = (j, omega arith, first i j s h.0)
  of_stmt i j (stmt.RangeFor' s _ _ _) h = (j, omega arith, first i j s h.0)
  of_stmt i j (stmt.Return s _) h = (j, omega arith, first i j s h.0)
  of_stmt i j (stmt.Break _) h = (j, omega arith, h.0)
  of_stmt i j (stmt.Continue _) h = (j, omega arith, h.0)

  of_value : (i j : ℕ) (x : InitTree) → StandsInitTree tokens i j x → (a b : ℕ) × (i ≤ a) × (b ≤ j) × (span_of_value x ≡ span tokens a b)
  of_value i j (init-of.Equal x) h = (h.0, h.1, h.2, h.4, of_expr h.0 h.1 x h.3)
  of_value i j (init-of.EqualBraced x) h = (h.0, h.1, h.2, h.4, of_braced h.0 h.1 x h.3)
  of_value i j (init-of.Braced x) h = (i, j, omega arith, omega arith, of_braced i j x h)

  pub spans_are_of_tokens : SpansAreOfTokens tokens
  spans_are_of_tokens = record {
    of_splice = of_splice;
    of_expr = of_expr;
    of_operation = of_operation;
    of_type = of_type;
    of_basic = of_basic;
    of_braced = of_braced;
    of_designator = of_designator;
    of_args = of_args;
    of_arg = of_arg;
    of_suffix = of_suffix;
    of_init = of_init;
    of_body = of_body;
    of_assign = of_assign;
    of_class = of_class;
    of_based = of_based;
    of_member = of_member;
    of_member_value = of_member_value;
    of_decl = of_decl;
    of_item = of_item;
    of_stmt = of_stmt;
    of_value = of_value;
  }

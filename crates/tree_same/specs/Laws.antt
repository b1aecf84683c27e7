-- The definition of trees that are the same, once more: over trees as the code makes them, from boxes and lists.
use Rattle.std.specs.Prelude.{◌≡◌, ◌↔◌, Bool, List, Option}
use Rattle.cxx_base.specs.declared.place.Span.{Span}
use Rattle.cxx_tree.specs.declared.identifier.NameTree.{NameTree}
use Rattle.cxx_tree.specs.declared.operator.UnaryOp.{UnaryOp}
use Rattle.cxx_tree.specs.declared.expr.Expr as expr
use Rattle.cxx_tree.specs.declared.expr.ArgTrees as args
use Rattle.cxx_tree.specs.declared.expr.BracedTree as braced
use Rattle.cxx_tree.specs.declared.expr.SpliceTree as splice
use Rattle.cxx_tree.specs.declared.expr.Suffix as suffix
use Rattle.cxx_tree.specs.declared.expr.Expr.{Expr}
use Rattle.cxx_tree.specs.declared.expr.ArgTree.{ArgTree}
use Rattle.cxx_tree.specs.declared.expr.ArgTrees.{ArgTrees}
use Rattle.cxx_tree.specs.declared.expr.BasicTree.{BasicTree}
use Rattle.cxx_tree.specs.declared.expr.BracedTree.{BracedTree}
use Rattle.cxx_tree.specs.declared.expr.Designator.{Designator}
use Rattle.cxx_tree.specs.declared.expr.NewInit.{NewInit}
use Rattle.cxx_tree.specs.declared.expr.Operation.{Operation}
use Rattle.cxx_tree.specs.declared.expr.SpliceTree.{SpliceTree}
use Rattle.cxx_tree.specs.declared.expr.Suffix.{Suffix}
use Rattle.cxx_tree.specs.declared.expr.TypeTree.{TypeTree}
use Rattle.tree_same.specs.Lists.{AreSame, AreSameIfAny}
use Rattle.tree_same.specs.Names.{SameName}
use Rattle.tree_same.specs.Same.{Same, SameArg, SameArgs, SameBasic, SameBraced, SameDesignator, SameNewInit, SameOperation, SameSplice, SameSuffix, SameType}

pub record PartsDecide : Type 0 where
  pub are_paren : (s t : Span) (a b : Expr) →
      Same (expr.Paren s a) (expr.Paren t b) ↔ Same a b
  pub are_braced : (s t : Span) (a b : BasicTree) (c d : BracedTree) →
      Same (expr.Braced s a c) (expr.Braced t b d) ↔ (SameBasic a b × SameBraced c d)
  pub are_typename_call : (s t : Span) (a b : SpliceTree) (c d : ArgTrees) →
      Same (expr.TypenameCall s a c) (expr.TypenameCall t b d) ↔ (SameSplice a b × SameArgs c d)
  pub are_static_cast : (s t : Span) (a b : TypeTree) (c d : Expr) →
      Same (expr.StaticCast s a c) (expr.StaticCast t b d) ↔ (SameType a b × Same c d)
  pub are_extract : (s t : Span) (a b : NameTree) (c d : TypeTree) (e f : Expr) →
      Same (expr.Extract s a c e) (expr.Extract t b d f) ↔ (SameName a b × SameType c d × Same e f)
  pub are_postfix : (s t : Span) (a b : Expr) (c d : List Suffix) →
      Same (expr.Postfix s a c) (expr.Postfix t b d) ↔ (Same a b × AreSame SameSuffix c d)
  pub are_unary : (s t : Span) (a b : UnaryOp) (c d : Expr) →
      Same (expr.Unary s a c) (expr.Unary t b d) ↔ ((a ≡ b) × Same c d)
  pub are_reflect : (s t : Span) (a b : TypeTree) →
      Same (expr.Reflect s a) (expr.Reflect t b) ↔ SameType a b
  pub are_sizeof_type : (s t : Span) (a b : TypeTree) →
      Same (expr.SizeofType s a) (expr.SizeofType t b) ↔ SameType a b
  pub are_sizeof_expr : (s t : Span) (a b : Expr) →
      Same (expr.SizeofExpr s a) (expr.SizeofExpr t b) ↔ Same a b
  pub are_delete : (s t : Span) (a b : Bool) (c d : Expr) →
      Same (expr.Delete s a c) (expr.Delete t b d) ↔ ((a ≡ b) × Same c d)
  pub are_new : (s t : Span) (a b : TypeTree) (c d : Option Expr) (e f : Option NewInit) →
      Same (expr.New s a c e) (expr.New t b d f) ↔ (SameType a b × AreSameIfAny Same c d × AreSameIfAny SameNewInit e f)
  pub are_chain : (s t : Span) (a b : Expr) (c d : List Operation) →
      Same (expr.Chain s a c) (expr.Chain t b d) ↔ (Same a b × AreSame SameOperation c d)
  pub are_conditional : (s t : Span) (a b : Expr) (c d : Expr) (e f : Expr) →
      Same (expr.Conditional s a c e) (expr.Conditional t b d f) ↔ (Same a b × Same c d × Same e f)
  pub are_splice : (s t : Span) (a b : Expr) →
      SameSplice (splice.Splice s a) (splice.Splice t b) ↔ Same a b
  pub are_args : (s t : Span) (a b : List ArgTree) →
      SameArgs (args.Args s a) (args.Args t b) ↔ AreSame SameArg a b
  pub are_clauses : (s t : Span) (a b : List ArgTree) →
      SameBraced (braced.Clauses s a) (braced.Clauses t b) ↔ AreSame SameArg a b
  pub are_designated : (s t : Span) (a b : List Designator) →
      SameBraced (braced.Designated s a) (braced.Designated t b) ↔ AreSame SameDesignator a b
  pub are_subscript : (s t : Span) (a b : Expr) →
      SameSuffix (suffix.Subscript s a) (suffix.Subscript t b) ↔ Same a b

-- The span of a tree: its own, or that of the one part which it is.
use Rattle.cxx_base.specs.declared.place.Span.{Span}
use Rattle.cxx_tree.specs.declared.expr.Expr as expr
use Rattle.cxx_tree.specs.declared.expr.Expr.{Expr}
use Rattle.cxx_tree.specs.declared.expr.ArgTree as arg
use Rattle.cxx_tree.specs.declared.expr.ArgTree.{ArgTree}
use Rattle.cxx_tree.specs.declared.expr.ArgTrees as args
use Rattle.cxx_tree.specs.declared.expr.ArgTrees.{ArgTrees}
use Rattle.cxx_tree.specs.declared.expr.BasicTree as basic
use Rattle.cxx_tree.specs.declared.expr.BasicTree.{BasicTree}
use Rattle.cxx_tree.specs.declared.expr.BracedTree as braced
use Rattle.cxx_tree.specs.declared.expr.BracedTree.{BracedTree}
use Rattle.cxx_tree.specs.declared.expr.Designator as designator
use Rattle.cxx_tree.specs.declared.expr.Designator.{Designator}
use Rattle.cxx_tree.specs.declared.expr.NewInit as init
use Rattle.cxx_tree.specs.declared.expr.NewInit.{NewInit}
use Rattle.cxx_tree.specs.declared.expr.Operation.TheVariants as operation
use Rattle.cxx_tree.specs.declared.expr.Operation.{Operation}
use Rattle.cxx_tree.specs.declared.expr.SpliceTree as splice
use Rattle.cxx_tree.specs.declared.expr.SpliceTree.{SpliceTree}
use Rattle.cxx_tree.specs.declared.expr.Suffix as suffix
use Rattle.cxx_tree.specs.declared.expr.Suffix.{Suffix}
use Rattle.cxx_tree.specs.declared.expr.TypeTree as type
use Rattle.cxx_tree.specs.declared.expr.TypeTree.{TypeTree}

abbrev pub span_of_splice : SpliceTree → Span
span_of_splice (splice.Splice' s _ _) = s

abbrev pub span_of : Expr → Span
span_of (expr.Integer s _) = s
span_of (expr.Character s _) = s
span_of (expr.Text s _) = s
span_of (expr.Truth s _) = s
span_of (expr.Nullptr s) = s
span_of (expr.This s) = s
span_of (expr.Name n) = n.span
span_of (expr.Paren' s _ _) = s
span_of (expr.Splice x) = span_of_splice x
span_of (expr.Braced' s _ _ _ _) = s
span_of (expr.FundCall s _ _) = s
span_of (expr.TypenameCall' s _ _ _) = s
span_of (expr.StaticCast' s _ _ _ _) = s
span_of (expr.Extract' s _ _ _ _ _) = s
span_of (expr.Postfix' s _ _ _ _) = s
span_of (expr.Unary' s _ _ _) = s
span_of (expr.ReflectGlobal s) = s
span_of (expr.Reflect' s _ _) = s
span_of (expr.SizeofType' s _ _) = s
span_of (expr.SizeofExpr' s _ _) = s
span_of (expr.Delete' s _ _ _) = s
span_of (expr.New' s _ _ _ _) = s
span_of (expr.Chain' s _ _ _ _) = s
span_of (expr.Conditional' s _ _ _ _ _ _) = s

abbrev pub span_of_operation : Operation → Span
span_of_operation (operation.Operation s _ _) = s

abbrev pub span_of_type : TypeTree → Span
span_of_type (type.«Type» s _ _ _ _) = s

abbrev pub span_of_basic : BasicTree → Span
span_of_basic (basic.Fund s _) = s
span_of_basic (basic.Name n) = n.span
span_of_basic (basic.Typename s _) = s
span_of_basic (basic.Vector s _) = s

abbrev pub span_of_braced : BracedTree → Span
span_of_braced (braced.Clauses' s _ _) = s
span_of_braced (braced.Designated' s _ _) = s

abbrev pub span_of_designator : Designator → Span
span_of_designator (designator.Equal s _ _) = s
span_of_designator (designator.Braced s _ _) = s

abbrev pub span_of_args : ArgTrees → Span
span_of_args (args.Args' s _ _) = s

abbrev pub span_of_arg : ArgTree → Span
span_of_arg (arg.Expr x) = span_of x
span_of_arg (arg.Braced x) = span_of_braced x

abbrev pub span_of_suffix : Suffix → Span
span_of_suffix (suffix.Call x) = span_of_args x
span_of_suffix (suffix.Subscript' s _ _) = s
span_of_suffix (suffix.Member s _ _) = s
span_of_suffix (suffix.MemberSplice s _ _) = s

abbrev pub span_of_init : NewInit → Span
span_of_init (init.Args x) = span_of_args x
span_of_init (init.Braced x) = span_of_braced x

-- The spans of statements and declarations.
use Rattle.cxx_base.specs.declared.place.Span.{Span}
use Rattle.cxx_tree.specs.Spans.{span_of, span_of_args, span_of_braced, span_of_splice}
use Rattle.cxx_tree.specs.declared.stmt.Stmt as stmt
use Rattle.cxx_tree.specs.declared.stmt.Stmt.{Stmt, out-Stmt}
use Rattle.cxx_tree.specs.declared.stmt.BodyTree as body
use Rattle.cxx_tree.specs.declared.stmt.BodyTree.{BodyTree}
use Rattle.cxx_tree.specs.declared.stmt.AssignTree.{AssignTree}
use Rattle.cxx_tree.specs.declared.stmt.AssignTree.TheVariants as assign-of
use Rattle.cxx_tree.specs.declared.stmt.InitTree.{InitTree}
use Rattle.cxx_tree.specs.declared.stmt.InitTree.TheVariants as init-of
use Rattle.cxx_tree.specs.declared.decl.BasedTree.{BasedTree}
use Rattle.cxx_tree.specs.declared.decl.BasedTree.TheVariants as based-of
use Rattle.cxx_tree.specs.declared.decl.ClassTree as class
use Rattle.cxx_tree.specs.declared.decl.ClassTree.{ClassTree}
use Rattle.cxx_tree.specs.declared.decl.Member as member
use Rattle.cxx_tree.specs.declared.decl.Member.{Member}
use Rattle.cxx_tree.specs.declared.decl.MemberInitValue.{MemberInitValue}
use Rattle.cxx_tree.specs.declared.decl.MemberInitValue.TheVariants as value-of
use Rattle.cxx_tree.specs.declared.decl.Decl.{Decl}
use Rattle.cxx_tree.specs.declared.decl.Decl.TheVariants as decl-of
use Rattle.cxx_tree.specs.declared.decl.Item.{Item}
use Rattle.cxx_tree.specs.declared.decl.Item.TheVariants as item-of
use Rattle.cxx_tree.specs.declared.stmt.Stmt.{Row_of-ClassTree, end_of-ClassTree, more_of-ClassTree}

abbrev pub span_of_body : BodyTree → Span
span_of_body (body.Body' s _ _) = s

abbrev pub span_of_assign : AssignTree → Span
span_of_assign (assign-of.Equal s _ _) = s
span_of_assign (assign-of.Compound s _ _ _) = s
span_of_assign (assign-of.Step s _ _) = s

abbrev pub span_of_value : InitTree → Span
span_of_value (init-of.Equal x) = span_of x
span_of_value (init-of.EqualBraced x) = span_of_braced x
span_of_value (init-of.Braced x) = span_of_braced x

abbrev pub span_of_class : ClassTree → Span
span_of_class (class.Declared s _ _) = s
span_of_class (class.Defined' s _ _ _ _ _) = s

abbrev pub span_of_based : BasedTree → Span
span_of_based (based-of.Name n) = n.span
span_of_based (based-of.Splice x) = span_of_splice x
span_of_based (based-of.Typename s _) = s

abbrev pub span_of_stmt : Stmt → Span
span_of_stmt (stmt.Body x) = span_of_body x
span_of_stmt (stmt.Empty s) = s
span_of_stmt (stmt.Assert x) = x.span
span_of_stmt (stmt.Alias x) = x.span
span_of_stmt (stmt.Class' _ (more_of-ClassTree x _)) = span_of_class x
span_of_stmt (stmt.Block' s _) = s
span_of_stmt (stmt.Local x) = x.span
span_of_stmt (stmt.Assign x) = span_of_assign x
span_of_stmt (stmt.Expr s _) = s
span_of_stmt (stmt.If' s _ _ _ _) = s
span_of_stmt (stmt.While' s _ _ _) = s
span_of_stmt (stmt.For' s _ _ _) = s
span_of_stmt (stmt.RangeFor' s _ _ _) = s
span_of_stmt (stmt.Return s _) = s
span_of_stmt (stmt.Break s) = s
span_of_stmt (stmt.Continue s) = s

abbrev pub span_of_member : Member → Span
span_of_member (member.Access s _) = s
span_of_member (member.Empty s) = s
span_of_member (member.Alias x) = x.span
span_of_member (member.Class x) = span_of_class x
span_of_member (member.Enum x) = x.span
span_of_member (member.Assert x) = x.span
span_of_member (member.Block' s _) = s
span_of_member (member.Data x) = x.span
span_of_member (member.Function' s _ _ _ _ _ _ _) = s
span_of_member (member.Constructor' s _ _ _ _ _ _ _ _) = s
span_of_member (member.Destructor' s _ _ _ _ _) = s

abbrev pub span_of_member_value : MemberInitValue → Span
span_of_member_value (value-of.Args x) = span_of_args x
span_of_member_value (value-of.Braced x) = span_of_braced x

abbrev pub span_of_decl : Decl → Span
span_of_decl (decl-of.NamespaceAlias x) = x.span
span_of_decl (decl-of.Alias x) = x.span
span_of_decl (decl-of.Class x) = span_of_class x
span_of_decl (decl-of.Enum x) = x.span
span_of_decl (decl-of.Function x) = x.span
span_of_decl (decl-of.Variable x) = x.span
span_of_decl (decl-of.Assert x) = x.span
span_of_decl (decl-of.Block x) = x.span

abbrev pub span_of_item : Item → Span
span_of_item (item-of.NamespaceHead s _) = s
span_of_item (item-of.Close s) = s
span_of_item (item-of.Decl x) = span_of_decl x
span_of_item (item-of.Empty s) = s

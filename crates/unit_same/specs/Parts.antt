-- Statements and declarations that are the same: those that lead to no statement.
use Rattle.std.specs.Prelude.{◌≡◌, is_some}
use Rattle.tree_same.specs.Lists.{AreSame, AreSameIfAny}
use Rattle.tree_same.specs.Names.{SameIdentifier, SameName}
use Rattle.tree_same.specs.Same.{Same, SameArg, SameArgs, SameBraced, SameSplice, SameType}
use Rattle.cxx_tree.specs.declared.decl.AliasedTree.{AliasedTree}
use Rattle.cxx_tree.specs.declared.decl.AliasedTree.TheVariants as aliased-of
use Rattle.cxx_tree.specs.declared.decl.AliasTree.{AliasTree}
use Rattle.cxx_tree.specs.declared.decl.AssertTree.{AssertTree}
use Rattle.cxx_tree.specs.declared.stmt.BoundTree.{BoundTree}
use Rattle.cxx_tree.specs.declared.stmt.InitTree.{InitTree}
use Rattle.cxx_tree.specs.declared.stmt.InitTree.TheVariants as init-of
use Rattle.cxx_tree.specs.declared.stmt.LocalTree.{LocalTree}
use Rattle.cxx_tree.specs.declared.stmt.AssignTree.{AssignTree}
use Rattle.cxx_tree.specs.declared.stmt.AssignTree.TheVariants as assign-of
use Rattle.cxx_tree.specs.declared.stmt.Returned.{Returned}
use Rattle.cxx_tree.specs.declared.stmt.Returned.TheVariants as returned-of
use Rattle.cxx_tree.specs.declared.stmt.ForInit.{ForInit}
use Rattle.cxx_tree.specs.declared.stmt.ForInit.TheVariants as for_init-of
use Rattle.cxx_tree.specs.declared.stmt.ForStep.{ForStep}
use Rattle.cxx_tree.specs.declared.stmt.ForStep.TheVariants as for_step-of
use Rattle.cxx_tree.specs.declared.stmt.ForHead.{ForHead}
use Rattle.cxx_tree.specs.declared.stmt.ForRange.{ForRange}
use Rattle.cxx_tree.specs.declared.decl.VariableTree.{VariableTree}
use Rattle.cxx_tree.specs.declared.decl.ParameterTree.{ParameterTree}
use Rattle.cxx_tree.specs.declared.decl.EnumeratorTree.{EnumeratorTree}
use Rattle.cxx_tree.specs.declared.decl.EnumTree.{EnumTree}
use Rattle.cxx_tree.specs.declared.decl.BasedTree.{BasedTree}
use Rattle.cxx_tree.specs.declared.decl.BasedTree.TheVariants as based-of
use Rattle.cxx_tree.specs.declared.decl.BaseTree.{BaseTree}
use Rattle.cxx_tree.specs.declared.decl.MemberInitValue.{MemberInitValue}
use Rattle.cxx_tree.specs.declared.decl.MemberInitValue.TheVariants as member_init_value-of
use Rattle.cxx_tree.specs.declared.decl.MemberInit.{MemberInit}
use Rattle.cxx_tree.specs.declared.decl.NamespaceNamed.{NamespaceNamed}
use Rattle.cxx_tree.specs.declared.decl.NamespaceNamed.TheVariants as namespace_named-of
use Rattle.cxx_tree.specs.declared.decl.NamespaceAliasTree.{NamespaceAliasTree}

abbrev pub SameAliased : AliasedTree → AliasedTree → Type 0
SameAliased (aliased-of.«Type» x) (aliased-of.«Type» y) = SameType x y
SameAliased (aliased-of.Splice x) (aliased-of.Splice y) = SameSplice x y
SameAliased _ _ = ⊥

abbrev pub SameAlias : AliasTree → AliasTree → Type 0
SameAlias x y = SameIdentifier x.name y.name × SameAliased x.of y.of

abbrev pub SameAssert : AssertTree → AssertTree → Type 0
SameAssert x y = Same x.condition y.condition × (is_some x.message ≡ is_some y.message)

abbrev pub SameBoundTree : BoundTree → BoundTree → Type 0
SameBoundTree x y = AreSameIfAny Same x.length y.length

abbrev pub SameInitTree : InitTree → InitTree → Type 0
SameInitTree (init-of.Equal x) (init-of.Equal y) = Same x y
SameInitTree (init-of.EqualBraced x) (init-of.EqualBraced y) = SameBraced x y
SameInitTree (init-of.Braced x) (init-of.Braced y) = SameBraced x y
SameInitTree _ _ = ⊥

abbrev pub SameLocal : LocalTree → LocalTree → Type 0
SameLocal x y = (x.is_constexpr ≡ y.is_constexpr) × SameType x.of_type y.of_type × SameIdentifier x.name y.name × AreSame SameBoundTree x.bounds y.bounds × AreSameIfAny SameInitTree x.init y.init

abbrev pub SameAssign : AssignTree → AssignTree → Type 0
SameAssign (assign-of.Equal _ x p) (assign-of.Equal _ y q) = Same x y × SameArg p q
SameAssign (assign-of.Compound _ x p u) (assign-of.Compound _ y q v) = (x ≡ y) × Same p q × Same u v
SameAssign (assign-of.Step _ x p) (assign-of.Step _ y q) = (x ≡ y) × Same p q
SameAssign _ _ = ⊥

abbrev pub SameReturned : Returned → Returned → Type 0
SameReturned (returned-of.Expr x) (returned-of.Expr y) = Same x y
SameReturned (returned-of.Braced x) (returned-of.Braced y) = SameBraced x y
SameReturned _ _ = ⊥

abbrev pub SameForInit : ForInit → ForInit → Type 0
SameForInit (for_init-of.Local x) (for_init-of.Local y) = SameLocal x y
SameForInit (for_init-of.Assign x) (for_init-of.Assign y) = SameAssign x y
SameForInit (for_init-of.Empty _) (for_init-of.Empty _) = Unit {0}
SameForInit _ _ = ⊥

abbrev pub SameForStep : ForStep → ForStep → Type 0
SameForStep (for_step-of.Assign x) (for_step-of.Assign y) = SameAssign x y
SameForStep (for_step-of.Expr x) (for_step-of.Expr y) = Same x y
SameForStep _ _ = ⊥

abbrev pub SameForHead : ForHead → ForHead → Type 0
SameForHead x y = SameForInit x.first y.first × AreSameIfAny Same x.condition y.condition × AreSameIfAny SameForStep x.step y.step

abbrev pub SameForRange : ForRange → ForRange → Type 0
SameForRange x y = SameType x.of_type y.of_type × SameIdentifier x.name y.name × Same x.over y.over

abbrev pub SameVariable : VariableTree → VariableTree → Type 0
SameVariable x y = (x.specifiers ≡ y.specifiers) × SameType x.of_type y.of_type × SameIdentifier x.name y.name × AreSame SameBoundTree x.bounds y.bounds × AreSameIfAny SameInitTree x.init y.init

abbrev pub SameParameter : ParameterTree → ParameterTree → Type 0
SameParameter x y = SameType x.of_type y.of_type × AreSameIfAny SameIdentifier x.name y.name

abbrev pub SameEnumerator : EnumeratorTree → EnumeratorTree → Type 0
SameEnumerator x y = SameIdentifier x.name y.name × AreSameIfAny Same x.value y.value

abbrev pub SameEnum : EnumTree → EnumTree → Type 0
SameEnum x y = (x.key ≡ y.key) × SameIdentifier x.name y.name × AreSameIfAny SameType x.underlying y.underlying × AreSame SameEnumerator x.enumerators y.enumerators

abbrev pub SameBased : BasedTree → BasedTree → Type 0
SameBased (based-of.Name x) (based-of.Name y) = SameName x y
SameBased (based-of.Splice x) (based-of.Splice y) = SameSplice x y
SameBased (based-of.Typename _ x) (based-of.Typename _ y) = SameSplice x y
SameBased _ _ = ⊥

abbrev pub SameBase : BaseTree → BaseTree → Type 0
SameBase x y = (x.access ≡ y.access) × SameBased x.of y.of

abbrev pub SameMemberValue : MemberInitValue → MemberInitValue → Type 0
SameMemberValue (member_init_value-of.Args x) (member_init_value-of.Args y) = SameArgs x y
SameMemberValue (member_init_value-of.Braced x) (member_init_value-of.Braced y) = SameBraced x y
SameMemberValue _ _ = ⊥

abbrev pub SameMemberInit : MemberInit → MemberInit → Type 0
SameMemberInit x y = SameName x.name y.name × SameMemberValue x.value y.value

abbrev pub SameNamespace : NamespaceNamed → NamespaceNamed → Type 0
SameNamespace (namespace_named-of.Name x) (namespace_named-of.Name y) = SameName x y
SameNamespace (namespace_named-of.Splice x) (namespace_named-of.Splice y) = SameSplice x y
SameNamespace _ _ = ⊥

abbrev pub SameNamespaceAlias : NamespaceAliasTree → NamespaceAliasTree → Type 0
SameNamespaceAlias x y = SameIdentifier x.name y.name × SameNamespace x.of y.of

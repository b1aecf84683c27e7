-- Two trees of one form are the same where their parts are: the definition, over boxes and lists instead of rows.
use Rattle.std.proofs.Common.{◌≡◌, ◌↔◌, Bool, List, Option, subst}
use Rattle.cxx_base.specs.declared.place.Span.{Span}
use Rattle.cxx_tree.specs.declared.identifier.NameTree.{NameTree}
use Rattle.cxx_tree.specs.declared.operator.UnaryOp.{UnaryOp}
use Rattle.cxx_tree.specs.declared.expr.ArgTrees.TheVariants.{rolls-Args}
use Rattle.cxx_tree.specs.declared.expr.SpliceTree.TheVariants.{rolls-Splice}
use Rattle.cxx_tree.specs.declared.expr.Expr as expr
use Rattle.cxx_tree.specs.declared.expr.ArgTrees as args
use Rattle.cxx_tree.specs.declared.expr.BracedTree as braced
use Rattle.cxx_tree.specs.declared.expr.SpliceTree as splice
use Rattle.cxx_tree.specs.declared.expr.Suffix as suffix
use Rattle.cxx_tree.specs.declared.expr.Expr.{Expr}
use Rattle.cxx_tree.specs.declared.expr.ArgTree.{ArgTree}
use Rattle.cxx_tree.specs.declared.expr.ArgTrees.{ArgTrees}
use Rattle.cxx_tree.specs.declared.expr.BasicTree.{BasicTree}
use Rattle.cxx_tree.specs.declared.expr.BracedTree.{BracedTree}
use Rattle.cxx_tree.specs.declared.expr.Designator.{Designator}
use Rattle.cxx_tree.specs.declared.expr.NewInit.{NewInit}
use Rattle.cxx_tree.specs.declared.expr.Operation.{Operation}
use Rattle.cxx_tree.specs.declared.expr.SpliceTree.{SpliceTree}
use Rattle.cxx_tree.specs.declared.expr.Suffix.{Suffix}
use Rattle.cxx_tree.specs.declared.expr.TypeTree.{TypeTree}
use Rattle.cxx_tree.specs.declared.expr.ArgTree.TheOpen.{ArgTrees-F, SpliceTree-F}
use Rattle.tree_same.specs.Lists.{AreSame, AreSameIfAny}
use Rattle.tree_same.specs.Names.{SameName}
use Rattle.tree_same.specs.Same.{Same, SameArg, SameArgs, SameBasic, SameBraced, SameDesignator, SameNewInit, SameOperation, SameSplice, SameSuffix, SameType}
use Rattle.tree_same.proofs.Rows.{boxed_expr, boxed_basic, boxed_braced, boxed_args, boxed_type, row_of_args, row_of_designators, row_of_suffixes, row_of_operations, optional_bound, optional_init}

pub are_paren : (p q : Expr) (s t : Span) (a b : Expr) → p ≡ expr.Paren s a → q ≡ expr.Paren t b →
    Same a b ↔ Same p q
are_paren p q s t a b of_p of_q =
    rw (of_p, of_q) (λ h. (boxed_expr a b).0 h, λ h. (boxed_expr a b).1 h)

pub are_braced : (p q : Expr) (s t : Span) (a b : BasicTree) (c d : BracedTree) → p ≡ expr.Braced s a c → q ≡ expr.Braced t b d →
    (SameBasic a b × SameBraced c d) ↔ Same p q
are_braced p q s t a b c d of_p of_q =
    rw (of_p, of_q) (λ h. ((boxed_basic a b).0 h.0, (boxed_braced c d).0 h.1), λ h. ((boxed_basic a b).1 h.0, (boxed_braced c d).1 h.1))

pub are_typename_call : (p q : Expr) (s t : Span) (a b : SpliceTree) (c d : ArgTrees) → p ≡ expr.TypenameCall s a c → q ≡ expr.TypenameCall t b d →
    (SameSplice a b × SameArgs c d) ↔ Same p q
are_typename_call p q s t a b c d of_p of_q =
    rw (of_p, of_q) (λ h. (h.0, (boxed_args c d).0 h.1), λ h. (h.0, (boxed_args c d).1 h.1))

pub are_static_cast : (p q : Expr) (s t : Span) (a b : TypeTree) (c d : Expr) → p ≡ expr.StaticCast s a c → q ≡ expr.StaticCast t b d →
    (SameType a b × Same c d) ↔ Same p q
are_static_cast p q s t a b c d of_p of_q =
    rw (of_p, of_q) (λ h. ((boxed_type a b).0 h.0, (boxed_expr c d).0 h.1), λ h. ((boxed_type a b).1 h.0, (boxed_expr c d).1 h.1))

pub are_extract : (p q : Expr) (s t : Span) (a b : NameTree) (c d : TypeTree) (e f : Expr) → p ≡ expr.Extract s a c e → q ≡ expr.Extract t b d f →
    (SameName a b × SameType c d × Same e f) ↔ Same p q
are_extract p q s t a b c d e f of_p of_q =
    rw (of_p, of_q) (λ h. (h.0, (boxed_type c d).0 h.1, (boxed_expr e f).0 h.2), λ h. (h.0, (boxed_type c d).1 h.1, (boxed_expr e f).1 h.2))

pub are_postfix : (p q : Expr) (s t : Span) (a b : Expr) (c d : List Suffix) → p ≡ expr.Postfix s a c → q ≡ expr.Postfix t b d →
    (Same a b × AreSame SameSuffix c d) ↔ Same p q
are_postfix p q s t a b c d of_p of_q =
    rw (of_p, of_q) (λ h. ((boxed_expr a b).0 h.0, (row_of_suffixes c d).0 h.1), λ h. ((boxed_expr a b).1 h.0, (row_of_suffixes c d).1 h.1))

pub are_unary : (p q : Expr) (s t : Span) (a b : UnaryOp) (c d : Expr) → p ≡ expr.Unary s a c → q ≡ expr.Unary t b d →
    ((a ≡ b) × Same c d) ↔ Same p q
are_unary p q s t a b c d of_p of_q =
    rw (of_p, of_q) (λ h. (h.0, (boxed_expr c d).0 h.1), λ h. (h.0, (boxed_expr c d).1 h.1))

pub are_reflect : (p q : Expr) (s t : Span) (a b : TypeTree) → p ≡ expr.Reflect s a → q ≡ expr.Reflect t b →
    SameType a b ↔ Same p q
are_reflect p q s t a b of_p of_q =
    rw (of_p, of_q) (λ h. (boxed_type a b).0 h, λ h. (boxed_type a b).1 h)

pub are_sizeof_type : (p q : Expr) (s t : Span) (a b : TypeTree) → p ≡ expr.SizeofType s a → q ≡ expr.SizeofType t b →
    SameType a b ↔ Same p q
are_sizeof_type p q s t a b of_p of_q =
    rw (of_p, of_q) (λ h. (boxed_type a b).0 h, λ h. (boxed_type a b).1 h)

pub are_sizeof_expr : (p q : Expr) (s t : Span) (a b : Expr) → p ≡ expr.SizeofExpr s a → q ≡ expr.SizeofExpr t b →
    Same a b ↔ Same p q
are_sizeof_expr p q s t a b of_p of_q =
    rw (of_p, of_q) (λ h. (boxed_expr a b).0 h, λ h. (boxed_expr a b).1 h)

pub are_delete : (p q : Expr) (s t : Span) (a b : Bool) (c d : Expr) → p ≡ expr.Delete s a c → q ≡ expr.Delete t b d →
    ((a ≡ b) × Same c d) ↔ Same p q
are_delete p q s t a b c d of_p of_q =
    rw (of_p, of_q) (λ h. (h.0, (boxed_expr c d).0 h.1), λ h. (h.0, (boxed_expr c d).1 h.1))

pub are_new : (p q : Expr) (s t : Span) (a b : TypeTree) (c d : Option Expr) (e f : Option NewInit) → p ≡ expr.New s a c e → q ≡ expr.New t b d f →
    (SameType a b × AreSameIfAny Same c d × AreSameIfAny SameNewInit e f) ↔ Same p q
are_new p q s t a b c d e f of_p of_q =
    rw (of_p, of_q) (λ h. ((boxed_type a b).0 h.0, (optional_bound c d).0 h.1, (optional_init e f).0 h.2), λ h. ((boxed_type a b).1 h.0, (optional_bound c d).1 h.1, (optional_init e f).1 h.2))

pub are_chain : (p q : Expr) (s t : Span) (a b : Expr) (c d : List Operation) → p ≡ expr.Chain s a c → q ≡ expr.Chain t b d →
    (Same a b × AreSame SameOperation c d) ↔ Same p q
are_chain p q s t a b c d of_p of_q =
    rw (of_p, of_q) (λ h. ((boxed_expr a b).0 h.0, (row_of_operations c d).0 h.1), λ h. ((boxed_expr a b).1 h.0, (row_of_operations c d).1 h.1))

pub are_conditional : (p q : Expr) (s t : Span) (a b : Expr) (c d : Expr) (e f : Expr) → p ≡ expr.Conditional s a c e → q ≡ expr.Conditional t b d f →
    (Same a b × Same c d × Same e f) ↔ Same p q
are_conditional p q s t a b c d e f of_p of_q =
    rw (of_p, of_q) (λ h. ((boxed_expr a b).0 h.0, (boxed_expr c d).0 h.1, (boxed_expr e f).0 h.2), λ h. ((boxed_expr a b).1 h.0, (boxed_expr c d).1 h.1, (boxed_expr e f).1 h.2))

pub are_splice : (p q : SpliceTree) (s t : Span) (a b : Expr) → p ≡ splice.Splice s a → q ≡ splice.Splice t b →
    Same a b ↔ SameSplice p q
are_splice p q s t a b of_p of_q =
    rw (of_p, of_q) (λ h. (boxed_expr a b).0 h, λ h. (boxed_expr a b).1 h)

pub are_args : (p q : ArgTrees) (s t : Span) (a b : List ArgTree) → p ≡ args.Args s a → q ≡ args.Args t b →
    AreSame SameArg a b ↔ SameArgs p q
are_args p q s t a b of_p of_q =
    rw (of_p, of_q) (λ h. (row_of_args a b).0 h, λ h. (row_of_args a b).1 h)

pub are_clauses : (p q : BracedTree) (s t : Span) (a b : List ArgTree) → p ≡ braced.Clauses s a → q ≡ braced.Clauses t b →
    AreSame SameArg a b ↔ SameBraced p q
are_clauses p q s t a b of_p of_q =
    rw (of_p, of_q) (λ h. (row_of_args a b).0 h, λ h. (row_of_args a b).1 h)

pub are_designated : (p q : BracedTree) (s t : Span) (a b : List Designator) → p ≡ braced.Designated s a → q ≡ braced.Designated t b →
    AreSame SameDesignator a b ↔ SameBraced p q
are_designated p q s t a b of_p of_q =
    rw (of_p, of_q) (λ h. (row_of_designators a b).0 h, λ h. (row_of_designators a b).1 h)

pub are_subscript : (p q : Suffix) (s t : Span) (a b : Expr) → p ≡ suffix.Subscript s a → q ≡ suffix.Subscript t b →
    Same a b ↔ SameSuffix p q
are_subscript p q s t a b of_p of_q =
    rw (of_p, of_q) (λ h. (boxed_expr a b).0 h, λ h. (boxed_expr a b).1 h)

-- A splice, and arguments, have one form.
rolled_splice : (layer : SpliceTree-F ArgTree ArgTrees BasicTree BracedTree Designator Expr NewInit Operation SpliceTree Suffix TypeTree) →
    (v : Span × Expr) × (splice.roll-SpliceTree layer ≡ splice.Splice v.0 v.1)
rolled_splice (SpliceTree-F.SpliceTree::Splice s x) = ((s, x), rolls-Splice s x)

pub is_splice : (p : SpliceTree) → (v : Span × Expr) × (p ≡ splice.Splice v.0 v.1)
is_splice p =
    let P : SpliceTree → Type 0 = λ q. (v : Span × Expr) × (q ≡ splice.Splice v.0 v.1) in
    subst P (splice.roll-out-SpliceTree p) (rolled_splice (splice.out-SpliceTree p))

rolled_args : (layer : ArgTrees-F ArgTree ArgTrees BasicTree BracedTree Designator Expr NewInit Operation SpliceTree Suffix TypeTree) →
    (v : Span × List ArgTree) × (args.roll-ArgTrees layer ≡ args.Args v.0 v.1)
rolled_args (ArgTrees-F.ArgTrees::Args s xs) = ((s, xs), rolls-Args s xs)

pub is_args : (p : ArgTrees) → (v : Span × List ArgTree) × (p ≡ args.Args v.0 v.1)
is_args p =
    let P : ArgTrees → Type 0 = λ q. (v : Span × List ArgTree) × (q ≡ args.Args v.0 v.1) in
    subst P (args.roll-out-ArgTrees p) (rolled_args (args.out-ArgTrees p))

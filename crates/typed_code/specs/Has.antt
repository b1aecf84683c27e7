-- When code has a tree at a number. Nobody compares a tree by walking code: this relation says it.
use Rattle.std.specs.Prelude.{◌≡◌, ℕ, suc, ◌+◌, ℤ, Bool, List, [], ◌∷◌, length, Option, None, Some, slice_get}
use Rattle.cxx_base.specs.declared.number.EntityNo.{EntityNo}
use Rattle.cxx_base.specs.declared.number.ScopeNo.{ScopeNo}
use Rattle.cxx_base.specs.declared.operator.CompareOp.{CompareOp}
use Rattle.cxx_base.specs.declared.operator.IntKind.{IntKind}
use Rattle.cxx_base.specs.declared.operator.IntOp.{IntOp}
use Rattle.cxx_base.specs.declared.place.Place.{Place}
use Rattle.cxx_type.specs.declared.whole.CxxType.{CxxType}
use Rattle.core_pointer.specs.declared.origin.Literal.{Literal}
use Rattle.core_pointer.specs.declared.path.PathStep.{PathStep}
use Rattle.core_shape.specs.declared.shape.Shape.{Shape}
use Rattle.core_value.specs.declared.query.QueryRow.{QueryRow}
use Rattle.core_value.specs.declared.value.Value.{Value}
use Rattle.typed_code.specs.declared.number.ExprNo.{ExprNo}
use Rattle.typed_code.specs.declared.number.StmtNo.{StmtNo}
use Rattle.typed_code.specs.declared.number.TypeNo.{TypeNo}
use Rattle.typed_code.specs.declared.number.ShapeNo.{ShapeNo}
use Rattle.typed_code.specs.declared.number.ValueNo.{ValueNo}
use Rattle.typed_code.specs.declared.number.TextNo.{TextNo}
use Rattle.typed_code.specs.declared.number.SlotNo.{SlotNo}
use Rattle.typed_code.specs.declared.number.ListAt.{ListAt}
use Rattle.typed_code.specs.declared.expr.Expr.{Expr}
use Rattle.typed_code.specs.declared.expr.ExprNode.{ExprNode}
use Rattle.typed_code.specs.declared.expr.Expr.TheVariants as e
use Rattle.typed_code.specs.declared.stmt.Stmt.{Stmt}
use Rattle.typed_code.specs.declared.stmt.StmtNode.{StmtNode}
use Rattle.typed_code.specs.declared.stmt.Stmt.TheVariants as s
use Rattle.typed_code.specs.Arrays.{Arrays, type_at, shape_at}
use Rattle.typed_code.specs.ExprTrees as t
use Rattle.typed_code.specs.ExprTrees.{Typed, Ex, ExIf, Exs, Args, Clauses, count_of, args_of, clauses_of}
use Rattle.typed_code.specs.StmtTrees as u
use Rattle.typed_code.specs.StmtTrees.{St, StIf, Sts, stmts_of}

module _ (b : Arrays) where
  abbrev pub HasType : TypeNo → CxxType → Type 0
  HasType n of = type_at b n.0 ≡ Some of

  abbrev pub HasShape : ShapeNo → Shape → Type 0
  HasShape n shape = shape_at b n.0 ≡ Some shape

  abbrev pub HasValue : ValueNo → Value → Type 0
  HasValue n value = slice_get b.values n.0 ≡ Some value

  abbrev pub HasText : TextNo → Literal → Type 0
  HasText n text = slice_get b.texts n.0 ≡ Some text

  abbrev pub HasSteps : ℕ → List PathStep → Type 0
  HasSteps at [] = Unit {0}
  HasSteps at (step ∷ steps) = (slice_get b.steps at ≡ Some step) × HasSteps (suc at) steps

  abbrev pub HasPath : ListAt → List PathStep → Type 0
  HasPath l steps = (l.count ≡ length steps) × HasSteps l.first steps

  -- the node of an expression, its type and its place
  abbrev pub NodeAt : ExprNo → Typed → Expr → Type 0
  NodeAt i at x = (n : TypeNo) × (slice_get b.exprs i.0 ≡ Some (record { expr = x; of = n; place = at.place })) × HasType n at.of

  abbrev pub StmtAt : StmtNo → Place → Stmt → Type 0
  StmtAt i at x = slice_get b.stmts i.0 ≡ Some (record { stmt = x; place = at })

  abbrev mutual
    pub HasEx : ExprNo → Ex → Type 0
    HasEx i (t.Number at n) = NodeAt i at (e.Number n)
    HasEx i (t.Settled at value) = (at_value : ValueNo) × NodeAt i at (e.Settled at_value) × HasValue at_value value
    HasEx i (t.Text at text) = (at_text : TextNo) × NodeAt i at (e.Text at_text) × HasText at_text text
    HasEx i (t.Local at slot) = NodeAt i at (e.Local slot)
    HasEx i (t.LocalReference at slot) = NodeAt i at (e.LocalReference slot)
    HasEx i (t.SettledLocal at slot shape value) = (at_shape : ShapeNo) × (at_value : ValueNo) × NodeAt i at (e.SettledLocal slot at_shape at_value) × HasShape at_shape shape × HasValue at_value value
    HasEx i (t.Static at variable) = NodeAt i at (e.Static variable)
    HasEx i (t.Foreign at slot) = NodeAt i at (e.Foreign slot)
    HasEx i (t.ForeignReference at slot) = NodeAt i at (e.ForeignReference slot)
    HasEx i (t.This at) = NodeAt i at e.This
    HasEx i (t.ForeignThis at) = NodeAt i at e.ForeignThis
    HasEx i (t.ThisObject at) = NodeAt i at e.ThisObject
    HasEx i (t.ForeignThisObject at) = NodeAt i at e.ForeignThisObject
    HasEx i (t.Element at) = NodeAt i at e.Element
    HasEx i (t.Read at x) = (j : ExprNo) × NodeAt i at (e.Read j) × HasEx j x
    HasEx i (t.Copy at x) = (j : ExprNo) × NodeAt i at (e.Copy j) × HasEx j x
    HasEx i (t.Convert at how is_free operand) = (at_operand : ExprNo) × NodeAt i at (e.Convert how is_free at_operand) × HasEx at_operand operand
    HasEx i (t.ToBase at is_place is_free path operand) = (at_path : ListAt) × (at_operand : ExprNo) × NodeAt i at (e.ToBase is_place is_free at_path at_operand) × HasPath at_path path × HasEx at_operand operand
    HasEx i (t.Unary at op x) = (j : ExprNo) × NodeAt i at (e.Unary op j) × HasEx j x
    HasEx i (t.Int at op kind x y) = (j : ExprNo) × (k : ExprNo) × NodeAt i at (e.Int op kind j k) × HasEx j x × HasEx k y
    HasEx i (t.Compare at op what x y) = (j : ExprNo) × (k : ExprNo) × NodeAt i at (e.Compare op what j k) × HasEx j x × HasEx k y
    HasEx i (t.Pointers at op x y) = (j : ExprNo) × (k : ExprNo) × NodeAt i at (e.Pointers op j k) × HasEx j x × HasEx k y
    HasEx i (t.And at x y) = (j : ExprNo) × (k : ExprNo) × NodeAt i at (e.And j k) × HasEx j x × HasEx k y
    HasEx i (t.Or at x y) = (j : ExprNo) × (k : ExprNo) × NodeAt i at (e.Or j k) × HasEx j x × HasEx k y
    HasEx i (t.Subscript at x y) = (j : ExprNo) × (k : ExprNo) × NodeAt i at (e.Subscript j k) × HasEx j x × HasEx k y
    HasEx i (t.Conditional at x y z) = (j : ExprNo) × (k : ExprNo) × (l : ExprNo) × NodeAt i at (e.Conditional j k l) × HasEx j x × HasEx k y × HasEx l z
    HasEx i (t.Member at object arrow path) = (at_object : ExprNo) × (at_path : ListAt) × NodeAt i at (e.Member at_object arrow at_path) × HasEx at_object object × HasPath at_path path
    HasEx i (t.StaticMember at object arrow variable) = (at_object : ExprNo) × NodeAt i at (e.StaticMember at_object arrow variable) × HasEx at_object object
    HasEx i (t.Temporary at shape init is_extended) = (at_shape : ShapeNo) × (at_init : ExprNo) × NodeAt i at (e.Temporary at_shape at_init is_extended) × HasShape at_shape shape × HasEx at_init init
    HasEx i (t.Full at x) = (j : ExprNo) × NodeAt i at (e.Full j) × HasEx j x
    HasEx i (t.New at shape init) = (at_shape : ShapeNo) × (at_init : ExprNo) × NodeAt i at (e.New at_shape at_init) × HasShape at_shape shape × HasEx at_init init
    HasEx i (t.NewArray at shape length init) = (at_shape : ShapeNo) × (at_length : ExprNo) × (at_init : ExprNo) × NodeAt i at (e.NewArray at_shape at_length at_init) × HasShape at_shape shape × HasEx at_length length × HasEx at_init init
    HasEx i (t.Delete at is_array operand) = (at_operand : ExprNo) × NodeAt i at (e.Delete is_array at_operand) × HasEx at_operand operand
    HasEx i (t.Braced at x) = (j : ExprNo) × NodeAt i at (e.Braced j) × HasEx j x
    HasEx i (t.ClassList at clauses) = (at_clauses : ListAt) × NodeAt i at (e.ClassList at_clauses) × (at_clauses.count ≡ clauses_of clauses) × HasClauses at_clauses.first clauses
    HasEx i (t.ArrayList at clauses rest) = (at_clauses : ListAt) × (at_rest : Option ExprNo) × NodeAt i at (e.ArrayList at_clauses at_rest) × (at_clauses.count ≡ count_of clauses) × HasExs at_clauses.first clauses × HasExIf at_rest rest
    HasEx i (t.Zero at) = NodeAt i at e.Zero
    HasEx i (t.Default at) = NodeAt i at e.Default
    HasEx i (t.Parts at clauses is_zero) = (at_clauses : ListAt) × NodeAt i at (e.Parts at_clauses is_zero) × (at_clauses.count ≡ clauses_of clauses) × HasClauses at_clauses.first clauses
    HasEx i (t.Each at x) = (j : ExprNo) × NodeAt i at (e.Each j) × HasEx j x
    HasEx i (t.Initializer at x) = (j : ExprNo) × NodeAt i at (e.Initializer j) × HasEx j x
    HasEx i (t.Construct at constructor args) = (at_args : ListAt) × NodeAt i at (e.Construct constructor at_args) × (at_args.count ≡ args_of args) × HasArgs at_args.first args
    HasEx i (t.Infos at xs) = (l : ListAt) × NodeAt i at (e.Infos l) × (l.count ≡ count_of xs) × HasExs l.first xs
    HasEx i (t.SpecOptions at name alignment) = (at_name : Option ExprNo) × (at_alignment : Option ExprNo) × NodeAt i at (e.SpecOptions at_name at_alignment) × HasExIf at_name name × HasExIf at_alignment alignment
    HasEx i (t.Objects at args) = (at_args : ListAt) × NodeAt i at (e.Objects at_args) × (at_args.count ≡ args_of args) × HasArgs at_args.first args
    HasEx i (t.Repeated at times x) = (j : ExprNo) × NodeAt i at (e.Repeated times j) × HasEx j x
    HasEx i (t.Call at function args) = (at_args : ListAt) × NodeAt i at (e.Call function at_args) × (at_args.count ≡ args_of args) × HasArgs at_args.first args
    HasEx i (t.MemberCall at function object args) = (at_object : ExprNo) × (at_args : ListAt) × NodeAt i at (e.MemberCall function at_object at_args) × HasEx at_object object × (at_args.count ≡ args_of args) × HasArgs at_args.first args
    HasEx i (t.DroppingCall at function object args) = (at_object : ExprNo) × (at_args : ListAt) × NodeAt i at (e.DroppingCall function at_object at_args) × HasEx at_object object × (at_args.count ≡ args_of args) × HasArgs at_args.first args
    HasEx i (t.Query at row scope args) = (at_args : ListAt) × NodeAt i at (e.Query row scope at_args) × (at_args.count ≡ count_of args) × HasExs at_args.first args
    HasEx i (t.TypedQuery at row of scope arg) = (at_of : TypeNo) × (at_arg : ExprNo) × NodeAt i at (e.TypedQuery row at_of scope at_arg) × HasType at_of of × HasEx at_arg arg
    HasEx i (t.Library at op named object arg) = (at_object : ExprNo) × (at_arg : Option ExprNo) × NodeAt i at (e.Library op named at_object at_arg) × HasEx at_object object × HasExIf at_arg arg
    HasEx i (t.Variable at variable shape init) = (at_shape : ShapeNo) × (at_init : ExprNo) × NodeAt i at (e.Variable variable at_shape at_init) × HasShape at_shape shape × HasEx at_init init
    HasEx i (t.ConstexprLocal at slot shape init) = (at_shape : ShapeNo) × (at_init : ExprNo) × NodeAt i at (e.ConstexprLocal slot at_shape at_init) × HasShape at_shape shape × HasEx at_init init

    pub HasExIf : Option ExprNo → ExIf → Type 0
    HasExIf None t.no_ex = Unit {0}
    HasExIf (Some i) (t.an_ex x) = HasEx i x
    HasExIf None (t.an_ex x) = ⊥
    HasExIf (Some i) t.no_ex = ⊥

    pub HasExs : ℕ → Exs → Type 0
    HasExs at t.end_ex = Unit {0}
    HasExs at (t.more_ex x xs) = (i : ℕ) × (slice_get b.lists at ≡ Some i) × HasEx (record { 0 = i }) x × HasExs (suc at) xs

    pub HasArgs : ℕ → Args → Type 0
    HasArgs at t.end_arg = Unit {0}
    HasArgs at (t.more_arg shape x xs) = (n : ℕ) × (i : ℕ) × (slice_get b.lists at ≡ Some n) × (slice_get b.lists (suc at) ≡ Some i) × HasShape (record { 0 = n }) shape × HasEx (record { 0 = i }) x × HasArgs (suc (suc at)) xs

    pub HasClauses : ℕ → Clauses → Type 0
    HasClauses at t.end_clause = Unit {0}
    HasClauses at (t.more_clause part x xs) = (i : ℕ) × (slice_get b.lists at ≡ Some part) × (slice_get b.lists (suc at) ≡ Some i) × HasEx (record { 0 = i }) x × HasClauses (suc (suc at)) xs

  abbrev mutual
    pub HasSt : StmtNo → St → Type 0
    HasSt i (u.Block at xs) = (l : ListAt) × StmtAt i at (s.Block l) × (l.count ≡ stmts_of xs) × HasSts l.first xs
    HasSt i (u.Scope at x) = (j : StmtNo) × StmtAt i at (s.Scope j) × HasSt j x
    HasSt i (u.Empty at) = StmtAt i at s.Empty
    HasSt i (u.Nothing at) = StmtAt i at s.Nothing
    HasSt i (u.Expr at x) = (j : ExprNo) × StmtAt i at (s.Expr j) × HasEx j x
    HasSt i (u.Local at slot shape init) = (at_shape : ShapeNo) × (at_init : ExprNo) × StmtAt i at (s.Local slot at_shape at_init) × HasShape at_shape shape × HasEx at_init init
    HasSt i (u.SettledLocal at slot shape value) = (at_shape : ShapeNo) × (at_value : ValueNo) × StmtAt i at (s.SettledLocal slot at_shape at_value) × HasShape at_shape shape × HasValue at_value value
    HasSt i (u.Assign at shape left right) = (at_shape : ShapeNo) × (at_left : ExprNo) × (at_right : ExprNo) × StmtAt i at (s.Assign at_shape at_left at_right) × HasShape at_shape shape × HasEx at_left left × HasEx at_right right
    HasSt i (u.Compound at op left right) = (at_left : ExprNo) × (at_right : ExprNo) × StmtAt i at (s.Compound op at_left at_right) × HasEx at_left left × HasEx at_right right
    HasSt i (u.Step at is_decrement of left) = (at_left : ExprNo) × StmtAt i at (s.Step is_decrement of at_left) × HasEx at_left left
    HasSt i (u.If at condition body otherwise) = (at_condition : ExprNo) × (at_body : StmtNo) × (at_otherwise : Option StmtNo) × StmtAt i at (s.If at_condition at_body at_otherwise) × HasEx at_condition condition × HasSt at_body body × HasStIf at_otherwise otherwise
    HasSt i (u.While at condition body) = (at_condition : ExprNo) × (at_body : StmtNo) × StmtAt i at (s.While at_condition at_body) × HasEx at_condition condition × HasSt at_body body
    HasSt i (u.For at first condition step body) = (at_first : Option StmtNo) × (at_condition : Option ExprNo) × (at_step : Option StmtNo) × (at_body : StmtNo) × StmtAt i at (s.For at_first at_condition at_step at_body) × HasStIf at_first first × HasExIf at_condition condition × HasStIf at_step step × HasSt at_body body
    HasSt i (u.RangeFor at slot shape is_array range init body) = (at_shape : ShapeNo) × (at_range : ExprNo) × (at_init : ExprNo) × (at_body : StmtNo) × StmtAt i at (s.RangeFor slot at_shape is_array at_range at_init at_body) × HasShape at_shape shape × HasEx at_range range × HasEx at_init init × HasSt at_body body
    HasSt i (u.Return at x) = (j : Option ExprNo) × StmtAt i at (s.Return j) × HasExIf j x
    HasSt i (u.Break at) = StmtAt i at s.Break
    HasSt i (u.Continue at) = StmtAt i at s.Continue

    pub HasStIf : Option StmtNo → StIf → Type 0
    HasStIf None u.no_st = Unit {0}
    HasStIf (Some i) (u.a_st x) = HasSt i x
    HasStIf None (u.a_st x) = ⊥
    HasStIf (Some i) u.no_st = ⊥

    pub HasSts : ℕ → Sts → Type 0
    HasSts at u.end_st = Unit {0}
    HasSts at (u.more_st x xs) = (i : ℕ) × (slice_get b.lists at ≡ Some i) × HasSt (record { 0 = i }) x × HasSts (suc at) xs

-- What has stood stands still: each array of b begins with that of a.
pub record Extends (a b : Arrays) : Type 0 where
  pub exprs : (i : ℕ) (x : ExprNode) → slice_get a.exprs i ≡ Some x → slice_get b.exprs i ≡ Some x
  pub stmts : (i : ℕ) (x : StmtNode) → slice_get a.stmts i ≡ Some x → slice_get b.stmts i ≡ Some x
  pub lists : (i : ℕ) (x : ℕ) → slice_get a.lists i ≡ Some x → slice_get b.lists i ≡ Some x
  pub steps : (i : ℕ) (x : PathStep) → slice_get a.steps i ≡ Some x → slice_get b.steps i ≡ Some x
  pub types : (i : ℕ) (x : CxxType) → type_at a i ≡ Some x → type_at b i ≡ Some x
  pub shapes : (i : ℕ) (x : Shape) → shape_at a i ≡ Some x → shape_at b i ≡ Some x
  pub texts : (i : ℕ) (x : Literal) → slice_get a.texts i ≡ Some x → slice_get b.texts i ≡ Some x
  pub values : (i : ℕ) (x : Value) → slice_get a.values i ≡ Some x → slice_get b.values i ≡ Some x

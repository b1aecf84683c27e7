-- What code has, it has when it has grown.
use Rattle.std.specs.Prelude.{◌≡◌, ℕ, suc, List, [], ◌∷◌, Option, None, Some}
use Rattle.cxx_base.specs.declared.place.Place.{Place}
use Rattle.core_pointer.specs.declared.origin.Literal.{Literal}
use Rattle.core_pointer.specs.declared.path.PathStep.{PathStep}
use Rattle.core_shape.specs.declared.shape.Shape.{Shape}
use Rattle.core_value.specs.declared.value.Value.{Value}
use Rattle.cxx_type.specs.declared.whole.CxxType.{CxxType}
use Rattle.typed_code.specs.declared.number.ExprNo.{ExprNo}
use Rattle.typed_code.specs.declared.number.StmtNo.{StmtNo}
use Rattle.typed_code.specs.declared.number.TypeNo.{TypeNo}
use Rattle.typed_code.specs.declared.number.ShapeNo.{ShapeNo}
use Rattle.typed_code.specs.declared.number.ValueNo.{ValueNo}
use Rattle.typed_code.specs.declared.number.TextNo.{TextNo}
use Rattle.typed_code.specs.declared.number.ListAt.{ListAt}
use Rattle.typed_code.specs.declared.expr.Expr.{Expr}
use Rattle.typed_code.specs.declared.expr.Expr.TheVariants as e
use Rattle.typed_code.specs.declared.stmt.Stmt.{Stmt}
use Rattle.typed_code.specs.declared.stmt.Stmt.TheVariants as s
use Rattle.typed_code.specs.Arrays.{Arrays}
use Rattle.typed_code.specs.ExprTrees as t
use Rattle.typed_code.specs.ExprTrees.{Typed, Ex, ExIf, Exs, Args, Clauses}
use Rattle.typed_code.specs.StmtTrees as u
use Rattle.typed_code.specs.StmtTrees.{St, StIf, Sts}
use Rattle.typed_code.specs.Has.{Extends, HasType, HasShape, HasValue, HasText, HasSteps, HasPath, NodeAt, StmtAt, HasEx, HasExIf, HasExs, HasArgs, HasClauses, HasSt, HasStIf, HasSts}

module _ (a b : Arrays) (g : Extends a b) where
  pub type_grows : (x : CxxType) (n : TypeNo) → HasType a n x → HasType b n x
  type_grows x n h = g.types n.0 x h

  pub shape_grows : (x : Shape) (n : ShapeNo) → HasShape a n x → HasShape b n x
  shape_grows x n h = g.shapes n.0 x h

  pub value_grows : (x : Value) (n : ValueNo) → HasValue a n x → HasValue b n x
  value_grows x n h = g.values n.0 x h

  pub text_grows : (x : Literal) (n : TextNo) → HasText a n x → HasText b n x
  text_grows x n h = g.texts n.0 x h

  pub steps_grow : (xs : List PathStep) (at : ℕ) → HasSteps a at xs → HasSteps b at xs
  steps_grow [] at h = tt
  steps_grow (x ∷ xs) at h = (g.steps at x h.0, steps_grow xs (suc at) h.1)

  pub path_grows : (xs : List PathStep) (l : ListAt) → HasPath a l xs → HasPath b l xs
  path_grows xs l h = (h.0, steps_grow xs l.first h.1)

  pub node_grows : (i : ExprNo) (at : Typed) (x : Expr) → NodeAt a i at x → NodeAt b i at x
  node_grows i at x h = (h.0, g.exprs i.0 (record { expr = x; of = h.0; place = at.place }) h.1, type_grows at.of h.0 h.2)

  pub stmt_node_grows : (i : StmtNo) (at : Place) (x : Stmt) → StmtAt a i at x → StmtAt b i at x
  stmt_node_grows i at x h = g.stmts i.0 (record { stmt = x; place = at }) h

  mutual
    pub ex_grows : (x : Ex) (i : ExprNo) → HasEx a i x → HasEx b i x
    ex_grows (t.Number at n) i h = node_grows i at (e.Number n) h
    ex_grows (t.Settled at value) i h = (h.0, node_grows i at (e.Settled h.0) h.1, value_grows value h.0 h.2)
    ex_grows (t.Text at text) i h = (h.0, node_grows i at (e.Text h.0) h.1, text_grows text h.0 h.2)
    ex_grows (t.Local at slot) i h = node_grows i at (e.Local slot) h
    ex_grows (t.LocalReference at slot) i h = node_grows i at (e.LocalReference slot) h
    ex_grows (t.SettledLocal at slot shape value) i h = (h.0, h.1, node_grows i at (e.SettledLocal slot h.0 h.1) h.2, shape_grows shape h.0 h.3, value_grows value h.1 h.4)
    ex_grows (t.Static at variable) i h = node_grows i at (e.Static variable) h
    ex_grows (t.Foreign at slot) i h = node_grows i at (e.Foreign slot) h
    ex_grows (t.ForeignReference at slot) i h = node_grows i at (e.ForeignReference slot) h
    ex_grows (t.This at) i h = node_grows i at e.This h
    ex_grows (t.ForeignThis at) i h = node_grows i at e.ForeignThis h
    ex_grows (t.ThisObject at) i h = node_grows i at e.ThisObject h
    ex_grows (t.ForeignThisObject at) i h = node_grows i at e.ForeignThisObject h
    ex_grows (t.Element at) i h = node_grows i at e.Element h
    ex_grows (t.Read at x) i h = (h.0, node_grows i at (e.Read h.0) h.1, ex_grows x h.0 h.2)
    ex_grows (t.Copy at x) i h = (h.0, node_grows i at (e.Copy h.0) h.1, ex_grows x h.0 h.2)
    ex_grows (t.Convert at how is_free operand) i h = (h.0, node_grows i at (e.Convert how is_free h.0) h.1, ex_grows operand h.0 h.2)
    ex_grows (t.ToBase at is_place is_free path operand) i h = (h.0, h.1, node_grows i at (e.ToBase is_place is_free h.0 h.1) h.2, path_grows path h.0 h.3, ex_grows operand h.1 h.4)
    ex_grows (t.Unary at op x) i h = (h.0, node_grows i at (e.Unary op h.0) h.1, ex_grows x h.0 h.2)
    ex_grows (t.Int at op kind x y) i h = (h.0, h.1, node_grows i at (e.Int op kind h.0 h.1) h.2, ex_grows x h.0 h.3, ex_grows y h.1 h.4)
    ex_grows (t.Compare at op what x y) i h = (h.0, h.1, node_grows i at (e.Compare op what h.0 h.1) h.2, ex_grows x h.0 h.3, ex_grows y h.1 h.4)
    ex_grows (t.Pointers at op x y) i h = (h.0, h.1, node_grows i at (e.Pointers op h.0 h.1) h.2, ex_grows x h.0 h.3, ex_grows y h.1 h.4)
    ex_grows (t.And at x y) i h = (h.0, h.1, node_grows i at (e.And h.0 h.1) h.2, ex_grows x h.0 h.3, ex_grows y h.1 h.4)
    ex_grows (t.Or at x y) i h = (h.0, h.1, node_grows i at (e.Or h.0 h.1) h.2, ex_grows x h.0 h.3, ex_grows y h.1 h.4)
    ex_grows (t.Subscript at x y) i h = (h.0, h.1, node_grows i at (e.Subscript h.0 h.1) h.2, ex_grows x h.0 h.3, ex_grows y h.1 h.4)
    ex_grows (t.Conditional at x y z) i h = (h.0, h.1, h.2, node_grows i at (e.Conditional h.0 h.1 h.2) h.3, ex_grows x h.0 h.4, ex_grows y h.1 h.5, ex_grows z h.2 h.6)
    ex_grows (t.Member at object arrow path) i h = (h.0, h.1, node_grows i at (e.Member h.0 arrow h.1) h.2, ex_grows object h.0 h.3, path_grows path h.1 h.4)
    ex_grows (t.StaticMember at object arrow variable) i h = (h.0, node_grows i at (e.StaticMember h.0 arrow variable) h.1, ex_grows object h.0 h.2)
    ex_grows (t.Temporary at shape init is_extended) i h = (h.0, h.1, node_grows i at (e.Temporary h.0 h.1 is_extended) h.2, shape_grows shape h.0 h.3, ex_grows init h.1 h.4)
    ex_grows (t.Full at x) i h = (h.0, node_grows i at (e.Full h.0) h.1, ex_grows x h.0 h.2)
    ex_grows (t.New at shape init) i h = (h.0, h.1, node_grows i at (e.New h.0 h.1) h.2, shape_grows shape h.0 h.3, ex_grows init h.1 h.4)
    ex_grows (t.NewArray at shape length init) i h = (h.0, h.1, h.2, node_grows i at (e.NewArray h.0 h.1 h.2) h.3, shape_grows shape h.0 h.4, ex_grows length h.1 h.5, ex_grows init h.2 h.6)
    ex_grows (t.Delete at is_array operand) i h = (h.0, node_grows i at (e.Delete is_array h.0) h.1, ex_grows operand h.0 h.2)
    ex_grows (t.Braced at x) i h = (h.0, node_grows i at (e.Braced h.0) h.1, ex_grows x h.0 h.2)
    ex_grows (t.ClassList at clauses) i h = (h.0, node_grows i at (e.ClassList h.0) h.1, h.2, clauses_grow clauses (h.0).first h.3)
    ex_grows (t.ArrayList at clauses rest) i h = (h.0, h.1, node_grows i at (e.ArrayList h.0 h.1) h.2, h.3, exs_grow clauses (h.0).first h.4, ex_if_grows rest h.1 h.5)
    ex_grows (t.Zero at) i h = node_grows i at e.Zero h
    ex_grows (t.Default at) i h = node_grows i at e.Default h
    ex_grows (t.Parts at clauses is_zero) i h = (h.0, node_grows i at (e.Parts h.0 is_zero) h.1, h.2, clauses_grow clauses (h.0).first h.3)
    ex_grows (t.Each at x) i h = (h.0, node_grows i at (e.Each h.0) h.1, ex_grows x h.0 h.2)
    ex_grows (t.Initializer at x) i h = (h.0, node_grows i at (e.Initializer h.0) h.1, ex_grows x h.0 h.2)
    ex_grows (t.Construct at constructor args) i h = (h.0, node_grows i at (e.Construct constructor h.0) h.1, h.2, args_grow args (h.0).first h.3)
    ex_grows (t.Infos at xs) i h = (h.0, node_grows i at (e.Infos h.0) h.1, h.2, exs_grow xs (h.0).first h.3)
    ex_grows (t.SpecOptions at name alignment) i h = (h.0, h.1, node_grows i at (e.SpecOptions h.0 h.1) h.2, ex_if_grows name h.0 h.3, ex_if_grows alignment h.1 h.4)
    ex_grows (t.Objects at args) i h = (h.0, node_grows i at (e.Objects h.0) h.1, h.2, args_grow args (h.0).first h.3)
    ex_grows (t.Repeated at times x) i h = (h.0, node_grows i at (e.Repeated times h.0) h.1, ex_grows x h.0 h.2)
    ex_grows (t.Call at function args) i h = (h.0, node_grows i at (e.Call function h.0) h.1, h.2, args_grow args (h.0).first h.3)
    ex_grows (t.MemberCall at function object args) i h = (h.0, h.1, node_grows i at (e.MemberCall function h.0 h.1) h.2, ex_grows object h.0 h.3, h.4, args_grow args (h.1).first h.5)
    ex_grows (t.DroppingCall at function object args) i h = (h.0, h.1, node_grows i at (e.DroppingCall function h.0 h.1) h.2, ex_grows object h.0 h.3, h.4, args_grow args (h.1).first h.5)
    ex_grows (t.Query at row scope args) i h = (h.0, node_grows i at (e.Query row scope h.0) h.1, h.2, exs_grow args (h.0).first h.3)
    ex_grows (t.TypedQuery at row of scope arg) i h = (h.0, h.1, node_grows i at (e.TypedQuery row h.0 scope h.1) h.2, type_grows of h.0 h.3, ex_grows arg h.1 h.4)
    ex_grows (t.Library at op named object arg) i h = (h.0, h.1, node_grows i at (e.Library op named h.0 h.1) h.2, ex_grows object h.0 h.3, ex_if_grows arg h.1 h.4)
    ex_grows (t.Variable at variable shape init) i h = (h.0, h.1, node_grows i at (e.Variable variable h.0 h.1) h.2, shape_grows shape h.0 h.3, ex_grows init h.1 h.4)
    ex_grows (t.ConstexprLocal at slot shape init) i h = (h.0, h.1, node_grows i at (e.ConstexprLocal slot h.0 h.1) h.2, shape_grows shape h.0 h.3, ex_grows init h.1 h.4)

    pub ex_if_grows : (x : ExIf) (i : Option ExprNo) → HasExIf a i x → HasExIf b i x
    ex_if_grows t.no_ex None h = tt
    ex_if_grows t.no_ex (Some i) h = absurd h
    ex_if_grows (t.an_ex x) None h = absurd h
    ex_if_grows (t.an_ex x) (Some i) h = ex_grows x i h

    pub exs_grow : (xs : Exs) (at : ℕ) → HasExs a at xs → HasExs b at xs
    exs_grow t.end_ex at h = tt
    exs_grow (t.more_ex x xs) at h = (h.0, g.lists at h.0 h.1, ex_grows x (record { 0 = h.0 }) h.2, exs_grow xs (suc at) h.3)

    pub args_grow : (xs : Args) (at : ℕ) → HasArgs a at xs → HasArgs b at xs
    args_grow t.end_arg at h = tt
    args_grow (t.more_arg shape x xs) at h = (h.0, h.1, g.lists at h.0 h.2, g.lists (suc at) h.1 h.3, shape_grows shape (record { 0 = h.0 }) h.4, ex_grows x (record { 0 = h.1 }) h.5, args_grow xs (suc (suc at)) h.6)

    pub clauses_grow : (xs : Clauses) (at : ℕ) → HasClauses a at xs → HasClauses b at xs
    clauses_grow t.end_clause at h = tt
    clauses_grow (t.more_clause part x xs) at h = (h.0, g.lists at part h.1, g.lists (suc at) h.0 h.2, ex_grows x (record { 0 = h.0 }) h.3, clauses_grow xs (suc (suc at)) h.4)

  mutual
    pub st_grows : (x : St) (i : StmtNo) → HasSt a i x → HasSt b i x
    st_grows (u.Block at xs) i h = (h.0, stmt_node_grows i at (s.Block h.0) h.1, h.2, sts_grow xs (h.0).first h.3)
    st_grows (u.Scope at x) i h = (h.0, stmt_node_grows i at (s.Scope h.0) h.1, st_grows x h.0 h.2)
    st_grows (u.Empty at) i h = stmt_node_grows i at s.Empty h
    st_grows (u.Nothing at) i h = stmt_node_grows i at s.Nothing h
    st_grows (u.Expr at x) i h = (h.0, stmt_node_grows i at (s.Expr h.0) h.1, ex_grows x h.0 h.2)
    st_grows (u.Local at slot shape init) i h = (h.0, h.1, stmt_node_grows i at (s.Local slot h.0 h.1) h.2, shape_grows shape h.0 h.3, ex_grows init h.1 h.4)
    st_grows (u.SettledLocal at slot shape value) i h = (h.0, h.1, stmt_node_grows i at (s.SettledLocal slot h.0 h.1) h.2, shape_grows shape h.0 h.3, value_grows value h.1 h.4)
    st_grows (u.Assign at shape left right) i h = (h.0, h.1, h.2, stmt_node_grows i at (s.Assign h.0 h.1 h.2) h.3, shape_grows shape h.0 h.4, ex_grows left h.1 h.5, ex_grows right h.2 h.6)
    st_grows (u.Compound at op left right) i h = (h.0, h.1, stmt_node_grows i at (s.Compound op h.0 h.1) h.2, ex_grows left h.0 h.3, ex_grows right h.1 h.4)
    st_grows (u.Step at is_decrement of left) i h = (h.0, stmt_node_grows i at (s.Step is_decrement of h.0) h.1, ex_grows left h.0 h.2)
    st_grows (u.If at condition body otherwise) i h = (h.0, h.1, h.2, stmt_node_grows i at (s.If h.0 h.1 h.2) h.3, ex_grows condition h.0 h.4, st_grows body h.1 h.5, st_if_grows otherwise h.2 h.6)
    st_grows (u.While at condition body) i h = (h.0, h.1, stmt_node_grows i at (s.While h.0 h.1) h.2, ex_grows condition h.0 h.3, st_grows body h.1 h.4)
    st_grows (u.For at first condition step body) i h = (h.0, h.1, h.2, h.3, stmt_node_grows i at (s.For h.0 h.1 h.2 h.3) h.4, st_if_grows first h.0 h.5, ex_if_grows condition h.1 h.6, st_if_grows step h.2 h.7, st_grows body h.3 h.8)
    st_grows (u.RangeFor at slot shape is_array range init body) i h = (h.0, h.1, h.2, h.3, stmt_node_grows i at (s.RangeFor slot h.0 is_array h.1 h.2 h.3) h.4, shape_grows shape h.0 h.5, ex_grows range h.1 h.6, ex_grows init h.2 h.7, st_grows body h.3 h.8)
    st_grows (u.Return at x) i h = (h.0, stmt_node_grows i at (s.Return h.0) h.1, ex_if_grows x h.0 h.2)
    st_grows (u.Break at) i h = stmt_node_grows i at s.Break h
    st_grows (u.Continue at) i h = stmt_node_grows i at s.Continue h

    pub st_if_grows : (x : StIf) (i : Option StmtNo) → HasStIf a i x → HasStIf b i x
    st_if_grows u.no_st None h = tt
    st_if_grows u.no_st (Some i) h = absurd h
    st_if_grows (u.a_st x) None h = absurd h
    st_if_grows (u.a_st x) (Some i) h = st_grows x i h

    pub sts_grow : (xs : Sts) (at : ℕ) → HasSts a at xs → HasSts b at xs
    sts_grow u.end_st at h = tt
    sts_grow (u.more_st x xs) at h = (h.0, g.lists at h.0 h.1, st_grows x (record { 0 = h.0 }) h.2, sts_grow xs (suc at) h.3)

-- What nodes cost of their own: the table of steps. What the objects, the bytes and the elements cost is paid beside.
use Rattle.std.specs.Prelude.{ℕ, ◌+◌, Bool, true, false}
use Rattle.typed_code.specs.declared.expr.Expr.{Expr}
use Rattle.typed_code.specs.declared.expr.Expr.TheVariants as e
use Rattle.typed_code.specs.declared.stmt.Stmt.{Stmt}
use Rattle.typed_code.specs.declared.stmt.Stmt.TheVariants as s
use Rattle.typed_code.specs.declared.word.NamedBy.{NamedBy}
use Rattle.typed_code.specs.declared.word.NamedBy.TheVariants as named

-- what is free costs nothing
abbrev unless_free : Bool → ℕ
unless_free true = 0
unless_free false = 1

-- `->` is two steps, `.` is one
abbrev of_arrow : Bool → ℕ
of_arrow true = 2
of_arrow false = 1

abbrev of_name : NamedBy → ℕ
of_name named.Subscript = 0
of_name named.Dot = 1
of_name named.Arrow = 2

-- what an expression costs before its parts are evaluated
abbrev pub steps_of : Expr → ℕ
steps_of e.ThisObject = 0
steps_of e.ForeignThisObject = 0
steps_of e.Element = 0
steps_of (e.Copy x) = 0
steps_of (e.Convert how is_free x) = unless_free is_free
steps_of (e.ToBase is_place is_free path x) = unless_free is_free
steps_of (e.Member x arrow path) = of_arrow arrow
steps_of (e.StaticMember x arrow variable) = of_arrow arrow
steps_of (e.Temporary shape x is_extended) = 0
steps_of (e.Full x) = 0
steps_of e.Zero = 0
steps_of e.Default = 0
steps_of (e.Parts clauses is_zero) = 0
steps_of (e.Each x) = 0
steps_of (e.Initializer x) = 0
steps_of (e.Objects args) = 0
steps_of (e.Repeated times x) = 0
steps_of (e.Library op name x arg) = 1 + of_name name
steps_of (e.Variable variable shape x) = 0
steps_of (e.ConstexprLocal slot shape x) = 0
steps_of _ = 1

-- what a statement costs before its parts are run, once
abbrev pub stmt_steps_of : Stmt → ℕ
stmt_steps_of (s.Scope x) = 0
stmt_steps_of s.Nothing = 0
stmt_steps_of (s.SettledLocal slot shape value) = 0
stmt_steps_of (s.While x y) = 0
stmt_steps_of (s.For x y z w) = 0
stmt_steps_of _ = 1

-- what each test of a loop costs, also where there is no condition, and each element that a range gives
abbrev pub turn_steps_of : Stmt → ℕ
turn_steps_of (s.While x y) = 1
turn_steps_of (s.For x y z w) = 1
turn_steps_of (s.RangeFor slot shape is_array x y z) = 1
turn_steps_of _ = 0

-- The declarations that the items of a parsed unit are, where it is a list of `constexpr int NAME = SUM;`.
use Rattle.std.specs.Prelude.{ℕ, Bool, true, false, not, ◌&&◌, ◌||◌, ◌==◌, if◌then◌else◌, pos, List, [], ◌∷◌, ◌++◌, Option, None, Some}
use Rattle.std.specs.Option.{option_and_then}
use Rattle.cxx_base.specs.declared.operator.IntKind.TheVariants as int-kind
use Rattle.cxx_base.specs.declared.operator.IntOp.TheVariants as int-op
use Rattle.cxx_base.specs.declared.place.Place.{Place}
use Rattle.int_kinds.specs.Kind.{has_value}
use Rattle.cxx_tree.specs.declared.operator.BinaryOp.{BinaryOp}
use Rattle.cxx_tree.specs.declared.operator.BinaryOp.TheVariants as binary-op
use Rattle.cxx_tree.specs.declared.literal.IntegerLiteral.{IntegerLiteral}
use Rattle.cxx_tree.specs.declared.expr.Expr as expr-of
use Rattle.cxx_tree.specs.declared.expr.Expr.{Expr, Row_of-Expr, end_of-Expr, more_of-Expr, items-the_row-Operation}
use Rattle.cxx_tree.specs.declared.expr.Operation.{Operation}
use Rattle.cxx_tree.specs.declared.expr.Operation.TheVariants as operation-of
use Rattle.cxx_tree.specs.declared.expr.TypeTree.{TypeTree}
use Rattle.cxx_tree.specs.declared.expr.TypeTree.TheVariants as type-of
use Rattle.cxx_tree.specs.declared.expr.BasicTree.TheVariants as basic-of
use Rattle.cxx_tree.specs.declared.types.Fund.TheVariants as fund
use Rattle.cxx_tree.specs.declared.stmt.InitTree.{InitTree}
use Rattle.cxx_tree.specs.declared.stmt.InitTree.TheVariants as init-of
use Rattle.cxx_tree.specs.declared.stmt.BoundTree.{BoundTree}
use Rattle.cxx_tree.specs.declared.decl.Specifiers.{Specifiers}
use Rattle.cxx_tree.specs.declared.decl.Evaluated.{Evaluated}
use Rattle.cxx_tree.specs.declared.decl.Evaluated.TheVariants as evaluated
use Rattle.cxx_tree.specs.declared.decl.VariableTree.{VariableTree}
use Rattle.cxx_tree.specs.declared.decl.Decl.TheVariants as decl-of
use Rattle.cxx_tree.specs.declared.decl.Item.{Item}
use Rattle.cxx_tree.specs.declared.decl.Item.TheVariants as item-of
use Rattle.reflect_cli.specs.declared.form_tree.Arithmetic.{Arithmetic}
use Rattle.reflect_cli.specs.declared.form_tree.Arithmetic.TheVariants as arithmetic
use Rattle.reflect_cli.specs.declared.form_tree.Literal.{Literal}
use Rattle.reflect_cli.specs.declared.form_tree.Link.{Link}
use Rattle.reflect_cli.specs.declared.form_tree.Chain.{Chain}
use Rattle.reflect_cli.specs.declared.form_tree.Declaration.{Declaration}

-- what each of a list is, in order, behind those that were found; nothing where one of them is none
abbrev pub all_of : {A B : Type 0} → (A → Option B) → List B → List A → Option (List B)
all_of read found [] = Some found
all_of read found (x ∷ xs) = option_and_then (λ y. all_of read (found ++ y ∷ []) xs) (read x)

-- a decimal number or 0, where it is of type int ([lex.icon])
abbrev pub int_literal : Place → Bool → ℕ → Option Literal
int_literal place decimal n =
    if (decimal || n == 0) && has_value int-kind.Int (pos n) then Some (record { place = place; value = pos n }) else None

-- an integer without a suffix
abbrev pub literal_of : Place → IntegerLiteral → Option Literal
literal_of place n = if not n.unsigned && n.longs == 0 then int_literal place n.decimal n.n else None

abbrev pub literal : Expr → Option Literal
literal (expr-of.Integer s n) = literal_of s.place n
literal _ = None

-- the operators of [expr.mul]
abbrev pub multiplicative : BinaryOp → Option Arithmetic
multiplicative (binary-op.Int int-op.Mul) = Some arithmetic.Mul
multiplicative (binary-op.Int int-op.Div) = Some arithmetic.Div
multiplicative (binary-op.Int int-op.Rem) = Some arithmetic.Rem
multiplicative _ = None

-- those of [expr.add]
abbrev pub additive : BinaryOp → Option Arithmetic
additive (binary-op.Int int-op.Add) = Some arithmetic.Add
additive (binary-op.Int int-op.Sub) = Some arithmetic.Sub
additive _ = None

abbrev pub link_with : {A : Type 0} → Option Arithmetic → Option A → Option (Link A)
link_with (Some operator) (Some operand) = Some (record { operator = operator; operand = operand })
link_with _ _ = None

abbrev pub link : {A : Type 0} → (BinaryOp → Option Arithmetic) → (Expr → Option A) → Operation → Option (Link A)
link table operand (operation-of.Operation s op x) = link_with (table op) (operand x)

abbrev pub chain_with : {A : Type 0} → Option A → Option (List (Link A)) → Option (Chain A)
chain_with (Some first) (Some rest) = Some (record { first = first; rest = rest })
chain_with _ _ = None

-- what the tree is that a box holds, which is a row of one
abbrev pub boxed : {A : Type 0} → (Expr → Option A) → {m : _} → Row_of-Expr m → Option A
boxed read end_of-Expr = None
boxed read (more_of-Expr x rest) = read x

-- multiplicative-expression: literals joined by * / %
unfoldable pub product : Expr → Option (Chain Literal)
product (expr-of.Chain' s m first n operations) =
    chain_with (boxed literal first) (all_of (link multiplicative literal) [] (items-the_row-Operation _ operations))
product x = chain_with (literal x) (Some [])

-- products joined by + -
abbrev pub sum_of_products : Expr → Option (Chain (Chain Literal))
sum_of_products (expr-of.Chain' s m first n operations) =
    chain_with (boxed product first) (all_of (link additive product) [] (items-the_row-Operation _ operations))
sum_of_products _ = None

abbrev pub product_or : Option (Chain Literal) → Option (Chain (Chain Literal)) → Option (Chain (Chain Literal))
product_or (Some product) other = Some (record { first = product; rest = [] })
product_or None other = other

-- additive-expression: a product, or products joined by + -
unfoldable pub sum : Expr → Option (Chain (Chain Literal))
sum x = product_or (product x) (sum_of_products x)

abbrev pub is_constexpr : Evaluated → Bool
is_constexpr evaluated.Constexpr = true
is_constexpr _ = false

-- `constexpr` alone
abbrev pub is_only_constexpr : Specifiers → Bool
is_only_constexpr words = not words.is_inline && not words.is_static && is_constexpr words.evaluated

-- `int`, in whatever words: `signed`, `signed int` and `int signed` have the same tree ([dcl.type.simple])
abbrev pub is_only_int : TypeTree → Bool
is_only_int (type-of.Type s false (basic-of.Fund t (fund.Int int-kind.Int)) [] false) = true
is_only_int _ = false

abbrev pub is_empty : List BoundTree → Bool
is_empty [] = true
is_empty _ = false

abbrev pub has_form : VariableTree → Bool
has_form x = is_only_constexpr x.specifiers && is_only_int x.of_type && is_empty x.bounds

abbrev pub initializer : Option InitTree → Option (Chain (Chain Literal))
initializer (Some (init-of.Equal x)) = sum x
initializer _ = None

abbrev pub declared : VariableTree → Option (Chain (Chain Literal)) → Option Declaration
declared x (Some sum) = Some (record { name = x.name.name; initializer = sum })
declared x None = None

-- constexpr int NAME = SUM ;
abbrev pub variable : VariableTree → Option Declaration
variable x = if has_form x then declared x (initializer x.init) else None

abbrev pub declaration : Item → Option Declaration
declaration (item-of.Decl (decl-of.Variable x)) = variable x
declaration _ = None

unfoldable pub declarations : List Item → Option (List Declaration)
declarations items = all_of declaration [] items

-- Typed expressions, part within part: what elaboration gives and evaluation runs. What each form means is told at the nodes of the code.
use Rattle.std.specs.Prelude.{ℕ, suc, ℤ, Bool, List}
use Rattle.cxx_base.specs.declared.number.EntityNo.{EntityNo}
use Rattle.cxx_base.specs.declared.number.ScopeNo.{ScopeNo}
use Rattle.cxx_base.specs.declared.operator.CompareOp.{CompareOp}
use Rattle.cxx_base.specs.declared.operator.IntKind.{IntKind}
use Rattle.cxx_base.specs.declared.operator.IntOp.{IntOp}
use Rattle.cxx_base.specs.declared.place.Place.{Place}
use Rattle.cxx_type.specs.declared.whole.CxxType.{CxxType}
use Rattle.core_pointer.specs.declared.origin.Literal.{Literal}
use Rattle.core_pointer.specs.declared.path.PathStep.{PathStep}
use Rattle.core_shape.specs.declared.shape.Shape.{Shape}
use Rattle.core_value.specs.declared.query.QueryRow.{QueryRow}
use Rattle.core_value.specs.declared.value.Value.{Value}
use Rattle.typed_code.specs.declared.number.SlotNo.{SlotNo}
use Rattle.typed_code.specs.declared.word.Compared.{Compared}
use Rattle.typed_code.specs.declared.word.Convert.{Convert as How}
use Rattle.typed_code.specs.declared.word.LibraryOp.{LibraryOp}
use Rattle.typed_code.specs.declared.word.NamedBy.{NamedBy}
use Rattle.typed_code.specs.declared.word.PointerOp.{PointerOp}
use Rattle.typed_code.specs.declared.word.UnaryCode.{UnaryCode}

-- where an expression begins, and its type
pub record Typed : Type 0 where
  pub place : Place
  pub of : CxxType

mutual
  pub data Ex : Type 0 where
    Number : Typed → ℤ → Ex
    Settled : Typed → Value → Ex
    Text : Typed → Literal → Ex
    Local : Typed → SlotNo → Ex
    LocalReference : Typed → SlotNo → Ex
    SettledLocal : Typed → SlotNo → Shape → Value → Ex
    Static : Typed → EntityNo → Ex
    Foreign : Typed → SlotNo → Ex
    ForeignReference : Typed → SlotNo → Ex
    This : Typed → Ex
    ForeignThis : Typed → Ex
    ThisObject : Typed → Ex
    ForeignThisObject : Typed → Ex
    Element : Typed → Ex
    Read : Typed → Ex → Ex
    Copy : Typed → Ex → Ex
    Convert : Typed → How → Bool → Ex → Ex
    ToBase : Typed → Bool → Bool → List PathStep → Ex → Ex
    Unary : Typed → UnaryCode → Ex → Ex
    Int : Typed → IntOp → IntKind → Ex → Ex → Ex
    Compare : Typed → CompareOp → Compared → Ex → Ex → Ex
    Pointers : Typed → PointerOp → Ex → Ex → Ex
    And : Typed → Ex → Ex → Ex
    Or : Typed → Ex → Ex → Ex
    Subscript : Typed → Ex → Ex → Ex
    Conditional : Typed → Ex → Ex → Ex → Ex
    Member : Typed → Ex → Bool → List PathStep → Ex
    StaticMember : Typed → Ex → Bool → EntityNo → Ex
    Temporary : Typed → Shape → Ex → Bool → Ex
    Full : Typed → Ex → Ex
    New : Typed → Shape → Ex → Ex
    NewArray : Typed → Shape → Ex → Ex → Ex
    Delete : Typed → Bool → Ex → Ex
    Braced : Typed → Ex → Ex
    ClassList : Typed → Clauses → Ex
    ArrayList : Typed → Exs → ExIf → Ex
    Zero : Typed → Ex
    Default : Typed → Ex
    Parts : Typed → Clauses → Bool → Ex
    Each : Typed → Ex → Ex
    Initializer : Typed → Ex → Ex
    Construct : Typed → EntityNo → Args → Ex
    Infos : Typed → Exs → Ex
    SpecOptions : Typed → ExIf → ExIf → Ex
    Objects : Typed → Args → Ex
    Repeated : Typed → ℕ → Ex → Ex
    Call : Typed → EntityNo → Args → Ex
    MemberCall : Typed → EntityNo → Ex → Args → Ex
    DroppingCall : Typed → EntityNo → Ex → Args → Ex
    Query : Typed → QueryRow → ScopeNo → Exs → Ex
    TypedQuery : Typed → QueryRow → CxxType → ScopeNo → Ex → Ex
    Library : Typed → LibraryOp → NamedBy → Ex → ExIf → Ex
    Variable : Typed → EntityNo → Shape → Ex → Ex
    ConstexprLocal : Typed → SlotNo → Shape → Ex → Ex

  -- an expression that may be missing
  pub data ExIf : Type 0 where
    no_ex : ExIf
    an_ex : Ex → ExIf

  pub data Exs : Type 0 where
    end_ex : Exs
    more_ex : Ex → Exs → Exs

  -- arguments, each with the shape of its parameter
  pub data Args : Type 0 where
    end_arg : Args
    more_arg : Shape → Ex → Args → Args

  -- clauses and member initializers, each with the number of the part that it makes, bases first
  pub data Clauses : Type 0 where
    end_clause : Clauses
    more_clause : ℕ → Ex → Clauses → Clauses

abbrev pub count_of : Exs → ℕ
count_of end_ex = 0
count_of (more_ex x xs) = suc (count_of xs)

abbrev pub args_of : Args → ℕ
args_of end_arg = 0
args_of (more_arg s x xs) = suc (args_of xs)

abbrev pub clauses_of : Clauses → ℕ
clauses_of end_clause = 0
clauses_of (more_clause k x xs) = suc (clauses_of xs)

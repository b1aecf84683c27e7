-- Typed statements, part within part.
use Rattle.std.specs.Prelude.{ℕ, suc, Bool}
use Rattle.cxx_base.specs.declared.place.Place.{Place}
use Rattle.core_shape.specs.declared.shape.Shape.{Shape}
use Rattle.core_value.specs.declared.value.Value.{Value}
use Rattle.typed_code.specs.declared.number.SlotNo.{SlotNo}
use Rattle.typed_code.specs.declared.word.CompoundOp.{CompoundOp}
use Rattle.typed_code.specs.declared.word.Stepped.{Stepped}
use Rattle.typed_code.specs.ExprTrees.{Ex, ExIf}

mutual
  pub data St : Type 0 where
    Block : Place → Sts → St
    Scope : Place → St → St
    Empty : Place → St
    Nothing : Place → St
    Expr : Place → Ex → St
    Local : Place → SlotNo → Shape → Ex → St
    SettledLocal : Place → SlotNo → Shape → Value → St
    Assign : Place → Shape → Ex → Ex → St
    Compound : Place → CompoundOp → Ex → Ex → St
    Step : Place → Bool → Stepped → Ex → St
    If : Place → Ex → St → StIf → St
    While : Place → Ex → St → St
    For : Place → StIf → ExIf → StIf → St → St
    RangeFor : Place → SlotNo → Shape → Bool → Ex → Ex → St → St
    Return : Place → ExIf → St
    Break : Place → St
    Continue : Place → St

  -- a statement that may be missing
  pub data StIf : Type 0 where
    no_st : StIf
    a_st : St → StIf

  pub data Sts : Type 0 where
    end_st : Sts
    more_st : St → Sts → Sts

abbrev pub stmts_of : Sts → ℕ
stmts_of end_st = 0
stmts_of (more_st x xs) = suc (stmts_of xs)

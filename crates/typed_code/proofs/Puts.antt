-- What stands when something is put behind it.
use Rattle.std.specs.Prelude.{◌≡◌, ℕ, zero, suc, ◌-◌, ◌/◌, ◌%◌, Bool, true, false, if◌then◌else◌, nat_eq, nat_lt, List, [], ◌∷◌, ◌++◌, Option, None, Some, slice_get}
use Rattle.core_pointer.specs.declared.origin.Literal.{Literal}
use Rattle.core_pointer.specs.declared.path.PathStep.{PathStep}
use Rattle.core_shape.specs.declared.shape.Shape.{Shape}
use Rattle.core_value.specs.declared.value.Value.{Value}
use Rattle.cxx_type.specs.declared.whole.CxxType.{CxxType}
use Rattle.typed_code.specs.declared.basics.TheConstants.{BASIC_TYPES}
use Rattle.typed_code.specs.declared.expr.ExprNode.{ExprNode}
use Rattle.typed_code.specs.declared.stmt.StmtNode.{StmtNode}
use Rattle.typed_code.specs.Arrays.{Arrays}
use Rattle.typed_code.specs.Has.{Extends}

pub get_more : {A : Type 0} (xs ys : List A) (i : ℕ) (x : A) → slice_get xs i ≡ Some x → slice_get (xs ++ ys) i ≡ Some x
get_more [] ys i x h = let p : None ≡ Some x = h in cc
get_more (y ∷ xs) ys zero x h = h
get_more (y ∷ xs) ys (suc i) x h = get_more xs ys i x h

-- what stands beyond a bound stands, and what stands below it is the same
more_beyond : {A : Type 0} (below : Bool) (p q r : Option A) (x : A) → (q ≡ Some x → r ≡ Some x)
    → (if below then p else q) ≡ Some x → (if below then p else r) ≡ Some x
more_beyond true p q r x more h = h
more_beyond false p q r x more h = more h

module _ (a : Arrays) where
  pub with_exprs : (more : List ExprNode) → Extends a (record a { exprs = a.exprs ++ more })
  with_exprs more = record {
    exprs = get_more a.exprs more;
    stmts = λ i x h. h;
    lists = λ i x h. h;
    steps = λ i x h. h;
    types = λ i x h. h;
    shapes = λ i x h. h;
    texts = λ i x h. h;
    values = λ i x h. h;
  }

  pub with_stmts : (more : List StmtNode) → Extends a (record a { stmts = a.stmts ++ more })
  with_stmts more = record {
    exprs = λ i x h. h;
    stmts = get_more a.stmts more;
    lists = λ i x h. h;
    steps = λ i x h. h;
    types = λ i x h. h;
    shapes = λ i x h. h;
    texts = λ i x h. h;
    values = λ i x h. h;
  }

  pub with_lists : (more : List ℕ) → Extends a (record a { lists = a.lists ++ more })
  with_lists more = record {
    exprs = λ i x h. h;
    stmts = λ i x h. h;
    lists = get_more a.lists more;
    steps = λ i x h. h;
    types = λ i x h. h;
    shapes = λ i x h. h;
    texts = λ i x h. h;
    values = λ i x h. h;
  }

  pub with_steps : (more : List PathStep) → Extends a (record a { steps = a.steps ++ more })
  with_steps more = record {
    exprs = λ i x h. h;
    stmts = λ i x h. h;
    lists = λ i x h. h;
    steps = get_more a.steps more;
    types = λ i x h. h;
    shapes = λ i x h. h;
    texts = λ i x h. h;
    values = λ i x h. h;
  }

  pub with_texts : (more : List Literal) → Extends a (record a { texts = a.texts ++ more })
  with_texts more = record {
    exprs = λ i x h. h;
    stmts = λ i x h. h;
    lists = λ i x h. h;
    steps = λ i x h. h;
    types = λ i x h. h;
    shapes = λ i x h. h;
    texts = get_more a.texts more;
    values = λ i x h. h;
  }

  pub with_values : (more : List Value) → Extends a (record a { values = a.values ++ more })
  with_values more = record {
    exprs = λ i x h. h;
    stmts = λ i x h. h;
    lists = λ i x h. h;
    steps = λ i x h. h;
    types = λ i x h. h;
    shapes = λ i x h. h;
    texts = λ i x h. h;
    values = get_more a.values more;
  }

  pub with_types : (more : List CxxType) → Extends a (record a { types = a.types ++ more })
  with_types more = record {
    exprs = λ i x h. h;
    stmts = λ i x h. h;
    lists = λ i x h. h;
    steps = λ i x h. h;
    types = λ i x h. more_beyond (nat_lt i BASIC_TYPES) _ _ _ x (get_more a.types more (i - BASIC_TYPES) x) h;
    shapes = λ i x h. h;
    texts = λ i x h. h;
    values = λ i x h. h;
  }

  pub with_shapes : (more : List Shape) → Extends a (record a { shapes = a.shapes ++ more })
  with_shapes more = record {
    exprs = λ i x h. h;
    stmts = λ i x h. h;
    lists = λ i x h. h;
    steps = λ i x h. h;
    types = λ i x h. h;
    shapes = λ i x h. more_beyond (nat_lt i BASIC_TYPES) _ _ _ x (get_more a.shapes more (i - BASIC_TYPES) x) h;
    texts = λ i x h. h;
    values = λ i x h. h;
  }

-- one after the other
pub then_more : (a b c : Arrays) → Extends a b → Extends b c → Extends a c
then_more a b c g h = record {
  exprs = λ i x p. h.exprs i x (g.exprs i x p);
  stmts = λ i x p. h.stmts i x (g.stmts i x p);
  lists = λ i x p. h.lists i x (g.lists i x p);
  steps = λ i x p. h.steps i x (g.steps i x p);
  types = λ i x p. h.types i x (g.types i x p);
  shapes = λ i x p. h.shapes i x (g.shapes i x p);
  texts = λ i x p. h.texts i x (g.texts i x p);
  values = λ i x p. h.values i x (g.values i x p);
}

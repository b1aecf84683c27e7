-- The steps of a climb, as the functions make them.
use Rattle.std.proofs.Common.{◌≡◌, ℕ, ◌+◌, ◌<◌, ◌≤◌, List, [], ◌∷◌, ◌++◌, Some, None, ap, ◌∙◌, sym, refl}
use Rattle.cxx_tree.specs.declared.expr.Expr.{Expr}
use Rattle.cxx_tokens.specs.declared.token.Tokens.{Tokens}
use Rattle.cxx_reading.specs.Extents.{EndsFrom}
use Rattle.cxx_reading.specs.Reading.{End, Tree, No, Nothing, TooDeep}
use Rattle.cxx_grammar.specs.declared.operator.Operator.{Operator}
use Rattle.cxx_grammar.specs.Unaries.{unary}
use Rattle.cxx_grammar.specs.Joined.{climbed}
use Rattle.cxx_grammar.specs.Read.{read}
use Rattle.cxx_grammar.proofs.Ends as extents
use Rattle.cxx_grammar.proofs.Forwards as forwards
use Rattle.parse_chain.specs.declared.open_chain.OpenChain.{OpenChain}
use Rattle.parse_chain.specs.Chains.{closed, extended, opened}
use Rattle.parse_chain.specs.Climbs.{climb, Places, Idle, Finishes}
use Rattle.parse_chain.specs.Next.{operator_at}
use Rattle.parse_chain.proofs.Steps.{settles, tighter, goes_on, begins_outside, begins_inside, idle_end, idle_all, no_operand, no_operator, too_deep, climb_is}

-- ---- an operator is placed

module _ (tokens : Tokens) (i : ℕ) (operator : Operator) (there : operator_at tokens i ≡ Some (operator, i + 1)) (before : List OpenChain) (first : ℕ) (whole : Expr) where
  -- what holds before each turn
  abbrev pub Placing : List OpenChain → ℕ → Expr → Type 0
  Placing chains start x = (level : ℕ) → climb tokens (read tokens level) before 0 first whole i ≡ climb tokens (read tokens level) chains operator.line start x i

  pub at_first : Placing before first whole
  at_first level = settles tokens (read tokens level) i (i + 1) operator there before first whole

  pub turn_by : (chains rest : List OpenChain) (o : OpenChain) (start : ℕ) (x y : Expr) → Placing chains start x → chains ≡ rest ++ o ∷ [] → y ≡ closed tokens o x i → o.line < operator.line
      → Placing rest o.start y
  turn_by chains rest o start x y h e made below level =
      h level
      ∙ ap (λ (all : List OpenChain). climb tokens (read tokens level) all operator.line start x i) e
      ∙ tighter tokens (read tokens level) i (i + 1) operator there rest o start x below
      ∙ ap (λ (z : Expr). climb tokens (read tokens level) rest operator.line o.start z i) (sym made)

  pub goes_by : (chains rest after : List OpenChain) (o : OpenChain) (start : ℕ) (x : Expr) → Placing chains start x → chains ≡ rest ++ o ∷ [] → after ≡ rest ++ extended tokens o x operator.op i ∷ [] → o.line ≡ operator.line
      → Places tokens before first whole i after
  goes_by chains rest after o start x h e made same = record {
    same = λ level y k operand.
        h level
        ∙ ap (λ (all : List OpenChain). climb tokens (read tokens level) all operator.line start x i) e
        ∙ goes_on tokens (read tokens level) i (i + 1) operator there (forwards.read tokens level) y k operand rest o start x same
        ∙ ap (λ (all : List OpenChain). climb tokens (read tokens level) all 0 (i + 1) y k) (sym made);
  }

  pub begins_by : (chains rest again after : List OpenChain) (o : OpenChain) (start : ℕ) (x : Expr) → Placing chains start x → chains ≡ rest ++ o ∷ [] → again ≡ rest ++ o ∷ [] → after ≡ again ++ opened operator start x i ∷ [] → operator.line < o.line
      → Places tokens before first whole i after
  begins_by chains rest again after o start x h e back made above = record {
    same = λ level y k operand.
        h level
        ∙ ap (λ (all : List OpenChain). climb tokens (read tokens level) all operator.line start x i) e
        ∙ begins_inside tokens (read tokens level) i (i + 1) operator there (forwards.read tokens level) y k operand rest o start x above
        ∙ ap (λ (all : List OpenChain). climb tokens (read tokens level) (all ++ opened operator start x i ∷ []) 0 (i + 1) y k) (sym back)
        ∙ ap (λ (all : List OpenChain). climb tokens (read tokens level) all 0 (i + 1) y k) (sym made);
  }

  pub begins_first : (chains rest after : List OpenChain) (start : ℕ) (x : Expr) → Placing chains start x → chains ≡ [] → rest ≡ [] → after ≡ rest ++ opened operator start x i ∷ [] → operator.line < 10
      → Places tokens before first whole i after
  begins_first chains rest after start x h e back made line = record {
    same = λ level y k operand.
        h level
        ∙ ap (λ (all : List OpenChain). climb tokens (read tokens level) all operator.line start x i) e
        ∙ begins_outside tokens (read tokens level) i (i + 1) operator there (forwards.read tokens level) y k operand line start x
        ∙ ap (λ (all : List OpenChain). climb tokens (read tokens level) (all ++ opened operator start x i ∷ []) 0 (i + 1) y k) (sym back)
        ∙ ap (λ (all : List OpenChain). climb tokens (read tokens level) all 0 (i + 1) y k) (sym made);
  }

  -- what was taken off is put on again
  pub turn_within : (rest outer : List OpenChain) (o : OpenChain) (start : ℕ) (x : Expr) → Placing rest start x → rest ≡ outer ++ o ∷ [] → Placing (outer ++ o ∷ []) start x
  turn_within rest outer o start x h e level = h level ∙ ap (λ (all : List OpenChain). climb tokens (read tokens level) all operator.line start x i) e

-- the first operator, with no chain around it
pub first_places : (tokens : Tokens) (i : ℕ) (operator : Operator) → operator_at tokens i ≡ Some (operator, i + 1) → operator.line < 10
    → (start : ℕ) (x : Expr) (rest after : List OpenChain) → rest ≡ [] → after ≡ rest ++ opened operator start x i ∷ [] → Places tokens [] start x i after
first_places tokens i operator there line start x rest after none made =
    begins_first tokens i operator there [] start x [] rest after start x (at_first tokens i operator there [] start x) refl none made line

-- ---- all chains end

module _ (tokens : Tokens) (i : ℕ) (before : List OpenChain) (first : ℕ) (whole : Expr) where
  abbrev pub Finishing : List OpenChain → ℕ → Expr → Type 0
  Finishing chains start x = (level : ℕ) → Idle tokens (read tokens level) i → climb tokens (read tokens level) before 0 first whole i ≡ climb tokens (read tokens level) chains 0 start x i

  pub end_by : (chains rest : List OpenChain) (o : OpenChain) (start : ℕ) (x y : Expr) → Finishing chains start x → chains ≡ rest ++ o ∷ [] → y ≡ closed tokens o x i → Finishing rest o.start y
  end_by chains rest o start x y h e made level idle =
      h level idle
      ∙ ap (λ (all : List OpenChain). climb tokens (read tokens level) all 0 start x i) e
      ∙ idle_end tokens (read tokens level) i idle rest o start x
      ∙ ap (λ (z : Expr). climb tokens (read tokens level) rest 0 o.start z i) (sym made)

  pub finished_by : (chains : List OpenChain) (start : ℕ) (x : Expr) → Finishing chains start x → chains ≡ [] → Finishes tokens before first whole i x
  finished_by chains start x h e = record {
    same = λ level idle.
        h level idle
        ∙ ap (λ (all : List OpenChain). climb tokens (read tokens level) all 0 start x i) e
        ∙ idle_all tokens (read tokens level) i idle start x;
  }

-- with no chain, the operand is the whole
pub finishes_alone : (tokens : Tokens) (i start : ℕ) (x : Expr) (chains : List OpenChain) → chains ≡ [] → Finishes tokens chains start x i x
finishes_alone tokens i start x chains none = finished_by tokens i chains start x chains start x (λ level idle. refl) none

-- the innermost chain ends before the others
pub finishes_within : (tokens : Tokens) (i : ℕ) (chains rest : List OpenChain) (o : OpenChain) (start : ℕ) (x y made : Expr) → chains ≡ rest ++ o ∷ [] → y ≡ closed tokens o x i
    → Finishes tokens rest o.start y i made → Finishes tokens chains start x i made
finishes_within tokens i chains rest o start x y made parts e f = record {
  same = λ level idle.
      ap (λ (all : List OpenChain). climb tokens (read tokens level) all 0 start x i) parts
      ∙ idle_end tokens (read tokens level) i idle rest o start x
      ∙ ap (λ (z : Expr). climb tokens (read tokens level) rest 0 o.start z i) (sym e)
      ∙ f.same level idle;
}

-- ---- the climb

module _ (tokens : Tokens) (level : ℕ) where
  pub first_turn : (chains : List OpenChain) (start : ℕ) (x : Expr) (i : ℕ) → chains ≡ [] → climbed tokens (read tokens level) 10 start x i ≡ climb tokens (read tokens level) chains 0 start x i
  first_turn chains start x i e = climb_is tokens (read tokens level) start x i ∙ ap (λ (all : List OpenChain). climb tokens (read tokens level) all 0 start x i) (sym e)

  -- where no operator stands, the operand is all
  pub ends_at_once : (start : ℕ) (x : Expr) (i : ℕ) → operator_at tokens i ≡ None → climbed tokens (read tokens level) 10 start x i ≡ Tree x i
  ends_at_once start x i e = climb_is tokens (read tokens level) start x i ∙ idle_all tokens (read tokens level) i (no_operator tokens (read tokens level) i e) start x

  pub operand_behind : (y : Expr) (j k : ℕ) → unary tokens (read tokens level) j ≡ Tree y k → j + 1 ≤ k
  operand_behind y j k e = let f : EndsFrom (j + 1) (unary tokens (read tokens level) j) = (extents.unary tokens (read tokens level) (forwards.read tokens level) (extents.read tokens level)).at j in rw e at f

  module _ (end : End Expr) (chains : List OpenChain) (start : ℕ) (x : Expr) (i : ℕ) (so_far : end ≡ climb tokens (read tokens level) chains 0 start x i) where
    pub ends_without : (y : Expr) → operator_at tokens i ≡ None → Finishes tokens chains start x i y → end ≡ Tree y i
    ends_without y e f = so_far ∙ f.same level (no_operator tokens (read tokens level) i e)

    module _ (operator : Operator) (there : operator_at tokens i ≡ Some (operator, i + 1)) where
      pub ends_before : (y : Expr) → unary tokens (read tokens level) (i + 1) ≡ No Nothing → Finishes tokens chains start x i y → end ≡ Tree y i
      ends_before y e f = so_far ∙ f.same level (no_operand tokens (read tokens level) i (i + 1) operator there e)

      pub ends_deep : operator.line < 10 → unary tokens (read tokens level) (i + 1) ≡ No TooDeep → end ≡ No TooDeep
      ends_deep line e = so_far ∙ too_deep tokens (read tokens level) i (i + 1) operator there e line chains start x

    pub turn_on : (after : List OpenChain) (y : Expr) (k : ℕ) → unary tokens (read tokens level) (i + 1) ≡ Tree y k → Places tokens chains start x i after → end ≡ climb tokens (read tokens level) after 0 (i + 1) y k
    turn_on after y k e p = so_far ∙ p.same level y k e

-- What a body shares with what stands around it: declarators, assignments, static assertions and aliases, and what tells that
-- a statement declares a local variable ([dcl.decl], [dcl.init], [expr.assign], [dcl.pre], [dcl.typedef], [stmt.ambig]).
use Rattle.std.specs.Prelude.{ℕ, zero, suc, ◌+◌, Bool, true, false, ◌&&◌, ◌||◌, not, if◌then◌else◌, ◌==◌, List, [], ◌∷◌, Option, Some, None, is_none}
use Rattle.cxx_base.specs.declared.operator.IntOp.{IntOp}
use Rattle.cxx_base.specs.declared.operator.IntOp.TheVariants as int
use Rattle.cxx_base.specs.declared.place.Span.{Span}
use Rattle.cxx_tree.specs.declared.stmt.BoundTree.{BoundTree}
use Rattle.cxx_tree.specs.declared.stmt.InitTree.{InitTree}
use Rattle.cxx_tree.specs.declared.stmt.InitTree.TheVariants as init-of
use Rattle.cxx_tree.specs.declared.stmt.LocalTree.{LocalTree}
use Rattle.cxx_tree.specs.declared.stmt.AssignTree.{AssignTree}
use Rattle.cxx_tree.specs.declared.stmt.AssignTree.TheVariants as assign-of
use Rattle.cxx_tree.specs.declared.stmt.StepOp.{StepOp}
use Rattle.cxx_tree.specs.declared.stmt.StepOp.TheVariants as step-of
use Rattle.cxx_tree.specs.declared.decl.AliasTree.{AliasTree}
use Rattle.cxx_tree.specs.declared.decl.AliasedTree.{AliasedTree}
use Rattle.cxx_tree.specs.declared.decl.AliasedTree.TheVariants as aliased-of
use Rattle.cxx_tree.specs.declared.decl.AssertTree.{AssertTree}
use Rattle.cxx_tokens.specs.declared.token.Tokens.{Tokens}
use Rattle.cxx_tokens.specs.declared.mark.TheConstants as mark
use Rattle.cxx_tokens.specs.declared.keyword.TheConstants as keyword
use Rattle.cxx_reading.specs.Any.{given, any_punctuator}
use Rattle.cxx_reading.specs.Reading.{End, Tree, No, Nothing, Rule, ◌>>=◌, ◌>>◌, ◌<|>◌, pure, guard, present, optional, punctuator, word, identifier, text, sees_punctuator, sees_word, sees_identifier, left, node}
use Rattle.cxx_grammar.specs.Sequences.{many}
use Rattle.cxx_grammar.specs.Names.{name, vector_head}
use Rattle.cxx_grammar.specs.Fundamentals.{fund}
use Rattle.cxx_grammar.specs.Lists.{arg}
use Rattle.cxx_grammar.specs.Rules.{Rules}
use Rattle.cxx_grammar.specs.Read.{read}

-- whether a rule reads
abbrev pub reads : {A : Type 0} → End A → Bool
reads (Tree a i) = true
reads (No why) = false

-- `+=` `-=` `*=` `/=` `%=` `^=` `&=` `|=` `<<=` `>>=`
abbrev pub compound_mark : ℕ → Option IntOp
compound_mark m = if m == mark.PLUS_EQUAL then Some int.Add
    else (if m == mark.MINUS_EQUAL then Some int.Sub
    else (if m == mark.STAR_EQUAL then Some int.Mul
    else (if m == mark.SLASH_EQUAL then Some int.Div
    else (if m == mark.PERCENT_EQUAL then Some int.Rem
    else (if m == mark.CARET_EQUAL then Some int.Xor
    else (if m == mark.AMPERSAND_EQUAL then Some int.And
    else (if m == mark.PIPE_EQUAL then Some int.Or
    else (if m == mark.SHIFT_LEFT_EQUAL then Some int.Shl
    else (if m == mark.SHIFT_RIGHT_EQUAL then Some int.Shr else None)))))))))

abbrev pub step_before_mark : ℕ → Option StepOp
step_before_mark m = if m == mark.INCREMENT then Some step-of.PreIncrement else (if m == mark.DECREMENT then Some step-of.PreDecrement else None)

abbrev pub step_behind_mark : ℕ → Option StepOp
step_behind_mark m = if m == mark.INCREMENT then Some step-of.PostIncrement else (if m == mark.DECREMENT then Some step-of.PostDecrement else None)

-- ---- declarators

abbrev pub has_length : BoundTree → Bool
has_length b = not (is_none b.length)

abbrev pub have_lengths : List BoundTree → Bool
have_lengths [] = true
have_lengths (b ∷ more) = has_length b && have_lengths more

abbrev pub is_braced_init : Option InitTree → Bool
is_braced_init (Some (init-of.EqualBraced x)) = true
is_braced_init (Some (init-of.Braced x)) = true
is_braced_init _ = false

-- A bound without a length stands only first, and before a braced initializer.
abbrev pub fit_bounds : List BoundTree → Option InitTree → Bool
fit_bounds [] init = true
fit_bounds (first ∷ more) init = have_lengths more && (has_length first || is_braced_init init)

module _ (tokens : Tokens) where
  abbrev p : ℕ → Rule (Unit {0})
  p = punctuator tokens

  abbrev w : ℕ → Rule (Unit {0})
  w = word tokens

  -- ---- what begins a declaration in a body

  -- "*", "&" or "const"
  abbrev pub points : ℕ → Bool
  points i = (sees_punctuator tokens mark.STAR i || sees_punctuator tokens mark.AMPERSAND i) || sees_word tokens keyword.CONST i

  -- the token behind as many of these as stand there, but at most so many
  unfoldable pub behind_points : ℕ → ℕ → ℕ
  behind_points zero i = i
  behind_points (suc n) i = if points i then behind_points n (i + 1) else i

  -- a name that an identifier follows, also behind one or more of "*", "&", "const"
  abbrev pub declares : {A : Type 0} → End A → Bool
  declares (Tree n j) = sees_identifier tokens (behind_points (left tokens j) j)
  declares (No why) = false

  -- a fundamental type that neither "(" nor "{" follows
  abbrev pub stands_alone : {A : Type 0} → End A → Bool
  stands_alone (Tree f j) = not (sees_punctuator tokens mark.LEFT_PAREN j || sees_punctuator tokens mark.LEFT_BRACE j)
  stands_alone (No why) = false

  -- A statement is a declaration of a local variable exactly where it begins with `constexpr`, `const`, `typename`, the type
  -- of a vector, a fundamental type as above, or a name as above (compare [stmt.ambig]).
  unfoldable pub begins_local : ℕ → Bool
  begins_local i = sees_word tokens keyword.CONSTEXPR i || (sees_word tokens keyword.CONST i || (sees_word tokens keyword.TYPENAME i
      || (reads (vector_head tokens i) || (stands_alone (fund tokens i) || declares (name tokens i)))))

  -- A form that stands exactly where such a declaration begins, and one that stands exactly where none does. Which of them
  -- stands is settled before they are read, so the other one is not asked, not even whether it is too deep.
  abbrev pub locally : {A : Type 0} → Rule A → Rule A
  locally q = λ i. if begins_local i then q i else No Nothing

  abbrev pub elsewhere : {A : Type 0} → Rule A → Rule A
  elsewhere q = λ i. if begins_local i then No Nothing else q i

  -- ---- operators of assignments

  -- OP=
  unfoldable pub compound : Rule IntOp
  compound = do m ← any_punctuator tokens; given (compound_mark m)

  -- "++" | "--" before its operand
  unfoldable pub before : Rule StepOp
  before = do m ← any_punctuator tokens; given (step_before_mark m)

  -- "++" | "--" behind its operand
  unfoldable pub behind : Rule StepOp
  behind = do m ← any_punctuator tokens; given (step_behind_mark m)

  -- ---- the message of an assertion

  -- "," STRING, of which no more is kept than where it stands
  unfoldable pub message : Rule Span
  message = p mark.COMMA >> node tokens (text tokens >> pure (λ s. s))

  -- ---- forms at a level: `here` are the rules of expressions there, `deeper` those one level deeper

  module _ (level : ℕ) where
    abbrev here : Rules
    here = read tokens level

    abbrev deeper : Rules
    deeper = read tokens (level + 1)

    -- bound : "[" expr? "]"
    unfoldable pub bound : Rule BoundTree
    bound = node tokens (do
      p mark.LEFT_BRACKET
      length ← optional deeper.expr
      p mark.RIGHT_BRACKET
      pure (λ s. record { span = s; length = length }))

    -- bound*
    unfoldable pub bounds : List BoundTree → Rule (List BoundTree)
    bounds = many tokens bound

    unfoldable pub init_equal : Rule InitTree
    init_equal = do p mark.EQUAL; x ← here.expr; pure (init-of.Equal x)

    unfoldable pub init_equal_braced : Rule InitTree
    init_equal_braced = do p mark.EQUAL; x ← here.braced; pure (init-of.EqualBraced x)

    unfoldable pub init_braced : Rule InitTree
    init_braced = do x ← here.braced; pure (init-of.Braced x)

    -- init : "=" expr | "=" braced | braced
    unfoldable pub init : Rule InitTree
    init = init_equal <|> init_equal_braced <|> init_braced

    -- local : "constexpr"? type ID bound* init? ";"
    unfoldable pub local : Rule LocalTree
    local = node tokens (do
      is_constexpr ← present (w keyword.CONSTEXPR)
      of_type ← here.type_tree
      n ← identifier tokens
      all ← bounds []
      value ← optional init
      p mark.SEMICOLON
      guard (fit_bounds all value)
      pure (λ s. record { span = s; is_constexpr = is_constexpr; of_type = of_type; name = n; bounds = all; init = value }))

    -- ---- assignments

    -- unary "=" (expr | braced)
    unfoldable pub assign_equal : Rule AssignTree
    assign_equal = node tokens (do
      place ← here.unary
      p mark.EQUAL
      x ← arg tokens here
      pure (λ s. assign-of.Equal s place x))

    -- unary OP= expr
    unfoldable pub assign_compound : Rule AssignTree
    assign_compound = node tokens (do
      place ← here.unary
      op ← compound
      x ← here.expr
      pure (λ s. assign-of.Compound s op place x))

    -- ("++" | "--") unary
    unfoldable pub step_before : Rule AssignTree
    step_before = node tokens (do
      op ← before
      x ← deeper.unary
      pure (λ s. assign-of.Step s op x))

    -- unary ("++" | "--")
    unfoldable pub step_behind : Rule AssignTree
    step_behind = node tokens (do
      x ← here.unary
      op ← behind
      pure (λ s. assign-of.Step s op x))

    -- assign : unary "=" (expr | braced) | unary OP= expr | ("++" | "--") unary | unary ("++" | "--")
    unfoldable pub assign : Rule AssignTree
    assign = assign_equal <|> assign_compound <|> step_before <|> step_behind

    -- ---- declarations that stand in bodies too

    -- assert : "static_assert" "(" expr ("," STRING)? ")" ";", at the level of what stands in its parentheses
    unfoldable pub assert : Rule AssertTree
    assert = node tokens (do
      w keyword.STATIC_ASSERT
      p mark.LEFT_PAREN
      condition ← here.expr
      said ← optional message
      p mark.RIGHT_PAREN
      p mark.SEMICOLON
      pure (λ s. record { span = s; condition = condition; message = said }))

    unfoldable pub aliased : Rule AliasedTree
    aliased = (do t ← here.type_tree; pure (aliased-of.Type t)) <|> (do x ← here.splice; pure (aliased-of.Splice x))

    -- alias : "using" ID "=" (type | splice) ";"
    unfoldable pub alias : Rule AliasTree
    alias = node tokens (do
      w keyword.USING
      n ← identifier tokens
      p mark.EQUAL
      x ← aliased
      p mark.SEMICOLON
      pure (λ s. record { span = s; name = n; of = x }))

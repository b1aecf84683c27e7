-- The two forms of `for` share the beginning of their heads.
use Rattle.std.proofs.Common.{◌≡◌, ℕ, ◌+◌, ◌≤◌, Bool, true, false, [], Some, refl, ◌∙◌, sym, arith}
use Rattle.cxx_tree.specs.declared.identifier.Identifier.{Identifier}
use Rattle.cxx_tree.specs.declared.expr.TypeTree.{TypeTree}
use Rattle.cxx_tree.specs.declared.stmt.ForInit.{ForInit}
use Rattle.cxx_tree.specs.declared.stmt.ForRange.{ForRange}
use Rattle.cxx_tree.specs.declared.stmt.ForInit.TheVariants as for-init-of
use Rattle.cxx_tree.specs.declared.stmt.Stmt.{Stmt}
use Rattle.cxx_tree.specs.declared.stmt.Stmt.TheVariants as stmt-of
use Rattle.cxx_tokens.specs.declared.token.Tokens.{Tokens}
use Rattle.cxx_tokens.specs.declared.mark.TheConstants as mark
use Rattle.cxx_tokens.specs.declared.keyword.TheConstants as keyword
use Rattle.cxx_reading.specs.declared.seen.Seen.TheVariants.{Word, Punctuator}
use Rattle.cxx_reading.specs.Reading.{End, Tree, No, Nothing, TooDeep, Rule, and_then, longer, kind, span, is_punctuator, is_word, punctuator, word, identifier, present, optional, left}
use Rattle.cxx_reading.proofs.Starts.{is_false, is_that_punctuator, is_that_word, longer_nothing, no_punctuator, no_punctuator_at, no_word, word_there, optional_none}
use Rattle.cxx_reading.proofs.Factor.{assoc, pointwise, factor}
use Rattle.cxx_reading.proofs.Turns.{turns_none}
use Rattle.cxx_grammar.specs.declared.within.Within.{Within}
use Rattle.cxx_grammar.specs.Sequences.{with_next}
use Rattle.cxx_grammar.specs.Lists.{braced}
use Rattle.cxx_grammar.specs.Read.{read}
use Rattle.cxx_grammar.specs.Nests.{Nests, looping}
use Rattle.cxx_grammar.specs.Locals.{begins_local, bound, bounds, init_equal, init_equal_braced, init_braced, init, local}
use Rattle.cxx_grammar.specs.Statements.{for_local, for_assign, for_empty, for_init, for_step, for_form, range, range_for_form}
use Rattle.cxx_grammar.proofs.Begins.{no_type, no_braced}
use Rattle.cxx_grammar.proofs.Levels.{last_type_tree, at_type_tree, at_braced}
use Rattle.parse_local.specs.Joined.{local_rest}
use Rattle.parse_local.proofs.Begin.{begins_none_at_semicolon}
use Rattle.parse_assign.proofs.Assignments.{assign_last}
use Rattle.parse_assign.proofs.Expressions.{below, before}
use Rattle.parse_head.specs.declared.tree.HeadTree.{HeadTree}
use Rattle.parse_head.specs.Joined.{first_assign, plain_first, step_closed, behind_first, over, range_rest, typed, declared, constexpr_local, undeclared, head}
use Rattle.parse_head.proofs.Steps.{step_closes}
use Rattle.parse_head.specs.Turned.{statement_of}
use Rattle.parse_stmt.specs.Joined.{for_head, for_joined, for_beyond}

module _ (tokens : Tokens) (level i : ℕ) (low : level ≤ 256) where
  -- ---- no declaration goes on at ":", and no range where ":" does not stand

  no_bounds : kind tokens i ≡ Some (Punctuator mark.COLON) → bounds tokens level [] i ≡ Tree [] i
  unfolding bounds bound
  no_bounds e = turns_none (with_next (bound tokens level)) [] i (left tokens i) (simp (no_punctuator_at tokens i _ e mark.LEFT_BRACKET refl))

  no_braced_here : kind tokens i ≡ Some (Punctuator mark.COLON) → (read tokens level).braced i ≡ No Nothing
  no_braced_here e = at_braced tokens level i (below level low) (before level low) ∙ no_braced tokens (read tokens (level + 1)) i _ e refl

  no_init : kind tokens i ≡ Some (Punctuator mark.COLON) → init tokens level i ≡ No Nothing
  unfolding init init_equal init_equal_braced init_braced
  no_init e = simp (no_punctuator_at tokens i _ e mark.EQUAL refl, no_braced_here e)

  no_local_rest : (start : ℕ) (c : Bool) (t : TypeTree) (n : Identifier) → kind tokens i ≡ Some (Punctuator mark.COLON) → local_rest tokens level start c t n i ≡ No Nothing
  unfolding local_rest
  no_local_rest start c t n e = simp (no_bounds e, optional_none (init tokens level) i (no_init e), no_punctuator_at tokens i _ e mark.SEMICOLON refl)

  no_type_here : kind tokens i ≡ Some (Word keyword.CONSTEXPR) → (read tokens level).type_tree i ≡ No Nothing
  no_type_here e = at_type_tree tokens level i (below level low) (before level low) ∙ no_type tokens (read tokens (level + 1)) i _ e refl

-- ---- behind `for (`, where `turned` reads what is repeated

module _ (tokens : Tokens) (level : ℕ) (low : level ≤ 256) (turned : Rule Stmt) (start : ℕ) where
  -- what stands behind a head
  abbrev behind_head : HeadTree → Rule Stmt
  behind_head h q = and_then (turned q) (λ turn r. Tree (statement_of (span tokens start r) h turn) r)

  -- what stands behind the first statement of the head, in the parts of the grammar, and with the step as it is read
  abbrev after_first : ForInit → Rule Stmt
  after_first first l = and_then (optional (read tokens level).expr l) (λ condition m. and_then (punctuator tokens mark.SEMICOLON m) (λ t n.
      and_then (optional (for_step tokens level) n) (λ step o. and_then (punctuator tokens mark.RIGHT_PAREN o) (λ u q.
      and_then (turned q) (λ turn r. Tree (stmt-of.For (span tokens start r) (record { first = first; condition = condition; step = step }) turn) r)))))

  abbrev after_first_joined : ForInit → Rule Stmt
  after_first_joined first l = and_then (optional (read tokens level).expr l) (λ condition m. and_then (punctuator tokens mark.SEMICOLON m) (λ t n.
      and_then (step_closed tokens level n) (λ step q. and_then (turned q) (λ turn r. Tree (stmt-of.For (span tokens start r) (record { first = first; condition = condition; step = step }) turn) r))))

  rest_joined : (first : ForInit) (l : ℕ) → after_first first l ≡ after_first_joined first l
  rest_joined first l = pointwise (optional (read tokens level).expr l) _ _ (λ condition m. pointwise (punctuator tokens mark.SEMICOLON m) _ _ (λ t n.
      step_closes tokens level n low (λ step q. and_then (turned q) (λ turn r. Tree (stmt-of.For (span tokens start r) (record { first = first; condition = condition; step = step }) turn) r))))

  rest_is : (first : ForInit) (l : ℕ) → after_first first l ≡ and_then (behind_first tokens level first l) behind_head
  unfolding behind_first
  rest_is first l = rest_joined first l ∙ sym (simp assoc)

  abbrev after_range : ForRange → Rule Stmt
  after_range r l = and_then (punctuator tokens mark.RIGHT_PAREN l) (λ t m. and_then (turned m) (λ turn q. Tree (stmt-of.RangeFor (span tokens start q) r turn) q))

  -- both forms
  abbrev both : ℕ → End Stmt
  both k = longer (and_then (for_init tokens level k) after_first) (and_then (range tokens level k) after_range)

  module _ (k : ℕ) where
    -- ---- where a declaration begins

    no_semicolon : begins_local tokens k ≡ true → is_punctuator mark.SEMICOLON (kind tokens k) ≡ false
    no_semicolon b = is_false _ (λ h. let e : begins_local tokens k ≡ false = begins_none_at_semicolon tokens k (is_that_punctuator mark.SEMICOLON (kind tokens k) h) in cc)

    init_local : begins_local tokens k ≡ true → for_init tokens level k ≡ and_then (local tokens level k) (λ x j. Tree (for-init-of.Local x) j)
    unfolding for_init for_local for_assign for_empty
    init_local b = simp (b, no_punctuator_at tokens k _ refl mark.SEMICOLON (no_semicolon b), longer_nothing)

    local_typed : is_word keyword.CONSTEXPR (kind tokens k) ≡ false
        → local tokens level k ≡ and_then ((read tokens level).type_tree k) (λ t j. and_then (identifier tokens j) (λ n l. local_rest tokens level k false t n l))
    unfolding local local_rest present
    local_typed c = simp (no_word tokens k keyword.CONSTEXPR c, assoc)

    inner_constexpr : begins_local tokens k ≡ true → is_word keyword.CONSTEXPR (kind tokens k) ≡ true → both k ≡ and_then (head tokens level k) behind_head
    unfolding range head constexpr_local
    inner_constexpr b c = simp (init_local b, b, c, no_type_here tokens level k low (is_that_word keyword.CONSTEXPR (kind tokens k) c), longer_nothing, assoc)
        (pointwise (local tokens level k) _ _ (λ x j. rest_is (for-init-of.Local x) j))

    typed_rest : (t : TypeTree) (n : Identifier) (l : ℕ) (c : Bool) → is_punctuator mark.COLON (kind tokens l) ≡ c
        → longer (and_then (local_rest tokens level k false t n l) (λ x. after_first (for-init-of.Local x)))
        (and_then (punctuator tokens mark.COLON l) (λ u m. and_then ((read tokens level).expr m) (λ o q. after_range (record { of_type = t; name = n; over = o }) q)))
        ≡ and_then (typed tokens level k false t n l) behind_head
    unfolding typed range_rest over
    typed_rest t n l true c = simp (c, no_local_rest tokens level l low k false t n (is_that_punctuator mark.COLON (kind tokens l) c)) (sym (simp assoc))
    typed_rest t n l false c = simp (c, no_punctuator tokens l mark.COLON c, longer_nothing, assoc) (pointwise (local_rest tokens level k false t n l) _ _ (λ x j. rest_is (for-init-of.Local x) j))

    inner_declared : begins_local tokens k ≡ true → is_word keyword.CONSTEXPR (kind tokens k) ≡ false → both k ≡ and_then (head tokens level k) behind_head
    unfolding range head declared
    inner_declared b c = simp (init_local b, b, c, local_typed c, assoc, factor)
        (pointwise ((read tokens level).type_tree k) _ _ (λ t j. pointwise (identifier tokens j) _ _ (λ n l. typed_rest t n l (is_punctuator mark.COLON (kind tokens l)) refl)))

    -- ---- where none does

    inner_plain : begins_local tokens k ≡ false → both k ≡ and_then (head tokens level k) behind_head
    unfolding for_init for_local for_assign range head undeclared plain_first first_assign
    inner_plain b = simp (b, longer_nothing, assoc) (pointwise (plain_first tokens level k) _ _ (λ x j. rest_is x j))

    pub inner_by : (b c : Bool) → begins_local tokens k ≡ b → is_word keyword.CONSTEXPR (kind tokens k) ≡ c → both k ≡ and_then (head tokens level k) behind_head
    inner_by true true b c = inner_constexpr b c
    inner_by true false b c = inner_declared b c
    inner_by false c b e = inner_plain b

module _ (tokens : Tokens) (level : ℕ) (low : level ≤ 256) (inner : Nests) (within : Within) (start : ℕ) where
  for_is : longer (for_form tokens level inner within start) (range_for_form tokens level inner within start) ≡ for_joined tokens level (inner.sub (looping within)) start
  unfolding for_form range_for_form for_joined for_head
  for_is = simp (assoc, factor) (pointwise (word tokens keyword.FOR start) _ _ (λ t j. pointwise (punctuator tokens mark.LEFT_PAREN j) _ _
      (λ u k. inner_by tokens level low (inner.sub (looping within)) start k (begins_local tokens k) (is_word keyword.CONSTEXPR (kind tokens k)) refl refl)))

-- ---- at the last level

module _ (tokens : Tokens) (level : ℕ) (last : level ≡ 257) (inner : Nests) (within : Within) where
  last_local_by : (k : ℕ) (c : Bool) → is_word keyword.CONSTEXPR (kind tokens k) ≡ c → local tokens level k ≡ No TooDeep
  unfolding local present
  last_local_by k true c = simp (word_there tokens k keyword.CONSTEXPR c, last_type_tree tokens level (k + 1) last)
  last_local_by k false c = simp (no_word tokens k keyword.CONSTEXPR c, last_type_tree tokens level k last)

  last_init : (k : ℕ) (b : Bool) → begins_local tokens k ≡ b → for_init tokens level k ≡ No TooDeep
  unfolding for_init for_local for_assign
  last_init k true b = simp (b, last_local_by k (is_word keyword.CONSTEXPR (kind tokens k)) refl)
  last_init k false b = simp (b, assign_last tokens level k last)

  last_inner : {A : Type 0} (k : ℕ) (f : ForInit → Rule A) (e : End A) → longer (and_then (for_init tokens level k) f) e ≡ No TooDeep
  last_inner k f e = simp (last_init k (begins_local tokens k) refl)

  for_is_beyond : (start : ℕ) → longer (for_form tokens level inner within start) (range_for_form tokens level inner within start) ≡ for_beyond tokens start
  unfolding for_form range_for_form for_beyond
  for_is_beyond start = simp (assoc, factor) (pointwise (word tokens keyword.FOR start) _ _ (λ t j. pointwise (punctuator tokens mark.LEFT_PAREN j) _ _ (λ u k. last_inner k _ _)))

-- in the words of the function that reads both
module _ (tokens : Tokens) (level : ℕ) (inner : Nests) (within : Within) (start : ℕ) where
  pub for_joined_is : level ≤ 257 → (level ≡ 257 → ⊥) → longer (for_form tokens level inner within start) (range_for_form tokens level inner within start) ≡ for_joined tokens level (inner.sub (looping within)) start
  for_joined_is low other = let h : level ≤ 256 = omega arith in for_is tokens level h inner within start

  pub for_beyond_is : level ≡ 257 → longer (for_form tokens level inner within start) (range_for_form tokens level inner within start) ≡ for_beyond tokens start
  for_beyond_is last = for_is_beyond tokens level last inner within start

pub ruleset for_arms = (for_joined_is, for_beyond_is)

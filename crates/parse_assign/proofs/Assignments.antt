-- Assignments and expressions, which share their first unary expression.
use Rattle.std.proofs.Common.{◌≡◌, ℕ, ◌+◌, ◌-◌, ◌≤◌, Bool, true, false, ◌||◌, if◌then◌else◌, ◌==◌, Option, Some, None, refl, subst, ◌∙◌, sym, arith}
use Rattle.std.proofs.lemmas.Bool.{eqb-true, eqb-false}
use Rattle.std.specs.Option.{is_some}
use Rattle.cxx_tree.specs.declared.expr.Expr.{Expr}
use Rattle.cxx_tokens.specs.declared.token.Tokens.{Tokens}
use Rattle.cxx_tokens.specs.declared.mark.TheConstants as mark
use Rattle.cxx_reading.specs.declared.seen.Seen.{Seen}
use Rattle.cxx_reading.specs.declared.seen.Seen.TheVariants.{Identifier, Integer, Character, Text, Word, Punctuator}
use Rattle.cxx_reading.specs.Any.{given, punctuator_of, any_punctuator}
use Rattle.cxx_reading.specs.Reading.{Tree, No, Nothing, TooDeep, and_then, kind, is_punctuator, punctuator}
use Rattle.cxx_reading.proofs.Starts.{or_left, or_right, is_that_punctuator, longer_nothing, no_punctuator_at, optional_none}
use Rattle.cxx_reading.proofs.Factor.{assoc, pointwise, factor}
use Rattle.cxx_grammar.specs.Unaries.{unary}
use Rattle.cxx_grammar.specs.Expressions.{arms}
use Rattle.cxx_grammar.specs.Operators.{unary_mark, line_at, next_line}
use Rattle.cxx_grammar.specs.Joined.{climbed, choice_from, expr_from}
use Rattle.cxx_grammar.specs.Read.{read}
use Rattle.cxx_grammar.specs.Locals.{compound_mark, step_before_mark, step_behind_mark, compound, before, behind, step_before, assign_equal, assign_compound, step_behind, assign}
use Rattle.cxx_grammar.proofs.Begins.{no_given}
use Rattle.cxx_grammar.proofs.Chains.{climbs_no_further}
use Rattle.cxx_grammar.proofs.Levels.{last_unary, at_unary}
use Rattle.cxx_grammar.proofs.PrimaryArms.{no_primary_at}
use Rattle.cxx_grammar.proofs.UnaryArms.{no_postfix, unary_punctuator}
use Rattle.parse_assign.specs.Joined.{is_step, is_step_behind, is_compound, assigns, equal_value, equal_rest, compound_rest, behind_rest, assign_rest, assign_placed}

-- ---- the marks

no_step_before_of : (k : Option Seen) (j : ℕ) → is_step k ≡ false → and_then (punctuator_of k j) (λ m. given (step_before_mark m)) ≡ No Nothing
no_step_before_of (Some (Punctuator m)) j h = no_given (step_before_mark m) j h
no_step_before_of (Some (Word m)) j h = refl
no_step_before_of (Some Identifier) j h = refl
no_step_before_of (Some Integer) j h = refl
no_step_before_of (Some Character) j h = refl
no_step_before_of (Some Text) j h = refl
no_step_before_of None j h = refl

no_step_behind_of : (k : Option Seen) (j : ℕ) → is_step_behind k ≡ false → and_then (punctuator_of k j) (λ m. given (step_behind_mark m)) ≡ No Nothing
no_step_behind_of (Some (Punctuator m)) j h = no_given (step_behind_mark m) j h
no_step_behind_of (Some (Word m)) j h = refl
no_step_behind_of (Some Identifier) j h = refl
no_step_behind_of (Some Integer) j h = refl
no_step_behind_of (Some Character) j h = refl
no_step_behind_of (Some Text) j h = refl
no_step_behind_of None j h = refl

no_compound_of : (k : Option Seen) (j : ℕ) → is_compound k ≡ false → and_then (punctuator_of k j) (λ m. given (compound_mark m)) ≡ No Nothing
no_compound_of (Some (Punctuator m)) j h = no_given (compound_mark m) j h
no_compound_of (Some (Word m)) j h = refl
no_compound_of (Some Identifier) j h = refl
no_compound_of (Some Integer) j h = refl
no_compound_of (Some Character) j h = refl
no_compound_of (Some Text) j h = refl
no_compound_of None j h = refl

-- a property of each mark of a table holds of a mark that has an entry
holds_there : {A : Type 0} (P : Option Seen → Type 0) (n m : ℕ) (a : A) (rest : Option A) (b : Bool) → (n == m) ≡ b → P (Some (Punctuator m)) → (is_some rest ≡ true → P (Some (Punctuator n))) → is_some (if b then Some a else rest) ≡ true → P (Some (Punctuator n))
holds_there P n m a rest true e here later h = subst (λ (x : ℕ). P (Some (Punctuator x))) (sym (eqb-true n m e)) here
holds_there P n m a rest false e here later h = later h

of_step : (P : Option Seen → Type 0) → P (Some (Punctuator mark.INCREMENT)) → P (Some (Punctuator mark.DECREMENT)) → (k : Option Seen) → is_step k ≡ true → P k
of_step P p q (Some (Punctuator n)) h = holds_there P n mark.INCREMENT _ _ (n == mark.INCREMENT) refl p (λ g. holds_there P n mark.DECREMENT _ _ (n == mark.DECREMENT) refl q (λ f. cc) g) h
of_step P p q (Some (Word m)) h = cc
of_step P p q (Some Identifier) h = cc
of_step P p q (Some Integer) h = cc
of_step P p q (Some Character) h = cc
of_step P p q (Some Text) h = cc
of_step P p q None h = cc

-- of a mark behind a unary expression: no operator of a chain, nor `?`, and neither of the marks that end a statement or a step
record Alone (k : Option Seen) : Type 0 where
  line : line_at k ≡ 10
  question : is_punctuator mark.QUESTION k ≡ false
  semicolon : is_punctuator mark.SEMICOLON k ≡ false
  paren : is_punctuator mark.RIGHT_PAREN k ≡ false

alone_at : (n : ℕ) → line_at (Some (Punctuator n)) ≡ 10 → (n == mark.QUESTION) ≡ false → (n == mark.SEMICOLON) ≡ false → (n == mark.RIGHT_PAREN) ≡ false → Alone (Some (Punctuator n))
alone_at n a b c d = record { line = a; question = b; semicolon = c; paren = d }

of_step_behind : (P : Option Seen → Type 0) → P (Some (Punctuator mark.INCREMENT)) → P (Some (Punctuator mark.DECREMENT)) → (k : Option Seen) → is_step_behind k ≡ true → P k
of_step_behind P p q (Some (Punctuator n)) h = holds_there P n mark.INCREMENT _ _ (n == mark.INCREMENT) refl p (λ g. holds_there P n mark.DECREMENT _ _ (n == mark.DECREMENT) refl q (λ f. cc) g) h
of_step_behind P p q (Some (Word m)) h = cc
of_step_behind P p q (Some Identifier) h = cc
of_step_behind P p q (Some Integer) h = cc
of_step_behind P p q (Some Character) h = cc
of_step_behind P p q (Some Text) h = cc
of_step_behind P p q None h = cc

alone_compound : (n : ℕ) → is_some (compound_mark n) ≡ true → Alone (Some (Punctuator n))
alone_compound n h =
    holds_there Alone n mark.PLUS_EQUAL _ _ (n == mark.PLUS_EQUAL) refl (alone_at mark.PLUS_EQUAL refl refl refl refl) (λ a.
    holds_there Alone n mark.MINUS_EQUAL _ _ (n == mark.MINUS_EQUAL) refl (alone_at mark.MINUS_EQUAL refl refl refl refl) (λ b.
    holds_there Alone n mark.STAR_EQUAL _ _ (n == mark.STAR_EQUAL) refl (alone_at mark.STAR_EQUAL refl refl refl refl) (λ c.
    holds_there Alone n mark.SLASH_EQUAL _ _ (n == mark.SLASH_EQUAL) refl (alone_at mark.SLASH_EQUAL refl refl refl refl) (λ d.
    holds_there Alone n mark.PERCENT_EQUAL _ _ (n == mark.PERCENT_EQUAL) refl (alone_at mark.PERCENT_EQUAL refl refl refl refl) (λ e.
    holds_there Alone n mark.CARET_EQUAL _ _ (n == mark.CARET_EQUAL) refl (alone_at mark.CARET_EQUAL refl refl refl refl) (λ f.
    holds_there Alone n mark.AMPERSAND_EQUAL _ _ (n == mark.AMPERSAND_EQUAL) refl (alone_at mark.AMPERSAND_EQUAL refl refl refl refl) (λ g.
    holds_there Alone n mark.PIPE_EQUAL _ _ (n == mark.PIPE_EQUAL) refl (alone_at mark.PIPE_EQUAL refl refl refl refl) (λ i.
    holds_there Alone n mark.SHIFT_LEFT_EQUAL _ _ (n == mark.SHIFT_LEFT_EQUAL) refl (alone_at mark.SHIFT_LEFT_EQUAL refl refl refl refl) (λ j.
    holds_there Alone n mark.SHIFT_RIGHT_EQUAL _ _ (n == mark.SHIFT_RIGHT_EQUAL) refl (alone_at mark.SHIFT_RIGHT_EQUAL refl refl refl refl) (λ k. cc) j) i) g) f) e) d) c) b) a) h

alone_mark : (n : ℕ) (a b : Bool) → (n == mark.EQUAL) ≡ a → is_some (step_behind_mark n) ≡ b → (a || (b || is_some (compound_mark n))) ≡ true → Alone (Some (Punctuator n))
alone_mark n true b e f h = subst (λ (x : ℕ). Alone (Some (Punctuator x))) (sym (eqb-true n mark.EQUAL e)) (alone_at mark.EQUAL refl refl refl refl)
alone_mark n false true e f h = of_step_behind Alone (alone_at mark.INCREMENT refl refl refl refl) (alone_at mark.DECREMENT refl refl refl refl) (Some (Punctuator n)) f
alone_mark n false false e f h = alone_compound n h

alone : (k : Option Seen) → assigns k ≡ true → Alone k
alone (Some (Punctuator n)) h = alone_mark n (n == mark.EQUAL) (is_some (step_behind_mark n)) refl refl h
alone (Some (Word m)) h = cc
alone (Some Identifier) h = cc
alone (Some Integer) h = cc
alone (Some Character) h = cc
alone (Some Text) h = cc
alone None h = cc

-- neither of the marks that end a statement or the step of a `for` assigns
pub alone_semicolon : (k : Option Seen) → assigns k ≡ true → is_punctuator mark.SEMICOLON k ≡ false
alone_semicolon k h = (alone k h).semicolon

pub alone_paren : (k : Option Seen) → assigns k ≡ true → is_punctuator mark.RIGHT_PAREN k ≡ false
alone_paren k h = (alone k h).paren

-- ---- what goes on behind a unary expression

module _ (tokens : Tokens) (level start : ℕ) (x : Expr) (i : ℕ) where
  no_equal_rest : (k : Option Seen) → kind tokens i ≡ k → is_punctuator mark.EQUAL k ≡ false → equal_rest tokens level start x i ≡ No Nothing
  unfolding equal_rest equal_value
  no_equal_rest k e h = simp (no_punctuator_at tokens i k e mark.EQUAL h)

  no_compound_rest : (k : Option Seen) → kind tokens i ≡ k → is_compound k ≡ false → compound_rest tokens level start x i ≡ No Nothing
  unfolding compound_rest compound any_punctuator
  no_compound_rest k e h = let c : and_then (punctuator_of (kind tokens i) (i + 1)) (λ m. given (compound_mark m)) ≡ No Nothing = rw e (no_compound_of k (i + 1) h) in simp c

  no_behind_rest : (k : Option Seen) → kind tokens i ≡ k → is_step_behind k ≡ false → behind_rest tokens start x i ≡ No Nothing
  unfolding behind_rest behind any_punctuator
  no_behind_rest k e h = let c : and_then (punctuator_of (kind tokens i) (i + 1)) (λ m. given (step_behind_mark m)) ≡ No Nothing = rw e (no_step_behind_of k (i + 1) h) in simp c

  pub rest_equal : is_punctuator mark.EQUAL (kind tokens i) ≡ true → assign_rest tokens level start x i ≡ equal_rest tokens level start x i
  unfolding assign_rest
  rest_equal h =
      let e : kind tokens i ≡ Some (Punctuator mark.EQUAL) = is_that_punctuator mark.EQUAL (kind tokens i) h in
      simp (no_compound_rest _ e refl, no_behind_rest _ e refl, longer_nothing)

  pub rest_behind : is_punctuator mark.EQUAL (kind tokens i) ≡ false → is_step_behind (kind tokens i) ≡ true → assign_rest tokens level start x i ≡ behind_rest tokens start x i
  unfolding assign_rest
  rest_behind a b =
      let c : is_compound (kind tokens i) ≡ false = of_step_behind (λ (k : Option Seen). is_compound k ≡ false) refl refl (kind tokens i) b in
      simp (no_equal_rest _ refl a, no_compound_rest _ refl c)

  pub rest_compound : is_punctuator mark.EQUAL (kind tokens i) ≡ false → is_step_behind (kind tokens i) ≡ false → assign_rest tokens level start x i ≡ compound_rest tokens level start x i
  unfolding assign_rest
  rest_compound a b = simp (no_equal_rest _ refl a, no_behind_rest _ refl b, longer_nothing)

  pub no_assign_rest : assigns (kind tokens i) ≡ false → assign_rest tokens level start x i ≡ No Nothing
  unfolding assign_rest
  no_assign_rest h =
      let a : is_punctuator mark.EQUAL (kind tokens i) ≡ false = or_left _ _ h in
      let bc : (is_step_behind (kind tokens i) || is_compound (kind tokens i)) ≡ false = or_right (is_punctuator mark.EQUAL (kind tokens i)) _ h in
      let b : is_step_behind (kind tokens i) ≡ false = or_left _ _ bc in
      let c : is_compound (kind tokens i) ≡ false = or_right (is_step_behind (kind tokens i)) _ bc in
      simp (no_equal_rest _ refl a, no_behind_rest _ refl b, no_compound_rest _ refl c)

pub ruleset rest_arms = (rest_equal, rest_behind, rest_compound)

-- an expression ends before a mark that assigns
pub expr_ends : (tokens : Tokens) (level start : ℕ) (x : Expr) (i : ℕ) → assigns (kind tokens i) ≡ true → expr_from tokens (read tokens level) start x i ≡ Tree x i
unfolding expr_from choice_from arms next_line
expr_ends tokens level start x i h =
    let a : Alone (kind tokens i) = alone (kind tokens i) h in
    let n : next_line tokens i ≡ 10 = a.line in
    let c : climbed tokens (read tokens level) 10 start x i ≡ Tree x i = climbs_no_further tokens (read tokens level) 10 start x i (omega arith) in
    let q : punctuator tokens mark.QUESTION i ≡ No Nothing = no_punctuator_at tokens i _ refl mark.QUESTION a.question in
    let o : arms tokens (read tokens level) i ≡ No Nothing = simp q in
    simp (c, optional_none (arms tokens (read tokens level)) i o)

-- ---- whole assignments

module _ (tokens : Tokens) (level i : ℕ) where
  pub no_unary_at_mark : level ≤ 257 → (level ≡ 257 → ⊥) → (n : ℕ) → kind tokens i ≡ Some (Punctuator n) → (n == mark.REFLECT) ≡ false → unary_mark n ≡ None → (n == mark.LEFT_PAREN) ≡ false → (n == mark.LEFT_SPLICE) ≡ false → (n == mark.SCOPE) ≡ false
      → (read tokens level).unary i ≡ No Nothing
  no_unary_at_mark low before n e r u a b c = at_unary tokens level i low before ∙ unary_punctuator tokens (read tokens (level + 1)) i n e (eqb-false n mark.REFLECT r) u ∙ no_postfix tokens (read tokens (level + 1)) i (no_primary_at tokens (read tokens (level + 1)) i n e a b c)

  pub no_unary_at_step : level ≤ 256 → is_step (kind tokens i) ≡ true → (read tokens level).unary i ≡ No Nothing
  no_unary_at_step low h =
      let below : level ≤ 257 = omega arith in
      let before : level ≡ 257 → ⊥ = λ e. omega arith in
      of_step (λ (k : Option Seen). kind tokens i ≡ k → (read tokens level).unary i ≡ No Nothing)
      (λ e. no_unary_at_mark below before mark.INCREMENT e refl refl refl refl refl) (λ e. no_unary_at_mark below before mark.DECREMENT e refl refl refl refl refl) (kind tokens i) h refl

  pub no_step_before : is_step (kind tokens i) ≡ false → step_before tokens level i ≡ No Nothing
  unfolding step_before before any_punctuator
  no_step_before h = simp (no_step_before_of (kind tokens i) (i + 1) h)

  pub assign_at_step : level ≤ 256 → is_step (kind tokens i) ≡ true → assign tokens level i ≡ step_before tokens level i
  unfolding assign assign_equal assign_compound step_behind
  assign_at_step low h = simp (no_unary_at_step low h, longer_nothing)

  pub assign_elsewhere : is_step (kind tokens i) ≡ false → assign tokens level i ≡ assign_placed tokens level i
  unfolding assign assign_equal assign_compound step_behind assign_placed assign_rest equal_rest equal_value compound_rest behind_rest
  assign_elsewhere h = simp (no_step_before h, assoc, factor) (pointwise ((read tokens level).unary i) _ _ (λ place j. sym (simp assoc)))

  -- past the last level
  pub assign_last : level ≡ 257 → assign tokens level i ≡ No TooDeep
  unfolding assign assign_equal assign_compound step_behind
  assign_last last = simp (last_unary tokens level i last)

pub ruleset assign_arms = (assign_at_step, assign_elsewhere)

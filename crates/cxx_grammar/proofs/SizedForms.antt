-- The operand of `sizeof` behind "typename": the splice is read once, for the type and for the expression.
use Rattle.std.proofs.Common.{◌≡◌, ℕ, zero, suc, ◌+◌, true, false, ◌==◌, List, [], Some, refl, sym, ◌∙◌, subst}
use Rattle.cxx_tree.specs.declared.expr.Expr.{Expr}
use Rattle.cxx_tree.specs.declared.expr.NewInit.{NewInit}
use Rattle.cxx_tree.specs.declared.expr.SpliceTree.{SpliceTree}
use Rattle.cxx_tree.specs.declared.expr.Suffix.{Suffix}
use Rattle.cxx_tree.specs.declared.expr.TypeTree.TheVariants as type-of
use Rattle.cxx_tree.specs.declared.expr.BasicTree.TheVariants as basic-of
use Rattle.cxx_tokens.specs.declared.token.Tokens.{Tokens}
use Rattle.cxx_tokens.specs.declared.mark.TheConstants.{STAR, AMPERSAND}
use Rattle.cxx_tokens.specs.declared.keyword.TheConstants.{TYPENAME, CONST, SIZEOF, DELETE, NEW}
use Rattle.cxx_reading.specs.declared.seen.Seen.TheVariants.{Word}
use Rattle.cxx_reading.specs.Extents.{EndsFrom, Forward, Reads}
use Rattle.cxx_reading.specs.Reading.{End, Tree, No, Nothing, TooDeep, and_then, longer, kind, left, span, word, is_punctuator, is_word, present}
use Rattle.cxx_reading.proofs.Starts.{is_false, is_that_word, is_that_punctuator, no_word, no_word_at, no_punctuator, longer_nothing, longer_deep}
use Rattle.cxx_reading.proofs.Turns.{turns_none}
use Rattle.cxx_reading.proofs.Factor.{assoc, pointwise, factor}
use Rattle.cxx_reading.proofs.Forward.{later, steps}
use Rattle.cxx_reading.proofs.Choices.{beats}
use Rattle.cxx_reading.proofs.Always.{always_reads}
use Rattle.cxx_grammar.specs.declared.parts.SizedOperand.{SizedOperand}
use Rattle.cxx_grammar.specs.declared.parts.SizedOperand.TheVariants as sized-of
use Rattle.cxx_grammar.specs.Types.{pointer, pointers_on, pointers, splice, basic_typename, type_tree}
use Rattle.cxx_grammar.specs.Postfixes.{suffixes}
use Rattle.cxx_grammar.specs.Unaries.{new_init}
use Rattle.cxx_grammar.specs.Expressions.{chain, arms, expr}
use Rattle.cxx_grammar.specs.Rules.{Rules}
use Rattle.cxx_grammar.specs.Read.{read}
use Rattle.cxx_grammar.specs.Joined.{typename_made, typename_rest, typename_joined, postfix_from, operations, climbed, choice_from, expr_from, expr_after, sized_here, type_rest, sized_expr_rest, sized_type_rest, sized_by, sized_rest, sized_joined}
use Rattle.cxx_grammar.proofs.Begins.{no_new_init}
use Rattle.cxx_grammar.proofs.TypeArms.{basic_at_typename}
use Rattle.cxx_grammar.proofs.Shallow.{forward_line}
use Rattle.cxx_grammar.proofs.Forwards.{ForwardRules}
use Rattle.cxx_grammar.proofs.Forwards as forwards
use Rattle.cxx_grammar.proofs.Ends.{rises_new_init}
use Rattle.cxx_grammar.proofs.PrimaryArms.{primary_typename}
use Rattle.cxx_grammar.proofs.UnaryArms.{unary_word}
use Rattle.cxx_grammar.proofs.Chains.{postfix_by_primary, expr_by_unary}

-- ---- what goes on behind a primary expression always reads, or is too deep

module _ (tokens : Tokens) (deeper : Rules) where
  reads_suffixes : (x : List Suffix) → Reads (suffixes tokens deeper x)
  unfolding suffixes
  reads_suffixes x = search (always_reads) depth 14

  reads_postfix_from : (start : ℕ) (x : Expr) → Reads (postfix_from tokens deeper start x)
  unfolding postfix_from
  reads_postfix_from start x = search (always_reads, reads_suffixes) depth 14

  reads_operations : (n start : ℕ) (x : Expr) → Reads (operations tokens deeper n start x)
  unfolding operations
  reads_operations n start x = search (always_reads) depth 14

  climb_reads : (n start : ℕ) → ((x : Expr) → Reads (climbed tokens deeper n start x)) → (x : Expr) → Reads (climbed tokens deeper (suc n) start x)
  unfolding climbed
  climb_reads n start g x = search (always_reads, reads_operations, g) depth 14

  reads_climbed : (n start : ℕ) (x : Expr) → Reads (climbed tokens deeper n start x)
  unfolding climbed
  reads_climbed zero start x = search (always_reads)
  reads_climbed (suc n) start x = climb_reads n start (reads_climbed n start) x

  reads_choice_from : (start : ℕ) (x : Expr) → Reads (choice_from tokens deeper start x)
  unfolding choice_from
  reads_choice_from start x = search (always_reads) depth 14

  reads_expr_from : (start : ℕ) (x : Expr) → Reads (expr_from tokens deeper start x)
  unfolding expr_from
  reads_expr_from start x = search (always_reads, reads_climbed, reads_choice_from) depth 14

  reads_expr_after : (start : ℕ) (x : Expr) → Reads (expr_after tokens deeper start x)
  unfolding expr_after
  reads_expr_after start x = search (always_reads, reads_postfix_from, reads_expr_from) depth 14

-- ---- and ends no earlier

module _ (tokens : Tokens) (deeper : Rules) (h : ForwardRules deeper) where
  forward_suffixes : (x : List Suffix) → Forward (suffixes tokens deeper x)
  forward_suffixes x = forwards.suffixes tokens deeper h x

  forward_chain : (n : ℕ) → Forward (chain tokens deeper n)
  forward_chain n = forwards.chain tokens deeper h n

  forward_arms : Forward (arms tokens deeper)
  forward_arms = forwards.arms tokens deeper h

  forward_postfix_from : (start : ℕ) (x : Expr) → Forward (postfix_from tokens deeper start x)
  unfolding postfix_from
  forward_postfix_from start x = search (steps, forward_suffixes) depth 14

  forward_operations : (n start : ℕ) (x : Expr) → Forward (operations tokens deeper n start x)
  unfolding operations
  forward_operations n start x = search (steps, forward_line, forward_chain) depth 14

  climb_on : (n start : ℕ) → ((x : Expr) → Forward (climbed tokens deeper n start x)) → (x : Expr) → Forward (climbed tokens deeper (suc n) start x)
  unfolding climbed
  climb_on n start g x = search (steps, forward_operations, g) depth 14

  forward_climbed : (n start : ℕ) (x : Expr) → Forward (climbed tokens deeper n start x)
  unfolding climbed
  forward_climbed zero start x = search (steps)
  forward_climbed (suc n) start x = climb_on n start (forward_climbed n start) x

  forward_choice_from : (start : ℕ) (x : Expr) → Forward (choice_from tokens deeper start x)
  unfolding choice_from
  forward_choice_from start x = search (steps, forward_arms) depth 14

  forward_expr_from : (start : ℕ) (x : Expr) → Forward (expr_from tokens deeper start x)
  unfolding expr_from
  forward_expr_from start x = search (steps, forward_climbed, forward_choice_from) depth 14

  forward_expr_after : (start : ℕ) (x : Expr) → Forward (expr_after tokens deeper start x)
  unfolding expr_after
  forward_expr_after start x = search (steps, forward_postfix_from, forward_expr_from) depth 14

-- ---- a type ends where arguments or a braced list begin

module _ (tokens : Tokens) (deeper : Rules) (k : ℕ) (m : NewInit) (l : ℕ) (e : new_init tokens deeper k ≡ Tree m l) where
  not_const : is_word CONST (kind tokens k) ≡ false
  not_const = is_false _ (λ h. let n : new_init tokens deeper k ≡ No Nothing = no_new_init tokens deeper k _ (is_that_word CONST (kind tokens k) h) refl in cc)

  not_star : is_punctuator STAR (kind tokens k) ≡ false
  not_star = is_false _ (λ h. let n : new_init tokens deeper k ≡ No Nothing = no_new_init tokens deeper k _ (is_that_punctuator STAR (kind tokens k) h) refl in cc)

  not_ampersand : is_punctuator AMPERSAND (kind tokens k) ≡ false
  not_ampersand = is_false _ (λ h. let n : new_init tokens deeper k ≡ No Nothing = no_new_init tokens deeper k _ (is_that_punctuator AMPERSAND (kind tokens k) h) refl in cc)

  no_pointers : pointers tokens [] k ≡ Tree [] k
  unfolding pointers pointer
  no_pointers = turns_none (pointers_on tokens) [] k (left tokens k) (simp (no_punctuator tokens k STAR not_star))

  type_ends : (start : ℕ) (n : SpliceTree) → type_rest tokens deeper start n k ≡ Tree (type-of.Type (span tokens start k) false (basic-of.Typename (span tokens start k) n) [] false) k
  unfolding type_rest present
  type_ends start n = simp (no_word tokens k CONST not_const, no_pointers, no_punctuator tokens k AMPERSAND not_ampersand)

-- ---- the type and the expression, of which the longer one stands

module _ (tokens : Tokens) (level start k : ℕ) (n : SpliceTree) where
  typed : End SizedOperand
  typed = and_then (type_rest tokens (read tokens level) start n k) (λ x j. Tree (sized-of.Type x) j)

  expr_wins : (m : NewInit) (l : ℕ) → new_init tokens (read tokens level) k ≡ Tree m l → longer typed (sized_expr_rest tokens (read tokens level) start k n m l) ≡ sized_expr_rest tokens (read tokens level) start k n m l
  unfolding typed sized_expr_rest
  expr_wins m l e =
      let d = read tokens level in
      let x : Expr = typename_made (span tokens start l) (span tokens start k) n m in
      let rest : Forward {A = SizedOperand} (λ j. and_then (expr_after tokens d start x j) (λ y i. Tree (sized-of.Expr y) i)) = search (steps, forward_expr_after tokens d (forwards.read tokens level) start x) depth 14 in
      let reads : Reads {A = SizedOperand} (λ j. and_then (expr_after tokens d start x j) (λ y i. Tree (sized-of.Expr y) i)) = search (always_reads, reads_expr_after tokens d start x) depth 14 in
      let behind : EndsFrom (k + 1) (Tree m l) = subst (EndsFrom (k + 1)) e ((rises_new_init tokens level).at k) in
      rw (type_ends tokens d k m l e start n) (beats _ k _ (later (k + 1) l _ behind (rest.at l)) (reads.at l))

  by_init : (i : End NewInit) → new_init tokens (read tokens level) k ≡ i → longer typed (and_then i (λ m l. sized_expr_rest tokens (read tokens level) start k n m l)) ≡ sized_by tokens (read tokens level) start n k i
  unfolding typed sized_type_rest
  by_init (Tree m l) e = expr_wins m l e
  by_init (No Nothing) e = longer_nothing _
  by_init (No TooDeep) e = longer_deep _

-- ---- behind "typename"

module _ (tokens : Tokens) (deeper : Rules) (i : ℕ) (e : kind tokens i ≡ Some (Word TYPENAME)) where
  type_typename : type_tree tokens deeper i ≡ and_then (word tokens TYPENAME i) (λ t j. and_then (splice tokens deeper j) (λ n k. type_rest tokens deeper i n k))
  unfolding type_tree basic_typename type_rest present
  type_typename = simp (no_word_at tokens i _ e CONST refl, basic_at_typename tokens deeper i e, assoc)

  no_word_is : (w : ℕ) → (TYPENAME == w) ≡ false → TYPENAME ≡ w → ⊥
  no_word_is w h g = let r : (TYPENAME == w) ≡ true = rw (sym g) refl in cc

  expr_by_typename : expr tokens deeper i ≡ and_then (and_then (typename_joined tokens deeper i) (postfix_from tokens deeper i)) (expr_from tokens deeper i)
  expr_by_typename = simp (expr_by_unary tokens deeper i, unary_word tokens deeper i TYPENAME e (no_word_is SIZEOF refl) (no_word_is DELETE refl) (no_word_is NEW refl), postfix_by_primary tokens deeper i, primary_typename tokens deeper i e)

  expr_typename : and_then (expr tokens deeper i) (λ x j. Tree (sized-of.Expr x) j)
      ≡ and_then (word tokens TYPENAME i) (λ t j. and_then (splice tokens deeper j) (λ n k. and_then (new_init tokens deeper k) (λ m l. sized_expr_rest tokens deeper i k n m l)))
  unfolding typename_joined typename_rest sized_expr_rest expr_after
  expr_typename = simp (expr_by_typename, assoc)

  sized_factored : sized_here tokens deeper i ≡ and_then (word tokens TYPENAME i) (λ t j. and_then (splice tokens deeper j) (λ n k.
      longer (and_then (type_rest tokens deeper i n k) (λ x l. Tree (sized-of.Type x) l)) (and_then (new_init tokens deeper k) (λ m l. sized_expr_rest tokens deeper i k n m l))))
  unfolding sized_here
  sized_factored = simp (type_typename, expr_typename, assoc, factor)

module _ (tokens : Tokens) (level i : ℕ) where
  pub sized_typename : kind tokens i ≡ Some (Word TYPENAME) → sized_here tokens (read tokens level) i ≡ sized_joined tokens (read tokens level) i
  unfolding sized_joined sized_rest typed
  sized_typename e = sized_factored tokens (read tokens level) i e ∙ pointwise (word tokens TYPENAME i) _ _ (λ t j. pointwise (splice tokens (read tokens level) j) _ _
      (λ n k. by_init tokens level i k n (new_init tokens (read tokens level) k) refl))

pub ruleset sized_arms = (sized_typename)

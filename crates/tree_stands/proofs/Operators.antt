-- Operators and other words and punctuators that stand in a table take a token.
use Rattle.std.proofs.Common.{ℕ}
use Rattle.cxx_tokens.specs.declared.token.Tokens.{Tokens}
use Rattle.cxx_grammar.specs.declared.specifier.DeclWords.{DeclWords}
use Rattle.cxx_grammar.specs.Operators as operators
use Rattle.cxx_grammar.specs.Postfixes as postfixes
use Rattle.cxx_grammar.specs.Locals as locals
use Rattle.cxx_grammar.specs.Declarations as decls
use Rattle.cxx_grammar.specs.Classes as classes
use Rattle.cxx_tokens.specs.declared.mark.TheConstants.{DOT, ARROW}
use Rattle.tree_stands.proofs.Holding.{next, either, Took, Takes}
use Rattle.tree_stands.proofs.Single.{where_given, takes_punctuator, takes_any_word, takes_any_punctuator}

module _ (tokens : Tokens) where
  pub unary_operator : Takes tokens (operators.unary_operator tokens)
  unfolding operators.unary_operator
  unary_operator i = next _ _ _ _ (takes_any_punctuator tokens i) (λ n a ha. where_given (λ k. Took tokens i k) _ a ha)

  pub line : (n : ℕ) → Takes tokens (operators.line tokens n)
  unfolding operators.line
  line n i = next _ _ _ _ (takes_any_punctuator tokens i) (λ n a ha. where_given (λ k. Took tokens i k) _ a ha)

  pub arrow : Takes tokens (postfixes.arrow tokens)
  unfolding postfixes.arrow
  arrow i = either _ _ _ (next _ _ _ _ (takes_punctuator tokens DOT i) (λ _ a ha. record { holds = ha })) (next _ _ _ _ (takes_punctuator tokens ARROW i) (λ _ a ha. record { holds = ha }))

  pub compound : Takes tokens (locals.compound tokens)
  unfolding locals.compound
  compound i = next _ _ _ _ (takes_any_punctuator tokens i) (λ n a ha. where_given (λ k. Took tokens i k) _ a ha)

  pub before : Takes tokens (locals.before tokens)
  unfolding locals.before
  before i = next _ _ _ _ (takes_any_punctuator tokens i) (λ n a ha. where_given (λ k. Took tokens i k) _ a ha)

  pub behind : Takes tokens (locals.behind tokens)
  unfolding locals.behind
  behind i = next _ _ _ _ (takes_any_punctuator tokens i) (λ n a ha. where_given (λ k. Took tokens i k) _ a ha)

  pub specifier : (t : DeclWords) → Takes tokens (decls.specifier tokens t)
  unfolding decls.specifier
  specifier t i = next _ _ _ _ (takes_any_word tokens i) (λ n a ha. where_given (λ k. Took tokens i k) _ a ha)

  pub constructor_word : (t : DeclWords) → Takes tokens (decls.constructor_word tokens t)
  unfolding decls.constructor_word
  constructor_word t i = next _ _ _ _ (takes_any_word tokens i) (λ n a ha. where_given (λ k. Took tokens i k) _ a ha)

  pub key : Takes tokens (decls.key tokens)
  unfolding decls.key
  key i = next _ _ _ _ (takes_any_word tokens i) (λ n a ha. where_given (λ k. Took tokens i k) _ a ha)

  pub access : Takes tokens (classes.access tokens)
  unfolding classes.access
  access i = next _ _ _ _ (takes_any_word tokens i) (λ n a ha. where_given (λ k. Took tokens i k) _ a ha)

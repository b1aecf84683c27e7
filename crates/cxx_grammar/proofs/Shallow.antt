-- How far the rules read that are the same at each level.
use Rattle.std.proofs.Common.{ℕ, Bool, List}
use Rattle.cxx_tokens.specs.declared.token.Tokens.{Tokens}
use Rattle.cxx_tree.specs.declared.identifier.Identifier.{Identifier}
use Rattle.cxx_reading.specs.Extents.{Forward, Rises}
use Rattle.cxx_grammar.specs.declared.words.TypeWords.{TypeWords}
use Rattle.cxx_grammar.specs.declared.clause.Clauses.{Clauses}
use Rattle.cxx_grammar.specs.declared.clause.Clauses.TheVariants as clauses-of
use Rattle.cxx_grammar.specs.Names as names
use Rattle.cxx_grammar.specs.Fundamentals as fundamentals
use Rattle.cxx_grammar.specs.Types as types
use Rattle.cxx_grammar.specs.Lists as lists
use Rattle.cxx_grammar.specs.Primaries as primaries
use Rattle.cxx_grammar.specs.Postfixes as postfixes
use Rattle.cxx_grammar.specs.Operators as operators
use Rattle.cxx_reading.proofs.Forward.{steps}
use Rattle.cxx_reading.proofs.Rises.{rising}
use Rattle.cxx_grammar.proofs.Tables.{tables, rises_unless, rises_any_word, rises_any_punctuator}

pub forward_braced_of : (c : Clauses) → Forward (lists.braced_of c)
forward_braced_of (clauses-of.Plain found) = search (steps)
forward_braced_of (clauses-of.Designated found) = search (steps)
forward_braced_of clauses-of.Mixed = search (tables)

module _ (tokens : Tokens) where
  -- ---- no rule ends before it begins

  pub forward_named : (n : ℕ) → Forward (names.named tokens n)
  unfolding names.named
  forward_named n = search (steps, tables) depth 14

  pub forward_vector_head : Forward (names.vector_head tokens)
  unfolding names.vector_head
  forward_vector_head = search (steps, tables, forward_named) depth 14

  pub forward_part : Forward (names.part tokens)
  unfolding names.part
  forward_part = search (steps, tables) depth 14

  pub forward_parts : (x : List Identifier) → Forward (names.parts tokens x)
  unfolding names.parts
  forward_parts x = search (steps, tables, forward_part) depth 14

  pub forward_any_name : Forward (names.any_name tokens)
  unfolding names.any_name
  forward_any_name = search (steps, tables, forward_parts) depth 14

  pub forward_name : Forward (names.name tokens)
  unfolding names.name
  forward_name = search (steps, tables, forward_any_name) depth 14

  pub forward_type_word : (t : TypeWords) → Forward (fundamentals.type_word tokens t)
  unfolding fundamentals.type_word
  forward_type_word t = search (steps, tables) depth 14

  pub forward_more_type_words : (t : TypeWords) → Forward (fundamentals.more_type_words tokens t)
  unfolding fundamentals.more_type_words
  forward_more_type_words t = search (steps, tables, forward_type_word) depth 14

  pub forward_number_type : Forward (fundamentals.number_type tokens)
  unfolding fundamentals.number_type
  forward_number_type = search (steps, tables, forward_type_word, forward_more_type_words) depth 14

  pub forward_fund : Forward (fundamentals.fund tokens)
  unfolding fundamentals.fund
  forward_fund = search (steps, tables, forward_number_type) depth 14

  pub forward_pointer : Forward (types.pointer tokens)
  unfolding types.pointer
  forward_pointer = search (steps, tables) depth 14

  pub forward_pointers : (x : List Bool) → Forward (types.pointers tokens x)
  unfolding types.pointers
  forward_pointers x = search (steps, tables, forward_pointer) depth 14

  pub forward_basic_fund : Forward (types.basic_fund tokens)
  unfolding types.basic_fund
  forward_basic_fund = search (steps, tables, forward_fund) depth 14

  pub forward_basic_name : Forward (types.basic_name tokens)
  unfolding types.basic_name
  forward_basic_name = search (steps, tables, forward_name) depth 14

  pub forward_basic_vector : Forward (types.basic_vector tokens)
  unfolding types.basic_vector
  forward_basic_vector = search (steps, tables, forward_vector_head, forward_name) depth 14

  pub forward_integer_form : Forward (primaries.integer_form tokens)
  unfolding primaries.integer_form
  forward_integer_form = search (steps, tables) depth 14

  pub forward_character_form : Forward (primaries.character_form tokens)
  unfolding primaries.character_form
  forward_character_form = search (steps, tables) depth 14

  pub forward_text_form : Forward (primaries.text_form tokens)
  unfolding primaries.text_form
  forward_text_form = search (steps, tables) depth 14

  pub forward_true_form : Forward (primaries.true_form tokens)
  unfolding primaries.true_form
  forward_true_form = search (steps, tables) depth 14

  pub forward_false_form : Forward (primaries.false_form tokens)
  unfolding primaries.false_form
  forward_false_form = search (steps, tables) depth 14

  pub forward_nullptr_form : Forward (primaries.nullptr_form tokens)
  unfolding primaries.nullptr_form
  forward_nullptr_form = search (steps, tables) depth 14

  pub forward_this_form : Forward (primaries.this_form tokens)
  unfolding primaries.this_form
  forward_this_form = search (steps, tables) depth 14

  pub forward_name_form : Forward (primaries.name_form tokens)
  unfolding primaries.name_form
  forward_name_form = search (steps, tables, forward_name) depth 14

  pub forward_arrow : Forward (postfixes.arrow tokens)
  unfolding postfixes.arrow
  forward_arrow = search (steps, tables) depth 14

  pub forward_unary_operator : Forward (operators.unary_operator tokens)
  unfolding operators.unary_operator
  forward_unary_operator = search (steps, tables) depth 14

  pub forward_line : (n : ℕ) → Forward (operators.line tokens n)
  unfolding operators.line
  forward_line n = search (steps, tables) depth 14

  -- ---- what reads takes a token

  pub rises_named : (n : ℕ) → Rises (names.named tokens n)
  unfolding names.named
  rises_named n = search (rising, tables) depth 14

  pub rises_vector_head : Rises (names.vector_head tokens)
  unfolding names.vector_head
  rises_vector_head = search (rising, tables, forward_named, rises_named) depth 14

  pub rises_part : Rises (names.part tokens)
  unfolding names.part
  rises_part = search (rising, tables) depth 14

  pub rises_any_name : Rises (names.any_name tokens)
  unfolding names.any_name
  rises_any_name = search (rising, tables, forward_parts) depth 14

  pub rises_name : Rises (names.name tokens)
  unfolding names.name
  rises_name = search (rising, tables, rises_unless, rises_any_name) depth 14

  pub rises_type_word : (t : TypeWords) → Rises (fundamentals.type_word tokens t)
  unfolding fundamentals.type_word
  rises_type_word t = search (rising, tables, rises_any_word) depth 14

  pub rises_number_type : Rises (fundamentals.number_type tokens)
  unfolding fundamentals.number_type
  rises_number_type = search (rising, tables, forward_type_word, forward_more_type_words, rises_type_word) depth 14

  pub rises_fund : Rises (fundamentals.fund tokens)
  unfolding fundamentals.fund
  rises_fund = search (rising, tables, rises_number_type) depth 14

  pub rises_pointer : Rises (types.pointer tokens)
  unfolding types.pointer
  rises_pointer = search (rising, tables) depth 14

  pub rises_basic_fund : Rises (types.basic_fund tokens)
  unfolding types.basic_fund
  rises_basic_fund = search (rising, tables, forward_fund, rises_fund) depth 14

  pub rises_basic_name : Rises (types.basic_name tokens)
  unfolding types.basic_name
  rises_basic_name = search (rising, tables, forward_name, rises_name) depth 14

  pub rises_basic_vector : Rises (types.basic_vector tokens)
  unfolding types.basic_vector
  rises_basic_vector = search (rising, tables, forward_vector_head, forward_name, rises_vector_head) depth 14

  pub rises_integer_form : Rises (primaries.integer_form tokens)
  unfolding primaries.integer_form
  rises_integer_form = search (rising, tables) depth 14

  pub rises_character_form : Rises (primaries.character_form tokens)
  unfolding primaries.character_form
  rises_character_form = search (rising, tables) depth 14

  pub rises_text_form : Rises (primaries.text_form tokens)
  unfolding primaries.text_form
  rises_text_form = search (rising, tables) depth 14

  pub rises_true_form : Rises (primaries.true_form tokens)
  unfolding primaries.true_form
  rises_true_form = search (rising, tables) depth 14

  pub rises_false_form : Rises (primaries.false_form tokens)
  unfolding primaries.false_form
  rises_false_form = search (rising, tables) depth 14

  pub rises_nullptr_form : Rises (primaries.nullptr_form tokens)
  unfolding primaries.nullptr_form
  rises_nullptr_form = search (rising, tables) depth 14

  pub rises_this_form : Rises (primaries.this_form tokens)
  unfolding primaries.this_form
  rises_this_form = search (rising, tables) depth 14

  pub rises_name_form : Rises (primaries.name_form tokens)
  unfolding primaries.name_form
  rises_name_form = search (rising, tables, forward_name, rises_name) depth 14

  pub rises_arrow : Rises (postfixes.arrow tokens)
  unfolding postfixes.arrow
  rises_arrow = search (rising, tables) depth 14

  pub rises_unary_operator : Rises (operators.unary_operator tokens)
  unfolding operators.unary_operator
  rises_unary_operator = search (rising, tables, rises_any_punctuator) depth 14

  pub rises_line : (n : ℕ) → Rises (operators.line tokens n)
  unfolding operators.line
  rises_line n = search (rising, tables, rises_any_punctuator) depth 14

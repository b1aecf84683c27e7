-- Types ([dcl.type.simple], [dcl.name]) and splices ([basic.splice], P2996R13). A rule over `deeper` is read one level above
-- the rules of `deeper`, which read what stands in its brackets.
use Rattle.std.specs.Prelude.{Bool, ◌||◌, List, [], ◌∷◌, ◌++◌}
use Rattle.cxx_tree.specs.declared.expr.SpliceTree.{SpliceTree}
use Rattle.cxx_tree.specs.declared.expr.SpliceTree.TheVariants as splice-of
use Rattle.cxx_tree.specs.declared.expr.BasicTree.{BasicTree}
use Rattle.cxx_tree.specs.declared.expr.BasicTree.TheVariants as basic-of
use Rattle.cxx_tree.specs.declared.expr.TypeTree.{TypeTree}
use Rattle.cxx_tree.specs.declared.expr.TypeTree.TheVariants as type-of
use Rattle.cxx_tokens.specs.declared.token.Tokens.{Tokens}
use Rattle.cxx_tokens.specs.declared.mark.TheConstants.{LEFT_SPLICE, RIGHT_SPLICE, STAR, AMPERSAND, GREATER}
use Rattle.cxx_tokens.specs.declared.keyword.TheConstants.{CONST, TYPENAME}
use Rattle.cxx_reading.specs.Reading.{Rule, ◌>>=◌, ◌>>◌, ◌<|>◌, pure, present, punctuator, word, repeated, node}
use Rattle.cxx_grammar.specs.Names.{name, vector_head}
use Rattle.cxx_grammar.specs.Fundamentals.{fund}
use Rattle.cxx_grammar.specs.Rules.{Rules}

module _ (tokens : Tokens) where
  -- "*" "const"?
  unfoldable pub pointer : Rule Bool
  pointer = punctuator tokens STAR >> present (word tokens CONST)

  abbrev pub pointers_on : List Bool → Rule (List Bool)
  pointers_on found = do
    is_const ← pointer
    pure (found ++ is_const ∷ [])

  -- ("*" "const"?)*
  unfoldable pub pointers : List Bool → Rule (List Bool)
  pointers = repeated tokens pointers_on

  unfoldable pub basic_fund : Rule BasicTree
  basic_fund = node tokens (do f ← fund tokens; pure (λ s. basic-of.Fund s f))

  unfoldable pub basic_name : Rule BasicTree
  basic_name = do n ← name tokens; pure (basic-of.Name n)

  unfoldable pub basic_vector : Rule BasicTree
  basic_vector = node tokens (do
    vector_head tokens
    n ← name tokens
    punctuator tokens GREATER
    pure (λ s. basic-of.Vector s n))

  module _ (deeper : Rules) where
    -- splice : "[:" expr ":]"
    unfoldable pub splice : Rule SpliceTree
    splice = node tokens (do
      punctuator tokens LEFT_SPLICE
      inner ← deeper.expr
      punctuator tokens RIGHT_SPLICE
      pure (λ s. splice-of.Splice s inner))

    unfoldable pub basic_typename : Rule BasicTree
    basic_typename = node tokens (do word tokens TYPENAME; inner ← splice; pure (λ s. basic-of.Typename s inner))

    -- basic : fund | name | "typename" splice | "std" "::" "vector" "<" name ">"
    unfoldable pub basic : Rule BasicTree
    basic = basic_fund <|> basic_name <|> basic_typename <|> basic_vector

    -- type : "const"? basic "const"? ("*" "const"?)* "&"?
    unfoldable pub type_tree : Rule TypeTree
    type_tree = node tokens (do
      before ← present (word tokens CONST)
      named ← basic
      after ← present (word tokens CONST)
      all ← pointers []
      reference ← present (punctuator tokens AMPERSAND)
      pure (λ s. type-of.Type s (before || after) named all reference))

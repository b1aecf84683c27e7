-- Whole source texts: what it is that a text derives a unit, and which refusal decides where it does not ([basic.link]).
use Rattle.std.specs.Prelude.{ℕ, zero, suc, ◌+◌, ◌-◌, Bool, true, false, if◌then◌else◌, nat_lt, List, [], ◌∷◌, ◌++◌, length}
use Rattle.cxx_tree.specs.declared.decl.Item.{Item}
use Rattle.cxx_tree.specs.declared.decl.Item.TheVariants as item-of
use Rattle.cxx_tokens.specs.declared.token.Tokens.{Tokens}
use Rattle.cxx_tokens.specs.declared.mark.TheConstants as mark
use Rattle.cxx_tokens.specs.declared.keyword.TheConstants as keyword
use Rattle.cxx_reading.specs.Reading.{End, Tree, No, Why, Nothing, Rule, ◌>>=◌, ◌>>◌, ◌<|>◌, pure, punctuator, word, identifier, node}
use Rattle.cxx_grammar.specs.Names.{parts}
use Rattle.cxx_grammar.specs.Nesting.{declaration}

-- a unit, or the token at which it is refused and why; the number of tokens stands for the end of the text
pub data Derived : Type 0 where
  Derives : List Item → Derived
  Refused : Why → ℕ → Derived

-- how many heads are open behind an item; a "}" closes one
abbrev pub opens : ℕ → Item → ℕ
opens n (item-of.NamespaceHead s names) = n + 1
opens n (item-of.Close s) = n - 1
opens n _ = n

-- whether an item is a "}" where no head is open
abbrev pub closes_none : ℕ → Item → Bool
closes_none zero (item-of.Close s) = true
closes_none _ _ = false

module _ (tokens : Tokens) where
  -- "namespace" ID ("::" ID)* "{"
  unfoldable pub namespace_head : Rule Item
  namespace_head = node tokens (do
    word tokens keyword.NAMESPACE
    first ← identifier tokens
    all ← parts tokens (first ∷ [])
    punctuator tokens mark.LEFT_BRACE
    pure (λ s. item-of.NamespaceHead s all))

  unfoldable pub close_item : Rule Item
  close_item = node tokens (do punctuator tokens mark.RIGHT_BRACE; pure (λ s. item-of.Close s))

  unfoldable pub decl_item : Rule Item
  decl_item = do d ← declaration tokens; pure (item-of.Decl d)

  unfoldable pub empty_item : Rule Item
  empty_item = node tokens (do punctuator tokens mark.SEMICOLON; pure (λ s. item-of.Empty s))

  -- item : "namespace" ID ("::" ID)* "{" | "}" | decl | ";"
  unfoldable pub item : Rule Item
  item = namespace_head <|> close_item <|> decl_item <|> empty_item

  abbrev end_of_text : ℕ
  end_of_text = length tokens.list

  -- behind the last item
  abbrev pub at_end : ℕ → List Item → ℕ → Derived
  at_end zero found i = Derives found
  at_end (suc n) found i = Refused Nothing i

  -- behind the item there
  abbrev pub step : (ℕ → List Item → ℕ → Derived) → ℕ → List Item → ℕ → End Item → Derived
  step more heads found i (Tree x j) = if closes_none heads x then Refused Nothing i else more (opens heads x) (found ++ x ∷ []) j
  step more heads found i (No why) = Refused why i

  -- The items from a token on, one after the other up to the last token, behind those that were found. The first that is too
  -- deep, or where nothing begins, or that closes no head, decides; a head that is left open is refused at the end of the
  -- text. Each item takes a token, so there are no more items than tokens, and the bound cuts nothing off.
  unfoldable pub derived : ℕ → ℕ → List Item → ℕ → Derived
  derived zero heads found i = at_end heads found i
  derived (suc n) heads found i = if nat_lt i end_of_text then step (derived n) heads found i (item i) else at_end heads found i

  unfoldable pub unit : Derived
  unit = derived end_of_text 0 [] 0

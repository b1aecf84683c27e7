-- The names of a unit are those of tokens.
use Rattle.std.proofs.Common.{◌≡◌, ℕ, ◌<◌, List, [], ◌∷◌, length, All, Some, slice_get, subst}
use Rattle.std.proofs.lemmas.List.Elements.{All-nil, All-cons, All-get_or}
use Rattle.std.proofs.lemmas.Option.{slice_get_within, get_or_from_slice_get}
use Rattle.cxx_base.specs.Texts.{Text}
use Rattle.cxx_base.specs.declared.name.Name.{Name}
use Rattle.cxx_tokens.specs.Usable.{IsKnown}
use Rattle.cxx_tokens.specs.declared.token.Token.{Token}
use Rattle.cxx_tokens.specs.declared.token.TokenKind.{TokenKind}
use Rattle.cxx_tokens.specs.declared.token.TokenKind.TheVariants as token_kind
use Rattle.cxx_tokens.specs.declared.token.Tokens.{Tokens}
use Rattle.cxx_tree.specs.declared.decl.Item.{Item}
use Rattle.cxx_grammar.specs.Units.{Derived, Derives, Refused, unit}
use Rattle.tree_stands.specs.Known.{KnownItem}
use Rattle.tree_stands.specs.Laws.{StandInTurn, UnitStands, UnitKnown, IsNameOfToken, NamesAreOfTokens, NamesHaveTexts}
use Rattle.tree_stands.proofs.KnownNames.{of_item}
use Rattle.tree_stands.proofs.Units.{unit_stands}

module _ (tokens : Tokens) where
  module _ (P : Name → Type 0)
      (known : (i : ℕ) (t : Token) (n : Name) → slice_get tokens.list i ≡ Some t → t.kind ≡ token_kind.Identifier n → P n) where
    in_turn : (i j : ℕ) (items : List Item) → StandInTurn tokens i j items → All (KnownItem P) items
    in_turn i j [] h = All-nil (KnownItem P)
    in_turn i j (x ∷ more) h = All-cons (KnownItem P) x more (of_item tokens P known i h.0 x h.1) (in_turn h.0 j more h.2)

    in_unit : (d : Derived) → UnitStands tokens d → UnitKnown P d
    in_unit (Derives items) h = in_turn 0 (length tokens.list) items h
    in_unit (Refused why i) h = tt

  pub names_are_of_tokens : NamesAreOfTokens tokens
  names_are_of_tokens = in_unit (IsNameOfToken tokens) (λ i t n e f. (i, t, e, f)) (unit tokens) (unit_stands tokens)

  -- a token that is known is so by its kind
  kind_known : (names : List Text) (i : ℕ) (t : Token) → slice_get tokens.list i ≡ Some t → All (λ token. IsKnown names token.kind) tokens.list → IsKnown names t.kind
  kind_known names i t e all = subst (λ (token : Token). IsKnown names token.kind) (get_or_from_slice_get tokens.list i t t e)
      (All-get_or (λ token. IsKnown names token.kind) tokens.list i t (slice_get_within tokens.list i t e) all)

  pub names_have_texts : NamesHaveTexts tokens
  names_have_texts names all = in_unit (λ name. name.0 < length names)
      (λ i t n e f. subst (λ (k : TokenKind). IsKnown names k) f (kind_known names i t e all)) (unit tokens) (unit_stands tokens)

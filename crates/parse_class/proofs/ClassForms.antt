-- A class is declared alone where a semicolon follows its name.
use Rattle.std.proofs.Common.{◌≡◌, ℕ, ◌+◌, Bool, true, false, [], Some, refl, inl, inr, arith}
use Rattle.cxx_tree.specs.declared.decl.Member.{Member}
use Rattle.cxx_tokens.specs.declared.token.Tokens.{Tokens}
use Rattle.cxx_tokens.specs.declared.mark.TheConstants.{SEMICOLON, COLON, LEFT_BRACE}
use Rattle.cxx_reading.specs.declared.seen.Seen.TheVariants.{Punctuator}
use Rattle.cxx_reading.specs.Reading.{Tree, No, Nothing, Rule, kind, is_punctuator}
use Rattle.cxx_reading.proofs.Starts.{no_punctuator, no_punctuator_at, is_that_punctuator, if_any_none, longer_nothing}
use Rattle.cxx_grammar.specs.Classes.{bases, some_bases, class_declared, class_defined, class}
use Rattle.parse_class.specs.Joined.{class_joined}
use Rattle.cxx_reading.proofs.Identifiers.{identifier_or_none}
use Rattle.parse_class.proofs.Tokens.{key_or_none}

module _ (tokens : Tokens) (level : ℕ) (inner : Rule Member) (i : ℕ) where
  behind : i + 1 + 1 ≡ i + 2
  behind = omega arith

  no_bases : (j : ℕ) → kind tokens j ≡ Some (Punctuator SEMICOLON) → bases tokens level j ≡ Tree [] j
  unfolding bases some_bases
  no_bases j e = if_any_none (some_bases tokens level) j (simp (no_punctuator_at tokens j (Some (Punctuator SEMICOLON)) e COLON refl))

  not_defined : kind tokens (i + 2) ≡ Some (Punctuator SEMICOLON) → class_defined tokens level inner i ≡ No Nothing
  unfolding class_defined
  not_defined e = elim (key_or_none tokens i) [
    | inl none ↦ simp (none)
    | inr k ↦ elim (identifier_or_none tokens (i + 1)) [
      | inl none ↦ simp (k.1, none)
      | inr n ↦ let here : kind tokens (i + 1 + 1) ≡ Some (Punctuator SEMICOLON) = rw behind e in
          simp (k.1, n.1, no_bases (i + 1 + 1) here, no_punctuator_at tokens (i + 1 + 1) (Some (Punctuator SEMICOLON)) here LEFT_BRACE refl)
    ]
  ]

  not_declared : is_punctuator SEMICOLON (kind tokens (i + 2)) ≡ false → class_declared tokens i ≡ No Nothing
  unfolding class_declared
  not_declared h = elim (key_or_none tokens i) [
    | inl none ↦ simp (none)
    | inr k ↦ elim (identifier_or_none tokens (i + 1)) [
      | inl none ↦ simp (k.1, none)
      | inr n ↦ let here : is_punctuator SEMICOLON (kind tokens (i + 1 + 1)) ≡ false = rw behind h in
          simp (k.1, n.1, no_punctuator tokens (i + 1 + 1) SEMICOLON here)
    ]
  ]

  by_mark : (b : Bool) → is_punctuator SEMICOLON (kind tokens (i + 2)) ≡ b → class tokens level inner i ≡ class_joined tokens level inner i
  unfolding class class_joined
  by_mark true h = simp (h, not_defined (is_that_punctuator SEMICOLON (kind tokens (i + 2)) h), longer_nothing)
  by_mark false h = simp (h, not_declared h)

  pub class_is : class tokens level inner i ≡ class_joined tokens level inner i
  class_is = by_mark (is_punctuator SEMICOLON (kind tokens (i + 2))) refl

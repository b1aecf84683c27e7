-- A token that is told by few characters.
use Rattle.std.proofs.Common.{◌≡◌, ◌<◌, ℕ, Bool, false, true, true≢false, cond, ltb, arith, List, ◌∷◌, length, take, drop, encode_utf8_all, Some, None, Result, Ok, Err, refl, sym, ap, ◌∙◌}
use Rattle.std.proofs.lemmas.Bool.{ltb-false, ltb-true}
use Rattle.std.specs.Char.{is_ascii_digit}
use Rattle.cxx_base.specs.Texts.{Text, has_text, number_of, with_text}
use Rattle.cxx_base.specs.declared.place.Place.{Place}
use Rattle.cxx_tokens.specs.Characters.{Characters, begins_identifier, continues_identifier, first_is}
use Rattle.cxx_tokens.specs.Faults.{Fault, L2}
use Rattle.cxx_tokens.specs.Lex.{Found, integer_kind, integer_token, is_short_and_composed, kind_or_too_large, names_with_word, punctuator_token, reserved, token_at, word_kind, word_len, word_token}
use Rattle.cxx_tokens.specs.Literals.{integer_at}
use Rattle.cxx_tokens.specs.Punctuators.{punctuator_at}
use Rattle.cxx_tokens.specs.Turns.{IsMark, next_gap}
use Rattle.cxx_tokens.specs.declared.lexing.Position.{Position}
use Rattle.cxx_tokens.specs.declared.token.TokenKind.{TokenKind}
use Rattle.cxx_tokens.specs.declared.token.TokenKind.TheVariants as kind
use Rattle.cxx_tokens.proofs.Beginnings.{integer_here, punctuator_here, word_here}
use Rattle.cxx_tokens.proofs.KnownNames.{held_stays}
use Rattle.cxx_tokens.proofs.Munch.{begins_no_word, no_word_begins}
use Rattle.cxx_tokens.proofs.Turning.{no_gap}
use Rattle.cxx_tokens.proofs.Words.{below_passes}

module _ (place : Place) (names : List Text) (text : Characters) (c : ℕ) (rest : Characters) (here : text ≡ c ∷ rest) where
  module _ (spelled : Characters) (n : ℕ) (begins : begins_identifier c ≡ true) (front : spelled ≡ take (word_len text) text) (long : n ≡ length spelled) (fit : is_short_and_composed spelled ≡ true) where
    told : token_at place names text ≡ Ok (record { kind = word_kind names (encode_utf8_all spelled) (reserved (encode_utf8_all spelled)); length = n; names = names_with_word names (encode_utf8_all spelled) (reserved (encode_utf8_all spelled)) })
    told =
        word_here place names text c rest here begins ∙ ap (word_token place names) (sym front) ∙ rw fit refl
        ∙ ap (λ k. Ok (record { kind = word_kind names (encode_utf8_all spelled) (reserved (encode_utf8_all spelled)); length = k; names = names_with_word names (encode_utf8_all spelled) (reserved (encode_utf8_all spelled)) })) (sym long)

    pub listed_word : (bytes : Text) (number : ℕ) → bytes ≡ encode_utf8_all spelled → Some number ≡ reserved bytes
        → token_at place names text ≡ Ok (record { kind = kind.Word number; length = n; names = names })
    listed_word bytes number same h =
        told ∙ ap (λ found. Ok (record { kind = word_kind names (encode_utf8_all spelled) found; length = n; names = names_with_word names (encode_utf8_all spelled) found }))
        (ap reserved (sym same) ∙ sym h)

    pub held_word : (bytes : Text) (number : ℕ) → bytes ≡ encode_utf8_all spelled → None ≡ reserved bytes → number ≡ number_of names bytes → has_text names bytes ≡ true
        → token_at place names text ≡ Ok (record { kind = kind.Identifier (record { 0 = number }); length = n; names = names })
    held_word bytes number same h is held =
        told ∙ ap (λ found. Ok (record { kind = word_kind names (encode_utf8_all spelled) found; length = n; names = names_with_word names (encode_utf8_all spelled) found }))
        (ap reserved (sym same) ∙ sym h)
        ∙ ap (λ bytes. Ok (record { kind = kind.Identifier (record { 0 = number_of names bytes }); length = n; names = with_text names bytes })) (sym same)
        ∙ ap (λ k. Ok (record { kind = kind.Identifier (record { 0 = k }); length = n; names = with_text names bytes })) (sym is)
        ∙ ap (λ after. Ok (record { kind = kind.Identifier (record { 0 = number }); length = n; names = after })) (sym (held_stays names bytes held))

  pub mark_told : (number n : ℕ) → IsMark c → Some (record { number = number; length = n }) ≡ punctuator_at text
      → token_at place names text ≡ Ok (record { kind = kind.Punctuator number; length = n; names = names })
  mark_told number n mark h =
      punctuator_here place names text c rest here mark.no_word mark.no_digit mark.no_character mark.no_string
      ∙ ap (punctuator_token place names) (sym h)

  pub number_told : (n value : ℕ) (decimal : Bool) (kind_of : TokenKind) → begins_identifier c ≡ false → is_ascii_digit c ≡ true
      → integer_at text ≡ record { length = n; decimal = decimal; unsigned = false; longs = 0; value = value }
      → first_is continues_identifier (drop n text) ≡ false → Some kind_of ≡ integer_kind decimal false 0 value
      → token_at place names text ≡ Ok (record { kind = kind_of; length = n; names = names })
  number_told n value decimal kind_of word digit is ends h =
      integer_here place names text c rest here word digit ∙ ap (integer_token place names text) is
      ∙ ap (λ (b : Bool). cond {A = Result Found Fault} b (Err (L2 place)) (kind_or_too_large place names n (integer_kind decimal false 0 value))) ends
      ∙ ap (kind_or_too_large place names n) (sym h)

-- no gap begins with a letter
pub letter_no_gap : (at : Position) (text : Characters) (c : ℕ) (rest : Characters) → text ≡ c ∷ rest → 64 < c → next_gap at text ≡ Ok None
letter_no_gap at text c rest here far = no_gap at text c rest here (omega (arith, far)) (λ e. omega (arith, far, e)) (λ e. omega (arith, far, e))

-- the letters stand behind the digits and most marks
pub letter_is_far : (c : ℕ) → c < 128 → begins_identifier c ≡ true → 64 < c
letter_is_far c small word = by (ltb c 65) refl
  where
    by : (b : Bool) → ltb c 65 ≡ b → 64 < c
    by false e = let far = ltb-false c 65 e in omega (arith, far)
    by true e =
        let near = ltb-true c 65 e in
        absurd (true≢false (sym word ∙ no_word_begins c (below_passes 65 begins_no_word refl c near)))

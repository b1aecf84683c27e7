-- At most one of the forms of a suffix begins with a token, or they are read as one.
use Rattle.std.proofs.Common.{◌≡◌, ℕ, Bool, true, false, ◌||◌, Option, Some, None, refl}
use Rattle.std.proofs.lemmas.Bool.{ne_eqb}
use Rattle.cxx_tokens.specs.declared.token.Tokens.{Tokens}
use Rattle.cxx_tokens.specs.declared.mark.TheConstants.{LEFT_PAREN, LEFT_BRACKET, DOT, ARROW}
use Rattle.cxx_reading.specs.declared.seen.Seen.{Seen}
use Rattle.cxx_reading.specs.declared.seen.Seen.TheVariants.{Identifier, Integer, Character, Text, Word, Punctuator}
use Rattle.cxx_reading.specs.Reading.{No, Nothing, kind, is_punctuator}
use Rattle.cxx_reading.proofs.Starts.{Kinds, or_left, or_right, no_punctuator_at, longer_nothing}
use Rattle.cxx_grammar.specs.Postfixes.{arrow, call_suffix, subscript_suffix, member_suffix, member_splice_suffix, any_member, suffix}
use Rattle.cxx_grammar.specs.Joined.{begins_suffix}
use Rattle.cxx_grammar.specs.Rules.{Rules}
use Rattle.cxx_grammar.proofs.Begins.{no_args}

abbrev pub starts_member : Kinds
starts_member k = is_punctuator DOT k || is_punctuator ARROW k

neither : (a b : Bool) → a ≡ false → b ≡ false → (a || b) ≡ false
neither true b x y = x
neither false b x y = y

pub no_arrow : (tokens : Tokens) (i : ℕ) (k : Option Seen) → kind tokens i ≡ k → starts_member k ≡ false → arrow tokens i ≡ No Nothing
unfolding arrow
no_arrow tokens i k e h =
    let a : is_punctuator DOT k ≡ false = or_left (is_punctuator DOT k) (is_punctuator ARROW k) h in
    let b : is_punctuator ARROW k ≡ false = or_right (is_punctuator DOT k) (is_punctuator ARROW k) h in
    simp (no_punctuator_at tokens i k e DOT a, no_punctuator_at tokens i k e ARROW b)

module _ (tokens : Tokens) (deeper : Rules) (i : ℕ) where
  pub no_call_suffix : (k : Option Seen) → kind tokens i ≡ k → is_punctuator LEFT_PAREN k ≡ false → call_suffix tokens deeper i ≡ No Nothing
  unfolding call_suffix
  no_call_suffix k e h = simp (no_args tokens deeper i k e h)

  pub no_subscript_suffix : (k : Option Seen) → kind tokens i ≡ k → is_punctuator LEFT_BRACKET k ≡ false → subscript_suffix tokens deeper i ≡ No Nothing
  unfolding subscript_suffix
  no_subscript_suffix k e h = simp (no_punctuator_at tokens i k e LEFT_BRACKET h)

  pub no_member_suffix : (k : Option Seen) → kind tokens i ≡ k → starts_member k ≡ false → member_suffix tokens deeper i ≡ No Nothing
  unfolding member_suffix
  no_member_suffix k e h = simp (no_arrow tokens i k e h)

  pub no_member_splice_suffix : (k : Option Seen) → kind tokens i ≡ k → starts_member k ≡ false → member_splice_suffix tokens deeper i ≡ No Nothing
  unfolding member_splice_suffix
  no_member_splice_suffix k e h = simp (no_arrow tokens i k e h)

  pub suffix_call : kind tokens i ≡ Some (Punctuator LEFT_PAREN) → suffix tokens deeper i ≡ call_suffix tokens deeper i
  unfolding suffix
  suffix_call e = simp (no_subscript_suffix _ e refl, no_member_suffix _ e refl, no_member_splice_suffix _ e refl, longer_nothing)

  pub suffix_subscript : kind tokens i ≡ Some (Punctuator LEFT_BRACKET) → suffix tokens deeper i ≡ subscript_suffix tokens deeper i
  unfolding suffix
  suffix_subscript e = simp (no_call_suffix _ e refl, no_member_suffix _ e refl, no_member_splice_suffix _ e refl, longer_nothing)

  pub suffix_punctuator : (n : ℕ) → kind tokens i ≡ Some (Punctuator n) → (n ≡ LEFT_PAREN → ⊥) → (n ≡ LEFT_BRACKET → ⊥) → suffix tokens deeper i ≡ any_member tokens deeper i
  unfolding suffix
  suffix_punctuator n e a b = simp (no_call_suffix _ e (ne_eqb n LEFT_PAREN a), no_subscript_suffix _ e (ne_eqb n LEFT_BRACKET b))

  pub suffix_other : (n : ℕ) → kind tokens i ≡ Some (Punctuator n) → (n ≡ LEFT_PAREN → ⊥) → (n ≡ LEFT_BRACKET → ⊥) → (n ≡ DOT → ⊥) → (n ≡ ARROW → ⊥) → suffix tokens deeper i ≡ No Nothing
  unfolding suffix
  suffix_other n e a b c d =
      let member : starts_member (Some (Punctuator n)) ≡ false = neither _ _ (ne_eqb n DOT c) (ne_eqb n ARROW d) in
      simp (no_call_suffix _ e (ne_eqb n LEFT_PAREN a), no_subscript_suffix _ e (ne_eqb n LEFT_BRACKET b), no_member_suffix _ e member, no_member_splice_suffix _ e member)

  pub suffix_identifier : kind tokens i ≡ Some Identifier → suffix tokens deeper i ≡ No Nothing
  unfolding suffix
  suffix_identifier e = simp (no_call_suffix _ e refl, no_subscript_suffix _ e refl, no_member_suffix _ e refl, no_member_splice_suffix _ e refl)

  pub suffix_integer : kind tokens i ≡ Some Integer → suffix tokens deeper i ≡ No Nothing
  unfolding suffix
  suffix_integer e = simp (no_call_suffix _ e refl, no_subscript_suffix _ e refl, no_member_suffix _ e refl, no_member_splice_suffix _ e refl)

  pub suffix_character : kind tokens i ≡ Some Character → suffix tokens deeper i ≡ No Nothing
  unfolding suffix
  suffix_character e = simp (no_call_suffix _ e refl, no_subscript_suffix _ e refl, no_member_suffix _ e refl, no_member_splice_suffix _ e refl)

  pub suffix_text : kind tokens i ≡ Some Text → suffix tokens deeper i ≡ No Nothing
  unfolding suffix
  suffix_text e = simp (no_call_suffix _ e refl, no_subscript_suffix _ e refl, no_member_suffix _ e refl, no_member_splice_suffix _ e refl)

  pub suffix_word : (n : ℕ) → kind tokens i ≡ Some (Word n) → suffix tokens deeper i ≡ No Nothing
  unfolding suffix
  suffix_word n e = simp (no_call_suffix _ e refl, no_subscript_suffix _ e refl, no_member_suffix _ e refl, no_member_splice_suffix _ e refl)

  pub suffix_none : kind tokens i ≡ None → suffix tokens deeper i ≡ No Nothing
  unfolding suffix
  suffix_none e = simp (no_call_suffix _ e refl, no_subscript_suffix _ e refl, no_member_suffix _ e refl, no_member_splice_suffix _ e refl)

  pub no_suffix : begins_suffix (kind tokens i) ≡ false → suffix tokens deeper i ≡ No Nothing
  unfolding suffix
  no_suffix h =
      let a : is_punctuator LEFT_PAREN (kind tokens i) ≡ false = or_left _ _ h in
      let bc : (is_punctuator LEFT_BRACKET (kind tokens i) || starts_member (kind tokens i)) ≡ false = or_right (is_punctuator LEFT_PAREN (kind tokens i)) _ h in
      let b : is_punctuator LEFT_BRACKET (kind tokens i) ≡ false = or_left _ _ bc in
      let c : starts_member (kind tokens i) ≡ false = or_right (is_punctuator LEFT_BRACKET (kind tokens i)) _ bc in
      simp (no_call_suffix _ refl a, no_subscript_suffix _ refl b, no_member_suffix _ refl c, no_member_splice_suffix _ refl c)

pub ruleset suffix_arms = (suffix_call, suffix_subscript, suffix_punctuator, suffix_other, suffix_identifier, suffix_integer, suffix_character, suffix_text, suffix_word, suffix_none)

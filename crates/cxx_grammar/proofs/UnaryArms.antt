-- At most one of the forms of a unary expression begins with a token.
use Rattle.std.proofs.Common.{◌≡◌, ℕ, ◌+◌, false, ◌==◌, Option, Some, None, refl, ap}
use Rattle.std.proofs.lemmas.Bool.{ne_eqb}
use Rattle.std.specs.Option.{is_some}
use Rattle.cxx_tree.specs.declared.operator.UnaryOp.{UnaryOp}
use Rattle.cxx_tokens.specs.declared.token.Tokens.{Tokens}
use Rattle.cxx_tokens.specs.declared.mark.TheConstants.{LEFT_PAREN, LEFT_SPLICE, SCOPE, REFLECT}
use Rattle.cxx_tokens.specs.declared.keyword.TheConstants.{SIZEOF, NEW, DELETE}
use Rattle.cxx_reading.specs.declared.seen.Seen.{Seen}
use Rattle.cxx_reading.specs.declared.seen.Seen.TheVariants.{Identifier, Integer, Character, Text, Word, Punctuator}
use Rattle.cxx_reading.specs.Any.{given, punctuator_of, any_punctuator}
use Rattle.cxx_reading.specs.Reading.{No, Nothing, and_then, kind, is_word, is_punctuator}
use Rattle.cxx_reading.proofs.Starts.{Kinds, no_word_at, no_punctuator_at, longer_nothing}
use Rattle.cxx_grammar.specs.Primaries.{primary}
use Rattle.cxx_grammar.specs.Postfixes.{postfix}
use Rattle.cxx_grammar.specs.Operators.{unary_mark, unary_operator}
use Rattle.cxx_grammar.specs.Unaries.{prefixed_form, reflect_global, reflect_type, reflect_form, sizeof_form, delete_form, new_form, unary}
use Rattle.cxx_grammar.specs.Rules.{Rules}
use Rattle.cxx_grammar.proofs.Begins.{no_given}
use Rattle.cxx_grammar.proofs.PrimaryArms.{no_primary_at, no_primary_at_sizeof, no_primary_at_delete, no_primary_at_new}

abbrev pub starts_prefixed : Kinds
starts_prefixed (Some (Punctuator n)) = is_some (unary_mark n)
starts_prefixed _ = false

no_operator_of : (k : Option Seen) (j : ℕ) → starts_prefixed k ≡ false → and_then (punctuator_of k j) (λ n. given (unary_mark n)) ≡ No Nothing
no_operator_of (Some (Punctuator n)) j h = no_given (unary_mark n) j h
no_operator_of (Some (Word n)) j h = refl
no_operator_of (Some Identifier) j h = refl
no_operator_of (Some Integer) j h = refl
no_operator_of (Some Character) j h = refl
no_operator_of (Some Text) j h = refl
no_operator_of None j h = refl

pub no_unary_operator : (tokens : Tokens) (i : ℕ) (k : Option Seen) → kind tokens i ≡ k → starts_prefixed k ≡ false → unary_operator tokens i ≡ No Nothing
unfolding unary_operator any_punctuator
no_unary_operator tokens i k e h = rw e (no_operator_of k (i + 1) h)

-- a mark that is an operator is no other mark
other : (n m : ℕ) (op : UnaryOp) → unary_mark n ≡ Some op → unary_mark m ≡ None → (n == m) ≡ false
other n m op h g = ne_eqb n m (λ e. let same : unary_mark n ≡ unary_mark m = ap unary_mark e in cc)

none_there : (n : ℕ) → unary_mark n ≡ None → is_some (unary_mark n) ≡ false
none_there n h = rw h

module _ (tokens : Tokens) (deeper : Rules) (i : ℕ) where
  pub no_prefixed_form : (k : Option Seen) → kind tokens i ≡ k → starts_prefixed k ≡ false → prefixed_form tokens deeper i ≡ No Nothing
  unfolding prefixed_form
  no_prefixed_form k e h = simp (no_unary_operator tokens i k e h)

  pub no_reflect_form : (k : Option Seen) → kind tokens i ≡ k → is_punctuator REFLECT k ≡ false → reflect_form tokens deeper i ≡ No Nothing
  unfolding reflect_form reflect_global reflect_type
  no_reflect_form k e h = simp (no_punctuator_at tokens i k e REFLECT h)

  pub no_sizeof_form : (k : Option Seen) → kind tokens i ≡ k → is_word SIZEOF k ≡ false → sizeof_form tokens deeper i ≡ No Nothing
  unfolding sizeof_form
  no_sizeof_form k e h = simp (no_word_at tokens i k e SIZEOF h)

  pub no_delete_form : (k : Option Seen) → kind tokens i ≡ k → is_word DELETE k ≡ false → delete_form tokens deeper i ≡ No Nothing
  unfolding delete_form
  no_delete_form k e h = simp (no_word_at tokens i k e DELETE h)

  pub no_new_form : (k : Option Seen) → kind tokens i ≡ k → is_word NEW k ≡ false → new_form tokens deeper i ≡ No Nothing
  unfolding new_form
  no_new_form k e h = simp (no_word_at tokens i k e NEW h)

  pub no_postfix : primary tokens deeper i ≡ No Nothing → postfix tokens deeper i ≡ No Nothing
  unfolding postfix
  no_postfix h = simp h

  pub unary_prefixed : (n : ℕ) (op : UnaryOp) → kind tokens i ≡ Some (Punctuator n) → unary_mark n ≡ Some op → unary tokens deeper i ≡ prefixed_form tokens deeper i
  unfolding unary
  unary_prefixed n op e h = simp (no_reflect_form _ e (other n REFLECT op h refl), no_sizeof_form _ e refl, no_delete_form _ e refl, no_new_form _ e refl, no_postfix (no_primary_at tokens deeper i n e (other n LEFT_PAREN op h refl) (other n LEFT_SPLICE op h refl) (other n SCOPE op h refl)), longer_nothing)

  pub unary_reflect : kind tokens i ≡ Some (Punctuator REFLECT) → unary tokens deeper i ≡ reflect_form tokens deeper i
  unfolding unary
  unary_reflect e = simp (no_prefixed_form _ e refl, no_sizeof_form _ e refl, no_delete_form _ e refl, no_new_form _ e refl, no_postfix (no_primary_at tokens deeper i REFLECT e refl refl refl), longer_nothing)

  pub unary_punctuator : (n : ℕ) → kind tokens i ≡ Some (Punctuator n) → (n ≡ REFLECT → ⊥) → unary_mark n ≡ None → unary tokens deeper i ≡ postfix tokens deeper i
  unfolding unary
  unary_punctuator n e a h = simp (no_prefixed_form _ e (none_there n h), no_reflect_form _ e (ne_eqb n REFLECT a), no_sizeof_form _ e refl, no_delete_form _ e refl, no_new_form _ e refl)

  pub unary_sizeof : kind tokens i ≡ Some (Word SIZEOF) → unary tokens deeper i ≡ sizeof_form tokens deeper i
  unfolding unary
  unary_sizeof e = simp (no_prefixed_form _ e refl, no_reflect_form _ e refl, no_delete_form _ e refl, no_new_form _ e refl, no_postfix (no_primary_at_sizeof tokens deeper i e), longer_nothing)

  pub unary_delete : kind tokens i ≡ Some (Word DELETE) → unary tokens deeper i ≡ delete_form tokens deeper i
  unfolding unary
  unary_delete e = simp (no_prefixed_form _ e refl, no_reflect_form _ e refl, no_sizeof_form _ e refl, no_new_form _ e refl, no_postfix (no_primary_at_delete tokens deeper i e), longer_nothing)

  pub unary_new : kind tokens i ≡ Some (Word NEW) → unary tokens deeper i ≡ new_form tokens deeper i
  unfolding unary
  unary_new e = simp (no_prefixed_form _ e refl, no_reflect_form _ e refl, no_sizeof_form _ e refl, no_delete_form _ e refl, no_postfix (no_primary_at_new tokens deeper i e), longer_nothing)

  pub unary_word : (n : ℕ) → kind tokens i ≡ Some (Word n) → (n ≡ SIZEOF → ⊥) → (n ≡ DELETE → ⊥) → (n ≡ NEW → ⊥) → unary tokens deeper i ≡ postfix tokens deeper i
  unfolding unary
  unary_word n e a b c = simp (no_prefixed_form _ e refl, no_reflect_form _ e refl, no_sizeof_form _ e (ne_eqb n SIZEOF a), no_delete_form _ e (ne_eqb n DELETE b), no_new_form _ e (ne_eqb n NEW c))

  pub unary_identifier : kind tokens i ≡ Some Identifier → unary tokens deeper i ≡ postfix tokens deeper i
  unfolding unary
  unary_identifier e = simp (no_prefixed_form _ e refl, no_reflect_form _ e refl, no_sizeof_form _ e refl, no_delete_form _ e refl, no_new_form _ e refl)

  pub unary_integer : kind tokens i ≡ Some Integer → unary tokens deeper i ≡ postfix tokens deeper i
  unfolding unary
  unary_integer e = simp (no_prefixed_form _ e refl, no_reflect_form _ e refl, no_sizeof_form _ e refl, no_delete_form _ e refl, no_new_form _ e refl)

  pub unary_character : kind tokens i ≡ Some Character → unary tokens deeper i ≡ postfix tokens deeper i
  unfolding unary
  unary_character e = simp (no_prefixed_form _ e refl, no_reflect_form _ e refl, no_sizeof_form _ e refl, no_delete_form _ e refl, no_new_form _ e refl)

  pub unary_text : kind tokens i ≡ Some Text → unary tokens deeper i ≡ postfix tokens deeper i
  unfolding unary
  unary_text e = simp (no_prefixed_form _ e refl, no_reflect_form _ e refl, no_sizeof_form _ e refl, no_delete_form _ e refl, no_new_form _ e refl)

  pub unary_none : kind tokens i ≡ None → unary tokens deeper i ≡ postfix tokens deeper i
  unfolding unary
  unary_none e = simp (no_prefixed_form _ e refl, no_reflect_form _ e refl, no_sizeof_form _ e refl, no_delete_form _ e refl, no_new_form _ e refl)

pub ruleset unary_arms = (unary_prefixed, unary_reflect, unary_punctuator, unary_sizeof, unary_delete, unary_new, unary_word, unary_identifier, unary_integer, unary_character, unary_text, unary_none)

-- The first two tokens of an initializer tell which of the three it is.
use Rattle.std.proofs.Common.{◌≡◌, ℕ, ◌+◌, Bool, true, false, Some, inl, inr, refl}
use Rattle.cxx_tokens.specs.declared.token.Tokens.{Tokens}
use Rattle.cxx_tokens.specs.declared.mark.TheConstants.{EQUAL, LEFT_BRACE}
use Rattle.cxx_reading.specs.declared.seen.Seen.TheVariants.{Punctuator}
use Rattle.cxx_reading.specs.Reading.{kind, is_punctuator}
use Rattle.cxx_reading.proofs.Starts.{is_that_punctuator, no_punctuator, punctuator_there, longer_nothing}
use Rattle.cxx_grammar.specs.Locals.{init_equal, init_equal_braced, init_braced, init}
use Rattle.cxx_grammar.proofs.Looks.{braced_elsewhere}
use Rattle.parse_local.specs.Joined.{equals}

module _ (tokens : Tokens) (level i : ℕ) where
  pub init_elsewhere : is_punctuator EQUAL (kind tokens i) ≡ false → init tokens level i ≡ init_braced tokens level i
  unfolding init init_equal init_equal_braced
  init_elsewhere h = simp (no_punctuator tokens i EQUAL h)

  no_brace : is_punctuator EQUAL (kind tokens i) ≡ true → is_punctuator LEFT_BRACE (kind tokens i) ≡ false
  no_brace h = let e : kind tokens i ≡ Some (Punctuator EQUAL) = is_that_punctuator EQUAL (kind tokens i) h in rw e refl

  pub init_at_equal : is_punctuator EQUAL (kind tokens i) ≡ true → init tokens level i ≡ equals tokens level i
  unfolding init init_equal init_equal_braced init_braced equals
  init_at_equal h = elim (braced_elsewhere tokens level i (no_brace h)) [
    | inl none ↦ simp (none, longer_nothing)
    | inr deep ↦ simp (punctuator_there tokens i EQUAL h, deep.0 (i + 1), deep.1 i)
  ]

  equals_by : (there : Bool) → is_punctuator EQUAL (kind tokens i) ≡ there → is_punctuator LEFT_BRACE (kind tokens (i + 1)) ≡ false → equals tokens level i ≡ init_equal tokens level i
  unfolding equals init_equal init_equal_braced
  equals_by false e h = simp (no_punctuator tokens i EQUAL e)
  equals_by true e h = elim (braced_elsewhere tokens level (i + 1) h) [
    | inl none ↦ simp (punctuator_there tokens i EQUAL e, none, longer_nothing)
    | inr deep ↦ simp (punctuator_there tokens i EQUAL e, deep.0 (i + 1))
  ]

  pub equals_elsewhere : is_punctuator LEFT_BRACE (kind tokens (i + 1)) ≡ false → equals tokens level i ≡ init_equal tokens level i
  equals_elsewhere h = equals_by (is_punctuator EQUAL (kind tokens i)) refl h

pub ruleset inits = (init_at_equal, init_elsewhere)

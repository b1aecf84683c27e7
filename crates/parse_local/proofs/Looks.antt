-- Where no bracket stands, there are no bounds.
use Rattle.std.proofs.Common.{◌≡◌, ℕ, false, []}
use Rattle.cxx_tokens.specs.declared.token.Tokens.{Tokens}
use Rattle.cxx_tokens.specs.declared.mark.TheConstants.{LEFT_BRACKET}
use Rattle.cxx_reading.specs.Reading.{Tree, No, Nothing, left, sees_punctuator}
use Rattle.cxx_reading.proofs.Starts.{no_punctuator}
use Rattle.cxx_reading.proofs.Turns.{turns_none}
use Rattle.cxx_grammar.specs.Locals.{bound, bounds}
use Rattle.cxx_grammar.specs.Sequences.{with_next}

module _ (tokens : Tokens) (level i : ℕ) where
  no_bound : sees_punctuator tokens LEFT_BRACKET i ≡ false → bound tokens level i ≡ No Nothing
  unfolding bound
  no_bound h = simp (no_punctuator tokens i LEFT_BRACKET h)

  pub no_bounds : sees_punctuator tokens LEFT_BRACKET i ≡ false → bounds tokens level [] i ≡ Tree [] i
  unfolding bounds
  no_bounds h = let e : with_next (bound tokens level) [] i ≡ No Nothing = simp (no_bound h) in turns_none (with_next (bound tokens level)) [] i (left tokens i) e

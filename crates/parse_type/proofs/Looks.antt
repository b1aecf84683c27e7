-- What one look tells: where their first token does not stand, there are no further parts of a name, and no pointers.
use Rattle.std.proofs.Common.{◌≡◌, ℕ, false, []}
use Rattle.cxx_tokens.specs.declared.token.Tokens.{Tokens}
use Rattle.cxx_tokens.specs.declared.mark.TheConstants.{SCOPE, STAR}
use Rattle.cxx_reading.specs.Reading.{Tree, No, Nothing, left, sees_punctuator}
use Rattle.cxx_reading.proofs.Starts.{no_punctuator}
use Rattle.cxx_reading.proofs.Turns.{turns_none}
use Rattle.cxx_grammar.specs.Names.{part, parts_on, parts}
use Rattle.cxx_grammar.specs.Types.{pointer, pointers_on, pointers}

module _ (tokens : Tokens) (i : ℕ) where
  no_part : sees_punctuator tokens SCOPE i ≡ false → part tokens i ≡ No Nothing
  unfolding part
  no_part h = simp (no_punctuator tokens i SCOPE h)

  pub no_parts : sees_punctuator tokens SCOPE i ≡ false → parts tokens [] i ≡ Tree [] i
  unfolding parts
  no_parts h = let e : parts_on tokens [] i ≡ No Nothing = simp (no_part h) in turns_none (parts_on tokens) [] i (left tokens i) e

  no_pointer : sees_punctuator tokens STAR i ≡ false → pointer tokens i ≡ No Nothing
  unfolding pointer
  no_pointer h = simp (no_punctuator tokens i STAR h)

  pub no_pointers : sees_punctuator tokens STAR i ≡ false → pointers tokens [] i ≡ Tree [] i
  unfolding pointers
  no_pointers h = let e : pointers_on tokens [] i ≡ No Nothing = simp (no_pointer h) in turns_none (pointers_on tokens) [] i (left tokens i) e

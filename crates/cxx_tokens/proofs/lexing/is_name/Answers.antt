use Rattle.std.proofs.Common.{rules}
use Rattle.std.proofs.lemmas.Str.{chars_from_encodes}
use Rattle.cxx_tokens.proofs.lexing.is_name.Goals as goal

pub is_short_and_composed-requires : goal.is_short_and_composed-requires
is_short_and_composed-requires c = search (rules, chars_from_encodes)

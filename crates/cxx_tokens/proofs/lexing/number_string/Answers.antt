use Rattle.std.proofs.Common.{◌&&◌, ◌∙◌, sym, ap}
use Rattle.std.specs.Str.{is_utf8}
use Rattle.cxx_tokens.specs.Lex.{before_zero, is_name}
use Rattle.cxx_tokens.proofs.Runs.{names_stay, none_matches}
use Rattle.cxx_tokens.proofs.lexing.number_string.Goals as goal

pub returns-in-Ok-None-clause-names : goal.returns-in-Ok-None-clause-names
returns-in-Ok-None-clause-names c =
    names_stay c.args.names.now c.args.bytes.now (ap (λ bytes. is_utf8 bytes && is_name bytes) (sym c.before_zero.ensures)
    ∙ none_matches c.in-Ok-None.field-0 _ _ c.in-Ok-None.field-0-is c.in-Ok-None.ensures)

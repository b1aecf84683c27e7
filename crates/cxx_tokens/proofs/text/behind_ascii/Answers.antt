use Rattle.std.proofs.Common.{◌++◌, ◌∙◌, chars, take, sym, ap}
use Rattle.cxx_tokens.proofs.AsciiFronts.{ascii_boundary, ascii_chars}
use Rattle.cxx_tokens.proofs.text.behind_ascii.Goals as goal

pub range_from-requires : goal.range_from-requires
range_from-requires c some = ascii_boundary c.args.text.now c.utf8.text c.args.count c.requires

pub returns-clause-characters : goal.returns-clause-characters
returns-clause-characters c =
    ascii_chars c.args.count c.args.text.now c.utf8.text c.requires ∙ ap (λ rest. take c.args.count c.args.text.now ++ chars rest) (sym c.range_from.ensures.value)

use Rattle.std.proofs.Common.{◌∷◌, ◌∙◌, ap, sym, chars, length}
use Rattle.std.proofs.lemmas.Str.{chars_past_char}
use Rattle.cxx_tokens.proofs.Cut.{no_characters}
use Rattle.cxx_tokens.proofs.text.split_wide.Goals as goal

pub returns-in-Some : goal.returns-in-Some
returns-in-Some c =
    chars_past_char c.args.text.now c.next.new.self.rest.now c.in-Some.first c.utf8.text (sym c.chars-characters.ensures.rest ∙ c.in-Some.ensures.steps.0)
    ∙ ap (λ rest. c.in-Some.first ∷ chars rest) (sym c.as_str.ensures)

pub returns-in-None : goal.returns-in-None
returns-in-None c = no_characters c.args.text.now (ap length (sym c.chars-characters.ensures.rest) ∙ c.in-None.ensures.steps.0.0)

use Rattle.std.proofs.Common.{◌≡◌, ◌∙◌, Some, ap, sym}
use Rattle.std.specs.Cmp.Lexicographic.{bytes_decides}
use Rattle.cxx_tokens.proofs.KnownNames.{number_here, held_here}
use Rattle.cxx_tokens.proofs.recent.is_number_of.Goals as goal

pub returns : goal.returns
returns c is =
    let same : c.text.result.now ≡ c.args.text.now = (bytes_decides c.text.result.now c.args.text.now).0 (sym c.eq.ensures ∙ is) in
    let here = c.text.ensures ∙ ap Some same in
    (number_here c.args.names.now c.args.number c.args.text.now c.len.ensures.distinct here, held_here c.args.names.now c.args.number c.args.text.now here)

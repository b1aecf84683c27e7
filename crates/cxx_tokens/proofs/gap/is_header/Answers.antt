use Rattle.std.proofs.Common.{◌∙◌, ap, sym, refl}
use Rattle.cxx_tokens.specs.Characters.{is_blank}
use Rattle.cxx_tokens.specs.Gaps.{is_empty, past}
use Rattle.cxx_tokens.proofs.Gaps.{empty_is}
use Rattle.cxx_tokens.proofs.gap.is_header.Goals as goal

pub returns-in-Some : goal.returns-in-Some
returns-in-Some c =
    c.is_empty.ensures ∙ empty_is c.past.result.now c.past.utf8 ∙ ap is_empty (c.past.ensures ∙ ap (past is_blank) c.in-Some.ensures.rest)
    ∙ (let yes = sym c.in-Some.ensures.begins in rw yes refl)

use Rattle.std.proofs.Common.{◌&&◌, ◌∙◌, sym, ap, chars}
use Rattle.std.specs.List.{list_all}
use Rattle.cxx_tokens.specs.Characters.{continues_identifier}
use Rattle.cxx_tokens.specs.Gaps.{is_empty}
use Rattle.cxx_tokens.specs.Lex.{is_identifier}
use Rattle.cxx_tokens.proofs.Gaps.{empty_is}
use Rattle.cxx_tokens.proofs.Runs.{all_in_run}
use Rattle.cxx_tokens.proofs.lexing.is_identifier.Goals as goal

pub returns-then-begins_identifier : goal.returns-then-begins_identifier
returns-then-begins_identifier c =
    let rest = chars c.in-Some.rest.now in
    c.is_empty.ensures ∙ empty_is c.past.result.now c.past.utf8 ∙ ap is_empty c.past.ensures ∙ all_in_run continues_identifier rest
    ∙ ap (λ b. b && list_all continues_identifier rest) c.if-begins_identifier.ensures ∙ sym (ap is_identifier c.in-Some.ensures)

use Rattle.std.proofs.Common.{◌≡◌, ◌∙◌, map, ap, sym}
use Rattle.reflect_cli.specs.Order.{outcome_of}
use Rattle.reflect_cli.proofs.Named.{outcomes_named}
use Rattle.reflect_cli.proofs.answer.translate.Goals as goal

pub translated-requires-clause-named : goal.translated-requires-clause-named
translated-requires-clause-named c = outcomes_named c.args.program.now.names c.args.program.now.declarations c.as_slice-2.result.now
    (c.as_slice-2.ensures ∙ c.in_ok-outcomes.ensures ∙ ap (map outcome_of) c.as_slice.ensures) c.requires.named

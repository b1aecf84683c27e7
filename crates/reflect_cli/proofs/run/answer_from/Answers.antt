use Rattle.std.proofs.Common.{ap, subst, Err}
use Rattle.cxx_base.specs.declared.limits.TheConstants.{MAX_SOURCE}
use Rattle.reflect_cli.specs.Answers.{IsTold}
use Rattle.reflect_cli.specs.Told.{refused}
use Rattle.reflect_cli.proofs.WholeSource.{drops_all, too_long}
use Rattle.reflect_cli.proofs.run.answer_from.Goals as goal

pub returns-in_ok-answer_to-in-Ok-clause-read : goal.returns-in_ok-answer_to-in-Ok-clause-read
returns-in_ok-answer_to-in-Ok-clause-read g c =
    drops_all MAX_SOURCE (g.S.Source.left c.args.source.now) (g.S.Source.left c.read_all.new.source) c.in-Ok.ensures.tells c.in-Ok.ensures.emptied c.in-Ok.ensures.ok_only_within

pub returns-in_ok-refused-in-Err-TooLong-clause-told : goal.returns-in_ok-refused-in-Err-TooLong-clause-told
returns-in_ok-refused-in-Err-TooLong-clause-told g c =
    let answer = c.in_ok-refused-in-Err-TooLong.field-0 in
    too_long (g.S.Source.left c.args.source.now) answer (c.in-Err-TooLong.ensures.too_long (ap Err c.in-Err-TooLong.field-0-is))
    (subst (λ refusal. IsTold (refused refusal) answer) c.source_refusal.ensures c.in_ok-refused-in-Err-TooLong.ensures)

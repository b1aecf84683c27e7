use Rattle.std.proofs.Common.{IfOk, Err, ap, sym, subst, ◌∙◌}
use Rattle.reflect_cli.specs.Answers.{GivesProgram, IsTold}
use Rattle.reflect_cli.specs.Program.{program_of}
use Rattle.reflect_cli.specs.Told.{answer_by}
use Rattle.reflect_cli.proofs.WholeSource.{not_too_long}
use Rattle.reflect_cli.proofs.answer.answer_to.Goals as goal

pub returns-in-Ok : goal.returns-in-Ok
returns-in-Ok c =
    subst (λ told. IfOk c.translate.result (IsTold told)) (sym (not_too_long c.args.bytes.now c.requires ∙ ap answer_by (c.in-Ok.ensures.program c.requires)))
    c.translate.ensures

pub returns-in-Err-Refused : goal.returns-in-Err-Refused
returns-in-Err-Refused c =
    let given = subst (λ fault. GivesProgram (program_of c.args.bytes.now c.requires) (Err fault)) c.in-Err-Refused.field-0-is (c.in-Err-Refused.ensures.program c.requires) in
    subst (λ told. IfOk c.refused.result (IsTold told)) (sym (not_too_long c.args.bytes.now c.requires ∙ ap answer_by given)) c.refused.ensures

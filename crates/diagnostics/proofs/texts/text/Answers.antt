use Rattle.std.proofs.Common.{sym, ap, ◌∙◌}
use Rattle.diagnostics.specs.Texts as spec
use Rattle.diagnostics.proofs.LimitTexts.{source_text}
use Rattle.diagnostics.proofs.texts.text.Goals as goal

pub returns-in-L6 : goal.returns-in-L6
returns-in-L6 c = source_text ∙ ap (λ code. spec.text code c.args.refusal.now.detail) (sym c.in-L6.is)

use Rattle.std.proofs.Common.{◌∙◌, sym, subst}
use Rattle.cxx_tree.specs.declared.expr.Expr.{Expr}
use Rattle.cxx_reading.specs.Reading.{End, Gives}
use Rattle.cxx_grammar.specs.Read.{read}
use Rattle.parse_expr.proofs.Looks.{unary_operand}
use Rattle.parse_expr.proofs.unary.unary_here.Goals as goal

pub returns-then-begins_operand : goal.returns-then-begins_operand
returns-then-begins_operand g c =
    let tokens = c.args.reader.now.tokens.now in
    let level = c.args.reader.now.level in
    subst (λ (e : End Expr). Gives e c.operand.result) (sym (unary_operand tokens (read tokens level) c.args.start (sym c.begins_operand.ensures ∙ c.if-begins_operand.true)))
    (c.operand.ensures level)

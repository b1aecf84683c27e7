use Rattle.std.proofs.Common.{◌∙◌}
use Rattle.reflect_cli.proofs.Forms.{new_turn, old_turn}
use Rattle.reflect_cli.proofs.form.are_new.Goals as goal

pub loop-declaration-preserved : goal.loop-declaration-preserved
loop-declaration-preserved c =
    new_turn c.loop-declaration.before.keys c.args.declarations.now c.loop-declaration.declaration-index c.declaration-item.result
    c.loop-declaration-test.true c.declaration-item.is c.insert.new.self.keys c.in_ok-insert.field-0 c.in_ok-insert.ensures.added c.in_ok-insert.ensures.keys c.if-not-branch.false
    ∙ c.loop-declaration.invariant

pub returns-then-not-branch : goal.returns-then-not-branch
returns-then-not-branch c =
    old_turn c.loop-declaration.before.keys c.args.declarations.now c.loop-declaration.declaration-index c.declaration-item.result
    c.loop-declaration-test.true c.declaration-item.is c.in_ok-insert.field-0 c.in_ok-insert.ensures.added c.if-not-branch.true
    ∙ c.loop-declaration.invariant

use Rattle.std.proofs.Common.{◌≡◌, true, false}
use Rattle.cxx_reading.specs.Reading.{kind, is_identifier}
use Rattle.parse_primary.proofs.Lone.{operand_name, operand_integer}
use Rattle.parse_primary.proofs.operands.operand.Goals as goal

pub returns-then-sees_identifier : goal.returns-then-sees_identifier
returns-then-sees_identifier c = λ level.
    let here : is_identifier (kind c.args.tokens.now c.args.start) ≡ true = cc (c.sees_identifier.ensures, c.if-sees_identifier.true) in
    rw (operand_name c.args.tokens.now level c.args.start c.requires here) c.lone_name.ensures

pub returns-else-sees_identifier : goal.returns-else-sees_identifier
returns-else-sees_identifier c = λ level.
    let other : is_identifier (kind c.args.tokens.now c.args.start) ≡ false = cc (c.sees_identifier.ensures, c.if-sees_identifier.false) in
    rw (operand_integer c.args.tokens.now level c.args.start c.requires other) c.integer_form.ensures

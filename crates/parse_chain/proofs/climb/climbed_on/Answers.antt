use Rattle.std.proofs.Common.{◌≡◌, ◌+◌, ◌<◌, ◌≤◌, [], Some, None, length, refl, arith}
use Rattle.cxx_reading.specs.Reading.{Tree, No, Nothing, TooDeep}
use Rattle.cxx_reading.proofs.Answers.{none_by, deep_by}
use Rattle.cxx_grammar.specs.Read.{read}
use Rattle.cxx_grammar.specs.Unaries.{unary}
use Rattle.parse_chain.specs.Chains.{all, all_if}
use Rattle.parse_chain.specs.Next.{operator_at}
use Rattle.parse_chain.proofs.Placing.{first_turn, operand_behind, ends_without, ends_before, ends_deep, turn_on}
use Rattle.parse_chain.proofs.climb.climbed_on.Goals as goal

pub loop-operator-init : goal.loop-operator-init
loop-operator-init g c = first_turn c.args.reader.now.tokens.now c.args.reader.now.level [] c.args.start c.args.x c.args.at refl

pub loop-operator-smaller : goal.loop-operator-smaller
loop-operator-smaller g c =
    let tokens = c.args.reader.now.tokens.now in
    let level = c.args.reader.now.level in
    let there : unary tokens (read tokens level) c.in-Some.behind ≡ Tree c.in-Ok.next_x c.in-Ok.end = cc (c.requires.reads.reads c.in-Some.behind _ c.in-Ok.ensures) in
    let past : c.in-Some.behind + 1 ≤ c.in-Ok.end = operand_behind tokens level c.in-Ok.next_x c.in-Some.behind c.in-Ok.end there in
    let next : c.in-Some.behind ≡ c.loop-operator.at + 1 = cc (c.in-Some.ensures.behind) in
    let within : c.loop-operator.at < length tokens.list = c.in-Some.ensures.within in
    omega arith

pub loop-operator-preserved : goal.loop-operator-preserved
loop-operator-preserved g c =
    let tokens = c.args.reader.now.tokens.now in
    let level = c.args.reader.now.level in
    let there : unary tokens (read tokens level) c.in-Some.behind ≡ Tree c.in-Ok.next_x c.in-Ok.end = cc (c.requires.reads.reads c.in-Some.behind _ c.in-Ok.ensures) in
    let next : c.in-Some.behind ≡ c.loop-operator.at + 1 = cc (c.in-Some.ensures.behind) in
    let here : unary tokens (read tokens level) (c.loop-operator.at + 1) ≡ Tree c.in-Ok.next_x c.in-Ok.end = cc (there, next) in
    rw next (turn_on tokens level _ (all_if c.loop-operator.chains) c.loop-operator.start c.loop-operator.x c.loop-operator.at c.loop-operator.invariant
    (all c.in_ok-after-in-Ok.after) c.in-Ok.next_x c.in-Ok.end here c.in_ok-after-in-Ok.ensures)

pub returns-in-Err-S1 : goal.returns-in-Err-S1
returns-in-Err-S1 g c =
    let tokens = c.args.reader.now.tokens.now in
    let level = c.args.reader.now.level in
    let there : operator_at tokens c.loop-operator.at ≡ Some (c.in-Some.operator, c.loop-operator.at + 1) = cc (c.in-Some.ensures.value, c.in-Some.ensures.behind) in
    let behind : unary tokens (read tokens level) c.in-Some.behind ≡ No Nothing = none_by (unary tokens (read tokens level) c.in-Some.behind) c.in-Err-S1.field-0 (c.requires.reads.reads c.in-Some.behind _ c.in-Err-S1.ensures) c.in-Err-S1.field-0-is in
    let here : unary tokens (read tokens level) (c.loop-operator.at + 1) ≡ No Nothing = cc (behind, c.in-Some.ensures.behind) in
    ends_before tokens level _ (all_if c.loop-operator.chains) c.loop-operator.start c.loop-operator.x c.loop-operator.at c.loop-operator.invariant c.in-Some.operator there c.in_ok-made-in-Err-S1.made here (c.in_ok-made-in-Err-S1.ensures c.loop-operator.start)

pub returns-in-Err-S2 : goal.returns-in-Err-S2
returns-in-Err-S2 g c = λ other.
    let tokens = c.args.reader.now.tokens.now in
    let level = c.args.reader.now.level in
    let there : operator_at tokens c.loop-operator.at ≡ Some (c.in-Some.operator, c.loop-operator.at + 1) = cc (c.in-Some.ensures.value, c.in-Some.ensures.behind) in
    let behind : unary tokens (read tokens level) c.in-Some.behind ≡ No TooDeep = deep_by (unary tokens (read tokens level) c.in-Some.behind) c.in-Err-S2.field-0 (c.requires.reads.reads c.in-Some.behind _ c.in-Err-S2.ensures) c.in-Err-S2.field-0-is in
    let here : unary tokens (read tokens level) (c.loop-operator.at + 1) ≡ No TooDeep = cc (behind, c.in-Some.ensures.behind) in
    ends_deep tokens level _ (all_if c.loop-operator.chains) c.loop-operator.start c.loop-operator.x c.loop-operator.at c.loop-operator.invariant c.in-Some.operator there (omega (arith, c.in-Some.ensures.line)) here

pub returns : goal.returns
returns g c =
    let tokens = c.args.reader.now.tokens.now in
    let level = c.args.reader.now.level in
    let none : operator_at tokens c.loop-operator.at ≡ None = cc (c.in_default.ensures.value) in
    ends_without tokens level _ (all_if c.loop-operator.chains) c.loop-operator.start c.loop-operator.x c.loop-operator.at c.loop-operator.invariant c.in_ok-made.made none (c.in_ok-made.ensures c.loop-operator.start)

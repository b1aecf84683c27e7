use Rattle.std.proofs.Common.{rules, ◌≡◌, ◌-◌, ◌<◌, ◌≤◌, [], ◌∷◌, ◌++◌, length, ap, arith}
use Rattle.cxx_reading.specs.Reading.{Nothing, span}
use Rattle.cxx_grammar.specs.Units as spec
use Rattle.cxx_grammar.specs.Units.{Refused}
use Rattle.parse_decl.proofs.Taking.{goes_with, opens_one, says_end, says_nothing}
use Rattle.parse_decl.proofs.UnitTurns.{item_goes_on, item_closes, items_end, turns_end}
use Rattle.parse_decl.proofs.units.unit_to.Goals as goal

pub loop-turn-init : goal.loop-turn-init
unfolding spec.unit
loop-turn-init g c =
    let all : length c.args.tokens.now.list ≡ c.len-turn-end.result - 0 = omega (arith, c.len-turn-end.ensures) in
    ([], c.requires, ap (λ n. spec.derived c.args.tokens.now n 0 [] 0) all, omega arith)

pub loop-turn-preserved : goal.loop-turn-preserved
loop-turn-preserved g c =
    let tokens = c.args.tokens.now in
    let items = c.loop-turn.invariant.0 in
    let there : c.loop-turn.at < length tokens.list = search rules in
    let goes = item_goes_on tokens _ _ _ _ _ _ c.loop-turn.invariant.2 c.loop-turn-test.true there c.in-Ok.x c.in-Ok.after (search rules) (search rules) in
    let one = opens_one c.loop-turn.heads c.in-Ok.x in
    (items ++ c.in-Ok.x ∷ [], search rules, goes_with tokens _ _ _ _ _ _ goes c.opens-heads.ensures, omega (arith, one, c.opens-heads.ensures, c.loop-turn.invariant.3))

pub returns-then-closes_none : goal.returns-then-closes_none
unfolding span
returns-then-closes_none g c =
    let tokens = c.args.tokens.now in
    let there : c.loop-turn.at < length tokens.list = search rules in
    let ends : spec.unit tokens ≡ Refused Nothing c.loop-turn.at =
    item_closes tokens _ _ _ _ _ _ c.loop-turn.invariant.2 c.loop-turn-test.true there c.in-Ok.x c.in-Ok.after (search rules) (search rules) in
    says_nothing tokens (g.T.Taker.took c.loop-turn.taker) (spec.unit tokens) c.loop-turn.at _ ends (search rules)

pub returns-then-at-len : goal.returns-then-at-len
returns-then-at-len g c =
    let tokens = c.args.tokens.now in
    let past : length tokens.list ≤ c.loop-turn.at = search rules in
    says_end tokens (g.T.Taker.took c.loop-turn.taker) (spec.unit tokens) c.loop-turn.heads c.loop-turn.invariant.0 c.loop-turn.at _
    (items_end tokens _ _ _ _ _ _ c.loop-turn.invariant.2 past) (search rules) c.loop-turn.invariant.1

pub returns : goal.returns
returns g c =
    let tokens = c.args.tokens.now in
    says_end tokens (g.T.Taker.took c.loop-turn.taker) (spec.unit tokens) c.loop-turn.heads c.loop-turn.invariant.0 c.loop-turn.at _
    (turns_end tokens _ _ _ _ _ _ c.loop-turn.invariant.2 c.loop-turn-test.false) (search rules) c.loop-turn.invariant.1

use Rattle.std.proofs.Common.{◌≡◌, ◌-◌, ◌≤◌, List}
use Rattle.cxx_tree.specs.declared.decl.Item.{Item}
use Rattle.cxx_grammar.specs.Units as spec
use Rattle.parse_decl.proofs.units.unit_to.Given as goal

-- some items were taken, and the unit is what follows behind them
abbrev pub invariant-loop-turn : goal.invariant-loop-turn
invariant-loop-turn g l = (items : List Item) × g.T.Taker.took l.taker items
    × (spec.unit l.tokens ≡ spec.derived l.tokens (l._turn-end - l._turn) l.heads items l.at) × (l.heads ≤ l._turn)

use Rattle.std.proofs.Common.{◌≡◌, ◌-◌}
use Rattle.cxx_reading.specs.Reading.{turns}
use Rattle.cxx_grammar.specs.Lists as spec
use Rattle.cxx_grammar.specs.Read.{read}
use Rattle.parse_list.proofs.bracing.more_clauses.Given as goal

abbrev pub invariant-loop-turn : goal.invariant-loop-turn
invariant-loop-turn g l =
    let tokens = l.reader.tokens.now in
    let deeper = read tokens l.reader.level in
    spec.more_clauses tokens deeper l.fn.found l.fn.at ≡ turns (l._turn-end - l._turn) (spec.clauses_on tokens deeper) l.found l.at

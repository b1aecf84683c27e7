use Rattle.std.proofs.Common.{◌∙◌, refl, ap, sym, chars, length, arith}
use Rattle.cxx_base.specs.declared.place.Place.{Place}
use Rattle.cxx_tokens.specs.Turns.{lexed_on}
use Rattle.cxx_tokens.proofs.Turning.{space_turn}
use Rattle.cxx_tokens.proofs.lexing.line_pass.Goals as goal

pub returns-clause-goes : goal.returns-clause-goes
returns-clause-goes c = λ list names.
    space_turn c.args.at.now (chars c.args.text.now) 10 (chars c.args.behind.now) c.requires.here refl list names
    ∙ ap (λ place. lexed_on list (record { place = place; last = c.args.at.now.last }) names (chars c.args.behind.now)) (sym c.next_line-at.ensures)

pub returns-clause-line : goal.returns-clause-line
returns-clause-line c =
    let long = ap length c.requires.here in
    let line = ap (λ (p : Place). p.line) c.next_line-at.ensures in
    omega (arith, long, line)

pub returns-clause-column : goal.returns-clause-column
returns-clause-column c =
    let long = ap length c.requires.here in
    let column = ap (λ (p : Place). p.column) c.next_line-at.ensures in
    omega (arith, long, column)

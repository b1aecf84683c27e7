use Rattle.std.proofs.Common.{◌∙◌, ap, sym, chars, drop}
use Rattle.cxx_tokens.specs.Turns.{lexed_on}
use Rattle.cxx_tokens.proofs.Cut.{some_characters}
use Rattle.cxx_tokens.proofs.Lines.{after_front}
use Rattle.cxx_tokens.proofs.Turning.{Fails-at_gap, Fails-at_token, gap_turn}
use Rattle.cxx_tokens.proofs.lexing.any_turn.Goals as goal

pub returns-in-Unended-clause-goes : goal.returns-in-Unended-clause-goes
returns-in-Unended-clause-goes c =
    Fails-at_gap c.args.list.now.items c.args.at.now c.args.names.now (chars c.args.text.now) c.args.at.now.place (some_characters c.args.text.now c.utf8.text c.requires.some)
    (sym (c.in-Unended.ensures.length c.args.at.now.place))

pub returns-in-InLine-clause-goes : goal.returns-in-InLine-clause-goes
returns-in-InLine-clause-goes c =
    let cut = c.in-InLine.ensures.cut in
    let text = chars c.args.text.now in
    let n = c.in-InLine.gap.length in
    let place = c.args.at.now.place in
    gap_turn c.args.list.now.items c.args.at.now c.args.names.now text n (sym (c.in-InLine.ensures.length place)) cut.0 cut.1.within
    ∙ ap (λ place. lexed_on c.args.list.now.items (record { place = place; last = c.args.at.now.last }) c.args.names.now (drop n text))
    (sym (after_front place n text cut.1.within c.in-InLine.ensures.flat) ∙ sym c.in_line-at.ensures)
    ∙ ap (lexed_on c.args.list.now.items (record { place = c.in_line-at.result; last = c.args.at.now.last }) c.args.names.now) (sym cut.1.rest)

pub returns-in-Block-clause-goes : goal.returns-in-Block-clause-goes
returns-in-Block-clause-goes c =
    let cut = c.in-Block.ensures.cut in
    let text = chars c.args.text.now in
    let n = c.in-Block.gap.length in
    gap_turn c.args.list.now.items c.args.at.now c.args.names.now text n (sym (c.in-Block.ensures.length c.args.at.now.place)) cut.0 cut.1.within
    ∙ ap (λ place. lexed_on c.args.list.now.items (record { place = place; last = c.args.at.now.last }) c.args.names.now (drop n text)) (sym c.after-at.ensures.place)
    ∙ ap (lexed_on c.args.list.now.items (record { place = c.after-at.result; last = c.args.at.now.last }) c.args.names.now) (sym cut.1.rest)

pub returns-in-Err-clause-goes : goal.returns-in-Err-clause-goes
returns-in-Err-clause-goes c =
    Fails-at_token c.args.list.now.items c.args.at.now c.args.names.now (chars c.args.text.now) c.in-Err.fault (some_characters c.args.text.now c.utf8.text c.requires.some)
    (sym (c.in-Absent.ensures.length c.args.at.now.place)) c.in-Err.ensures.found

pub returns-in-Some-clause-goes : goal.returns-in-Some-clause-goes
returns-in-Some-clause-goes c =
    c.in-Some.ensures.goes c.args.names.now c.token_at.new.names (sym (c.in-Absent.ensures.length c.args.at.now.place)) c.in-Ok.ensures.found

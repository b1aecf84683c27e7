use Rattle.std.proofs.Common.{◌∙◌, Ok, ap, sym, chars, drop, length, ◌++◌, ◌∷◌, []}
use Rattle.cxx_tokens.specs.Lex.{Found, token_from}
use Rattle.cxx_tokens.specs.Turns.{lexed_on}
use Rattle.cxx_tokens.proofs.Lines.{after_token}
use Rattle.cxx_tokens.proofs.Turning.{token_turn}
use Rattle.cxx_tokens.proofs.lexing.put.Goals as goal

pub returns-clause-goes : goal.returns-clause-goes
returns-clause-goes c before after gap token =
    let kind = c.args.kind in
    let found : Found = record { kind = kind; length = c.args.cut.length; names = after } in
    let text = chars c.args.text.now in
    let list = c.args.list.now.items in
    let rest = drop c.args.cut.length text in
    let place = c.args.at.now.place in
    let same = ap (token_from kind place) (sym (c.len.ensures ∙ c.args.list.now.ok.0)) ∙ sym c.token_from-token.ensures in
    let next = sym (after_token place place before text found token) ∙ sym c.in_line.ensures in
    token_turn list c.args.at.now before text found gap token c.requires.some c.requires.cut.within
    ∙ ap (λ there. lexed_on (list ++ token_from kind place (length list) ∷ []) (record { place = there; last = place.line }) after rest) next
    ∙ ap (λ all. lexed_on all (record { place = c.in_line.result; last = place.line }) after rest) (ap (λ token. list ++ token ∷ []) same ∙ sym c.in-Ok.ensures.items)
    ∙ ap (lexed_on c.push.new.self.items (record { place = c.in_line.result; last = place.line }) after) (sym c.requires.cut.rest)

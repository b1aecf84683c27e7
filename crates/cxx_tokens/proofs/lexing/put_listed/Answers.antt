use Rattle.std.proofs.Common.{◌≡◌, ◌+◌, ◌∙◌, ap, sym, chars, take, length, arith}
use Rattle.std.proofs.lemmas.List.{length-take-le}
use Rattle.std.proofs.lemmas.Str.{encodes-chars}
use Rattle.std.specs.List.{prefix_len}
use Rattle.cxx_tokens.specs.Characters.{continues_identifier}
use Rattle.cxx_tokens.specs.Lex.{word_len}
use Rattle.cxx_tokens.proofs.Passing.{letter_no_gap, listed_word}
use Rattle.cxx_tokens.proofs.lexing.put_listed.Goals as goal

pub put-requires-clause-some : goal.put-requires-clause-some
put-requires-clause-some c =
    let long : word_len (chars c.args.text.now) ≡ 1 + prefix_len continues_identifier (chars c.args.behind.now) = ap word_len c.requires.here in
    omega (arith, c.requires.length, long)

pub returns-clause-goes : goal.returns-clause-goes
returns-clause-goes c =
    let text = chars c.args.text.now in
    let behind = chars c.args.behind.now in
    let n = c.args.cut.length in
    let long = ap length c.requires.spelled ∙ length-take-le n text c.requires.cut.within in
    c.put.ensures.goes c.args.names.now c.args.names.now
    (letter_no_gap c.args.at.now text c.args.c behind c.requires.here c.requires.no_gap)
    (listed_word c.args.at.now.place c.args.names.now text c.args.c behind c.requires.here (chars c.args.spelled.now) n c.requires.word
    (c.requires.spelled ∙ ap (λ k. take k text) c.requires.length) (sym long) c.requires.fit
    c.args.spelled.now c.args.number (sym (encodes-chars c.args.spelled.now c.utf8.spelled)) c.requires.told)

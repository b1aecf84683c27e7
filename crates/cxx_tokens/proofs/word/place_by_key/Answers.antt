use Rattle.std.proofs.Common.{◌≡◌, ◌∙◌, ap, length, get_or, arith}
use Rattle.cxx_tokens.specs.declared.word.TheConstants.{BY_KEY}
use Rattle.cxx_tokens.specs.Words.{key}
use Rattle.cxx_tokens.proofs.Words.{found_by_key}
use Rattle.cxx_tokens.proofs.word.place_by_key.Goals as goal

pub returns-then-key-places : goal.returns-then-key-places
returns-then-key-places c =
    let place : c.from.result ≡ get_or BY_KEY (key c.args.text.now) 0 =
    c.from.ensures ∙ ap (λ places. get_or places c.args.key 0) c.requires.places ∙ ap (λ k. get_or BY_KEY k 0) c.requires.key in
    c.word_at.ensures ∙ found_by_key c.args.words.now c.requires.words c.args.text.now _ place

pub returns-else-key-places : goal.returns-else-key-places
returns-else-key-places c =
    let all = ap length c.requires.places in
    absurd (omega (arith, all, c.requires.small, c.if-key-places.false))

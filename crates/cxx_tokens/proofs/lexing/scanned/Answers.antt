use Rattle.std.proofs.Common.{◌∙◌, ap, sym, subst, chars, length, arith, Err}
use Rattle.std.specs.Str.{IsUtf8}
use Rattle.cxx_tokens.specs.Characters.{without_byte_order_mark}
use Rattle.cxx_tokens.specs.Gives.{GivesTokens}
use Rattle.cxx_tokens.specs.Lex.{lex_characters}
use Rattle.cxx_tokens.specs.Faults.{L1}
use Rattle.cxx_tokens.proofs.Cut.{characters_are_few}
use Rattle.cxx_tokens.proofs.Sources.{of_no_text, of_text}
use Rattle.cxx_tokens.proofs.lexing.scanned.Goals as goal

pub tokens_of-requires-clause-short : goal.tokens_of-requires-clause-short
tokens_of-requires-clause-short c =
    let few = characters_are_few c.in-Ok.text.now (subst IsUtf8 (sym c.in-Ok.ensures.cases.0) c.in-Ok.ensures.cases.1) in
    let all = ap length c.in-Ok.ensures.cases.0 in
    omega (arith, few, all, c.without_byte_order_mark.ensures.shorter, c.requires.short)

pub returns-in-Ok-clause-tokens : goal.returns-in-Ok-clause-tokens
returns-in-Ok-clause-tokens c =
    let same = of_text c.args.names.now c.args.bytes.now c.in-Ok.ensures.cases.1
    ∙ ap (lex_characters c.args.names.now) (ap (λ bytes. without_byte_order_mark (chars bytes)) (sym c.in-Ok.ensures.cases.0) ∙ sym c.without_byte_order_mark.ensures.characters) in
    subst (GivesTokens c.tokens_of.result c.tokens_of.new.names) (sym same) c.tokens_of.ensures.tokens

pub returns-in-Err-clause-tokens : goal.returns-in-Err-clause-tokens
returns-in-Err-clause-tokens c =
    of_no_text c.args.names.now c.args.bytes.now c.valid_up_to.result c.in-Err.ensures.cases.0 (c.valid_up_to.ensures ∙ c.in-Err.ensures.valid_len)
    ∙ ap (λ place. Err (L1 place)) (sym c.fault_place.ensures)

use Rattle.std.proofs.Common.{◌≡◌, ◌∙◌, length, sym, ap}
use Rattle.std.proofs.lemmas.Bool.{eqb-true}
use Rattle.cxx_tokens.proofs.Cut.{no_characters}
use Rattle.cxx_tokens.proofs.text.split_first.Goals as goal

pub returns-then-is_empty : goal.returns-then-is_empty
returns-then-is_empty c =
    let none : length c.as_bytes-bytes.result.now ≡ 0 = eqb-true _ _ (sym c.is_empty.ensures ∙ c.if-is_empty.true) in
    no_characters c.args.text.now (ap length (sym c.as_bytes-bytes.ensures.value) ∙ none)

use Rattle.std.proofs.Common.{◌≡◌, rules, true}
use Rattle.cxx_tokens.specs.Lex.{is_name}
use Rattle.cxx_tokens.proofs.Runs.{is_a_name, no_text_no_name}
use Rattle.cxx_tokens.proofs.lexing.name_of.Goals as goal

pub returns-in-Err : goal.returns-in-Err
returns-in-Err c = no_text_no_name c.args.bytes.now c.in-Err.ensures.cases.0

pub returns-then-branch : goal.returns-then-branch
returns-then-branch c =
    let named : true ≡ is_name c.in-Ok.text.now = search rules in
    (c.in-Ok.ensures.cases.0, is_a_name c.args.bytes.now c.in-Ok.text.now c.in-Ok.ensures.cases.0 c.in-Ok.ensures.cases.1 named)

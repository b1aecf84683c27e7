use Rattle.std.proofs.Common.{◌∙◌, ◌||◌, nat_eq, ap, sym, arith}
use Rattle.unicode_ident.proofs.IdentLemmas.{is_xid_start-ascii}
use Rattle.cxx_tokens.proofs.character.begins_identifier.Goals as goal

pub returns-then-is_ascii_alphabetic : goal.returns-then-is_ascii_alphabetic
returns-then-is_ascii_alphabetic c =
    c.if-is_ascii_alphabetic.true
    ∙ sym (ap (λ b. b || nat_eq c.args.c 95) (is_xid_start-ascii c.args.c (omega (arith, c.if-c-le127.true)) ∙ sym c.is_ascii_alphabetic.ensures.value ∙ c.if-is_ascii_alphabetic.true))

pub returns-else-is_ascii_alphabetic : goal.returns-else-is_ascii_alphabetic
returns-else-is_ascii_alphabetic c =
    sym (ap (λ b. b || nat_eq c.args.c 95) (is_xid_start-ascii c.args.c (omega (arith, c.if-c-le127.true)) ∙ sym c.is_ascii_alphabetic.ensures.value ∙ c.if-is_ascii_alphabetic.false))

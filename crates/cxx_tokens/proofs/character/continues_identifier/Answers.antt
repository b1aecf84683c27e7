use Rattle.std.proofs.Common.{◌∙◌, ◌||◌, nat_eq, ap, sym, arith}
use Rattle.unicode_ident.proofs.IdentLemmas.{is_xid_continue-ascii}
use Rattle.cxx_tokens.proofs.character.continues_identifier.Goals as goal

pub returns-then-is_ascii_alphanumeric : goal.returns-then-is_ascii_alphanumeric
returns-then-is_ascii_alphanumeric c =
    c.if-is_ascii_alphanumeric.true
    ∙ sym (is_xid_continue-ascii c.args.c (omega (arith, c.if-c-le127.true)) ∙ ap (λ b. b || nat_eq c.args.c 95) (sym c.is_ascii_alphanumeric.ensures.value ∙ c.if-is_ascii_alphanumeric.true))

pub returns-else-is_ascii_alphanumeric : goal.returns-else-is_ascii_alphanumeric
returns-else-is_ascii_alphanumeric c =
    sym (is_xid_continue-ascii c.args.c (omega (arith, c.if-c-le127.true)) ∙ ap (λ b. b || nat_eq c.args.c 95) (sym c.is_ascii_alphanumeric.ensures.value ∙ c.if-is_ascii_alphanumeric.false))

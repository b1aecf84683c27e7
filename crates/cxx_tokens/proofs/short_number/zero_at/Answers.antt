use Rattle.std.proofs.Common.{rules, ◌≡◌, ◌∷◌, chars}
use Rattle.cxx_tokens.proofs.ShortNumbers.{zero_is}
use Rattle.cxx_tokens.proofs.short_number.zero_at.Goals as goal

pub returns-then-ends_number-clause-number : goal.returns-then-ends_number-clause-number
returns-then-ends_number-clause-number c =
    let here : chars c.args.behind.now ≡ c.in_ok-next.next ∷ chars c.in_ok-next._more.now = search rules in
    zero_is (chars c.args.text.now) (chars c.args.behind.now) c.in_ok-next.next (chars c.in_ok-next._more.now) c.requires here
    (c.ends_number.ensures.small c.if-ends_number.true) (c.ends_number.ensures.other c.if-ends_number.true) (c.ends_number.ensures.no_separator c.if-ends_number.true)

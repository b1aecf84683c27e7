use Rattle.std.proofs.Common.{◌∙◌, if◌then◌else◌, None, Some, ap, sym}
use Rattle.reflect_cli.proofs.Accepts.{one_more, no_more, stays_none}
use Rattle.reflect_cli.proofs.accepted.AcceptingTaker.take.Goals as goal

pub returns-in-Some : goal.returns-in-Some
returns-in-Some c items e =
    one_more items c.args.item c.args.self.now.is_accepted c.args.self.now.found c.in-Some.x c.if-self.true e (sym c.in-Some.is ∙ c.in_ok-x.ensures)
    ∙ ap (λ all. if c.args.self.now.is_accepted then Some all else None) (sym c.in_ok-push-in-Some.ensures.ok)

pub returns-then-self : goal.returns-then-self
returns-then-self c items e = no_more items c.args.item c.args.self.now.is_accepted c.args.self.now.found c.if-self.true e (sym c.in-None.is ∙ c.in_ok-x.ensures)

pub returns : goal.returns
returns c items e = stays_none items c.args.item c.args.self.now.is_accepted c.args.self.now.found c.if-self.false e

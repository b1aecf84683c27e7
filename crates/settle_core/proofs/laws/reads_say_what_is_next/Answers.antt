use Rattle.settle_core.proofs.NextByReads.{is_next}
use Rattle.settle_core.proofs.laws.reads_say_what_is_next.Goals as goal

pub returns : goal.returns
returns g c = is_next (g.M.Meaning.meant c.args.meaning.now) (g.met.M.Meaning.lawful c.args.meaning.now)

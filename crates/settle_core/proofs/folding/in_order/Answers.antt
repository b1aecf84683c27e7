use Rattle.settle_core.proofs.Folds.{fold_grows}
use Rattle.settle_core.proofs.folding.in_order.Goals as goal

pub loop-k-preserved : goal.loop-k-preserved
loop-k-preserved g c =
    fold_grows (g.M.Meaning.meant c.args.meaning.now) c.loop-k.k c.loop-k.outcomes.items c.push.new.self.items c.in_ok-outcome.outcome c.in_ok-push.ensures.items c.loop-k.invariant c.in_ok-outcome.ensures

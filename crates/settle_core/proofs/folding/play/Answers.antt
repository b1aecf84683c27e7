use Rattle.std.proofs.Common.{arith, sym, ◌∙◌}
use Rattle.settle_core.proofs.Folds.{stands_before, more_within, more_prefix}
use Rattle.settle_core.proofs.folding.play.Goals as goal

pub bounds-before-j : goal.bounds-before-j
bounds-before-j g c =
    stands_before (g.M.Meaning.meant c.args.meaning.now) (g.met.M.Meaning.lawful c.args.meaning.now) (g.M.Played.next_of c.args.meaning.now) (g.met.M.Played.plays c.args.meaning.now)
    c.args.k.0 c.requires.inside c.loop-taken.taken c.loop-taken.invariant.within c.loop-taken.invariant.prefix c.args.before.now c.requires.before c.in-Read.j (sym c.in_ok-j.ensures ∙ c.in-Read.is)

pub offset_bounds-before-j : goal.offset_bounds-before-j
offset_bounds-before-j g c = let h = bounds-before-j g c in omega arith

pub loop-taken-preserved : goal.loop-taken-preserved
loop-taken-preserved g c =
    let m = g.M.Meaning.meant c.args.meaning.now in
    let lawful = g.met.M.Meaning.lawful c.args.meaning.now in
    let next = g.M.Played.next_of c.args.meaning.now in
    let law = g.met.M.Played.plays c.args.meaning.now in
    let within = c.loop-taken.invariant.within in
    let prefix = c.loop-taken.invariant.prefix in
    let e = sym c.in_ok-j.ensures ∙ c.in-Read.is in
    let found = c.in_ok-outcome-in-Read.ensures ∙ c.index-before-j.is in
    record {
      within = more_within m lawful next law c.args.k.0 c.requires.inside c.loop-taken.taken within prefix c.args.before.now c.requires.before c.in-Read.j e
          c.in_ok-outcome-in-Read.outcome c.index-before-j.result found c.push.new.self c.in_ok-push-in-Read.ensures.ok;
      prefix = more_prefix m lawful next law c.args.k.0 c.requires.inside c.loop-taken.taken within prefix c.args.before.now c.requires.before c.in-Read.j e
          c.in_ok-outcome-in-Read.outcome c.index-before-j.result found c.push.new.self c.in_ok-push-in-Read.ensures.ok;
    }

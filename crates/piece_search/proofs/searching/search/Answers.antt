use Rattle.settle_board.specs.Boards.{view_of}
use Rattle.settle_board.proofs.Callers.{claim_starts, claim_resumes, claim_not_now, claim_still}
use Rattle.piece_search.proofs.Searches.{gets, tried_none, tried_more}
use Rattle.piece_search.proofs.searching.search.Goals as goal
use Rattle.piece_search.proofs.searching.search.Goals.{in-NotNow, in-StillParked}

pub loop-i-init : goal.loop-i-init
loop-i-init g c = record { of = c.requires.of; tried = tried_none c.args.pick c.args.pieces (view_of c.args.seat.now) }

pub loop-i-preserved : goal.loop-i-preserved
loop-i-preserved g c = let m = g.M.Meaning.meant c.args.board.now.key.meaning in let k = c.piece_at-k.result.0 in let u = view_of c.args.seat.now in let v = view_of c.loop-i.seat in let w = view_of c.claim.new.seat in
    let more = tried_more c.args.pick c.args.pieces c.loop-i.i k c.piece_at-k.ensures.nth u v w c.loop-i.invariant.tried in record {
      of = c.claim.ensures.of;
      tried = elim c.match-claim.branch [
        | in-NotNow b ↦ more (claim_not_now m k v w b.in-NotNow.field-0 b.in-NotNow.ensures.answer)
        | in-StillParked b ↦ more (claim_still m k v w b.in-StillParked.on b.in-StillParked.word b.in-StillParked.ensures.answer)
      ];
    }

pub returns-in-Start-clause-found : goal.returns-in-Start-clause-found
returns-in-Start-clause-found g c = let t = c.loop-i.invariant.tried in let k = c.piece_at-k.result.0 in
    let b = claim_starts (g.M.Meaning.meant c.args.board.now.key.meaning) k (view_of c.loop-i.seat) (view_of c.claim.new.seat) c.in-Start.ensures.answer in
    (c.loop-i.i, c.loop-i-test.true, c.piece_at-k.ensures.nth, t.0, t.1, gets (view_of c.args.seat.now) (view_of c.loop-i.seat) (view_of c.claim.new.seat) t.0 _ t.2 _ b.0)

pub returns-in-Resume-clause-found : goal.returns-in-Resume-clause-found
returns-in-Resume-clause-found g c = let t = c.loop-i.invariant.tried in let k = c.piece_at-k.result.0 in let a = c.in-Resume.ensures.answer in
    let b = claim_resumes (g.M.Meaning.meant c.args.board.now.key.meaning) k (view_of c.loop-i.seat) (view_of c.claim.new.seat) c.in-Resume.task a in
    (a.0, c.loop-i.i, c.loop-i-test.true, c.piece_at-k.ensures.nth, t.0, t.1, a.1, a.2, b.1, gets (view_of c.args.seat.now) (view_of c.loop-i.seat) (view_of c.claim.new.seat) t.0 _ t.2 _ b.0)

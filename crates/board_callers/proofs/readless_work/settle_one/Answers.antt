use Rattle.std.proofs.Common.{◌∙◌, arith, None}
use Rattle.board_rule.specs.Views.{fresh_hold}
use Rattle.settle_board.specs.Boards.{view_of}
use Rattle.settle_board.proofs.Callers.{claim_starts, settles}
use Rattle.settle_samples.specs.Readless.{pieces_without_reads}
use Rattle.board_callers.proofs.ReadlessFacts.{its_number, nothing_to_see, never_parked}
use Rattle.board_callers.proofs.PieceWork.{its_hold, has_hold, now_holds, lets_go}
use Rattle.board_callers.proofs.readless_work.settle_one.Goals as goal

pub settle-requires-clause-is_outcome : goal.settle-requires-clause-is_outcome
settle-requires-clause-is_outcome c = its_number _ c.args.k.0

pub settle-requires-clause-reads : goal.settle-requires-clause-reads
settle-requires-clause-reads c = nothing_to_see _ c.args.k.0 (view_of c.claim.new.seat)

pub unreachable-requires : goal.unreachable-requires
unreachable-requires c = never_parked _ c.args.k.0 c.in-Resume.field-0 c.in-Resume.ensures.answer.0

pub settle-requires-clause-holds : goal.settle-requires-clause-holds
settle-requires-clause-holds c = has_hold c.args.k.0 None (view_of c.claim.new.seat)
    (now_holds c.args.k.0 None (view_of c.args.seat.now) (view_of c.claim.new.seat) _ c.requires.idle (claim_starts (pieces_without_reads c.args.board.now.key.meaning.pieces) c.args.k.0 (view_of c.args.seat.now) (view_of c.claim.new.seat) c.in-Start.ensures.answer).0)

pub returns-in-Start : goal.returns-in-Start
returns-in-Start c = let k = c.args.k.0 in let v = view_of c.claim.new.seat in let w = view_of c.settle.new.seat in
    let b = (claim_starts (pieces_without_reads c.args.board.now.key.meaning.pieces) k (view_of c.args.seat.now) v c.in-Start.ensures.answer).0 in
    let h = now_holds k None (view_of c.args.seat.now) v _ c.requires.idle b in
    let s = (settles k v w _ (c.settle.ensures.view (fresh_hold k) (its_hold k None v h))).0 in record {
      of = c.settle.ensures.of;
      idle = lets_go k None v h w _ _ s;
      got = λ _. (s.spent ∙ (let q = b.spent in omega arith));
      none = λ q. absurd cc;
    }

use Rattle.std.proofs.Common.{sym, ap, ◌∙◌}
use Rattle.std.proofs.lemmas.Result.{IfOk-weaker}
use Rattle.settle_core.specs.Steps.{made}
use Rattle.settle_core.proofs.piece_moves.moved.Goals as goal

pub returns-in-Claim : goal.returns-in-Claim
returns-in-Claim g c =
    let next = g.M.Played.next_of c.args.meaning.now in
    c.claim.ensures next c.args.state.now c.in-Claim.field-0 ∙ ap (λ step. made next c.args.state.now step c.args.piece) (sym c.in-Claim.is)

pub returns-in-Park : goal.returns-in-Park
returns-in-Park g c =
    let next = g.M.Played.next_of c.args.meaning.now in
    IfOk-weaker c.park.result _ _ (λ after h. h c.args.state.now ∙ ap (λ step. made next c.args.state.now step c.args.piece) (sym c.in-Park.is)) c.park.ensures

pub returns-in-Resume : goal.returns-in-Resume
returns-in-Resume g c =
    let next = g.M.Played.next_of c.args.meaning.now in
    c.resume.ensures next c.in-Resume.field-0 ∙ ap (λ step. made next c.args.state.now step c.args.piece) (sym c.in-Resume.is)

pub returns-in-Settle : goal.returns-in-Settle
returns-in-Settle g c =
    let next = g.M.Played.next_of c.args.meaning.now in
    IfOk-weaker c.settle.result _ _ (λ after h. h c.args.state.now ∙ ap (λ step. made next c.args.state.now step c.args.piece) (sym c.in-Settle.is)) c.settle.ensures

-- Hands that have ended.
use Rattle.std.proofs.Common.{◌≢◌, ℕ, refl}
use Rattle.board_rule.specs.declared.view.View.{View}
use Rattle.settle_board.specs.Boards.{IsIdle}
use Rattle.board_callers.specs.Ends.{EndSays}
use Rattle.board_callers.specs.declared.hand.HandEnd.{HandEnd}
use Rattle.board_callers.specs.declared.hand.HandEnd.TheVariants.{AllSettled, Stopped, NoMemory}

-- a hand that did not run out of memory has nothing under way
pub end_idle : {X T : Type 0} (n : ℕ) (e : HandEnd) (v : View X T) → e ≢ NoMemory → EndSays n e v → IsIdle v
end_idle n AllSettled v d h = h.0
end_idle n Stopped v d h = h.0
end_idle n NoMemory v d h = absurd (d refl)

-- A piece that a hand got.
use Rattle.std.proofs.Common.{ℕ, ◌+◌, ◌<◌, ◌≤◌, sym, subst, [], ◌∷◌, ◌++◌, true, Some, None}
use Rattle.cxx_base.specs.declared.number.PieceNo.{PieceNo}
use Rattle.settle_core.specs.Meant.{Meant}
use Rattle.settle_core.proofs.Options.{some_injective}
use Rattle.board_rule.specs.Standing.{next_read}
use Rattle.board_rule.specs.declared.view.View.{View}
use Rattle.board_rule.specs.declared.view.Entry.TheVariants.{Looks, ClaimsFresh, ClaimsParked}
use Rattle.settle_board.specs.Boards.{IsIdle}
use Rattle.settle_board.specs.Answers.{ClaimSays}
use Rattle.settle_board.specs.declared.answers.Claim.TheVariants.{Start, Resume}
use Rattle.settle_board.proofs.Callers.{claim_starts, claim_resumes}
use Rattle.piece_search.specs.FoundSays.{FoundSays}
use Rattle.piece_search.specs.declared.searching.Found.TheVariants.{Fresh, Parked, Nothing}
use Rattle.piece_search.proofs.TurnParts.{nth_inside}
use Rattle.board_callers.specs.Holding.{HoldsOnly, IsClaimedFor, WorkSays}
use Rattle.board_callers.proofs.PieceWork.{now_holds, still_idle, says_later}

-- no task came with a piece that was fresh, and a task that may be parked is one of the piece
pub fresh_claimed : {T O : Type 0} (m : Meant T O) (k : ℕ) → IsClaimedFor m k None
fresh_claimed m k u e = absurd cc

pub task_claimed : {T O : Type 0} (m : Meant T O) (k : ℕ) (t : T) → m.is_task k t → IsClaimedFor m k (Some t)
task_claimed m k t own u e = subst (m.is_task k) (some_injective t u e) own

module _ {X T O : Type 0} (m : Meant T O) (v w : View X T) (idle : IsIdle v) where
  -- by a claim
  module _ (k : ℕ) where
    pub start_holds : ClaimSays m k v Start w → HoldsOnly k None w
    start_holds says = now_holds k None v w (Looks k 0 ∷ ClaimsFresh k 0 true ∷ []) idle (claim_starts m k v w says).0

    pub resume_holds : (t : T) → ClaimSays m k v (Resume t) w → HoldsOnly k (Some t) w × IsClaimedFor m k (Some t)
    resume_holds t says = (
      now_holds k (Some t) v w (Looks k (8 + next_read m k (m.taken t)) ∷ Looks (next_read m k (m.taken t)) says.1 ∷ ClaimsParked k (8 + next_read m k (m.taken t)) true ∷ []) idle (claim_resumes m k v w t says).0,
      task_claimed m k t says.0.0,
    )

  -- by a search
  module _ (pick n : ℕ) (small : pick ≤ n) where
    pub fresh_holds : (k : PieceNo) → FoundSays m pick n v (Fresh k) w → (k.0 < n) × HoldsOnly k.0 None w
    fresh_holds k h = (
      subst (λ z. z < n) (sym h.2) (nth_inside pick n h.0 small h.1),
      now_holds k.0 None v w (h.3 ++ (Looks k.0 0 ∷ ClaimsFresh k.0 0 true ∷ [])) idle h.5,
    )

    pub parked_holds : (k : PieceNo) (t : T) → FoundSays m pick n v (Parked k t) w → (k.0 < n) × HoldsOnly k.0 (Some t) w × IsClaimedFor m k.0 (Some t)
    parked_holds k t h = (
      subst (λ z. z < n) (sym h.3) (nth_inside pick n h.1 small h.2),
      now_holds k.0 (Some t) v w (h.4 ++ (Looks k.0 (8 + next_read m k.0 (m.taken t)) ∷ Looks (next_read m k.0 (m.taken t)) h.6 ∷ ClaimsParked k.0 (8 + next_read m k.0 (m.taken t)) true ∷ [])) idle h.9,
      task_claimed m k.0 t h.0.0,
    )

    pub nothing_idle : FoundSays m pick n v Nothing w → IsIdle w
    nothing_idle h = still_idle v w h.0 idle h.2

    -- and worked on it
    pub fresh_worked : (k : PieceNo) (z : View X T) → FoundSays m pick n v (Fresh k) w → WorkSays m k.0 w z → (k.0 < n) × WorkSays m k.0 v z
    fresh_worked k z h s = (subst (λ z. z < n) (sym h.2) (nth_inside pick n h.0 small h.1), says_later m k.0 v w z (h.3 ++ (Looks k.0 0 ∷ ClaimsFresh k.0 0 true ∷ [])) h.5.trail s)

    pub parked_worked : (k : PieceNo) (t : T) (z : View X T) → FoundSays m pick n v (Parked k t) w → WorkSays m k.0 w z → (k.0 < n) × WorkSays m k.0 v z
    parked_worked k t z h s = (
      subst (λ z. z < n) (sym h.3) (nth_inside pick n h.1 small h.2),
      says_later m k.0 v w z (h.4 ++ (Looks k.0 (8 + next_read m k.0 (m.taken t)) ∷ Looks (next_read m k.0 (m.taken t)) h.6 ∷ ClaimsParked k.0 (8 + next_read m k.0 (m.taken t)) true ∷ [])) h.9.trail s,
    )

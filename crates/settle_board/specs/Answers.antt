-- What an answer says: its cause, and the view after the call.
use Rattle.std.specs.Prelude.{◌≡◌, ◌≢◌, ◌⊎◌, ℕ, ◌+◌, ◌<◌, ◌≤◌, true, false}
use Rattle.settle_core.specs.Meant.{Meant, outcome}
use Rattle.board_rule.specs.Standing.{next_read}
use Rattle.board_rule.specs.Views.{task_hold, after_look, after_start, after_claim, after_lend, Knows}
use Rattle.board_rule.specs.Plays.{IsWordOf, CanPark}
use Rattle.board_rule.specs.declared.view.View.{View}
use Rattle.board_rule.specs.declared.view.Entry.TheVariants.{Looks, ClaimsFresh, ClaimsParked, Lends}
use Rattle.settle_board.specs.declared.answers.Claim.{Claim}
use Rattle.settle_board.specs.declared.answers.Claim.TheVariants.{Start, Resume, NotNow, StillParked}
use Rattle.settle_board.specs.declared.answers.Lend.{Lend}
use Rattle.settle_board.specs.declared.answers.Lend.TheVariants.{Got, NotSettled, Busy}

module _ {X T O : Type 0} (m : Meant T O) (k : ℕ) (v : View X T) where
  -- the view after a look at the piece j that found w
  abbrev pub looking : ℕ → ℕ → View X T → View X T
  looking j w u = after_look (Looks j w) j w u

  -- The claim of the piece k. Each begins with a look at k. A parked piece is resumed once what its task waits for was seen
  -- settled, and the seat then holds it with the task that it answers. A word that stands in the way was found by the look, or by the
  -- exchange
  abbrev pub ClaimSays : Claim X T O → View X T → Type 0
  ClaimSays Start w = w ≡ after_start k (looking k 0 v)
  ClaimSays (Resume t) w = CanPark m k t × (found : ℕ) × ((found ≡ 3) ⊎ (found ≡ 4))
      × (w ≡ after_claim (ClaimsParked k (8 + next_read m k (m.taken t)) true) (task_hold k t) (looking (next_read m k (m.taken t)) found (looking k (8 + next_read m k (m.taken t)) v)))
  ClaimSays (NotNow r) w = IsWordOf k r × (((w ≡ looking k r v) × ((r ≡ 1) ⊎ (r ≡ 3) ⊎ (r ≡ 4)))
      ⊎ ((w ≡ after_look (ClaimsFresh k r false) k r (looking k 0 v)) × (r ≢ 0))
      ⊎ ((on found : ℕ) × (w ≡ after_look (ClaimsParked k r false) k r (looking on found (looking k (8 + on) v))) × ((found ≡ 3) ⊎ (found ≡ 4)) × (r ≢ 8 + on)))
  ClaimSays (StillParked on found) w = (w ≡ looking on.0 found (looking k (8 + on.0) v)) × (on.0 < k) × (found ≢ 3) × (found ≢ 4) × IsWordOf on.0 found × ¬ Knows m on.0 v

  -- The loan of the outcome of the piece k. A piece that the view knows to be settled is never found unsettled
  abbrev pub LendSays : Lend X T O → View X T → Type 0
  LendSays (Got o) w = (o ≡ outcome m k) × (w ≡ after_lend k v)
  LendSays (NotSettled r) w = (w ≡ after_look (Lends k r false) k r v) × ((r < 3) ⊎ (8 ≤ r)) × IsWordOf k r × ¬ Knows m k v
  LendSays (Busy r) w = (r ≡ 4) × (w ≡ after_look (Lends k 4 false) k 4 v)

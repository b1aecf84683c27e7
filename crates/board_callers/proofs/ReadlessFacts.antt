-- Pieces without reads.
use Rattle.std.proofs.Common.{◌≡◌, ℕ, ◌<◌, [], length, refl, ap, arith}
use Rattle.settle_core.specs.Meant.{outcome, reads}
use Rattle.board_rule.specs.Plays.{CanPark}
use Rattle.board_rule.specs.declared.view.View.{View}
use Rattle.settle_board.specs.Boards.{HasSeen}
use Rattle.settle_samples.specs.Readless.{pieces_without_reads}

module _ (n k : ℕ) where
  pub its_number : k ≡ outcome (pieces_without_reads n) k
  unfolding outcome
  its_number = refl

  no_reads : reads (pieces_without_reads n) k ≡ []
  unfolding reads
  no_reads = refl

  pub nothing_to_see : {X : Type 0} (v : View X ℕ) → HasSeen (pieces_without_reads n) k (length (reads (pieces_without_reads n) k)) v
  nothing_to_see v h e i l = absurd (let z = ap length no_reads in omega arith)

  pub never_parked : (t : ℕ) → CanPark (pieces_without_reads n) k t → ⊥
  never_parked t c = let l = c.1 in let z = ap length no_reads in omega arith

  pub nothing_parks : (t : ℕ) → t < length (reads (pieces_without_reads n) k) → CanPark (pieces_without_reads n) k t
  nothing_parks t l = absurd (let z = ap length no_reads in omega arith)

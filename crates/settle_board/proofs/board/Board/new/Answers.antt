use Rattle.std.proofs.Common.{◌+◌, ◌∙◌, ap, arith, replicate, ℕ}
use Rattle.board_rule.proofs.Seats.{opens}
use Rattle.board_rule.specs.declared.home.Home.TheVariants.{Empty}
use Rattle.settle_board.proofs.SeatLists.{all_idle}
use Rattle.settle_board.proofs.board.Board.new.Goals as goal

pub new-requires : goal.new-requires
new-requires g c = let a = c.in_ok-words.ensures in let b = c.in_ok-homes.ensures in let s = c.as_slice.ensures in let p = c.pieces-pieces.ensures in
    opens (λ x. g.M.Meaning.meant x) _ c.as_slice.result.now c.in_ok-homes.homes.items
    (s.value ∙ (a.items_if_clones_equal (λ y e. e) ∙ ap (λ (n : ℕ). replicate (n + 1) 0) p)) (b ∙ ap (λ (n : ℕ). replicate n Empty) p) (let q = c.requires in omega arith)

pub invariant_of-seats-clause-idle : goal.invariant_of-seats-clause-idle
invariant_of-seats-clause-idle g c = all_idle c.deal-list.result.items (λ i s e. let h = c.deal-list.ensures.blank i s e in (ap (λ v. v.held) h.1, ap (λ v. v.lent) h.1))

use Rattle.std.proofs.Common.{◌≡◌, ℕ, ◌+◌, ◌⊎◌, ◌↔◌, length}
use Rattle.board_rule.specs.Maps.{IsAmong}
use Rattle.settle_board.specs.Seating.{AreBack, Gathered, SeenBy, BegunBy, spent_by}
use Rattle.settle_board.proofs.closing.gather.Given as goal

abbrev pub invariant-loop-other : goal.invariant-loop-other
invariant-loop-other g l = record {
  first : Gathered (g.M.Meaning.meant l.board.key.meaning) l.board.table.shared.table_id l.board.key l.first.me.0.share l.first;
  back : AreBack (λ x. g.M.Meaning.meant x) l.board l.list.items;
  count : l.first.me.0.share + length l.list.items ≡ 1 + length l.initial.list.items;
  spent : l.first.me.0.spent + spent_by l.list.items ≡ l.initial.first.me.0.spent + spent_by l.initial.list.items;
  seen : (k : ℕ) → (IsAmong k l.first.me.0.seen ⊎ SeenBy k l.list.items) ↔ (IsAmong k l.initial.first.me.0.seen ⊎ SeenBy k l.initial.list.items);
  begun : (k : ℕ) → (IsAmong k l.first.me.0.begun ⊎ BegunBy k l.list.items) ↔ (IsAmong k l.initial.first.me.0.begun ⊎ BegunBy k l.initial.list.items);
}

abbrev pub decreases-loop-other : goal.decreases-loop-other
decreases-loop-other g l = length l.list.items

use Rattle.std.proofs.Common.{◌≡◌, ℕ, ◌-◌, ◌<◌, ◌≤◌, false, get_or, length, vec_capacity}
use Rattle.std.specs.Slots.{slots_items, slots_filled, slots_len}
use Rattle.std.specs.Slots.Ownership.{Filled}
use Rattle.settle_board.proofs.Taking.{IsOut}
use Rattle.settle_board.proofs.emptying.take_outcomes.Given as goal

abbrev pub invariant-loop-k : goal.invariant-loop-k
invariant-loop-k g l = record {
  inside : l.k ≤ slots_len l.closed.slots;
  full : Filled (slots_filled l.closed.slots) l.k (slots_len l.closed.slots);
  empty : (j : ℕ) → j < l.k → get_or (slots_filled l.closed.slots) j false ≡ false;
  words : l.closed.words ≡ l.initial.closed.words;
  slots : (slots_items l.closed.slots ≡ slots_items l.initial.closed.slots) × (slots_len l.closed.slots ≡ slots_len l.initial.closed.slots);
  count : length l.room.items ≡ l.k;
  room : slots_len l.closed.slots ≤ vec_capacity l.room;
  out : (j : ℕ) → j < l.k → IsOut (slots_items l.closed.words) (slots_items l.closed.slots) l.room.items j;
}

abbrev pub decreases-loop-k : goal.decreases-loop-k
decreases-loop-k g l = slots_len l.closed.slots - l.k

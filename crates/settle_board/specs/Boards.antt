-- When a seat belongs to a board, and what the two tell a caller.
use Rattle.std.specs.Prelude.{◌≡◌, ◌⊎◌, ℕ, ◌+◌, ◌<◌, List, [], ◌∷◌, Bool, true, false, ◌&&◌, Option, Some, None}
use Rattle.atomic_table.specs.declared.shared.Seat.{Seat}
use Rattle.atomic_table.specs.Seated.{TableId}
use Rattle.settle_core.specs.Meant.{Meant}
use Rattle.settle_core.specs.declared.meaning.Meaning.{Ghosts}
use Rattle.board_rule.specs.Maps.{IsAmong}
use Rattle.board_rule.specs.Standing.{next_read, taken_at}
use Rattle.board_rule.specs.Views.{hold_on}
use Rattle.board_rule.specs.declared.home.Home.{Home}
use Rattle.board_rule.specs.declared.view.Hold.{Hold}
use Rattle.board_rule.specs.declared.view.Key.{Key}
use Rattle.board_rule.specs.declared.view.View.{View}
use Rattle.settle_board.specs.declared.board.Board.{Board}
use Rattle.settle_board.specs.declared.board.BoardSeat.{BoardSeat}

-- a view that holds no piece and has nothing lent, and whether a view is so
abbrev pub IsIdle : {X T : Type 0} → View X T → Type 0
IsIdle v = (v.held ≡ []) × (v.lent ≡ None)

abbrev pub none_held : {T : Type 0} → List (Hold T) → Bool
none_held [] = true
none_held (h ∷ hs) = false

abbrev pub none_lent : Option ℕ → Bool
none_lent None = true
none_lent (Some j) = false

abbrev pub is_idle : {X T : Type 0} → View X T → Bool
is_idle v = none_held v.held && none_lent v.lent

module _ {X T O : Type 0} where
  -- The seat is one of the table with this name, which has this key and the sizes of the meaning. It has one share and no slot
  pub record IsSeat (m : Meant T O) (table : TableId) (key : Key X) (s : Seat (Home T O) (View X T)) : Type 0 where
    pub words : table.words ≡ m.pieces + 1
    pub slots : table.slots ≡ m.pieces
    pub at : s.table_id ≡ table
    pub about : s.me.0.about ≡ Some key
    pub share : s.me.0.share ≡ 1
    pub hand : s.me.0.hand ≡ None
    pub bare : s.me.1 ≡ []

  -- what the board settles
  abbrev pub meaning_of : Board X T O → X
  meaning_of b = b.key.meaning

  -- what the seat knows
  abbrev pub view_of : BoardSeat X T O → View X T
  view_of s = s.seat.me.0

  -- whether each of the seats is idle
  abbrev pub are_idle : List (BoardSeat X T O) → Bool
  are_idle [] = true
  are_idle (s ∷ seats) = is_idle (view_of s) && are_idle seats

  -- what the pieces of the board mean
  abbrev pub means : Ghosts X T O → Board X T O → Meant T O
  means g b = g.meant (meaning_of b)

  -- the seat is one of the board, whose pieces mean this; for clauses on any meaning, which name its ghosts
  abbrev pub IsOfBy : (X → Meant T O) → Board X T O → BoardSeat X T O → Type 0
  IsOfBy meant b s = IsSeat (meant b.key.meaning) b.table.shared.table_id b.key s.seat

  abbrev pub IsOf : Ghosts X T O → Board X T O → BoardSeat X T O → Type 0
  IsOf g b s = IsOfBy g.meant b s

-- each of the first n reads of the held piece k was seen settled, or the task had taken it when it was claimed
abbrev pub HasSeen : {T O X : Type 0} → Meant T O → ℕ → ℕ → View X T → Type 0
HasSeen {T} m k n v = (h : Hold T) → hold_on k v.held ≡ Some h → (i : ℕ) → i < n → (i < taken_at m h.claimed) ⊎ IsAmong (next_read m k i) v.seen

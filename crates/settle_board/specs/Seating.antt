-- Lists of seats: those of a new board, and those with which one is closed.
use Rattle.std.specs.Prelude.{◌≡◌, ◌↔◌, ℕ, ◌+◌, ◌<◌, List, [], length, slice_index, None}
use mathlib.Core.Option.{some}
use lib.ListN.{get_elem?}
use Rattle.atomic_table.specs.declared.shared.Seat.{Seat}
use Rattle.atomic_table.specs.Seated.{TableId}
use Rattle.atomic_table.specs.Table.{State}
use Rattle.settle_core.specs.Meant.{Meant}
use Rattle.settle_core.specs.declared.meaning.Meaning.{Ghosts}
use Rattle.board_rule.specs.Maps.{IsAmong, HasSome, total}
use Rattle.board_rule.specs.Rule.{OneState}
use Rattle.board_rule.specs.Views.{first_view}
use Rattle.board_rule.specs.declared.home.Home.{Home}
use Rattle.board_rule.specs.declared.view.Key.{Key}
use Rattle.board_rule.specs.declared.view.View.{View}
use Rattle.settle_board.specs.Boards.{IsIdle, view_of, IsOfBy}
use Rattle.settle_board.specs.declared.board.Board.{Board}
use Rattle.settle_board.specs.declared.board.BoardSeat.{BoardSeat}
use Rattle.settle_board.specs.declared.seat_list.Seats.{Seats}

-- a view with a share of n seats, and nothing else in it
abbrev pub blank : {X T : Type 0} → Key X → ℕ → View X T
blank key n = record (first_view key) { share = n }

module _ {X T O : Type 0} where
  abbrev pub seats_in : {ghosts : Ghosts X T O} → Seats X T O ghosts → List (BoardSeat X T O)
  seats_in s = s.list.items

  -- how many seats the board of the list was made with
  abbrev pub room_of : {ghosts : Ghosts X T O} → Seats X T O ghosts → ℕ
  room_of s = s.count

  -- how many seats the board was made with
  abbrev pub seat_count : Board X T O → ℕ
  seat_count b = b.key.seats

  -- each is a seat of the board, and nothing was done with it yet
  abbrev pub AreNew : (X → Meant T O) → Board X T O → List (BoardSeat X T O) → Type 0
  AreNew meant b seats = (i : ℕ) (s : BoardSeat X T O) → get_elem? seats i ≡ some s → IsOfBy meant b s × (view_of s ≡ blank b.key 1)

  -- each is a seat of the board
  abbrev pub AreOf : (X → Meant T O) → Board X T O → List (BoardSeat X T O) → Type 0
  AreOf meant b seats = (i : ℕ) (s : BoardSeat X T O) → get_elem? seats i ≡ some s → IsOfBy meant b s

  -- and idle
  abbrev pub AreBack : (X → Meant T O) → Board X T O → List (BoardSeat X T O) → Type 0
  AreBack meant b seats = (i : ℕ) (s : BoardSeat X T O) → get_elem? seats i ≡ some s → IsOfBy meant b s × IsIdle (view_of s)

  -- One of the seats settled the piece k, or saw it settled; one of them found it fresh and claimed it
  abbrev pub SeenBy : ℕ → List (BoardSeat X T O) → Type 0
  SeenBy k seats = HasSome (λ (s : BoardSeat X T O). IsAmong k (view_of s).seen) seats

  abbrev pub BegunBy : ℕ → List (BoardSeat X T O) → Type 0
  BegunBy k seats = HasSome (λ (s : BoardSeat X T O). IsAmong k (view_of s).begun) seats

  -- the steps that the seats spent
  abbrev pub spent_by : List (BoardSeat X T O) → ℕ
  spent_by seats = total (λ (s : BoardSeat X T O). (view_of s).spent) seats

  -- The piece k has the word w in some state that the rule of the board allows, in which one view knows what the seats knew together
  abbrev pub StandsWith : (X → Meant T O) → Board X T O → List (BoardSeat X T O) → ℕ → ℕ → Type 0
  StandsWith meant b seats k w = (s : State (Home T O) (View X T)) × (id : ℕ) × (v : View X T) × OneState meant b.key s × (get_elem? s.views id ≡ some v)
      × (slice_index s.words k ≡ w) × (v.share ≡ length seats) × (v.spent ≡ spent_by seats)
      × ((j : ℕ) → IsAmong j v.seen ↔ SeenBy j seats) × ((j : ℕ) → IsAmong j v.begun ↔ BegunBy j seats)

  -- a seat that stands for n, and has nothing but this share
  pub record Dealing (m : Meant T O) (table : TableId) (key : Key X) (n : ℕ) (s : Seat (Home T O) (View X T)) : Type 0 where
    pub words : table.words ≡ m.pieces + 1
    pub slots : table.slots ≡ m.pieces
    pub at : s.table_id ≡ table
    pub me : s.me ≡ (blank key n, [])

  -- a seat that stands for n, and has no piece
  pub record Gathered (m : Meant T O) (table : TableId) (key : Key X) (n : ℕ) (s : Seat (Home T O) (View X T)) : Type 0 where
    pub words : table.words ≡ m.pieces + 1
    pub slots : table.slots ≡ m.pieces
    pub at : s.table_id ≡ table
    pub share : s.me.0.share ≡ n
    pub some_share : 0 < n
    pub held : s.me.0.held ≡ []
    pub lent : s.me.0.lent ≡ None
    pub hand : s.me.0.hand ≡ None
    pub bare : s.me.1 ≡ []

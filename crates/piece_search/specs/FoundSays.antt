-- What a worker knows after it looked for work.
use Rattle.std.specs.Prelude.{◌≡◌, ℕ, ◌+◌, ◌<◌, List, [], ◌∷◌, ◌++◌, true}
use Rattle.settle_core.specs.Meant.{Meant}
use Rattle.board_rule.specs.Maps.{IsAmong}
use Rattle.board_rule.specs.Standing.{next_read}
use Rattle.board_rule.specs.Views.{fresh_hold, task_hold}
use Rattle.board_rule.specs.Plays.{CanPark}
use Rattle.board_rule.specs.declared.view.View.{View}
use Rattle.board_rule.specs.declared.view.Entry.{Entry}
use Rattle.board_rule.specs.declared.view.Entry.TheVariants.{Looks, ClaimsFresh, ClaimsParked}
use Rattle.settle_board.specs.Changes.{Becomes, IsSettledWord}
use Rattle.piece_search.specs.TurnParts.{nth_from, Round}
use Rattle.piece_search.specs.declared.searching.Found.{Found}
use Rattle.piece_search.specs.declared.searching.Found.TheVariants.{Fresh, Parked, Nothing}

-- Of the n pieces those from the pick round to the one that it got were tried, each once, and turned it away. Then come the steps by which it
-- got that piece, which it holds now. Where it got none, each piece was tried once. There are no other steps. What it holds (but for the piece
-- got), its loan, the steps spent and its stop mark are as before
abbrev pub FoundSays : {X T O : Type 0} → Meant T O → ℕ → ℕ → View X T → Found X T O → View X T → Type 0
FoundSays {T} m pick n v (Fresh k) w = (i : ℕ) × (i < n) × (k.0 ≡ nth_from pick n i) × (part : List (Entry T)) × Round pick n i part
    × Becomes (fresh_hold k.0 ∷ v.held) v.lent 0 (part ++ (Looks k.0 0 ∷ ClaimsFresh k.0 0 true ∷ [])) v w
FoundSays {T} m pick n v (Parked k t) w = CanPark m k.0 t × (i : ℕ) × (i < n) × (k.0 ≡ nth_from pick n i) × (part : List (Entry T)) × Round pick n i part
    × (found : ℕ) × IsSettledWord found × IsAmong (next_read m k.0 (m.taken t)) w.seen × Becomes (task_hold k.0 t ∷ v.held) v.lent 0
    (part ++ (Looks k.0 (8 + next_read m k.0 (m.taken t)) ∷ Looks (next_read m k.0 (m.taken t)) found ∷ ClaimsParked k.0 (8 + next_read m k.0 (m.taken t)) true ∷ [])) v w
FoundSays {T} m pick n v Nothing w = (part : List (Entry T)) × Round pick n n part × Becomes v.held v.lent 0 part v w

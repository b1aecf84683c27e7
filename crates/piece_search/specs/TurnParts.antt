-- What the part of a trail says that a call added: words for the ends of a worker's turn.
use Rattle.std.specs.Prelude.{◌≡◌, ◌≢◌, ℕ, ◌+◌, ◌-◌, List, [], ◌∷◌, ◌++◌, false, ltb, if◌then◌else◌, Option, Some, None}
use Rattle.board_rule.specs.declared.view.Entry.{Entry}
use Rattle.board_rule.specs.declared.view.Entry.TheVariants.{Looks, LooksAtStop, ClaimsFresh, ClaimsParked, Settles, Parks, Lends, GivesBack, Stops}
use Rattle.settle_board.specs.Changes.{IsSettledWord, TurnsAway}

-- the piece and the word that a step found, where it is a look at a piece or an exchange
abbrev pub finding : {T : Type 0} → Entry T → Option (ℕ × ℕ)
finding (Looks k r) = Some (k, r)
finding (LooksAtStop r) = None
finding (ClaimsFresh k r won) = Some (k, r)
finding (ClaimsParked k r won) = Some (k, r)
finding (Settles k) = None
finding (Parks k w t) = None
finding (Lends k r won) = Some (k, r)
finding (GivesBack k) = None
finding Stops = None

module _ {T : Type 0} where
  -- these steps stand among those, one after the other
  abbrev pub IsWithin : List (Entry T) → List (Entry T) → Type 0
  IsWithin steps part = (before after : List (Entry T)) × (part ≡ before ++ (steps ++ after))

  -- a step found this word on the piece k
  abbrev pub Finds : ℕ → ℕ → List (Entry T) → Type 0
  Finds k r part = (e : Entry T) × (finding e ≡ Some (k, r)) × IsWithin (e ∷ []) part

  -- the piece k was seen settled, or lent; it was seen unsettled
  abbrev pub SeesSettled : ℕ → List (Entry T) → Type 0
  SeesSettled k part = (r : ℕ) × IsSettledWord r × Finds k r part

  abbrev pub SeesUnsettled : ℕ → List (Entry T) → Type 0
  SeesUnsettled k part = (r : ℕ) × (r ≢ 3) × (r ≢ 4) × Finds k r part

  -- the stop word was found set; it was set
  abbrev pub FindsStop : List (Entry T) → Type 0
  FindsStop part = IsWithin (LooksAtStop 1 ∷ []) part

  abbrev pub StoresStop : List (Entry T) → Type 0
  StoresStop part = IsWithin (Stops ∷ []) part

  -- the piece k was settled; it was parked on another, with this task
  abbrev pub SettlesIt : ℕ → List (Entry T) → Type 0
  SettlesIt k part = IsWithin (Settles k ∷ []) part

  abbrev pub ParksOn : ℕ → ℕ → T → List (Entry T) → Type 0
  ParksOn k on t part = IsWithin (Parks k (8 + on) t ∷ []) part

  -- a wish to borrow the outcome of k found it lent
  abbrev pub LendsBusy : ℕ → List (Entry T) → Type 0
  LendsBusy k part = IsWithin (Lends k 4 false ∷ []) part

  -- a look, or an exchange that is lost
  abbrev pub MovesNothing : Entry T → Type 0
  MovesNothing (Looks k r) = Unit {0}
  MovesNothing (LooksAtStop r) = Unit {0}
  MovesNothing (ClaimsFresh k r won) = won ≡ false
  MovesNothing (ClaimsParked k r won) = won ≡ false
  MovesNothing (Settles k) = ⊥
  MovesNothing (Parks k w t) = ⊥
  MovesNothing (Lends k r won) = won ≡ false
  MovesNothing (GivesBack k) = ⊥
  MovesNothing Stops = ⊥

  -- no piece was claimed, settled, parked, lent or given back, and the stop word was not set
  abbrev pub IsMoveless : List (Entry T) → Type 0
  IsMoveless [] = Unit {0}
  IsMoveless (e ∷ part) = MovesNothing e × IsMoveless part

  -- the piece k was tried, and was not to be had
  abbrev pub IsTurnedAway : ℕ → List (Entry T) → Type 0
  IsTurnedAway k part = (steps : List (Entry T)) × TurnsAway k steps × IsWithin steps part

-- the piece that comes i pieces after the pick, of n pieces in a round
abbrev pub nth_from : ℕ → ℕ → ℕ → ℕ
nth_from pick n i = if ltb (pick + i) n then pick + i else pick + i - n

-- So many of n pieces were tried from the pick round, one after the other and each of them once. None was to be had, and there are no steps
-- but these
pub data Round {T : Type 0} (pick n : ℕ) : ℕ → List (Entry T) → Type 0 where
  none : Round pick n 0 []
  more : (i : ℕ) (part steps : List (Entry T)) → Round pick n i part → TurnsAway (nth_from pick n i) steps → Round pick n (i + 1) (part ++ steps)

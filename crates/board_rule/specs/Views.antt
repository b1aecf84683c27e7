-- Views: what a seat finds in its own, and how its steps change it.
use Rattle.std.specs.Prelude.{◌≡◌, ◌⊎◌, ℕ, ◌+◌, ◌-◌, ◌<◌, List, [], ◌∷◌, ◌++◌, true, false, ◌||◌, Option, Some, None, fold, if◌then◌else◌}
use Rattle.settle_core.specs.Meant.{Meant}
use Rattle.board_rule.specs.Maps.{is_same, IsAmong}
use Rattle.board_rule.specs.Standing.{next_read, taken_at}
use Rattle.board_rule.specs.declared.view.Hold.{Hold}
use Rattle.board_rule.specs.declared.view.Key.{Key}
use Rattle.board_rule.specs.declared.view.View.{View}
use Rattle.board_rule.specs.declared.view.Entry.{Entry}
use Rattle.board_rule.specs.declared.view.Entry.TheVariants.{Looks, LooksAtStop, ClaimsFresh, ClaimsParked, Settles, Parks, Lends, GivesBack, Stops}

module _ {T : Type 0} where
  -- the first hold in the list that is on the piece k
  abbrev pub hold_on : ℕ → List (Hold T) → Option (Hold T)
  hold_on k [] = None
  hold_on k (h ∷ hs) = if is_same h.piece k then Some h else hold_on k hs

  -- the list once the piece k was let go
  abbrev pub without : ℕ → List (Hold T) → List (Hold T)
  without k [] = []
  without k (h ∷ hs) = if is_same h.piece k then without k hs else h ∷ without k hs

  abbrev pub fresh_hold : ℕ → Hold T
  fresh_hold k = record { piece = k; claimed = None }

  -- the hold on a piece that was claimed with this task
  abbrev pub task_hold : ℕ → T → Hold T
  task_hold k t = record { piece = k; claimed = Some t }

-- The pieces seen settled: k is one more where its word w is 3 or 4
unfoldable pub saw : ℕ → ℕ → List ℕ → List ℕ
saw k w seen = if is_same w 3 || is_same w 4 then k ∷ seen else seen

module _ {X T : Type 0} where
  -- A look, or a lost exchange: nothing changes but the trail and what was seen
  abbrev pub after_look : Entry T → ℕ → ℕ → View X T → View X T
  after_look e k w v = record v { seen = saw k w v.seen; trail = v.trail ++ e ∷ [] }

  abbrev pub after_stop_look : ℕ → View X T → View X T
  after_stop_look w v = record v { saw_stop = is_same w 1 || v.saw_stop; trail = v.trail ++ LooksAtStop w ∷ [] }

  abbrev pub after_stop : View X T → View X T
  after_stop v = record v { stopped = true; saw_stop = true; trail = v.trail ++ Stops ∷ [] }

  -- a fresh piece is claimed
  abbrev pub after_start : ℕ → View X T → View X T
  after_start k v = record v { held = fresh_hold k ∷ v.held; begun = k ∷ v.begun; trail = v.trail ++ ClaimsFresh k 0 true ∷ [] }

  abbrev pub after_claim : Entry T → Hold T → View X T → View X T
  after_claim e h v = record v { held = h ∷ v.held; trail = v.trail ++ e ∷ [] }

  -- The piece k is no longer held, and its task has used so many steps since it was claimed
  abbrev pub after_settle : ℕ → ℕ → View X T → View X T
  after_settle k steps v = record v { held = without k v.held; seen = k ∷ v.seen; spent = v.spent + steps; trail = v.trail ++ Settles k ∷ [] }

  abbrev pub after_park : ℕ → ℕ → T → ℕ → View X T → View X T
  after_park k w t steps v = record v { held = without k v.held; spent = v.spent + steps; trail = v.trail ++ Parks k w t ∷ [] }

  abbrev pub after_lend : ℕ → View X T → View X T
  after_lend j v = record v { lent = Some j; seen = j ∷ v.seen; trail = v.trail ++ Lends j 3 true ∷ [] }

  abbrev pub after_give_back : ℕ → View X T → View X T
  after_give_back j v = record v { lent = None; trail = v.trail ++ GivesBack j ∷ [] }

  abbrev pub with_hand : Option ℕ → View X T → View X T
  with_hand hand v = record v { hand = hand }

  abbrev pub first_view : Key X → View X T
  first_view key = record { about = Some key; held = []; lent = None; hand = None; begun = []; seen = []; spent = 0; stopped = false; saw_stop = false; trail = []; share = key.seats }

  -- one seat less
  abbrev pub with_less : View X T → View X T
  with_less v = record v { share = v.share - 1 }

  -- a seat of the same board, which has nothing but a share
  abbrev pub newcomer : View X T → View X T
  newcomer v = record { about = v.about; held = []; lent = None; hand = None; begun = []; seen = []; spent = 0; stopped = false; saw_stop = false; trail = []; share = 1 }

  -- w's share, what it began and saw, what it spent and its marks go over to v
  abbrev pub joined : View X T → View X T → View X T
  joined v w = record v { begun = w.begun ++ v.begun; seen = w.seen ++ v.seen; spent = v.spent + w.spent; stopped = v.stopped || w.stopped; saw_stop = v.saw_stop || w.saw_stop; share = v.share + w.share }

  abbrev pub gone : View X T
  gone = record { about = None; held = []; lent = None; hand = None; begun = []; seen = []; spent = 0; stopped = false; saw_stop = false; trail = []; share = 0 }

-- nothing is in the view but its board and its share
abbrev pub HasNothing : {X T : Type 0} → View X T → Type 0
HasNothing v = (v.held ≡ []) × (v.lent ≡ None) × (v.hand ≡ None) × (v.seen ≡ []) × (v.spent ≡ 0) × (v.stopped ≡ false) × (v.trail ≡ []) × (v.saw_stop ≡ false) × (v.begun ≡ [])

-- The seat can tell that the piece k is settled: it saw so, or the task of a piece that it holds had taken the outcome of k when the
-- piece was claimed. Of tasks it goes by those alone of pieces that it still holds
abbrev pub Knows : {T O X : Type 0} → Meant T O → ℕ → View X T → Type 0
Knows {T} m k v = IsAmong k v.seen ⊎ ((p i : ℕ) × (h : Hold T) × (hold_on p v.held ≡ Some h) × (i < taken_at m h.claimed) × (next_read m p i ≡ k))

-- Of the looks in a trail since the piece k was last claimed in it, the latest that found a piece unsettled: which piece
abbrev pub unless_settled : ℕ → ℕ → Option ℕ → Option ℕ
unless_settled p w before = if is_same w 3 || is_same w 4 then before else Some p

abbrev pub unsettled_after : {T : Type 0} → ℕ → Option ℕ → Entry T → Option ℕ
unsettled_after k before (Looks p w) = unless_settled p w before
unsettled_after k before (LooksAtStop w) = before
unsettled_after k before (ClaimsFresh p w true) = if is_same p k then None else before
unsettled_after k before (ClaimsFresh p w false) = unless_settled p w before
unsettled_after k before (ClaimsParked p w true) = if is_same p k then None else before
unsettled_after k before (ClaimsParked p w false) = unless_settled p w before
unsettled_after k before (Settles p) = before
unsettled_after k before (Parks p w t) = before
unsettled_after k before (Lends p w true) = before
unsettled_after k before (Lends p w false) = unless_settled p w before
unsettled_after k before (GivesBack p) = before
unsettled_after k before Stops = before

abbrev pub last_unsettled : {T : Type 0} → ℕ → List (Entry T) → Option ℕ
last_unsettled k trail = fold (unsettled_after k) None trail

-- How calls change a view, said of plain views: for callers, who need not open the rule.
use Rattle.std.specs.Prelude.{◌≡◌, ◌≢◌, ◌⊎◌, ℕ, ◌+◌, ◌<◌, List, [], ◌∷◌, ◌++◌, true, false, Option}
use Rattle.board_rule.specs.Maps.{IsAmong}
use Rattle.board_rule.specs.declared.view.Hold.{Hold}
use Rattle.board_rule.specs.declared.view.View.{View}
use Rattle.board_rule.specs.declared.view.Entry.{Entry}
use Rattle.board_rule.specs.declared.view.Entry.TheVariants.{Looks, ClaimsFresh, ClaimsParked}

module _ {X T : Type 0} where
  -- its board, its share, and whether it set the stop word are as before
  abbrev pub IsSameSeat : View X T → View X T → Type 0
  IsSameSeat v w = (w.about ≡ v.about) × (w.share ≡ v.share) × (w.stopped ≡ v.stopped)

  -- what it began, what it saw settled, and that it saw the stop word set, it still knows
  abbrev pub KnowsMore : View X T → View X T → Type 0
  KnowsMore v w = ((j : ℕ) → IsAmong j v.begun → IsAmong j w.begun) × ((j : ℕ) → IsAmong j v.seen → IsAmong j w.seen) × (v.saw_stop ≡ true → w.saw_stop ≡ true)

  -- The view v became w. It has these holds and this loan, has spent so many steps more, and made these steps on words
  pub record Becomes (held : List (Hold T)) (lent : Option ℕ) (steps : ℕ) (part : List (Entry T)) (v w : View X T) : Type 0 where
    pub same : IsSameSeat v w
    pub knows : KnowsMore v w
    pub holds : w.held ≡ held
    pub loan : w.lent ≡ lent
    pub spent : w.spent ≡ v.spent + steps
    pub trail : w.trail ≡ v.trail ++ part

-- the word of a settled piece, whose outcome is at home or lent
abbrev pub IsSettledWord : ℕ → Type 0
IsSettledWord w = (w ≡ 3) ⊎ (w ≡ 4)

-- The steps by which a claim finds that the piece k is not to be had now
pub data TurnsAway {T : Type 0} (k : ℕ) (part : List (Entry T)) : Type 0 where
  -- another seat holds it
  by_hold : part ≡ Looks k 1 ∷ [] → TurnsAway k part
  -- it is settled
  by_outcome : (r : ℕ) → IsSettledWord r → part ≡ Looks k r ∷ [] → TurnsAway k part
  -- it was fresh, or parked on a piece seen settled, and the exchange from there found another word
  by_rival : (r : ℕ) → r ≢ 0 → part ≡ Looks k 0 ∷ ClaimsFresh k r false ∷ [] → TurnsAway k part
  by_rival_resume : (on found r : ℕ) → IsSettledWord found → r ≢ 8 + on → part ≡ Looks k (8 + on) ∷ Looks on found ∷ ClaimsParked k r false ∷ [] → TurnsAway k part
  -- it is parked on a piece that was then seen unsettled
  by_park : (on found : ℕ) → on < k → found ≢ 3 → found ≢ 4 → part ≡ Looks k (8 + on) ∷ Looks on found ∷ [] → TurnsAway k part

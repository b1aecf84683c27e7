-- Each kind of step on the board, computed on one table of three pieces that the rule allows: that the seat may make it, the table after it, the
-- states of the machine that both show, and the steps of the machine that lead from the one to the other. Piece 2 reads pieces 0 and 1, and its
-- task has four steps for each read that it took. Seat 0 stands for two of the three seats of the board; the other settled what is settled.
use Rattle.std.proofs.Common.{◌≡◌, ◌≢◌, ℕ, zero, suc, ◌+◌, ◌<◌, ◌≤◌, List, [], ◌∷◌, Bool, true, false, Option, Some, None, refl, sym, ap, ◌∙◌, subst, arith, inl, inr, slice_index, slice_get}
use mathlib.Core.Option.{some, none, some-ne-none, some-injective}
use mathlib.Core.Option as maybe
use lib.ListN.{get_elem?}
use Rattle.cxx_base.specs.declared.number.PieceNo.{PieceNo}
use Rattle.atomic_table.specs.Table.{State}
use Rattle.settle_core.specs.Meant.{Meant, outcome, reads}
use Rattle.settle_core.specs.Next.{firsts}
use Rattle.settle_core.specs.declared.piece_state.PieceState.{PieceState}
use Rattle.settle_core.specs.declared.piece_state.PieceState.TheVariants.{Fresh, Held, Parked, Settled}
use Rattle.settle_core.specs.declared.core_step.CoreStep.{CoreStep}
use Rattle.settle_core.specs.declared.core_step.CoreStep.TheVariants.{Claim, Advance, Park, Resume, Settle}
use Rattle.settle_core.specs.Steps.{replayed}
use Rattle.settle_core.proofs.Options.{some_injective}
use Rattle.board_rule.specs.Maps.{is_same, is_it}
use Rattle.board_rule.specs.Standing.{taken_at, advanced_at}
use Rattle.board_rule.specs.Views.{hold_on, fresh_hold, task_hold, newcomer, gone, saw}
use Rattle.board_rule.specs.Shows.{Shows, ShowsAt, HasSlot}
use Rattle.board_rule.specs.Kinds.{Kind, looking, looking_at_stop, stopping, starting, resuming, lending, settling, parking, giving_back, taking_slot, putting_back, cutting, joining, CanMake, KnowsReads, after_step, machine_steps}
use Rattle.board_rule.specs.declared.home.Home.{Home}
use Rattle.board_rule.specs.declared.home.Home.TheVariants.{Empty, Task, Outcome}
use Rattle.board_rule.specs.declared.view.Hold.{Hold}
use Rattle.board_rule.specs.declared.view.Key.{Key}
use Rattle.board_rule.specs.declared.view.View.{View}
use Rattle.board_rule.specs.declared.view.Entry.{Entry}
use Rattle.board_rule.specs.declared.view.Entry.TheVariants.{Looks, LooksAtStop, ClaimsFresh, ClaimsParked, Settles, Parks, Lends, GivesBack, Stops}
use Rattle.board_rule.proofs.Maps.{same_yes}
use Rattle.settle_samples.specs.ThreePieces.{three_pieces, three_next}

abbrev pieces : Meant ℕ ℕ
pieces = three_pieces 5

abbrev Slot : Type 0
Slot = maybe.Option (Home ℕ ℕ)

abbrev Seen : Type 0
Seen = View ℕ ℕ

abbrev Table : Type 0
Table = State (Home ℕ ℕ) (View ℕ ℕ)

abbrev piece : ℕ → PieceNo
piece k = record { 0 = k }

abbrev three : {A : Type 0} → A → A → A → List A
three a b c = a ∷ b ∷ c ∷ []

-- the words of the three pieces and the stop word
abbrev words : ℕ → ℕ → ℕ → ℕ → List ℕ
words a b c stop = a ∷ b ∷ c ∷ stop ∷ []

abbrev key : Key ℕ
key = record { meaning = 5; seats = 3 }

-- a view with these holds, this loan, this slot in hand, these pieces begun and seen settled, these steps spent and this trail
abbrev seat : List (Hold ℕ) → Option ℕ → Option ℕ → List ℕ → List ℕ → ℕ → List (Entry ℕ) → Seen
seat held lent hand begun seen spent trail = record { about = Some key; held = held; lent = lent; hand = hand; begun = begun; seen = seen; spent = spent; stopped = false; saw_stop = false; trail = trail; share = 2 }

-- the other seat, which has settled these pieces
abbrev other : List ℕ → List ℕ → ℕ → List (Entry ℕ) → Seen
other begun seen spent trail = record { about = Some key; held = []; lent = None; hand = None; begun = begun; seen = seen; spent = spent; stopped = false; saw_stop = false; trail = trail; share = 1 }

abbrev idle : Seen
idle = other [] [] 0 []

abbrev settled_one : Seen
settled_one = other (0 ∷ []) (0 ∷ []) 11 (Looks 0 0 ∷ ClaimsFresh 0 0 true ∷ Settles 0 ∷ [])

abbrev settled_two : Seen
settled_two = other (1 ∷ 0 ∷ []) (1 ∷ 0 ∷ 0 ∷ []) 22 (Looks 0 0 ∷ ClaimsFresh 0 0 true ∷ Settles 0 ∷ Looks 1 0 ∷ ClaimsFresh 1 0 true ∷ Lends 0 3 true ∷ GivesBack 0 ∷ Settles 1 ∷ [])

abbrev table : Seen → Seen → List ℕ → List Slot → Table
table v o ws homes = record { words = ws; homes = homes; views = v ∷ o ∷ [] }

-- The step of seat 0, which has this view, may be made in the table s and makes the table t, they show these states of the machine, and these
-- steps lead from the one to the other
record Goes (kind : Kind ℕ ℕ) (v : Seen) (s t : Table) (steps : List CoreStep) (before after : List (PieceState ℕ)) : Type 0 where
  may : CanMake pieces s 0 v kind
  makes : after_step pieces s 0 v kind ≡ t
  stands_for : machine_steps pieces s 0 v kind ≡ steps
  shows : Shows pieces s before
  then_shows : Shows pieces t after
  leads : replayed (three_next 5) before steps ≡ Some after

-- what holds of each view of a table
module _ (P : Seen → Type 0) where
  abbrev All : List Seen → Type 0
  All [] = Unit {0}
  All (x ∷ xs) = P x × All xs

  each_one : (l : List Seen) → All l → (j : ℕ) (u : Seen) → get_elem? l j ≡ some u → P u
  each_one [] all j u e = absurd (some-ne-none u (sym e))
  each_one (x ∷ xs) all zero u e = subst P (some-injective x u e) all.0
  each_one (x ∷ xs) all (suc j) u e = each_one xs all.1 j u e

-- a view has nothing of the piece k
abbrev HasNone : ℕ → Seen → Type 0
HasNone k u = (hold_on k u.held ≡ None) × (is_it u.lent k ≡ false)

not_lent : (l : Option ℕ) (k : ℕ) → is_it l k ≡ false → l ≢ Some k
not_lent None k e q = absurd cc
not_lent (Some j) k e q = let a = same_yes j k (some_injective j k q) in absurd cc

no_hold : (held : List (Hold ℕ)) (k : ℕ) (g : Hold ℕ) → hold_on k held ≡ None → hold_on k held ≡ Some g → ⊥
no_hold held k g a b = let e : None ≡ Some g = sym a ∙ b in absurd cc

-- how a table shows the piece k, of which no view has anything, or the first view alone
module _ (k : ℕ) (ws : List ℕ) (homes : List Slot) (v : Seen) (rest : List Seen) where
  abbrev s : Table
  s = record { words = ws; homes = homes; views = v ∷ rest }

  module _ (free : All (HasNone k) (v ∷ rest)) where
    none_holds : (j : ℕ) (u : Seen) → get_elem? (v ∷ rest) j ≡ some u → hold_on k u.held ≡ None
    none_holds j u e = (each_one (HasNone k) (v ∷ rest) free j u e).0

    none_borrows : (j : ℕ) (u : Seen) → get_elem? (v ∷ rest) j ≡ some u → u.lent ≢ Some k
    none_borrows j u e = not_lent u.lent k (each_one (HasNone k) (v ∷ rest) free j u e).1

    fresh_at : slice_index ws k ≡ 0 → get_elem? homes k ≡ some (some Empty) → ShowsAt pieces s k Fresh
    fresh_at a b = (a, b, none_holds, none_borrows)

    parked_at : (taken : List (ℕ × ℕ)) (advanced : Bool) (on t : ℕ) → slice_index ws k ≡ 8 + on → get_elem? homes k ≡ some (some (Task t)) → pieces.is_task k t → taken ≡ firsts pieces k (pieces.taken t) → advanced ≡ pieces.advanced t
        → ShowsAt pieces s k (Parked taken advanced (piece on))
    parked_at taken advanced on t a b own c d = (a, (t, b, own, c, d), none_holds, none_borrows)

    settled_at : (o : ℕ) → slice_index ws k ≡ 3 → get_elem? homes k ≡ some (some (Outcome o)) → ShowsAt pieces s k (Settled o)
    settled_at o a b = (none_holds, inl (a, b, none_borrows))

  module _ (free : All (HasNone k) rest) where
    held_alone : (j : ℕ) (u : Seen) (g : Hold ℕ) → get_elem? (v ∷ rest) j ≡ some u → hold_on k u.held ≡ Some g → j ≡ 0
    held_alone zero u g e has = refl
    held_alone (suc j) u g e has = absurd (no_hold u.held k g (each_one (HasNone k) rest free j u e).0 has)

    lent_alone : (j : ℕ) (u : Seen) → get_elem? (v ∷ rest) j ≡ some u → u.lent ≡ Some k → j ≡ 0
    lent_alone zero u e has = refl
    lent_alone (suc j) u e has = absurd (not_lent u.lent k (each_one (HasNone k) rest free j u e).1 has)

    unlent : is_it v.lent k ≡ false → (j : ℕ) (u : Seen) → get_elem? (v ∷ rest) j ≡ some u → u.lent ≢ Some k
    unlent a zero u e = subst (λ (x : Seen). x.lent ≢ Some k) (some-injective v u e) (not_lent v.lent k a)
    unlent a (suc j) u e = not_lent u.lent k (each_one (HasNone k) rest free j u e).1

    unheld : hold_on k v.held ≡ None → (j : ℕ) (u : Seen) → get_elem? (v ∷ rest) j ≡ some u → hold_on k u.held ≡ None
    unheld a zero u e = subst (λ (x : Seen). hold_on k x.held ≡ None) (some-injective v u e) a
    unheld a (suc j) u e = (each_one (HasNone k) rest free j u e).0

    held_at : (h : Hold ℕ) (taken : List (ℕ × ℕ)) (advanced : Bool) → slice_index ws k ≡ 1 → hold_on k v.held ≡ Some h → is_it v.lent k ≡ false → taken ≡ firsts pieces k (taken_at pieces h.claimed)
        → advanced ≡ advanced_at pieces h.claimed → HasSlot pieces s k v → ShowsAt pieces s k (Held 0 taken advanced)
    held_at h taken advanced a has l c d slot = (a, (v, h, refl, has, c, d, slot, held_alone), unlent l)

    lent_at : (o : ℕ) → slice_index ws k ≡ 4 → hold_on k v.held ≡ None → o ≡ outcome pieces k → v.lent ≡ Some k → HasSlot pieces s k v → ShowsAt pieces s k (Settled o)
    lent_at o a n is l slot = (unheld n, inr (a, is, (0, v, refl, l, slot, lent_alone)))

shows_three : (t : Table) (a b c : PieceState ℕ) → ShowsAt pieces t 0 a → ShowsAt pieces t 1 b → ShowsAt pieces t 2 c → Shows pieces t (three a b c)
shows_three t a b c p q r = record { whole = refl; each = at }
  where
    at : (k : ℕ) (x : PieceState ℕ) → slice_get (three a b c) k ≡ Some x → ShowsAt pieces t k x
    at zero x e = subst (ShowsAt pieces t 0) (some_injective a x e) p
    at (suc zero) x e = subst (ShowsAt pieces t 1) (some_injective b x e) q
    at (suc (suc zero)) x e = subst (ShowsAt pieces t 2) (some_injective c x e) r
    at (suc (suc (suc k))) x e = absurd cc

abbrev empty : Slot
empty = some Empty

-- where no piece was begun
module _ (v : Seen) (o : Seen) (free : (k : ℕ) → All (HasNone k) (v ∷ o ∷ [])) (stop : ℕ) where
  all_fresh : Shows pieces (table v o (words 0 0 0 stop) (three empty empty empty)) (three Fresh Fresh Fresh)
  all_fresh = let ws = words 0 0 0 stop in let homes = three empty empty empty in shows_three (table v o ws homes) Fresh Fresh Fresh
      (fresh_at 0 ws homes v (o ∷ []) (free 0) refl refl) (fresh_at 1 ws homes v (o ∷ []) (free 1) refl refl) (fresh_at 2 ws homes v (o ∷ []) (free 2) refl refl)

some_piece : 0 < 3
some_piece = omega arith

last_piece : 2 < 3
last_piece = omega arith

one_of_two : 1 ≤ 2
one_of_two = omega arith

one_before_two : 1 < 2
one_before_two = omega arith

none_of_four : 0 ≤ 4
none_of_four = omega arith

none_of_one : 0 ≤ 1
none_of_one = omega arith

eight_of_nine : 8 ≤ 9
eight_of_nine = omega arith

-- piece 2 is claimed
abbrev looked : List (Entry ℕ)
looked = Looks 2 0 ∷ []

abbrev claimed : List (Entry ℕ)
claimed = Looks 2 0 ∷ ClaimsFresh 2 0 true ∷ []

abbrev holder : Option ℕ → Seen
holder hand = seat (fresh_hold 2 ∷ []) None hand (2 ∷ []) [] 0 claimed

module _ (hand : Option ℕ) (home : Slot) where
  abbrev holding : Table
  holding = table (holder hand) idle (words 0 0 1 0) (three empty empty home)

  holds_last : HasSlot pieces holding 2 (holder hand) → Shows pieces holding (three Fresh Fresh (Held 0 [] false))
  unfolding is_same
  holds_last slot = let ws = words 0 0 1 0 in let homes = three empty empty home in let v = holder hand in shows_three holding Fresh Fresh (Held 0 [] false)
      (fresh_at 0 ws homes v (idle ∷ []) ((refl, refl), ((refl, refl), tt)) refl refl) (fresh_at 1 ws homes v (idle ∷ []) ((refl, refl), ((refl, refl), tt)) refl refl)
      (held_at 2 ws homes v (idle ∷ []) ((refl, refl), tt) (fresh_hold 2) [] false refl refl refl refl refl slot)

starts : Goes (starting 2) (seat [] None None [] [] 0 looked) (table (seat [] None None [] [] 0 looked) idle (words 0 0 0 0) (three empty empty empty)) (holding None empty)
    (Claim (piece 2) 0 ∷ []) (three Fresh Fresh Fresh) (three Fresh Fresh (Held 0 [] false))
starts = record { may = (last_piece, refl); makes = refl; stands_for = refl; shows = all_fresh (seat [] None None [] [] 0 looked) idle (λ k. ((refl, refl), ((refl, refl), tt))) 0; then_shows = holds_last None empty (inl refl); leads = refl }

takes_slot : Goes (taking_slot 2) (holder None) (holding None empty) (holding (Some 2) none) [] (three Fresh Fresh (Held 0 [] false)) (three Fresh Fresh (Held 0 [] false))
unfolding is_same
takes_slot = record { may = (last_piece, refl, inl refl); makes = refl; stands_for = refl; shows = holds_last None empty (inl refl); then_shows = holds_last (Some 2) none (inr (refl, refl)); leads = refl }

puts_back : Goes (putting_back 2) (holder (Some 2)) (holding (Some 2) none) (holding None empty) [] (three Fresh Fresh (Held 0 [] false)) (three Fresh Fresh (Held 0 [] false))
unfolding is_same
puts_back = record { may = (last_piece, refl, inl refl); makes = refl; stands_for = refl; shows = holds_last (Some 2) none (inr (refl, refl)); then_shows = holds_last None empty (inl refl); leads = refl }

-- Piece 2 has taken piece 0, whose outcome is odd, and waits for piece 1
abbrev waited : List (Entry ℕ)
waited = Looks 2 0 ∷ ClaimsFresh 2 0 true ∷ Lends 0 3 true ∷ GivesBack 0 ∷ Lends 1 0 false ∷ []

abbrev parked : List (Entry ℕ)
parked = Looks 2 0 ∷ ClaimsFresh 2 0 true ∷ Lends 0 3 true ∷ GivesBack 0 ∷ Lends 1 0 false ∷ Parks 2 9 4 ∷ []

knows_one : KnowsReads pieces (table (seat (fresh_hold 2 ∷ []) None (Some 2) (2 ∷ []) (0 ∷ []) 0 waited) settled_one (words 3 0 1 0) (three (some (Outcome 5)) empty none)) 0
    (seat (fresh_hold 2 ∷ []) None (Some 2) (2 ∷ []) (0 ∷ []) 0 waited) 2 (fresh_hold 2) 1
unfolding reads outcome
knows_one zero l = inr (inl refl)
knows_one (suc i) l = absurd (omega arith)

parks : let v = seat (fresh_hold 2 ∷ []) None (Some 2) (2 ∷ []) (0 ∷ []) 0 waited in let w = seat [] None None (2 ∷ []) (0 ∷ []) 4 parked in
    Goes (parking 2 (fresh_hold 2) 4) v (table v settled_one (words 3 0 1 0) (three (some (Outcome 5)) empty none)) (table w settled_one (words 3 0 9 0) (three (some (Outcome 5)) empty (some (Task 4))))
    (Advance (piece 2) ∷ Park (piece 2) (piece 1) ∷ []) (three (Settled 5) Fresh (Held 0 [] false)) (three (Settled 5) Fresh (Parked ((0, 5) ∷ []) true (piece 1)))
unfolding reads outcome is_same
parks = let v = seat (fresh_hold 2 ∷ []) None (Some 2) (2 ∷ []) (0 ∷ []) 0 waited in let w = seat [] None None (2 ∷ []) (0 ∷ []) 4 parked in let o = settled_one ∷ [] in
    let ws = words 3 0 1 0 in let hs = three (some (Outcome 5)) empty none in let ws' = words 3 0 9 0 in let hs' = three (some (Outcome 5)) empty (some (Task 4)) in record {
      may = (last_piece, refl, refl, (one_of_two, one_before_two), none_of_four, none_of_one, knows_one);
      makes = refl;
      stands_for = refl;
      shows = shows_three (table v settled_one ws hs) (Settled 5) Fresh (Held 0 [] false)
          (settled_at 0 ws hs v o ((refl, refl), ((refl, refl), tt)) 5 refl refl) (fresh_at 1 ws hs v o ((refl, refl), ((refl, refl), tt)) refl refl)
          (held_at 2 ws hs v o ((refl, refl), tt) (fresh_hold 2) [] false refl refl refl refl refl (inr (refl, refl)));
      then_shows = shows_three (table w settled_one ws' hs') (Settled 5) Fresh (Parked ((0, 5) ∷ []) true (piece 1))
          (settled_at 0 ws' hs' w o ((refl, refl), ((refl, refl), tt)) 5 refl refl) (fresh_at 1 ws' hs' w o ((refl, refl), ((refl, refl), tt)) refl refl)
          (parked_at 2 ws' hs' w o ((refl, refl), ((refl, refl), tt)) ((0, 5) ∷ []) true 1 4 refl refl one_of_two refl refl);
      leads = refl;
    }

-- it is resumed once piece 1 is settled
abbrev looked_at_one : List (Entry ℕ)
looked_at_one = Looks 2 0 ∷ ClaimsFresh 2 0 true ∷ Lends 0 3 true ∷ GivesBack 0 ∷ Lends 1 0 false ∷ Parks 2 9 4 ∷ Looks 2 9 ∷ Looks 1 3 ∷ []

abbrev resumed : List (Entry ℕ)
resumed = Looks 2 0 ∷ ClaimsFresh 2 0 true ∷ Lends 0 3 true ∷ GivesBack 0 ∷ Lends 1 0 false ∷ Parks 2 9 4 ∷ Looks 2 9 ∷ Looks 1 3 ∷ ClaimsParked 2 9 true ∷ []

resumes : let v = seat [] None None (2 ∷ []) (1 ∷ 0 ∷ []) 4 looked_at_one in let w = seat (task_hold 2 4 ∷ []) None (Some 2) (2 ∷ []) (1 ∷ 0 ∷ []) 4 resumed in
    Goes (resuming 2 4) v (table v settled_two (words 3 3 9 0) (three (some (Outcome 5)) (some (Outcome 15)) (some (Task 4)))) (table w settled_two (words 3 3 1 0) (three (some (Outcome 5)) (some (Outcome 15)) none))
    (Resume (piece 2) 0 ∷ []) (three (Settled 5) (Settled 15) (Parked ((0, 5) ∷ []) true (piece 1))) (three (Settled 5) (Settled 15) (Held 0 ((0, 5) ∷ []) true))
unfolding reads outcome is_same
resumes = let v = seat [] None None (2 ∷ []) (1 ∷ 0 ∷ []) 4 looked_at_one in let w = seat (task_hold 2 4 ∷ []) None (Some 2) (2 ∷ []) (1 ∷ 0 ∷ []) 4 resumed in let o = settled_two ∷ [] in
    let ws = words 3 3 9 0 in let hs = three (some (Outcome 5)) (some (Outcome 15)) (some (Task 4)) in let ws' = words 3 3 1 0 in let hs' = three (some (Outcome 5)) (some (Outcome 15)) none in record {
      may = (last_piece, refl, eight_of_nine, refl, inl refl);
      makes = refl;
      stands_for = refl;
      shows = shows_three (table v settled_two ws hs) (Settled 5) (Settled 15) (Parked ((0, 5) ∷ []) true (piece 1))
          (settled_at 0 ws hs v o ((refl, refl), ((refl, refl), tt)) 5 refl refl) (settled_at 1 ws hs v o ((refl, refl), ((refl, refl), tt)) 15 refl refl)
          (parked_at 2 ws hs v o ((refl, refl), ((refl, refl), tt)) ((0, 5) ∷ []) true 1 4 refl refl one_of_two refl refl);
      then_shows = shows_three (table w settled_two ws' hs') (Settled 5) (Settled 15) (Held 0 ((0, 5) ∷ []) true)
          (settled_at 0 ws' hs' w o ((refl, refl), ((refl, refl), tt)) 5 refl refl) (settled_at 1 ws' hs' w o ((refl, refl), ((refl, refl), tt)) 15 refl refl)
          (held_at 2 ws' hs' w o ((refl, refl), tt) (task_hold 2 4) ((0, 5) ∷ []) true refl refl refl refl refl (inr (refl, refl)));
      leads = refl;
    }

-- it takes piece 1 and is settled
abbrev taken_both : List (Entry ℕ)
taken_both = Looks 2 0 ∷ ClaimsFresh 2 0 true ∷ Lends 0 3 true ∷ GivesBack 0 ∷ Lends 1 0 false ∷ Parks 2 9 4 ∷ Looks 2 9 ∷ Looks 1 3 ∷ ClaimsParked 2 9 true ∷ Lends 1 3 true ∷ GivesBack 1 ∷ []

abbrev ended : List (Entry ℕ)
ended = Looks 2 0 ∷ ClaimsFresh 2 0 true ∷ Lends 0 3 true ∷ GivesBack 0 ∷ Lends 1 0 false ∷ Parks 2 9 4 ∷ Looks 2 9 ∷ Looks 1 3 ∷ ClaimsParked 2 9 true ∷ Lends 1 3 true ∷ GivesBack 1 ∷ Settles 2 ∷ []

knows_both : KnowsReads pieces (table (seat (task_hold 2 4 ∷ []) None (Some 2) (2 ∷ []) (1 ∷ 1 ∷ 0 ∷ []) 4 taken_both) settled_two (words 3 3 1 0) (three (some (Outcome 5)) (some (Outcome 15)) none)) 0
    (seat (task_hold 2 4 ∷ []) None (Some 2) (2 ∷ []) (1 ∷ 1 ∷ 0 ∷ []) 4 taken_both) 2 (task_hold 2 4) 2
unfolding reads outcome
knows_both zero l = inr (inr (inr (inl refl)))
knows_both (suc zero) l = inr (inl refl)
knows_both (suc (suc i)) l = absurd (omega arith)

settles : let v = seat (task_hold 2 4 ∷ []) None (Some 2) (2 ∷ []) (1 ∷ 1 ∷ 0 ∷ []) 4 taken_both in let w = seat [] None None (2 ∷ []) (2 ∷ 1 ∷ 1 ∷ 0 ∷ []) 11 ended in
    Goes (settling 2 (task_hold 2 4)) v (table v settled_two (words 3 3 1 0) (three (some (Outcome 5)) (some (Outcome 15)) none)) (table w settled_two (words 3 3 3 0) (three (some (Outcome 5)) (some (Outcome 15)) (some (Outcome 25))))
    (Advance (piece 2) ∷ Settle (piece 2) ∷ []) (three (Settled 5) (Settled 15) (Held 0 ((0, 5) ∷ []) true)) (three (Settled 5) (Settled 15) (Settled 25))
unfolding reads outcome is_same
settles = let v = seat (task_hold 2 4 ∷ []) None (Some 2) (2 ∷ []) (1 ∷ 1 ∷ 0 ∷ []) 4 taken_both in let w = seat [] None None (2 ∷ []) (2 ∷ 1 ∷ 1 ∷ 0 ∷ []) 11 ended in let o = settled_two ∷ [] in
    let ws = words 3 3 1 0 in let hs = three (some (Outcome 5)) (some (Outcome 15)) none in let ws' = words 3 3 3 0 in let hs' = three (some (Outcome 5)) (some (Outcome 15)) (some (Outcome 25)) in record {
      may = (last_piece, refl, refl, knows_both);
      makes = refl;
      stands_for = refl;
      shows = shows_three (table v settled_two ws hs) (Settled 5) (Settled 15) (Held 0 ((0, 5) ∷ []) true)
          (settled_at 0 ws hs v o ((refl, refl), ((refl, refl), tt)) 5 refl refl) (settled_at 1 ws hs v o ((refl, refl), ((refl, refl), tt)) 15 refl refl)
          (held_at 2 ws hs v o ((refl, refl), tt) (task_hold 2 4) ((0, 5) ∷ []) true refl refl refl refl refl (inr (refl, refl)));
      then_shows = shows_three (table w settled_two ws' hs') (Settled 5) (Settled 15) (Settled 25)
          (settled_at 0 ws' hs' w o ((refl, refl), ((refl, refl), tt)) 5 refl refl) (settled_at 1 ws' hs' w o ((refl, refl), ((refl, refl), tt)) 15 refl refl)
          (settled_at 2 ws' hs' w o ((refl, refl), ((refl, refl), tt)) 25 refl refl);
      leads = refl;
    }

-- a piece without reads is advanced once
knows_none : (v : Seen) (t : Table) → KnowsReads pieces t 0 v 0 (fresh_hold 0) 0
knows_none v t i l = absurd (omega arith)

settles_first : let v = seat (fresh_hold 0 ∷ []) None (Some 0) (0 ∷ []) [] 0 (Looks 0 0 ∷ ClaimsFresh 0 0 true ∷ []) in let w = seat [] None None (0 ∷ []) (0 ∷ []) 11 (Looks 0 0 ∷ ClaimsFresh 0 0 true ∷ Settles 0 ∷ []) in
    Goes (settling 0 (fresh_hold 0)) v (table v idle (words 1 0 0 0) (three none empty empty)) (table w idle (words 3 0 0 0) (three (some (Outcome 5)) empty empty))
    (Advance (piece 0) ∷ Settle (piece 0) ∷ []) (three (Held 0 [] false) Fresh Fresh) (three (Settled 5) Fresh Fresh)
unfolding reads outcome is_same
settles_first = let v = seat (fresh_hold 0 ∷ []) None (Some 0) (0 ∷ []) [] 0 (Looks 0 0 ∷ ClaimsFresh 0 0 true ∷ []) in let w = seat [] None None (0 ∷ []) (0 ∷ []) 11 (Looks 0 0 ∷ ClaimsFresh 0 0 true ∷ Settles 0 ∷ []) in
    let o = idle ∷ [] in let ws = words 1 0 0 0 in let hs = three none empty empty in let ws' = words 3 0 0 0 in let hs' = three (some (Outcome 5)) empty empty in record {
      may = (some_piece, refl, refl, knows_none v (table v idle ws hs));
      makes = refl;
      stands_for = refl;
      shows = shows_three (table v idle ws hs) (Held 0 [] false) Fresh Fresh
          (held_at 0 ws hs v o ((refl, refl), tt) (fresh_hold 0) [] false refl refl refl refl refl (inr (refl, refl)))
          (fresh_at 1 ws hs v o ((refl, refl), ((refl, refl), tt)) refl refl) (fresh_at 2 ws hs v o ((refl, refl), ((refl, refl), tt)) refl refl);
      then_shows = shows_three (table w idle ws' hs') (Settled 5) Fresh Fresh
          (settled_at 0 ws' hs' w o ((refl, refl), ((refl, refl), tt)) 5 refl refl) (fresh_at 1 ws' hs' w o ((refl, refl), ((refl, refl), tt)) refl refl) (fresh_at 2 ws' hs' w o ((refl, refl), ((refl, refl), tt)) refl refl);
      leads = refl;
    }

-- The other kinds leave the machine where it is
free : (k : ℕ) (v o : Seen) → v.held ≡ [] → v.lent ≡ None → o.held ≡ [] → o.lent ≡ None → All (HasNone k) (v ∷ o ∷ [])
free k v o a b c d = ((ap (hold_on k) a, ap (λ l. is_it l k) b), ((ap (hold_on k) c, ap (λ l. is_it l k) d), tt))

abbrev bare : List ℕ → List (Entry ℕ) → Seen
bare seen trail = seat [] None None [] seen 0 trail

abbrev none_begun : Seen → Seen → ℕ → Table
none_begun v o stop = table v o (words 0 0 0 stop) (three empty empty empty)

abbrev fresh : List (PieceState ℕ)
fresh = three Fresh Fresh Fresh

looks : Goes (looking 0 (Looks 0 0)) (bare [] []) (none_begun (bare [] []) idle 0) (none_begun (bare [] (Looks 0 0 ∷ [])) idle 0) [] fresh fresh
unfolding is_same saw
looks = record {
  may = some_piece;
  makes = refl;
  stands_for = refl;
  shows = all_fresh (bare [] []) idle (λ k. free k (bare [] []) idle refl refl refl refl) 0;
  then_shows = all_fresh (bare [] (Looks 0 0 ∷ [])) idle (λ k. free k (bare [] (Looks 0 0 ∷ [])) idle refl refl refl refl) 0;
  leads = refl;
}

-- the other seat has told all to stop
abbrev stopper : Seen
stopper = record idle { stopped = true; saw_stop = true; trail = Stops ∷ [] }

abbrev told : Seen
told = record (bare [] (LooksAtStop 1 ∷ [])) { saw_stop = true }

looks_at_stop : Goes looking_at_stop (bare [] []) (none_begun (bare [] []) stopper 1) (none_begun told stopper 1) [] fresh fresh
unfolding is_same
looks_at_stop = record {
  may = tt;
  makes = refl;
  stands_for = refl;
  shows = all_fresh (bare [] []) stopper (λ k. free k (bare [] []) stopper refl refl refl refl) 1;
  then_shows = all_fresh told stopper (λ k. free k told stopper refl refl refl refl) 1;
  leads = refl;
}

abbrev tells : Seen
tells = record (bare [] (Stops ∷ [])) { stopped = true; saw_stop = true }

stops : Goes stopping (bare [] []) (none_begun (bare [] []) idle 0) (none_begun tells idle 1) [] fresh fresh
stops = record {
  may = tt;
  makes = refl;
  stands_for = refl;
  shows = all_fresh (bare [] []) idle (λ k. free k (bare [] []) idle refl refl refl refl) 0;
  then_shows = all_fresh tells idle (λ k. free k tells idle refl refl refl refl) 1;
  leads = refl;
}

-- an outcome goes out and comes back
abbrev borrower : Option ℕ → Seen
borrower hand = seat [] (Some 0) hand [] (0 ∷ []) 0 (Lends 0 3 true ∷ [])

abbrev at_home : Seen → Table
at_home v = table v settled_one (words 3 0 0 0) (three (some (Outcome 5)) empty empty)

abbrev lent_out : Seen → Table
lent_out v = table v settled_one (words 4 0 0 0) (three none empty empty)

shows_home : (v : Seen) → v.held ≡ [] → v.lent ≡ None → Shows pieces (at_home v) (three (Settled 5) Fresh Fresh)
shows_home v a b = let ws = words 3 0 0 0 in let hs = three (some (Outcome 5)) empty empty in let o = settled_one ∷ [] in shows_three (at_home v) (Settled 5) Fresh Fresh
    (settled_at 0 ws hs v o (free 0 v settled_one a b refl refl) 5 refl refl) (fresh_at 1 ws hs v o (free 1 v settled_one a b refl refl) refl refl) (fresh_at 2 ws hs v o (free 2 v settled_one a b refl refl) refl refl)

shows_lent : Shows pieces (lent_out (borrower (Some 0))) (three (Settled 5) Fresh Fresh)
unfolding reads outcome is_same
shows_lent = let ws = words 4 0 0 0 in let hs = three none empty empty in let o = settled_one ∷ [] in let v = borrower (Some 0) in shows_three (lent_out v) (Settled 5) Fresh Fresh
    (lent_at 0 ws hs v o ((refl, refl), tt) 5 refl refl refl refl (inr (refl, refl))) (fresh_at 1 ws hs v o ((refl, refl), ((refl, refl), tt)) refl refl) (fresh_at 2 ws hs v o ((refl, refl), ((refl, refl), tt)) refl refl)

lends : Goes (lending 0) (bare [] []) (at_home (bare [] [])) (lent_out (borrower (Some 0))) [] (three (Settled 5) Fresh Fresh) (three (Settled 5) Fresh Fresh)
lends = record { may = (some_piece, refl, refl, refl); makes = refl; stands_for = refl; shows = shows_home (bare [] []) refl refl; then_shows = shows_lent; leads = refl }

gives_back : let w = bare (0 ∷ []) (Lends 0 3 true ∷ GivesBack 0 ∷ []) in
    Goes (giving_back 0) (borrower (Some 0)) (lent_out (borrower (Some 0))) (at_home w) [] (three (Settled 5) Fresh Fresh) (three (Settled 5) Fresh Fresh)
unfolding reads outcome
gives_back = record { may = (some_piece, refl, refl); makes = refl; stands_for = refl; shows = shows_lent; then_shows = shows_home (bare (0 ∷ []) (Lends 0 3 true ∷ GivesBack 0 ∷ [])) refl refl; leads = refl }

-- seats are cut off and taken over
abbrev bare_of : ℕ → Seen
bare_of n = record (bare [] []) { share = n }

abbrev with_third : Table
with_third = record { words = words 0 0 0 0; homes = three empty empty empty; views = bare_of 1 ∷ idle ∷ newcomer (bare [] []) ∷ [] }

shows_third : Shows pieces with_third fresh
shows_third = let ws = words 0 0 0 0 in let hs = three empty empty empty in let o = idle ∷ newcomer (bare [] []) ∷ [] in let v = bare_of 1 in shows_three with_third Fresh Fresh Fresh
    (fresh_at 0 ws hs v o ((refl, refl), ((refl, refl), ((refl, refl), tt))) refl refl) (fresh_at 1 ws hs v o ((refl, refl), ((refl, refl), ((refl, refl), tt))) refl refl) (fresh_at 2 ws hs v o ((refl, refl), ((refl, refl), ((refl, refl), tt))) refl refl)

one_of_two_seats : 1 < 2
one_of_two_seats = omega arith

cuts : Goes cutting (bare [] []) (none_begun (bare [] []) idle 0) with_third [] fresh fresh
cuts = record { may = one_of_two_seats; makes = refl; stands_for = refl; shows = all_fresh (bare [] []) idle (λ k. free k (bare [] []) idle refl refl refl refl) 0; then_shows = shows_third; leads = refl }

not_itself : ◌≢◌ {A = ℕ} 1 0
not_itself e = omega arith

some_seat : 0 < 1
some_seat = omega arith

joins : Goes (joining 1 idle) (bare [] []) (none_begun (bare [] []) idle 0) (none_begun (bare_of 3) gone 0) [] fresh fresh
joins = record {
  may = (not_itself, refl, some_seat, refl, refl, refl);
  makes = refl;
  stands_for = refl;
  shows = all_fresh (bare [] []) idle (λ k. free k (bare [] []) idle refl refl refl refl) 0;
  then_shows = all_fresh (bare_of 3) gone (λ k. free k (bare_of 3) gone refl refl refl refl) 0;
  leads = refl;
}

-- What the calls mean for a caller, said of plain views. One lemma for each answer: what the view became, what it knows then, and which
-- piece it saw unsettled last.
use Rattle.std.proofs.Common.{◌≡◌, ◌≢◌, ◌⊎◌, ℕ, ◌+◌, ◌<◌, ◌≤◌, List, [], ◌∷◌, ◌++◌, sym, refl, ap, ◌∙◌, subst, arith, IsSome, is_some, Bool, true, false, ◌||◌, inl, inr, ⊎_elim, Option, Some, None, append_assoc, if◌then◌else◌}
use Rattle.std.proofs.lemmas.List.Sums.{fold_push}
use Rattle.cxx_base.specs.declared.number.PieceNo.{PieceNo}
use Rattle.settle_core.specs.Meant.{Meant}
use Rattle.board_rule.specs.Maps.{is_same, IsAmong}
use Rattle.board_rule.specs.Standing.{next_read, taken_at}
use Rattle.board_rule.specs.Views.{hold_on, without, fresh_hold, task_hold, after_look, after_stop_look, after_start, after_claim, after_settle, after_park, after_lend, after_give_back, Knows, unless_settled, unsettled_after, last_unsettled}
use Rattle.board_rule.specs.declared.view.Hold.{Hold}
use Rattle.board_rule.specs.declared.view.View.{View}
use Rattle.board_rule.specs.declared.view.Entry.{Entry}
use Rattle.board_rule.specs.declared.view.Entry.TheVariants.{Looks, LooksAtStop, ClaimsFresh, ClaimsParked, Settles, Parks, Lends, GivesBack}
use Rattle.board_rule.proofs.Maps.{same_yes, same_no, hold_here}
use Rattle.board_rule.proofs.Standings.{saw_before, saw_it}
use Rattle.settle_board.specs.Boards.{HasSeen}
use Rattle.settle_board.specs.Answers.{ClaimSays, LendSays}
use Rattle.settle_board.specs.Changes.{Becomes, IsSettledWord, TurnsAway, by_hold, by_outcome, by_rival, by_rival_resume, by_park}
use Rattle.settle_board.specs.declared.answers.Claim.TheVariants.{Start, Resume, NotNow, StillParked}
use Rattle.settle_board.specs.declared.answers.Lend.TheVariants.{Got, NotSettled, Busy}

-- the last piece seen unsettled is another, or the same
module _ {X T : Type 0} where
  abbrev pub SawUnsettled : ℕ → View X T → Type 0
  SawUnsettled j w = (p : ℕ) → last_unsettled p w.trail ≡ Some j

  abbrev pub SawNoneMore : View X T → View X T → Type 0
  SawNoneMore v w = (p : ℕ) → last_unsettled p w.trail ≡ last_unsettled p v.trail

-- after one step more
last_more : {T : Type 0} (k : ℕ) (trail : List (Entry T)) (e : Entry T) → last_unsettled k (trail ++ e ∷ []) ≡ unsettled_after k (last_unsettled k trail) e
last_more k trail e = fold_push (unsettled_after k) None trail e

unless_open : (p r : ℕ) (before : Option ℕ) → r ≢ 3 → r ≢ 4 → unless_settled p r before ≡ Some p
unless_open p r before a b = ap (λ t. if t || is_same r 4 then before else Some p) (same_no r 3 a) ∙ ap (λ t. if t then before else Some p) (same_no r 4 b)

either_true : (a b : Bool) → b ≡ true → (a || b) ≡ true
either_true true b e = refl
either_true false b e = e

-- How a view grows: by one change after the other, and by each kind of step
module _ {X T : Type 0} where
  in_turn : (held held' : List (Hold T)) (lent lent' : Option ℕ) (a b : ℕ) (p q : List (Entry T)) (u v w : View X T) → Becomes held lent a p u v → Becomes held' lent' b q v w → Becomes held' lent' (a + b) (p ++ q) u w
  in_turn held held' lent lent' a b p q u v w f g = record {
    same = (g.same.0 ∙ f.same.0, g.same.1 ∙ f.same.1, g.same.2 ∙ f.same.2);
    knows = ((λ j h. g.knows.0 j (f.knows.0 j h)), (λ j h. g.knows.1 j (f.knows.1 j h)), (λ e. g.knows.2 (f.knows.2 e)));
    holds = g.holds;
    loan = g.loan;
    spent = (let x = f.spent in let y = g.spent in omega arith);
    trail = g.trail ∙ (ap (λ t. t ++ q) f.trail ∙ append_assoc u.trail p q);
  }

  -- a change after which the holds and the loan are as they were, and then another
  pub then_more : (held : List (Hold T)) (lent : Option ℕ) (steps : ℕ) (p q : List (Entry T)) (u v w : View X T) → Becomes u.held u.lent 0 p u v → Becomes held lent steps q v w → Becomes held lent steps (p ++ q) u w
  then_more held lent steps p q u v w f g = let e : 0 + steps ≡ steps = omega arith in subst (λ n. Becomes held lent n (p ++ q) u w) e (in_turn u.held held u.lent lent 0 steps p q u v w f g)

  module _ (v : View X T) where
    look_becomes : (e : Entry T) (k r : ℕ) → Becomes v.held v.lent 0 (e ∷ []) v (after_look e k r v)
    look_becomes e k r = record { same = (refl, refl, refl); knows = ((λ j h. h), saw_before k r v.seen, (λ q. q)); holds = refl; loan = refl; spent = omega arith; trail = refl }

    stop_look_becomes : (r : ℕ) → Becomes v.held v.lent 0 (LooksAtStop r ∷ []) v (after_stop_look r v)
    stop_look_becomes r = record { same = (refl, refl, refl); knows = ((λ j h. h), (λ j h. h), either_true (is_same r 1) v.saw_stop); holds = refl; loan = refl; spent = omega arith; trail = refl }

    start_becomes : (k : ℕ) → Becomes (fresh_hold k ∷ v.held) v.lent 0 (ClaimsFresh k 0 true ∷ []) v (after_start k v)
    start_becomes k = record { same = (refl, refl, refl); knows = ((λ j h. inr h), (λ j h. h), (λ q. q)); holds = refl; loan = refl; spent = omega arith; trail = refl }

    claim_becomes : (e : Entry T) (h : Hold T) → Becomes (h ∷ v.held) v.lent 0 (e ∷ []) v (after_claim e h v)
    claim_becomes e h = record { same = (refl, refl, refl); knows = ((λ j s. s), (λ j s. s), (λ q. q)); holds = refl; loan = refl; spent = omega arith; trail = refl }

    lend_becomes : (k : ℕ) → Becomes v.held (Some k) 0 (Lends k 3 true ∷ []) v (after_lend k v)
    lend_becomes k = record { same = (refl, refl, refl); knows = ((λ j s. s), (λ j s. inr s), (λ q. q)); holds = refl; loan = refl; spent = omega arith; trail = refl }

    give_becomes : (k : ℕ) → Becomes v.held None 0 (GivesBack k ∷ []) v (after_give_back k v)
    give_becomes k = record { same = (refl, refl, refl); knows = ((λ j s. s), (λ j s. s), (λ q. q)); holds = refl; loan = refl; spent = omega arith; trail = refl }

    settle_becomes : (k steps : ℕ) → Becomes (without k v.held) v.lent steps (Settles k ∷ []) v (after_settle k steps v)
    settle_becomes k steps = record { same = (refl, refl, refl); knows = ((λ j s. s), (λ j s. inr s), (λ q. q)); holds = refl; loan = refl; spent = refl; trail = refl }

    park_becomes : (k word : ℕ) (t : T) (steps : ℕ) → Becomes (without k v.held) v.lent steps (Parks k word t ∷ []) v (after_park k word t steps v)
    park_becomes k word t steps = record { same = (refl, refl, refl); knows = ((λ j s. s), (λ j s. s), (λ q. q)); holds = refl; loan = refl; spent = refl; trail = refl }

  -- a view that is another
  at : (held : List (Hold T)) (lent : Option ℕ) (steps : ℕ) (part : List (Entry T)) (v u w : View X T) → w ≡ u → Becomes held lent steps part v u → Becomes held lent steps part v w
  at held lent steps part v u w e b = subst (λ (x : View X T). Becomes held lent steps part v x) (sym e) b

  -- Looks, and exchanges that are lost
  module _ (e : Entry T) (k r : ℕ) (v w : View X T) (is : w ≡ after_look e k r v) where
    pub looks : Becomes v.held v.lent 0 (e ∷ []) v w
    looks = at v.held v.lent 0 (e ∷ []) v (after_look e k r v) w is (look_becomes v e k r)

    pub sees_settled : IsSettledWord r → IsAmong k w.seen
    sees_settled h = subst (λ (x : View X T). IsAmong k x.seen) (sym is) (saw_it k r v.seen h)

  -- the stop word
  pub looks_at_stop : (r : ℕ) (v w : View X T) → w ≡ after_stop_look r v → Becomes v.held v.lent 0 (LooksAtStop r ∷ []) v w × (r ≡ 1 → w.saw_stop ≡ true) × SawNoneMore v w
  looks_at_stop r v w is = (
    at v.held v.lent 0 (LooksAtStop r ∷ []) v (after_stop_look r v) w is (stop_look_becomes v r),
    (λ e. ap (λ x. x.saw_stop) is ∙ ap (λ b. b || v.saw_stop) (same_yes r 1 e)),
    λ p. ap (λ x. last_unsettled p x.trail) is ∙ last_more p v.trail (LooksAtStop r),
  )

module _ {X T O : Type 0} (m : Meant T O) (k : ℕ) (v w : View X T) where
  -- the view after a look of the claim
  abbrev seen_at : ℕ → ℕ → View X T → View X T
  seen_at j r u = after_look (Looks j r) j r u

  -- a claim that is won
  pub claim_starts : ClaimSays m k v Start w → Becomes (fresh_hold k ∷ v.held) v.lent 0 (Looks k 0 ∷ ClaimsFresh k 0 true ∷ []) v w × IsAmong k w.begun × (last_unsettled k w.trail ≡ None)
  claim_starts h = let u = seen_at k 0 v in (
    at (fresh_hold k ∷ v.held) v.lent 0 (Looks k 0 ∷ ClaimsFresh k 0 true ∷ []) v (after_start k u) w h
        (then_more (fresh_hold k ∷ v.held) v.lent 0 (Looks k 0 ∷ []) (ClaimsFresh k 0 true ∷ []) v u (after_start k u) (look_becomes v (Looks k 0) k 0) (start_becomes u k)),
    subst (λ (x : View X T). IsAmong k x.begun) (sym h) (inl refl),
    ap (λ x. last_unsettled k x.trail) h ∙ (last_more k u.trail (ClaimsFresh k 0 true) ∙ ap (λ b. if b then None else last_unsettled k u.trail) (same_yes k k refl)),
  )

  pub claim_resumes : (t : T) (h : ClaimSays m k v (Resume t) w) → let on = next_read m k (m.taken t) in
      Becomes (task_hold k t ∷ v.held) v.lent 0 (Looks k (8 + on) ∷ Looks on h.1 ∷ ClaimsParked k (8 + on) true ∷ []) v w × IsAmong on w.seen × (last_unsettled k w.trail ≡ None)
  claim_resumes t h = let on = next_read m k (m.taken t) in let e = ClaimsParked k (8 + on) true in let held = task_hold k t ∷ v.held in let a = seen_at k (8 + on) v in let b = seen_at on h.1 a in let z = after_claim e (task_hold k t) b in (
    at held v.lent 0 (Looks k (8 + on) ∷ Looks on h.1 ∷ e ∷ []) v z w h.3
        (then_more held v.lent 0 (Looks k (8 + on) ∷ []) (Looks on h.1 ∷ e ∷ []) v a z (look_becomes v (Looks k (8 + on)) k (8 + on))
        (then_more held v.lent 0 (Looks on h.1 ∷ []) (e ∷ []) a b z (look_becomes a (Looks on h.1) on h.1) (claim_becomes b e (task_hold k t)))),
    subst (λ (x : View X T). IsAmong on x.seen) (sym h.3) (saw_it on h.1 a.seen h.2),
    ap (λ x. last_unsettled k x.trail) h.3 ∙ (last_more k b.trail e ∙ ap (λ c. if c then None else last_unsettled k b.trail) (same_yes k k refl)),
  )

  -- a claim that is turned away, with the steps by which it was
  abbrev pub Turned : Type 0
  Turned = (part : List (Entry T)) × Becomes v.held v.lent 0 part v w × TurnsAway k part

  pub claim_not_now : (r : ℕ) → ClaimSays m k v (NotNow r) w → Turned
  claim_not_now r (z, inl h) = (Looks k r ∷ [], looks (Looks k r) k r v w h.0, ⊎_elim (λ (e : r ≡ 1). by_hold (ap (λ x. Looks k x ∷ []) e)) (λ (d : IsSettledWord r). by_outcome r d refl) h.1)
  claim_not_now r (z, inr (inl h)) = let u = seen_at k 0 v in let e = ClaimsFresh k r false in
      (Looks k 0 ∷ e ∷ [], then_more v.held v.lent 0 (Looks k 0 ∷ []) (e ∷ []) v u w (look_becomes v (Looks k 0) k 0) (looks e k r u w h.0), by_rival r h.1 refl)
  claim_not_now r (z, inr (inr h)) = let on = h.0 in let found = h.1 in let e = ClaimsParked k r false in let a = seen_at k (8 + on) v in let b = seen_at on found a in (
    Looks k (8 + on) ∷ Looks on found ∷ e ∷ [],
    then_more v.held v.lent 0 (Looks k (8 + on) ∷ []) (Looks on found ∷ e ∷ []) v a w (look_becomes v (Looks k (8 + on)) k (8 + on))
        (then_more v.held v.lent 0 (Looks on found ∷ []) (e ∷ []) a b w (look_becomes a (Looks on found) on found) (looks e k r b w h.2)),
    by_rival_resume on found r h.3 h.4 refl,
  )

  pub claim_still : (on : PieceNo) (found : ℕ) → ClaimSays m k v (StillParked on found) w → Turned
  claim_still on found h = let a = seen_at k (8 + on.0) v in (
    Looks k (8 + on.0) ∷ Looks on.0 found ∷ [],
    then_more v.held v.lent 0 (Looks k (8 + on.0) ∷ []) (Looks on.0 found ∷ []) v a w (look_becomes v (Looks k (8 + on.0)) k (8 + on.0)) (looks (Looks on.0 found) on.0 found a w h.0),
    by_park on.0 found h.1 h.2 h.3 refl,
  )

  -- loans
  pub lend_gets : (o : O) → LendSays m k v (Got o) w → Becomes v.held (Some k) 0 (Lends k 3 true ∷ []) v w × IsAmong k w.seen × SawNoneMore v w
  lend_gets o h = (
    at v.held (Some k) 0 (Lends k 3 true ∷ []) v (after_lend k v) w h.1 (lend_becomes v k),
    subst (λ (x : View X T). IsAmong k x.seen) (sym h.1) (inl refl),
    λ p. ap (λ x. last_unsettled p x.trail) h.1 ∙ last_more p v.trail (Lends k 3 true),
  )

  pub lend_open : (r : ℕ) → LendSays m k v (NotSettled r) w → Becomes v.held v.lent 0 (Lends k r false ∷ []) v w × SawUnsettled k w × ¬ Knows m k v
  lend_open r h = let e = Lends k r false in (
    looks e k r v w h.0,
    (λ p. ap (λ x. last_unsettled p x.trail) h.0 ∙ (last_more p v.trail e ∙ unless_open k r (last_unsettled p v.trail) (not_settled 3 (omega arith) (omega arith)) (not_settled 4 (omega arith) (omega arith)))),
    h.3,
  )
    where
      not_settled : (n : ℕ) → 3 ≤ n → n < 8 → r ≢ n
      not_settled n a b e = ⊎_elim (λ (l : r < 3). omega arith) (λ (l : 8 ≤ r). omega arith) h.1

  pub lend_busy : (r : ℕ) → LendSays m k v (Busy r) w → Becomes v.held v.lent 0 (Lends k 4 false ∷ []) v w × IsAmong k w.seen
  lend_busy r h = (looks (Lends k 4 false) k 4 v w h.1, sees_settled (Lends k 4 false) k 4 v w h.1 (inr refl))

module _ {X T : Type 0} (k : ℕ) (v w : View X T) where
  pub gives : w ≡ after_give_back k v → Becomes v.held None 0 (GivesBack k ∷ []) v w × SawNoneMore v w
  gives is = (at v.held None 0 (GivesBack k ∷ []) v (after_give_back k v) w is (give_becomes v k), λ p. ap (λ x. last_unsettled p x.trail) is ∙ last_more p v.trail (GivesBack k))

  -- the ends of a hold
  pub settles : (steps : ℕ) → w ≡ after_settle k steps v → Becomes (without k v.held) v.lent steps (Settles k ∷ []) v w × IsAmong k w.seen × SawNoneMore v w
  settles steps is = (
    at (without k v.held) v.lent steps (Settles k ∷ []) v (after_settle k steps v) w is (settle_becomes v k steps),
    subst (λ (x : View X T). IsAmong k x.seen) (sym is) (inl refl),
    λ p. ap (λ x. last_unsettled p x.trail) is ∙ last_more p v.trail (Settles k),
  )

  pub parks : (word : ℕ) (t : T) (steps : ℕ) → w ≡ after_park k word t steps v → Becomes (without k v.held) v.lent steps (Parks k word t ∷ []) v w × SawNoneMore v w
  parks word t steps is = (
    at (without k v.held) v.lent steps (Parks k word t ∷ []) v (after_park k word t steps v) w is (park_becomes v k word t steps),
    λ p. ap (λ x. last_unsettled p x.trail) is ∙ last_more p v.trail (Parks k word t),
  )

-- the holds of a view
pub held_first : {T : Type 0} (h : Hold T) (hs held : List (Hold T)) (k : ℕ) → held ≡ h ∷ hs → h.piece ≡ k → hold_on k held ≡ Some h
held_first h hs held k is e = ap (hold_on k) is ∙ hold_here h hs k e

pub held_some : {T : Type 0} (h : Hold T) (k : ℕ) (held : List (Hold T)) → hold_on k held ≡ Some h → IsSome (hold_on k held)
held_some h k held e = ap is_some e

pub one_hold : {T : Type 0} (h g : Hold T) (k : ℕ) (held : List (Hold T)) → hold_on k held ≡ Some h → hold_on k held ≡ Some g → h ≡ g
one_hold h g k held a b = let e : Some h ≡ Some g = sym a ∙ b in cc

pub none_left : {T : Type 0} (h : Hold T) (k : ℕ) → h.piece ≡ k → without k (h ∷ []) ≡ []
none_left h k e = ap (λ b. if b then [] else h ∷ []) (same_yes h.piece k e)

-- what a view knows to be settled it still knows where it sees no less and keeps its holds
pub knows_stays : {X T O : Type 0} (m : Meant T O) (v w : View X T) → ((j : ℕ) → IsAmong j v.seen → IsAmong j w.seen)
    → ((p : ℕ) (h : Hold T) → hold_on p v.held ≡ Some h → hold_on p w.held ≡ Some h) → (j : ℕ) → Knows m j v → Knows m j w
knows_stays m v w grows keeps j (inl h) = inl (grows j h)
knows_stays m v w grows keeps j (inr t) = inr (t.0, t.1, t.2, keeps t.0 t.2 t.3, t.4, t.5)

-- The reads of a task
module _ {X T O : Type 0} (m : Meant T O) (k n : ℕ) (v : View X T) where
  -- a hold knows that the reads are settled which its task had taken
  pub knows_taken : (h : Hold T) → hold_on k v.held ≡ Some h → n < taken_at m h.claimed → Knows m (next_read m k n) v
  knows_taken h has l = inr (k, n, h, has, l, refl)

  -- all that a task took are among the pieces that the seat saw settled
  pub seen_all : ((i : ℕ) → i < n → IsAmong (next_read m k i) v.seen) → HasSeen m k n v
  seen_all all h has i l = inr (all i l)

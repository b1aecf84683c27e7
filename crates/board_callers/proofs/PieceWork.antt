-- The work on one piece: what the seat holds, and what its task has taken.
use Rattle.std.proofs.Common.{◌≡◌, ◌≢◌, ℕ, suc, ◌+◌, ◌<◌, ◌≤◌, List, [], ◌∷◌, ◌++◌, length, length-append, append_assoc, append-nil, sym, refl, ap, ◌∙◌, subst, arith, inl, inr, ⊎_elim, Option, None, Some, IsSome, Result, Ok, Err, OnErr}
use mathlib.Core.Logic.{dite}
use native.Mathlib.Decide.{dec_lt}
use Rattle.cxx_base.specs.declared.number.PieceNo.{PieceNo}
use Rattle.settle_core.specs.Meant.{Meant, Lawful, outcome, reads}
use Rattle.settle_core.specs.declared.next_of.NextOf.{NextOf}
use Rattle.settle_core.specs.declared.next_of.NextOf.TheVariants.{Read, Ends}
use Rattle.settle_core.specs.Next.{firsts, IsNext}
use Rattle.settle_core.proofs.Tasks.{front_more, next_cases, reads_if, ends_if}
use Rattle.settle_core.proofs.Options.{read_is_no_end}
use Rattle.board_rule.specs.Maps.{IsAmong}
use Rattle.board_rule.specs.Standing.{next_read, steps_at, taken_at}
use Rattle.board_rule.specs.Views.{hold_on, without, Knows}
use Rattle.board_rule.specs.declared.view.Hold.{Hold}
use Rattle.board_rule.specs.declared.view.View.{View}
use Rattle.board_rule.specs.Plays.{CanPark}
use Rattle.board_rule.specs.declared.view.Entry.{Entry}
use Rattle.board_rule.specs.declared.view.Entry.TheVariants.{Settles, Parks}
use Rattle.board_rule.proofs.Maps.{by_same}
use Rattle.settle_board.specs.Boards.{IsIdle, HasSeen}
use Rattle.settle_board.specs.Changes.{Becomes}
use Rattle.settle_board.proofs.Callers.{held_first, held_some, one_hold, none_left, knows_taken, seen_all}
use Rattle.piece_search.specs.TurnParts.{SeesUnsettled, ParksOn}
use Rattle.piece_search.proofs.TurnParts.{within_itself, within_right, unsettled_left, unsettled_right}
use Rattle.board_callers.specs.Holding.{HoldsOnly, HasTaken, IsClaimedFor, Grows, WorkSays}

-- the seat holds what it held, has nothing lent, and knows of each piece that it saw settled
abbrev pub IsSameHand : {X T : Type 0} → View X T → View X T → Type 0
IsSameHand v w = (w.held ≡ v.held) × (w.lent ≡ None) × ((i : ℕ) → IsAmong i v.seen → IsAmong i w.seen)

pub same_hand : {X T : Type 0} (v w : View X T) (part : List (Entry T)) → Becomes v.held None 0 part v w → IsSameHand v w
same_hand v w part b = (b.holds, b.loan, b.knows.1)

-- the trail, as it grows
module _ {X T : Type 0} where
  pub grows_none : (v : View X T) → Grows v v
  grows_none v = ([], sym (append-nil v.trail))

  pub grows_more : (u v w : View X T) (part : List (Entry T)) → Grows u v → w.trail ≡ v.trail ++ part → Grows u w
  grows_more u v w part g e = (g.0 ++ part, e ∙ (ap (λ t. t ++ part) g.1 ∙ append_assoc u.trail g.0 part))

abbrev pub hold_of : {T : Type 0} → ℕ → Option T → Hold T
hold_of k claimed = record { piece = k; claimed = claimed }

module _ {X T : Type 0} (k : ℕ) (claimed : Option T) where
  module _ (v : View X T) (holds : HoldsOnly k claimed v) where
    pub its_hold : hold_on k v.held ≡ Some (hold_of k claimed)
    its_hold = held_first (hold_of k claimed) [] v.held k holds.0 refl

    pub has_hold : IsSome (hold_on k v.held)
    has_hold = held_some (hold_of k claimed) k v.held its_hold

    -- it is settled, or parked
    pub lets_go : (w : View X T) (steps : ℕ) (part : List (Entry T)) → Becomes (without k v.held) v.lent steps part v w → IsIdle w
    lets_go w steps part b = (b.holds ∙ (ap (without k) holds.0 ∙ none_left (hold_of k claimed) k refl), b.loan ∙ holds.1)

    pub still_holds : (w : View X T) → IsSameHand v w → HoldsOnly k claimed w
    still_holds w s = (s.0 ∙ holds.0, s.1)

  -- it was got
  pub now_holds : (v w : View X T) (part : List (Entry T)) → IsIdle v → Becomes (hold_of k claimed ∷ v.held) v.lent 0 part v w → HoldsOnly k claimed w
  now_holds v w part idle b = (b.holds ∙ ap (λ hs. hold_of k claimed ∷ hs) idle.0, b.loan ∙ idle.1)

pub still_idle : {X T : Type 0} (v w : View X T) (part : List (Entry T)) → IsIdle v → Becomes v.held v.lent 0 part v w → IsIdle w
still_idle v w part idle b = (b.holds ∙ idle.0, b.loan ∙ idle.1)

module _ {X T O : Type 0} (m : Meant T O) (k : ℕ) where
  pub nothing_taken : (v : View X T) → HasTaken m k [] v
  nothing_taken v = record { within = omega arith; prefix = refl; seen = λ i l. absurd (omega arith) }

  pub taken_same : (taken more : List (ℕ × O)) (v w : View X T) → more ≡ taken → IsSameHand v w → HasTaken m k taken v → HasTaken m k more w
  taken_same taken more v w e s t = subst (λ (x : List (ℕ × O)). HasTaken m k x w) (sym e) record { within = t.within; prefix = t.prefix; seen = λ i l. s.2 (next_read m k i) (t.seen i l) }

  module _ (lawful : Lawful m) (next : ℕ → List (ℕ × O) → NextOf O) (law : IsNext m next) (inside : k < m.pieces) (taken : List (ℕ × O)) (v : View X T) (t : HasTaken m k taken v) where
    abbrev n : ℕ
    n = length taken

    module _ (j : PieceNo) (e : next k taken ≡ Read j) where
      pub is_next : (j.0 ≡ next_read m k n) × (n < length (reads m k))
      is_next = reads_if m k taken n t.within t.prefix next law inside j e

      pub next_inside : j.0 < m.pieces
      next_inside = let r = is_next in let q = r.0 in let b = lawful.below k n inside r.1 in omega arith

      -- it takes the outcome
      pub takes_it : (more : List (ℕ × O)) (w : View X T) → more ≡ taken ++ (j.0, outcome m j.0) ∷ [] → IsSameHand v w → IsAmong j.0 w.seen → HasTaken m k more w
      takes_it more w push s sees = let r = is_next in let longer : length more ≡ n + 1 = ap length push ∙ length-append taken ((j.0, outcome m j.0) ∷ []) in let few = r.1 in record {
        within = omega arith;
        prefix = push ∙ ((λ i. taken ++ (r.0 i, outcome m (r.0 i)) ∷ []) ∙ (front_more m k taken n t.within t.prefix r.1 ∙ (let q : suc n ≡ length more = omega arith in ap (firsts m k) q)));
        seen = λ i l. by_same i n (λ (q : i ≡ n). subst (λ (z : ℕ). IsAmong z w.seen) (r.0 ∙ ap (next_read m k) (sym q)) sees) (λ (d : i ≢ n). s.2 (next_read m k i) (t.seen i (omega arith)));
      }

      -- It parks: the task that was claimed had taken no more
      pub claimed_few : (claimed : Option T) → HoldsOnly k claimed v → ¬ Knows m j.0 v → taken_at m claimed ≤ n
      claimed_few claimed holds unknown = dite (dec_lt n (taken_at m claimed))
          (λ (l : n < taken_at m claimed). absurd (unknown (subst (λ (z : ℕ). Knows m z v) (sym is_next.0) (knows_taken m k n v (hold_of k claimed) (its_hold k claimed v holds) l))))
          (λ (l : n < taken_at m claimed → ⊥). omega arith)

    -- it ends
    pub ends_all : (o : O) → next k taken ≡ Ends o → n ≡ length (reads m k)
    ends_all o e = ⊎_elim (λ r. absurd (read_is_no_end (record { 0 = next_read m k n }) o (sym r.0 ∙ e))) (λ r. r.1) (next_cases m k taken n t.within t.prefix next law inside)

    pub is_outcome : (o : O) → next k taken ≡ Ends o → o ≡ outcome m k
    is_outcome o e = ends_if m k taken n t.within t.prefix next law inside o e

    pub saw_all : (o : O) → next k taken ≡ Ends o → HasSeen m k (length (reads m k)) v
    saw_all o e = subst (λ (i : ℕ). HasSeen m k i v) (ends_all o e) (seen_all m k n v t.seen)

  -- a task that goes on from the one that was claimed
  pub goes_further : (claimed : Option T) (task : T) (v : View X T) → HoldsOnly k claimed v → taken_at m claimed ≤ m.taken task → steps_at m claimed ≤ m.task_steps task
      → (g : Hold T) → hold_on k v.held ≡ Some g → (taken_at m g.claimed ≤ m.taken task) × (steps_at m g.claimed ≤ m.task_steps task)
  goes_further claimed task v holds a b g has = subst (λ (x : Hold T). (taken_at m x.claimed ≤ m.taken task) × (steps_at m x.claimed ≤ m.task_steps task))
      (one_hold (hold_of k claimed) g k v.held (its_hold k claimed v holds) has) (a, b)

  pub saw_taken : (taken : List (ℕ × O)) (n : ℕ) (v : View X T) → n ≡ length taken → HasTaken m k taken v → HasSeen m k n v
  saw_taken taken n v e t = subst (λ (i : ℕ). HasSeen m k i v) (sym e) (seen_all m k (length taken) v t.seen)

-- what holds whatever was answered holds of an error
pub on_error : {A E : Type 0} (P : Type 0) (r : Result A E) → P → OnErr r P
on_error P (Ok a) h = tt
on_error P (Err e) h = h

-- what is known by the meaning of the board is known by an equal one
module _ {X T O : Type 0} (meant : X → Meant T O) where
  pub is_claimed_at : (k : ℕ) (claimed : Option T) (x y : X) → x ≡ y → IsClaimedFor (meant y) k claimed → IsClaimedFor (meant x) k claimed
  is_claimed_at k claimed x y e h = subst (λ (z : X). IsClaimedFor (meant z) k claimed) (sym e) h

  pub few_at : (claimed : Option T) (x y : X) → x ≡ y → (n count : ℕ) → n ≡ count → taken_at (meant y) claimed ≤ n → taken_at (meant x) claimed ≤ count
  few_at claimed x y e n count q h = subst (λ (z : X). taken_at (meant z) claimed ≤ count) (sym e) (omega arith)

  pub taken_count : (t : T) (x y : X) → x ≡ y → (n : ℕ) → (meant x).taken t ≡ n → (meant y).taken t ≡ n
  taken_count t x y e n h = subst (λ (z : X). (meant z).taken t ≡ n) e h

-- what the work on a piece came to
module _ {X T O : Type 0} (m : Meant T O) (k : ℕ) where
  pub says_settled : (u v w : View X T) (held : List (Hold T)) (lent : Option ℕ) (steps : ℕ) → Grows u v → Becomes held lent steps (Settles k ∷ []) v w → IsIdle w → WorkSays m k u w
  unfolding grows_more
  says_settled u v w held lent steps g b idle = let part = Settles k ∷ [] in let more = grows_more u v w part g b.trail in (idle, more.0, more.1, inl (within_right part g.0 part (within_itself part)))

  pub says_parked : (u v x w : View X T) (q : List (Entry T)) (on : ℕ) (t : T) (held : List (Hold T)) (lent : Option ℕ) (steps : ℕ) → on ≡ next_read m k (m.taken t)
      → Grows u v → SeesUnsettled on q → Becomes v.held None 0 q v x → Becomes held lent steps (Parks k (8 + on) t ∷ []) x w → CanPark m k t → ((i : ℕ) → i < m.taken t → IsAmong (next_read m k i) x.seen)
      → IsIdle w → WorkSays m k u w
  unfolding grows_more
  says_parked u v x w q on t held lent steps e g sees b d can seen idle = let part = Parks k (8 + on) t ∷ [] in let a = grows_more u v x q g b.trail in let more = grows_more u x w part a d.trail in (
    idle,
    more.0,
    more.1,
    inr (
      t,
      can,
      subst (λ (z : ℕ). ParksOn k z t more.0) e (within_right part a.0 part (within_itself part)),
      subst (λ (z : ℕ). SeesUnsettled z more.0) e (unsettled_left on a.0 part (unsettled_right on g.0 q sees)),
      λ i l. d.knows.1 (next_read m k i) (seen i l),
    ),
  )

  -- it began later
  pub says_later : (u v w : View X T) (p : List (Entry T)) → v.trail ≡ u.trail ++ p → WorkSays m k v w → WorkSays m k u w
  says_later u v w p e h = let q = h.1 in (
    h.0,
    p ++ q,
    h.2 ∙ (ap (λ t. t ++ q) e ∙ append_assoc u.trail p q),
    ⊎_elim (λ s. inl (within_right (Settles k ∷ []) p q s))
        (λ s. let on = next_read m k (m.taken s.0) in inr (s.0, s.1, within_right (Parks k (8 + on) s.0 ∷ []) p q s.2, unsettled_right on p q s.3, s.4)) h.3,
  )

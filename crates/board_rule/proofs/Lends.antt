-- The exchanges that bring a slot to hand with what is in it: the claim of a parked piece, and a loan.
use Rattle.std.proofs.Common.{◌≡◌, ◌≢◌, ℕ, ◌-◌, ◌<◌, ◌≤◌, List, [], ◌∷◌, get_or, set, sym, refl, ap, ◌∙◌, subst, arith, true, false, Some, None, length-set, get_or-set_same, get_or-set_other, if◌then◌else◌, ◌==◌}
use mathlib.Core.Option.{some, none}
use lib.ListN.{get_elem?}
use prog.Atomic.{either}
use Rattle.atomic_table.specs.Table.{State, step, Act, keeps, takes, stepped, Allows, carried_after, Valid}
use Rattle.atomic_table.proofs.Lists.{exchanged, set_here, set_else}
use Rattle.settle_core.specs.Meant.{Meant, Lawful, outcome}
use Rattle.settle_core.specs.declared.core_step.CoreStep.TheVariants.{Resume}
use Rattle.board_rule.specs.Maps.{IsAmong}
use Rattle.board_rule.specs.Stages.{ended}
use Rattle.board_rule.specs.Standing.{held, parked, settled, lent, IsSettled, IsBegun, held_by, lent_to, next_read, word_of, home_of, stage_of, IsSound}
use Rattle.board_rule.specs.Views.{task_hold, after_look, after_claim, after_lend, with_hand}
use Rattle.board_rule.specs.Rule.{OneState}
use Rattle.board_rule.specs.Plays.{gets_task, resume_tells, lend_tells}
use Rattle.board_rule.specs.declared.home.Home.{Home}
use Rattle.board_rule.specs.declared.home.Home.TheVariants.{Task, Outcome}
use Rattle.board_rule.specs.declared.view.Key.{Key}
use Rattle.board_rule.specs.declared.view.View.{View}
use Rattle.board_rule.specs.declared.view.Entry.TheVariants.{ClaimsParked, Lends}
use Rattle.board_rule.proofs.Maps.{same_yes, same_no, hold_here, hold_else, at_length}
use Rattle.board_rule.proofs.Standings.{settled_word, parked_word, settled_ended, none_but}
use Rattle.board_rule.proofs.Machine.{resumed as resumes_by, still}
use Rattle.board_rule.proofs.Moves.{Change, tells_nothing, tells_one, moves, sees}
use Rattle.board_rule.proofs.Knowing.{one_key, found_word, found_told}
use Rattle.board_rule.proofs.Sights.{sight}

module _ {X T O : Type 0} (meant : X → Meant T O) (key : Key X) (lawful : Lawful (meant key.meaning)) (id k : ℕ) (v : View X T) (inside : k < (meant key.meaning).pieces) (some_share : 0 < v.share) (free : v.hand ≡ None) where
  abbrev m : Meant T O
  m = meant key.meaning

  pub task_won : (s : State (Home T O) (View X T)) (r : OneState meant key s) → get_elem? s.views id ≡ some v → (t : T) (word : ℕ) → r.at k ≡ parked t → IsAmong (next_read m k (m.taken t)) v.seen
      → Change meant key s r.at k id v (with_hand (Some k) (after_claim (ClaimsParked k word true) (task_hold k t) v)) (parked t) (held id (task_hold k t) true) (set s.words k 1) (set s.homes k none) (Resume (record { 0 = k }) id ∷ [])
  task_won s r seat t word was ready = let o = r.pieces k inside in let mine = r.views id v seat in
      let sound : IsSound m r.at k (parked t) = subst (IsSound m r.at k) was o.sound in record {
        was = was;
        inside = inside;
        seat = seat;
        words_long = length-set s.words k 1;
        word = get_or-set_same s.words k 1 0 (let l = r.wide in omega arith);
        words_else = λ j n. get_or-set_other s.words k j 1 0 n;
        homes_long = length-set s.homes k none;
        home = set_here s.homes k none (let l = r.deep in omega arith);
        homes_else = λ j n. set_else s.homes k j none n;
        sound = (sound.0, lawful.cheap k t inside sound.2, refl);
        others = λ j n. (ap (λ b. if b then Some (task_hold k t) else None) (same_no id j (λ q. n (sym q))), refl, same_no id j (λ q. n (sym q)));
        below = at_length s.views id v seat;
        held_here = hold_here (task_hold k t) v.held k refl ∙ sym (ap (λ b. if b then Some (task_hold k t) else None) (same_yes id id refl));
        held_else = λ j n. hold_else (task_hold k t) v.held j (λ q. n (sym q));
        lent_here = mine.loans k ∙ ap (lent_to id) was;
        lent_else = λ j n. refl;
        hand_here = same_yes k k refl ∙ sym (same_yes id id refl);
        hand_else = λ j n. none_but k j v.hand free n;
        seen = tells_nothing IsSettled k (parked t) (held id (task_hold k t) true) v.seen (λ z. z) (λ z. z);
        begun = tells_nothing IsBegun k (parked t) (held id (task_hold k t) true) v.begun (λ _. tt) (λ _. tt);
        marks = (refl, refl);
        leads = λ g q z. resumes_by m lawful k inside (λ j. stage_of m (r.at j)) g id (m.taken t) (m.advanced t) sound.1
            (settled_ended m k (r.at (next_read m k (m.taken t))) (mine.seen (next_read m k (m.taken t)) ready)) (ap (stage_of m) was) q z;
        share = (refl, some_share);
        spent = refl;
      }

  pub outcome_won : (s : State (Home T O) (View X T)) (r : OneState meant key s) → get_elem? s.views id ≡ some v → v.lent ≡ None → r.at k ≡ settled
      → Change meant key s r.at k id v (with_hand (Some k) (after_lend k v)) settled (lent id true) (set s.words k 4) (set s.homes k none) []
  outcome_won s r seat idle was = let o = r.pieces k inside in let mine = r.views id v seat in record {
    was = was;
    inside = inside;
    seat = seat;
    words_long = length-set s.words k 4;
    word = get_or-set_same s.words k 4 0 (let l = r.wide in omega arith);
    words_else = λ j n. get_or-set_other s.words k j 4 0 n;
    homes_long = length-set s.homes k none;
    home = set_here s.homes k none (let l = r.deep in omega arith);
    homes_else = λ j n. set_else s.homes k j none n;
    sound = tt;
    others = λ j n. (refl, same_no id j (λ q. n (sym q)), same_no id j (λ q. n (sym q)));
    below = at_length s.views id v seat;
    held_here = mine.holds k ∙ ap (held_by id) was;
    held_else = λ j n. refl;
    lent_here = same_yes k k refl ∙ sym (same_yes id id refl);
    lent_else = λ j n. none_but k j v.lent idle n;
    hand_here = same_yes k k refl ∙ sym (same_yes id id refl);
    hand_else = λ j n. none_but k j v.hand free n;
    seen = tells_one IsSettled k settled (lent id true) v.seen tt;
    begun = tells_nothing IsBegun k settled (lent id true) v.begun (λ _. tt) (λ _. tt);
    marks = (refl, refl);
    leads = λ g q z. still m (λ j. stage_of m (r.at j)) g k ended (ap (stage_of m) was) q z;
    share = (refl, some_share);
    spent = refl;
  }

  module _ (about : v.about ≡ Some key) (slots : ℕ) (c : List (ℕ × Home T O)) where
    -- the piece that the task waits for was seen settled
    pub claims_parked : (word : ℕ) → 8 ≤ word → IsAmong (word - 8) v.seen → Allows (OneState meant key) slots id (v, c) k (λ x. either (x == word) 1 x) (resume_tells meant (step slots k word 1 none) (v, c))
    claims_parked word large ready s r deep seat small = let f = get_or s.words k 0 in let o = r.pieces k inside in
        exchanged f word 1 (λ (x : ℕ). (w : View X T) × (a : Act (Home T O)) × Valid s.homes c a × OneState meant key (stepped s k x id c w a) × resume_tells meant (step slots k word 1 none) (v, c) f (w, carried_after c a))
        (λ (e : f ≡ word). let p = parked_word m k (r.at k) (subst (λ (z : ℕ). 8 ≤ z) (sym e ∙ o.word) large) in
        let t : T = p.0 in
        let sound : IsSound m r.at k (parked t) = subst (IsSound m r.at k) p.1 o.sound in
        let w : View X T = with_hand (Some k) (after_claim (ClaimsParked k f true) (task_hold k t) v) in (
          w,
          takes k (Task t),
          o.home ∙ ap (λ q. some (home_of m k q)) p.1,
          moves meant key s r k id v w (parked t) (held id (task_hold k t) true) (set s.words k 1) (set s.homes k none)
              (task_won s r seat t f p.1 (let q : word_of m k (parked t) ≡ word = ap (word_of m k) (sym p.1) ∙ (sym o.word ∙ e) in let z : word - 8 ≡ next_read m k (m.taken t) = omega arith in subst (λ (x : ℕ). IsAmong x v.seen) z ready)),
          (
            (λ _ x a. subst (λ (z : Key X). gets_task meant z k f (v, c) (w, (k, Task t) ∷ c)) (one_key v.about key x about a)
                (t, (sound.2, sound.1), sym (ap (word_of m k) p.1) ∙ sym o.word, refl)),
            (λ n. absurd (n e)),
            found_word meant key lawful s r k inside,
          ),
        ))
        (λ (n : f ≢ word). let w = after_look (ClaimsParked k f false) k f v in
        (w, keeps, tt, sees meant key s r id v w (set s.words k f) (sight meant key s r k id v (ClaimsParked k f false) inside some_share seat), ((λ e. absurd (n e)), (λ _. refl), found_word meant key lawful s r k inside)))

    pub lends : v.lent ≡ None → Allows (OneState meant key) slots id (v, c) k (λ x. either (x == 3) 4 x) (lend_tells meant (step slots k 3 4 none) (v, c))
    lends idle s r deep seat small = let f = get_or s.words k 0 in let o = r.pieces k inside in
        exchanged f 3 4 (λ (x : ℕ). (w : View X T) × (a : Act (Home T O)) × Valid s.homes c a × OneState meant key (stepped s k x id c w a) × lend_tells meant (step slots k 3 4 none) (v, c) f (w, carried_after c a))
        (λ (e : f ≡ 3). let was : r.at k ≡ settled = settled_word m k (r.at k) (sym o.word ∙ e) in
        let w : View X T = with_hand (Some k) (after_lend k v) in (
          w,
          takes k (Outcome (outcome m k)),
          o.home ∙ ap (λ q. some (home_of m k q)) was,
          moves meant key s r k id v w settled (lent id true) (set s.words k 4) (set s.homes k none) (outcome_won s r seat idle was),
          ((λ _ x a. (let q : key ≡ x = one_key v.about key x about a in λ i. (w, (k, Outcome (outcome (meant (q i).meaning) k)) ∷ c))), (λ n. absurd (n e)), found_told meant key s r id k v seat lawful inside about),
        ))
        (λ (n : f ≢ 3). let w = after_look (Lends k f false) k f v in
        (w, keeps, tt, sees meant key s r id v w (set s.words k f) (sight meant key s r k id v (Lends k f false) inside some_share seat), ((λ e. absurd (n e)), (λ _. refl), found_told meant key s r id k v seat lawful inside about)))

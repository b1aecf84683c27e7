-- The claim of a fresh piece.
use Rattle.std.proofs.Common.{◌≡◌, ◌≢◌, ℕ, ◌<◌, [], ◌∷◌, get_or, set, sym, refl, ap, ◌∙◌, arith, false, Some, None, length-set, get_or-set_same, get_or-set_other, if◌then◌else◌, ◌==◌}
use mathlib.Core.Option.{some, none}
use lib.ListN.{get_elem?}
use prog.Atomic.{either}
use Rattle.atomic_table.specs.Table.{State, Me, step, Act, keeps, stepped, Allows, carried_after, Valid}
use Rattle.atomic_table.proofs.Lists.{exchanged}
use Rattle.settle_core.specs.Meant.{Meant, Lawful}
use Rattle.settle_core.specs.declared.core_step.CoreStep.TheVariants.{Claim}
use Rattle.board_rule.specs.Standing.{fresh, held, IsSettled, IsBegun, lent_to, in_hand_of, home_of, stage_of}
use Rattle.board_rule.specs.Views.{fresh_hold, after_look, after_start}
use Rattle.board_rule.specs.Rule.{OneState}
use Rattle.board_rule.specs.Plays.{start_tells}
use Rattle.board_rule.specs.declared.home.Home.{Home}
use Rattle.board_rule.specs.declared.view.Key.{Key}
use Rattle.board_rule.specs.declared.view.View.{View}
use Rattle.board_rule.specs.declared.view.Entry.TheVariants.{ClaimsFresh}
use Rattle.board_rule.proofs.Maps.{same_yes, same_no, hold_here, hold_else, at_length}
use Rattle.board_rule.proofs.Standings.{fresh_word}
use Rattle.board_rule.proofs.Machine.{claimed}
use Rattle.board_rule.proofs.Moves.{Change, tells_nothing, tells_one, moves, sees}
use Rattle.board_rule.proofs.Knowing.{found_word}
use Rattle.board_rule.proofs.Sights.{sight}

module _ {X T O : Type 0} (meant : X → Meant T O) (key : Key X) (lawful : Lawful (meant key.meaning)) (slots id k : ℕ) (me : Me (Home T O) (View X T)) (inside : k < (meant key.meaning).pieces) (some_share : 0 < me.0.share) where
  abbrev m : Meant T O
  m = meant key.meaning

  pub won : (s : State (Home T O) (View X T)) (r : OneState meant key s) → get_elem? s.views id ≡ some me.0 → get_or s.words k 0 ≡ 0
      → Change meant key s r.at k id me.0 (after_start k me.0) fresh (held id (fresh_hold k) false) (set s.words k 1) s.homes (Claim (record { 0 = k }) id ∷ [])
  won s r seat found = let o = r.pieces k inside in let was : r.at k ≡ fresh = fresh_word m k (r.at k) (sym o.word ∙ found) in let mine = r.views id me.0 seat in record {
    was = was;
    inside = inside;
    seat = seat;
    words_long = length-set s.words k 1;
    word = get_or-set_same s.words k 1 0 (let l = r.wide in omega arith);
    words_else = λ j n. get_or-set_other s.words k j 1 0 n;
    homes_long = refl;
    home = o.home ∙ ap (λ p. some (home_of m k p)) was;
    homes_else = λ j n. refl;
    sound = (record { within = omega arith; taken = λ i l. absurd (omega arith); marked = λ l. refl }, omega arith, refl);
    others = λ j n. (ap (λ b. if b then Some (fresh_hold k) else None) (same_no id j (λ e. n (sym e))), refl, refl);
    below = at_length s.views id me.0 seat;
    held_here = hold_here (fresh_hold k) me.0.held k refl ∙ sym (ap (λ b. if b then Some (fresh_hold k) else None) (same_yes id id refl));
    held_else = λ j n. hold_else (fresh_hold k) me.0.held j (λ e. n (sym e));
    lent_here = mine.loans k ∙ ap (lent_to id) was;
    lent_else = λ j n. refl;
    hand_here = mine.hands k ∙ ap (in_hand_of id) was;
    hand_else = λ j n. refl;
    seen = tells_nothing IsSettled k fresh (held id (fresh_hold k) false) me.0.seen (λ h. h) (λ h. h);
    begun = tells_one IsBegun k fresh (held id (fresh_hold k) false) me.0.begun tt;
    marks = (refl, refl);
    share = (refl, some_share);
    leads = λ g e h. claimed m lawful k inside (λ j. stage_of m (r.at j)) g id (ap (stage_of m) was) e h;
    spent = refl;
  }

  pub claims_fresh : Allows (OneState meant key) slots id me k (λ x. either (x == 0) 1 x) (start_tells (step slots k 0 1 none) me)
  claims_fresh s r deep seat small = let f = get_or s.words k 0 in
      exchanged f 0 1 (λ (x : ℕ). (w : View X T) × (a : Act (Home T O)) × Valid s.homes me.1 a × OneState meant key (stepped s k x id me.1 w a) × start_tells (step slots k 0 1 none) me f (w, carried_after me.1 a))
      (λ (e : f ≡ 0). let w = after_start k me.0 in
      (w, keeps, tt, moves meant key s r k id me.0 w fresh (held id (fresh_hold k) false) (set s.words k 1) s.homes (won s r seat e), ((λ _. refl), (λ n. absurd (n e)), found_word meant key lawful s r k inside)))
      (λ (n : f ≢ 0). let w = after_look (ClaimsFresh k f false) k f me.0 in
      (w, keeps, tt, sees meant key s r id me.0 w (set s.words k f) (sight meant key s r k id me.0 (ClaimsFresh k f false) inside some_share seat), ((λ e. absurd (n e)), (λ _. refl), found_word meant key lawful s r k inside)))

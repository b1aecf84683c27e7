-- The rule holds of a new board, and still where a seat is cut in two or two are joined.
use Rattle.std.proofs.Common.{◌≡◌, ◌≢◌, ℕ, zero, suc, ◌+◌, ◌<◌, List, [], ◌∷◌, ◌++◌, length, get_or, set, sym, refl, ap, ◌∙◌, subst, arith, Bool, true, false, ◌||◌, replicate, map, ⊎_elim, None, length-set, length-append, add-zero}
use mathlib.Core.Option.{some, some-ne-none}
use lib.ListN.{get_elem?, length-replicate, get_or-replicate, length-map}
use Rattle.atomic_table.specs.Table.{State, Splits, Joins, opening}
use Rattle.atomic_table.proofs.Lists.{set_else, at_set}
use Rattle.settle_core.specs.Meant.{Meant}
use Rattle.board_rule.specs.Maps.{is_it, IsAmong}
use Rattle.board_rule.specs.Stages.{untouched, LeadsBy}
use Rattle.board_rule.specs.Standing.{fresh, SeatBelow, stage_of}
use Rattle.board_rule.specs.Views.{hold_on, first_view, with_less, newcomer, joined, gone}
use Rattle.board_rule.specs.Rule.{ViewFits, OneState}
use Rattle.board_rule.specs.declared.home.Home.{Home}
use Rattle.board_rule.specs.declared.home.Home.TheVariants.{Empty}
use Rattle.board_rule.specs.declared.view.Key.{Key}
use Rattle.board_rule.specs.declared.view.View.{View}
use Rattle.board_rule.proofs.Maps.{total_set, total_push, at_end, some_kept, some_longer, some_joined, seat_grows, among_either, among_left, among_right, sum_of_none}
use Rattle.board_rule.proofs.Machine.{nothing_done}
use Rattle.board_rule.proofs.Standings.{beyond_seats}

module _ {X T O : Type 0} (meant : X → Meant T O) (key : Key X) where
  abbrev m : Meant T O
  m = meant key.meaning

  pub cuts : (id : ℕ) (v : View X T) → 1 < v.share → Splits (OneState meant key) id v (with_less v) (newcomer v)
  cuts id v two s r seat = let o = r.views id v seat in let stop : ℕ = get_or s.words m.pieces 0 in
      let views' : List (View X T) = set s.views id (with_less v) in record {
        at = r.at;
        wide = r.wide;
        deep = r.deep;
        pieces = r.pieces;
        beyond = r.beyond;
        reached = r.reached;
        seated = λ k. seat_grows (r.at k) (length s.views) (length (views' ++ newcomer v ∷ [])) (omega (arith, length-append views' (newcomer v ∷ []), length-set s.views id (with_less v))) (r.seated k);
        stop = r.stop;
        views = λ j u e. ⊎_elim (λ (t : get_elem? views' j ≡ some u).
            ⊎_elim (λ (q : (j ≡ id) × (with_less v ≡ u)). subst (λ (z : ℕ × View X T). ViewFits r.at stop z.0 z.1) (λ i. (sym q.0 i, q.1 i))
            record { holds = o.holds; loans = o.loans; hands = o.hands; seen = o.seen; begun = o.begun; stopped = o.stopped; saw_stop = o.saw_stop; idle = λ z. absurd (omega arith) })
            (λ (q : (j ≢ id) × (get_elem? s.views j ≡ some u)). r.views j u q.1) (at_set s.views id j (with_less v) u t))
            (λ (t : (j ≡ length views') × (newcomer v ≡ u)). subst (λ (z : ℕ × View X T). ViewFits r.at stop z.0 z.1) (λ i. (sym (t.0 ∙ length-set s.views id (with_less v)) i, t.1 i)) record {
              holds = λ k. sym (beyond_seats (length s.views) (r.at k) (r.seated k)).0;
              loans = λ k. sym (beyond_seats (length s.views) (r.at k) (r.seated k)).1;
              hands = λ k. sym (beyond_seats (length s.views) (r.at k) (r.seated k)).2;
              seen = λ k h. absurd h;
              begun = λ k h. absurd h;
              stopped = λ z. absurd cc;
              saw_stop = λ z. absurd cc;
              idle = λ z. absurd (omega arith);
            }) (at_end views' (newcomer v) u j e);
        told = λ k h. some_longer (λ (z : View X T). IsAmong k z.seen) views' (newcomer v ∷ []) (some_kept (λ (z : View X T). IsAmong k z.seen) s.views id v (with_less v) seat (λ q. q) (r.told k h));
        begun = λ k h. some_longer (λ (z : View X T). IsAmong k z.begun) views' (newcomer v ∷ []) (some_kept (λ (z : View X T). IsAmong k z.begun) s.views id v (with_less v) seat (λ q. q) (r.begun k h));
        set_by = λ h. some_longer (λ (z : View X T). z.stopped ≡ true) views' (newcomer v ∷ []) (some_kept (λ (z : View X T). z.stopped ≡ true) s.views id v (with_less v) seat (λ q. q) (r.set_by h));
        shares = (let a = total_set (λ (z : View X T). z.share) s.views id v (with_less v) seat in let b = total_push (λ (z : View X T). z.share) views' (newcomer v) in let d = r.shares in omega arith);
        spent = (let a = total_set (λ (z : View X T). z.spent) s.views id v (with_less v) seat in let b = total_push (λ (z : View X T). z.spent) views' (newcomer v) in let d = r.spent in omega arith);
      }

  pub cuts_by : (id : ℕ) (v : View X T) (two : 1 < v.share) (s : State (Home T O) (View X T)) (r : OneState meant key s) (seat : get_elem? s.views id ≡ some v)
      → LeadsBy m [] (λ k. stage_of m (r.at k)) (λ k. stage_of m ((cuts id v two s r seat).at k))
  unfolding cuts
  cuts_by id v two s r seat next law = refl

  -- A seat may only be joined to another once it has let go of all pieces, loans and slots
  pub joins : (id other : ℕ) (v w : View X T) → 0 < v.share → 0 < w.share → w.held ≡ [] → w.lent ≡ None → w.hand ≡ None → Joins (OneState meant key) id v other w (joined v w) gone
  joins id other v w some_share other_share none_held none_lent no_hand s r seat apart seat' = let o = r.views id v seat in let stop : ℕ = get_or s.words m.pieces 0 in
      let views' : List (View X T) = set s.views id (joined v w) in
      let was : get_elem? s.views other ≡ some w = sym (set_else s.views id other (joined v w) apart) ∙ seat' in let q = r.views other w was in record {
        at = r.at;
        wide = r.wide;
        deep = r.deep;
        pieces = r.pieces;
        beyond = r.beyond;
        reached = r.reached;
        seated = λ k. subst (λ (n : ℕ). SeatBelow n (r.at k)) (sym (length-set views' other gone ∙ length-set s.views id (joined v w))) (r.seated k);
        stop = r.stop;
        views = λ j u e. ⊎_elim (λ (t : (j ≡ other) × (gone ≡ u)). subst (λ (z : ℕ × View X T). ViewFits r.at stop z.0 z.1) (λ i. (sym t.0 i, t.1 i)) record {
          holds = λ k. ap (hold_on k) (sym none_held) ∙ q.holds k;
          loans = λ k. ap (λ z. is_it z k) (sym none_lent) ∙ q.loans k;
          hands = λ k. ap (λ z. is_it z k) (sym no_hand) ∙ q.hands k;
          seen = λ k h. absurd h;
          begun = λ k h. absurd h;
          stopped = λ z. absurd cc;
          saw_stop = λ z. absurd cc;
          idle = λ _. (refl, refl, refl, refl, refl, refl, refl, refl, refl);
        })
            (λ (t : (j ≢ other) × (get_elem? views' j ≡ some u)).
            ⊎_elim (λ (z : (j ≡ id) × (joined v w ≡ u)). subst (λ (z : ℕ × View X T). ViewFits r.at stop z.0 z.1) (λ i. (sym z.0 i, z.1 i)) record {
              holds = o.holds;
              loans = o.loans;
              hands = o.hands;
              seen = λ k h. ⊎_elim (q.seen k) (o.seen k) (among_either k w.seen v.seen h);
              begun = λ k h. ⊎_elim (q.begun k) (o.begun k) (among_either k w.begun v.begun h);
              stopped = λ e. one_of v.stopped w.stopped stop o.stopped q.stopped e;
              saw_stop = λ e. one_of v.saw_stop w.saw_stop stop o.saw_stop q.saw_stop e;
              idle = λ e. absurd (omega arith);
            })
            (λ (z : (j ≢ id) × (get_elem? s.views j ≡ some u)). r.views j u z.1) (at_set s.views id j (joined v w) u t.1)) (at_set views' other j gone u e);
        told = λ k h. some_joined (λ (z : View X T). IsAmong k z.seen) s.views id other v w (joined v w) gone apart seat was (among_right k w.seen v.seen) (among_left k w.seen v.seen) (r.told k h);
        begun = λ k h. some_joined (λ (z : View X T). IsAmong k z.begun) s.views id other v w (joined v w) gone apart seat was (among_right k w.begun v.begun) (among_left k w.begun v.begun) (r.begun k h);
        set_by = λ h. some_joined (λ (z : View X T). z.stopped ≡ true) s.views id other v w (joined v w) gone apart seat was (left_true v.stopped w.stopped) (right_true v.stopped w.stopped) (r.set_by h);
        shares = (let a = total_set (λ (z : View X T). z.share) s.views id v (joined v w) seat in let b = total_set (λ (z : View X T). z.share) views' other w gone seat' in let d = r.shares in omega arith);
        spent = (let a = total_set (λ (z : View X T). z.spent) s.views id v (joined v w) seat in let b = total_set (λ (z : View X T). z.spent) views' other w gone seat' in let d = r.spent in omega arith);
      }
    where
      left_true : (a b : Bool) → a ≡ true → (a || b) ≡ true
      left_true true b e = refl
      left_true false b e = absurd cc

      right_true : (a b : Bool) → b ≡ true → (a || b) ≡ true
      right_true true b e = refl
      right_true false b e = e

      one_of : (a b : Bool) (stop : ℕ) → (a ≡ true → stop ≡ 1) → (b ≡ true → stop ≡ 1) → (a || b) ≡ true → stop ≡ 1
      one_of true b stop f g e = f refl
      one_of false b stop f g e = g e

  pub joins_by : (id other : ℕ) (v w : View X T) (a : 0 < v.share) (b : 0 < w.share) (c : w.held ≡ []) (d : w.lent ≡ None) (e : w.hand ≡ None) (s : State (Home T O) (View X T)) (r : OneState meant key s)
      (seat : get_elem? s.views id ≡ some v) (apart : other ≢ id) (seat' : get_elem? (set s.views id (joined v w)) other ≡ some w)
      → LeadsBy m [] (λ k. stage_of m (r.at k)) (λ k. stage_of m ((joins id other v w a b c d e s r seat apart seat').at k))
  unfolding joins
  joins_by id other v w a b c d e s r seat apart seat' next law = refl

  -- a new board: every piece is fresh, and the stop word is not set
  pub opens : (words : List ℕ) (homes : List (Home T O)) → words ≡ replicate (m.pieces + 1) 0 → homes ≡ replicate m.pieces Empty → 0 < key.seats → OneState meant key (opening words homes (first_view key))
  opens words homes w h some_seat = record {
    at = λ _. fresh;
    wide = ap length w ∙ length-replicate (m.pieces + 1) 0;
    deep = length-map homes some ∙ (ap length h ∙ length-replicate m.pieces Empty);
    pieces = λ k l. record { word = ap (λ z. get_or z k 0) w ∙ get_or-replicate (m.pieces + 1) k 0 0 (omega arith); home = subst (λ (z : List (Home T O)). get_elem? (map some z) k ≡ some (some Empty)) (sym h) (vacant Empty m.pieces k l); sound = tt };
    beyond = λ k l. refl;
    reached = nothing_done m (λ _. untouched) (λ k. refl);
    seated = λ k. tt;
    stop = (let a = unset in omega arith);
    views = λ j u e. ⊎_elim (λ (t : get_elem? [] j ≡ some u). absurd (nothing j u t)) (λ (t : (j ≡ 0) × (first_view key ≡ u)). subst (λ (z : View X T). ViewFits {T = T} (λ _. fresh) (get_or words m.pieces 0) j z) t.1 record {
      holds = λ k. refl;
      loans = λ k. refl;
      hands = λ k. refl;
      seen = λ k z. absurd z;
      begun = λ k z. absurd z;
      stopped = λ z. absurd cc;
      saw_stop = λ z. absurd cc;
      idle = λ z. absurd (omega arith);
    }) (at_end [] (first_view key) u j e);
    told = λ k h. absurd h;
    begun = λ k h. absurd h;
    set_by = λ e. absurd (let a = unset in omega arith);
    shares = add-zero key.seats;
    spent = sym (sum_of_none m.pieces);
  }
    where
      unset : get_or words m.pieces 0 ≡ 0
      unset = ap (λ z. get_or z m.pieces 0) w ∙ get_or-replicate (m.pieces + 1) m.pieces 0 0 (omega arith)

      nothing : (j : ℕ) (u : View X T) → get_elem? [] j ≡ some u → ⊥
      nothing j u e = some-ne-none u (sym e)

      vacant : (y : Home T O) (n k : ℕ) → k < n → get_elem? (map some (replicate n y)) k ≡ some (some y)
      vacant y zero k l = absurd (omega arith)
      vacant y (suc n) zero l = refl
      vacant y (suc n) (suc k) l = vacant y n k (omega arith)

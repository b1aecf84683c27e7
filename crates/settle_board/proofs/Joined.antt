-- How `close` gets from its list of seats to one seat, and what that seat tells of the words and slots.
use Rattle.std.proofs.Common.{None, true, ◌≡◌, ◌≢◌, ◌⊎◌, ◌↔◌, ℕ, zero, suc, ◌+◌, ◌<◌, ◌≤◌, List, [], ◌∷◌, ◌++◌, length, get_or, sym, refl, ap, ◌∙◌, subst, arith, inl, inr, ⊎_elim, length-append}
use mathlib.Core.Option.{some, some-ne-none, some-injective}
use lib.ListN.{get_elem?}
use Rattle.atomic_table.specs.declared.shared.Seat.{Seat}
use Rattle.atomic_table.specs.Table.{Joins, Final, Seen}
use Rattle.atomic_table.proofs.Lists.{at_longer, at_last, at_snoc}
use Rattle.settle_core.specs.Meant.{Meant, Lawful, outcomes_below, outcome}
use Rattle.settle_core.proofs.Folds.{fold_length, fold_at}
use Rattle.board_rule.specs.Maps.{IsAmong, HasSome}
use Rattle.board_rule.specs.Standing.{IsSettled, word_of}
use Rattle.board_rule.specs.Views.{joined, gone}
use Rattle.board_rule.specs.Rule.{work, OneState}
use Rattle.board_rule.specs.declared.home.Home.{Home}
use Rattle.board_rule.specs.declared.home.Home.TheVariants.{Outcome}
use Rattle.board_rule.specs.declared.view.Key.{Key}
use Rattle.board_rule.specs.declared.view.View.{View}
use Rattle.board_rule.proofs.Maps.{among_either, among_left, among_right, some_longer, total_push}
use Rattle.board_rule.proofs.Seats.{joins}
use Rattle.board_rule.proofs.Closing.{seen_home, seen_here, settled_home, open_word, all_spent}
use Rattle.settle_board.specs.Boards.{IsIdle, are_idle, view_of, IsOfBy}
use Rattle.settle_board.specs.Seating.{AreOf, AreBack, Gathered, SeenBy, BegunBy, StandsWith, spent_by}
use Rattle.settle_board.specs.Homes.{IsHome}
use Rattle.settle_board.specs.declared.board.Board.{Board}
use Rattle.settle_board.specs.declared.board.BoardSeat.{BoardSeat}
use Rattle.settle_board.proofs.Taking.{IsOut}
use Rattle.settle_board.proofs.SeatLists.{each_idle}

module _ {A : Type 0} where
  pub elem_or : (l : List A) (k : ℕ) (x d : A) → get_elem? l k ≡ some x → get_or l k d ≡ x
  elem_or [] k x d e = absurd (some-ne-none x (sym e))
  elem_or (y ∷ ys) zero x d e = some-injective y x e
  elem_or (y ∷ ys) (suc k) x d e = elem_or ys k x d e

  -- lists of one length with the same elements
  pub lists_same : (xs ys : List A) → length xs ≡ length ys → ((k : ℕ) (d : A) → k < length ys → get_or xs k d ≡ get_or ys k d) → xs ≡ ys
  lists_same [] [] e h = refl
  lists_same [] (y ∷ ys) e h = absurd (omega arith)
  lists_same (x ∷ xs) [] e h = absurd (omega arith)
  lists_same (x ∷ xs) (y ∷ ys) e h = λ i. h 0 x (omega arith) i ∷ lists_same xs ys (omega arith) (λ k d l. h (suc k) d (omega arith)) i

-- seats of the board that are idle
pub all_back : {X T O : Type 0} (meant : X → Meant T O) (b : Board X T O) (seats : List (BoardSeat X T O)) → AreOf meant b seats → are_idle seats ≡ true → AreBack meant b seats
all_back meant b seats of idle i s e = (of i s e, each_idle seats idle i s e)

pub both : {A B C : Type 0} → A ↔ B → B ↔ C → A ↔ C
both f g = ((λ a. g.0 (f.0 a)), (λ c. f.1 (g.1 c)))

module _ {X T O : Type 0} where
  -- no seat is left that could know it
  pub none_left : {P : Type 0} (f : View X T → List ℕ) (k : ℕ) (known : List ℕ) (seats : List (BoardSeat X T O)) → length seats ≡ 0
      → (IsAmong k known ⊎ HasSome (λ (x : BoardSeat X T O). IsAmong k (f (view_of x))) seats) ↔ P → IsAmong k known ↔ P
  none_left {P} f k known [] e h = (
    (λ a. h.0 (inl a)),
    (λ p. ⊎_elim (λ (a : IsAmong k known). a) (λ (a : HasSome (λ (x : BoardSeat X T O). IsAmong k (f (view_of x))) []). absurd (some-ne-none a.1 (sym a.2))) (h.1 p)),
  )
  none_left {P} f k known (s ∷ ss) e h = absurd (omega arith)

  -- a list of seats without its last one
  module _ (seats seats' : List (BoardSeat X T O)) (s : BoardSeat X T O) (e : seats ≡ seats' ++ s ∷ []) where
    pub last_spent : spent_by seats ≡ spent_by seats' + (view_of s).spent
    last_spent = ap spent_by e ∙ total_push (λ (x : BoardSeat X T O). (view_of x).spent) seats' s

    pub last_length : length seats ≡ length seats' + 1
    last_length = ap length e ∙ length-append seats' (s ∷ [])

    -- What the seats know, by what each seat knows: it is the same whether the last one is counted with them, or its list is put before old
    module _ (f : View X T → List ℕ) (k : ℕ) where
      abbrev By : List (BoardSeat X T O) → Type 0
      By l = HasSome (λ (x : BoardSeat X T O). IsAmong k (f (view_of x))) l

      by_last : By seats ↔ (By seats' ⊎ IsAmong k (f (view_of s)))
      by_last = (
        (λ h. ⊎_elim (λ (q : get_elem? seats' h.0 ≡ some h.1). inl (h.0, h.1, q, h.3)) (λ (q : s ≡ h.1). inr (subst (λ (x : BoardSeat X T O). IsAmong k (f (view_of x))) (sym q) h.3))
            (at_snoc seats' s h.1 h.0 (ap (λ l. get_elem? l h.0) (sym e) ∙ h.2))),
        (λ h. subst By (sym e) (⊎_elim (λ (q : By seats'). some_longer (λ (x : BoardSeat X T O). IsAmong k (f (view_of x))) seats' (s ∷ []) q)
            (λ (q : IsAmong k (f (view_of s))). (length seats', s, at_last seats' s (length seats') refl, q)) h)),
      )

      pub by_joined : (old new : List ℕ) → new ≡ f (view_of s) ++ old → (IsAmong k new ⊎ By seats') ↔ (IsAmong k old ⊎ By seats)
      by_joined old new is = (
        (λ h. ⊎_elim (λ (q : IsAmong k new). ⊎_elim (λ (x : IsAmong k (f (view_of s))). inr (by_last.1 (inr x))) (λ (x : IsAmong k old). inl x) (among_either k (f (view_of s)) old (subst (IsAmong k) is q)))
            (λ (q : By seats'). inr (by_last.1 (inl q))) h),
        (λ h. ⊎_elim (λ (q : IsAmong k old). inl (subst (IsAmong k) (sym is) (among_right k (f (view_of s)) old q)))
            (λ (q : By seats). ⊎_elim (λ (x : By seats'). inr x) (λ (x : IsAmong k (f (view_of s))). inl (subst (IsAmong k) (sym is) (among_left k (f (view_of s)) old x))) (by_last.0 q)) h),
      )

      -- the last seat took over what the others knew
      pub by_all : (all : List ℕ) → IsAmong k all ↔ (IsAmong k (f (view_of s)) ⊎ By seats') → IsAmong k all ↔ By seats
      by_all all h = (
        (λ q. by_last.1 (⊎_elim (λ (x : IsAmong k (f (view_of s))). inr x) (λ (x : By seats'). inl x) (h.0 q))),
        (λ q. h.1 (⊎_elim (λ (x : By seats'). inr x) (λ (x : IsAmong k (f (view_of s))). inl x) (by_last.0 q))),
      )

    pub last_back : (meant : X → Meant T O) (b : Board X T O) → AreBack meant b seats → IsOfBy meant b s × IsIdle (view_of s)
    last_back meant b all = all (length seats') s (ap (λ l. get_elem? l (length seats')) e ∙ at_last seats' s (length seats') refl)

    pub rest_back : (meant : X → Meant T O) (b : Board X T O) → AreBack meant b seats → AreBack meant b seats'
    rest_back meant b all i t g = all i t (ap (λ l. get_elem? l i) e ∙ at_longer seats' (s ∷ []) i t g)

module _ {X T O : Type 0} (meant : X → Meant T O) (b : Board X T O) where
  abbrev m : Meant T O
  m = meant b.key.meaning

  abbrev Gathers : ℕ → Seat (Home T O) (View X T) → Type 0
  Gathers n s = Gathered m b.table.shared.table_id b.key n s

  abbrev pub IsBack : BoardSeat X T O → Type 0
  IsBack s = IsOfBy meant b s × IsIdle (view_of s)

  pub gathered_one : (s : BoardSeat X T O) → IsBack s → Gathers 1 s.seat
  gathered_one s h = record { words = h.0.words; slots = h.0.slots; at = h.0.at; share = h.0.share; some_share = omega arith; held = h.1.0; lent = h.1.1; hand = h.0.hand; bare = h.0.bare }

  module _ (n : ℕ) (s : Seat (Home T O) (View X T)) (g : Gathers n s) (o : BoardSeat X T O) (h : IsBack o) where
    pub gathered_more : (t : Seat (Home T O) (View X T)) → t.table_id ≡ s.table_id → t.me ≡ (joined s.me.0 (view_of o), s.me.1) → Gathers t.me.0.share t
    gathered_more t at me = let share : t.me.0.share ≡ s.me.0.share + (view_of o).share = ap (λ x. x.0.share) me in record {
      words = g.words;
      slots = g.slots;
      at = at ∙ g.at;
      share = refl;
      some_share = (let a = g.share in let q = g.some_share in omega arith);
      held = ap (λ x. x.0.held) me ∙ g.held;
      lent = ap (λ x. x.0.lent) me ∙ g.lent;
      hand = ap (λ x. x.0.hand) me ∙ g.hand;
      bare = ap (λ x. x.1) me ∙ g.bare;
    }

    pub may_join : (s.table_id ≡ b.table.shared.table_id) × (o.seat.table_id ≡ b.table.shared.table_id) × (o.seat.me.1 ≡ []) × (0 < b.table.shared.table_id.words)
        × Joins (OneState meant b.table.shared.key) s.id s.me.0 o.seat.id (view_of o) (joined s.me.0 (view_of o)) gone
    may_join = (
      g.at,
      h.0.at,
      h.0.bare,
      (let w = g.words in omega arith),
      subst (λ (x : Key X). Joins (OneState meant x) s.id s.me.0 o.seat.id (view_of o) (joined s.me.0 (view_of o)) gone) (sym b.keyed)
          (joins meant b.key s.id o.seat.id s.me.0 (view_of o) (let a = g.share in let q = g.some_share in omega arith) (let a = h.0.share in omega arith) h.1.0 h.1.1 h.0.hand),
    )

  -- a closed table, by the view of the seat that took in all others
  module _ (lawful : Lawful m) (id : ℕ) (v : View X T) (words : List ℕ) (slots : List (Home T O)) (f : Final (Seen (OneState meant b.table.shared.key) id v) words slots)
      (share : v.share ≡ b.key.seats) (held : v.held ≡ []) (lent : v.lent ≡ None) where
    rule : OneState meant b.key f.0
    rule = subst (λ (x : Key X). OneState meant x f.0) b.keyed f.1.0

    word : (k w : ℕ) → get_elem? words k ≡ some w → get_or f.0.words k 0 ≡ w
    word k w e = ap (λ l. get_or l k 0) f.2 ∙ elem_or words k w 0 e

    pub closed_home : (k : ℕ) → k < m.pieces → get_elem? words k ≡ some 3 → IsHome slots k (outcome m k)
    closed_home k l e = f.4 k (Outcome (outcome m k)) (settled_home meant b.key f.0 rule id v f.1.1 share held lent k l (word k 3 e)).1

    one_home : (k : ℕ) (o p : O) → IsHome slots k o → IsHome slots k p → o ≡ p
    one_home k o p x y = let q : some (Outcome o) ≡ some (Outcome p) = sym x ∙ y in cc

    -- what the contract of `close` says, by what is known of its inner call
    module _ (seats : List (BoardSeat X T O)) (one_each : v.share ≡ length seats) (spent : v.spent ≡ spent_by seats) (seen : (k : ℕ) → IsAmong k v.seen ↔ SeenBy k seats) (begun : (k : ℕ) → IsAmong k v.begun ↔ BegunBy k seats)
        (n : ℕ) (count : n ≡ m.pieces) where
      seen_settled : (k : ℕ) → k < n → get_elem? words k ≡ some 3 → SeenBy k seats
      seen_settled k l e = (seen k).0 (seen_here meant b.key f.0 rule id v f.1.1 share held lent k
          (subst IsSettled (sym (settled_home meant b.key f.0 rule id v f.1.1 share held lent k (let q = count in omega arith) (word k 3 e)).0) tt))

      pub all_out : (outcomes : List O) → length outcomes ≡ n → ((k : ℕ) → k < n → IsOut words slots outcomes k) → (outcomes ≡ outcomes_below m m.pieces) × (spent_by seats ≡ work m) × ((k : ℕ) → k < m.pieces → SeenBy k seats)
      all_out outcomes e h = (
        lists_same outcomes (outcomes_below m m.pieces) (e ∙ (count ∙ sym (fold_length m m.pieces)))
            (λ k d l. (let inside : k < m.pieces = subst (λ (z : ℕ). k < z) (fold_length m m.pieces) l in let q = h k (omega arith) in
            elem_or outcomes k q.1.0 d q.1.1 ∙ (one_home k q.1.0 (outcome m k) q.1.2 (closed_home k inside q.0) ∙ sym (fold_at m m.pieces k d inside)))),
        sym spent ∙ all_spent meant b.key f.0 rule id v f.1.1 share held lent (λ k l. word k 3 (h k (omega arith)).0),
        λ k l. seen_settled k (omega arith) (h k (omega arith)).0,
      )

      pub one_open : (k w : ℕ) → k < n → w ≢ 3 → get_elem? words k ≡ some w → ((j : ℕ) → j < k → get_elem? words j ≡ some 3)
          → ((k < m.pieces) × ((j : ℕ) → j < k → SeenBy j seats) × ¬ SeenBy k seats)
          × (((w ≡ 0) × ¬ BegunBy k seats) ⊎ ((8 ≤ w) × (w < 8 + k) × BegunBy k seats)) × StandsWith meant b seats k w
      one_open k w l d e before = let inside : k < m.pieces = omega arith in let is = word k w e in (
        (
          inside,
          (λ j h. seen_settled j (omega arith) (before j h)),
          (λ s. d (sym is ∙ ((rule.pieces k inside).word ∙ ap (word_of m k) (seen_home meant b.key f.0 rule id v f.1.1 share held lent k ((seen k).1 s))))),
        ),
        subst (λ (z : ℕ). ((z ≡ 0) × ¬ BegunBy k seats) ⊎ ((8 ≤ z) × (z < 8 + k) × BegunBy k seats)) is
            (⊎_elim (λ (h : (get_or f.0.words k 0 ≡ 0) × ¬ IsAmong k v.begun). inl (h.0, λ q. h.1 ((begun k).1 q)))
            (λ (h : (8 ≤ get_or f.0.words k 0) × (get_or f.0.words k 0 < 8 + k) × IsAmong k v.begun). inr (h.0, h.1, (begun k).0 h.2))
            (open_word meant b.key f.0 rule id v f.1.1 share held lent lawful k inside (λ q. d (sym is ∙ q)))),
        (f.0, id, v, rule, f.1.1, is, one_each, spent, seen, begun),
      )

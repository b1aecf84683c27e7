-- How one blank seat is cut into as many as are wanted.
use Rattle.std.proofs.Common.{◌≡◌, ℕ, ◌-◌, ◌<◌, List, [], ◌∷◌, ◌++◌, sym, ap, ◌∙◌, subst, arith, ⊎_elim}
use lib.ListN.{get_elem?}
use Rattle.atomic_table.specs.declared.shared.Seat.{Seat}
use Rattle.atomic_table.specs.Table.{Splits, Me}
use Rattle.atomic_table.proofs.Lists.{at_snoc}
use Rattle.settle_core.specs.Meant.{Meant}
use Rattle.board_rule.specs.Views.{with_less, newcomer}
use Rattle.board_rule.specs.Rule.{OneState}
use Rattle.board_rule.specs.declared.home.Home.{Home}
use Rattle.board_rule.specs.declared.view.Key.{Key}
use Rattle.board_rule.specs.declared.view.View.{View}
use Rattle.board_rule.proofs.Seats.{cuts}
use Rattle.settle_board.specs.Boards.{view_of, IsOfBy}
use Rattle.settle_board.specs.Seating.{blank, AreNew, Dealing}
use Rattle.settle_board.specs.declared.board.Board.{Board}
use Rattle.settle_board.specs.declared.board.BoardSeat.{BoardSeat}

module _ {T O X : Type 0} (meant : X → Meant T O) (b : Board X T O) where
  abbrev m : Meant T O
  m = meant b.key.meaning

  abbrev Deals : ℕ → Seat (Home T O) (View X T) → Type 0
  Deals n s = Dealing m b.table.shared.table_id b.key n s

  abbrev IsBlank : BoardSeat X T O → Type 0
  IsBlank s = IsOfBy meant b s × (view_of s ≡ blank b.key 1)

  pub new_more : (seats seats' : List (BoardSeat X T O)) (s : Seat (Home T O) (View X T)) → seats' ≡ seats ++ record { seat = s } ∷ [] → AreNew meant b seats → IsBlank record { seat = s } → AreNew meant b seats'
  new_more seats seats' s e all here i t g = ⊎_elim (all i t) (λ (q : record { seat = s } ≡ t). subst IsBlank q here) (at_snoc seats (record { seat = s }) t i (ap (λ l. get_elem? l i) (sym e) ∙ g))

  module _ (n : ℕ) (s : Seat (Home T O) (View X T)) (d : Deals n s) where
    is_blank : (t : Seat (Home T O) (View X T)) → t.table_id ≡ b.table.shared.table_id → t.me ≡ (blank b.key 1, []) → IsBlank record { seat = t }
    is_blank t at me = (
      record {
        words = d.words;
        slots = d.slots;
        at = at;
        about = ap (λ x. x.0.about) me;
        share = ap (λ x. x.0.share) me;
        hand = ap (λ x. x.0.hand) me;
        bare = ap (λ x. x.1) me;
      },
      ap (λ x. x.0) me,
    )

    pub deals_less : (t : Seat (Home T O) (View X T)) → t.table_id ≡ s.table_id → t.me ≡ (with_less s.me.0, s.me.1) → Deals (n - 1) t
    deals_less t at me = record { words = d.words; slots = d.slots; at = at ∙ d.at; me = me ∙ ap (λ (x : Me (Home T O) (View X T)). (with_less x.0, x.1)) d.me }

    pub newcomer_blank : (t : Seat (Home T O) (View X T)) → t.table_id ≡ s.table_id → t.me ≡ (newcomer s.me.0, []) → IsBlank record { seat = t }
    newcomer_blank t at me = is_blank t (at ∙ d.at) (me ∙ ap (λ (x : Me (Home T O) (View X T)). (newcomer x.0, [])) d.me)

    pub last_blank : n ≡ 1 → IsBlank record { seat = s }
    last_blank one = is_blank s d.at (d.me ∙ ap (λ (k : ℕ). (blank b.key k, [])) one)

    pub may_cut : 1 < n → (s.table_id ≡ b.table.shared.table_id) × (0 < b.table.shared.table_id.words) × Splits (OneState meant b.table.shared.key) s.id s.me.0 (with_less s.me.0) (newcomer s.me.0)
    may_cut two = (
      d.at,
      (let w = d.words in omega arith),
      subst (λ (x : Key X). Splits (OneState meant x) s.id s.me.0 (with_less s.me.0) (newcomer s.me.0)) (sym b.keyed)
          (cuts meant b.key s.id s.me.0 (let h : s.me.0.share ≡ n = ap (λ x. x.0.share) d.me in omega arith)),
    )

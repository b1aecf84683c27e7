-- Words that a seat may find, by what its view says.
use Rattle.std.proofs.Common.{◌≡◌, ℕ, ◌<◌, ◌≤◌, get_or, sym, ap, ◌∙◌, subst, inl, inr, ⊎_elim, Option, Some, None, lt_of_not-le}
use mathlib.Core.Option.{some}
use mathlib.Core.Logic.{dite}
use native.Mathlib.Decide.{dec_le}
use lib.ListN.{get_elem?}
use Rattle.atomic_table.specs.Table.{State}
use Rattle.settle_core.specs.Meant.{Meant, Lawful}
use Rattle.board_rule.specs.Standing.{held, IsSettled, held_by, word_of, IsSound}
use Rattle.board_rule.specs.Views.{hold_on, Knows}
use Rattle.board_rule.specs.Rule.{OneState}
use Rattle.board_rule.specs.Plays.{IsWordOf, IsTold}
use Rattle.board_rule.specs.declared.home.Home.{Home}
use Rattle.board_rule.specs.declared.view.Hold.{Hold}
use Rattle.board_rule.specs.declared.view.Key.{Key}
use Rattle.board_rule.specs.declared.view.View.{View}
use Rattle.board_rule.proofs.Standings.{held_view, settled_has, is_word}

-- a view's label names one key
pub one_key : {X : Type 0} (a : Option (Key X)) (key x : Key X) → a ≡ Some key → a ≡ Some x → key ≡ x
one_key a key x p q = let e : Some key ≡ Some x = sym p ∙ q in cc

module _ {X T O : Type 0} (meant : X → Meant T O) (key : Key X) where
  abbrev m : Meant T O
  m = meant key.meaning

  pub found_word : Lawful m → (s : State (Home T O) (View X T)) (r : OneState meant key s) (k : ℕ) → k < m.pieces → IsWordOf k (get_or s.words k 0)
  found_word lawful s r k inside = let o = r.pieces k inside in subst (IsWordOf k) (sym o.word) (is_word m k lawful inside r.at (r.at k) o.sound)

  module _ (s : State (Home T O) (View X T)) (r : OneState meant key s) (id k : ℕ) (v : View X T) (seat : get_elem? s.views id ≡ some v) where
    held_inside : (p : ℕ) (h : Hold T) → hold_on p v.held ≡ Some h → p < m.pieces
    held_inside p h e = dite (dec_le m.pieces p)
        (λ (l : m.pieces ≤ p). (let q : None ≡ Some h = sym (ap (held_by id) (r.beyond p l)) ∙ (sym ((r.views id v seat).holds p) ∙ e) in absurd cc))
        (λ (n : m.pieces ≤ p → ⊥). lt_of_not-le n)

    pub known_settled : Knows m k v → IsSettled (r.at k)
    known_settled (inl h) = (r.views id v seat).seen k h
    known_settled (inr t) = let p = t.0 in let h = t.2 in
        let q = held_view id (r.at p) h (sym ((r.views id v seat).holds p) ∙ t.3) in
        let sound : IsSound m r.at p (held id h q.0) = subst (IsSound m r.at p) q.1 (r.pieces p (held_inside p h t.3)).sound in
        subst (λ (z : ℕ). IsSettled (r.at z)) t.5 (sound.0.taken t.1 t.4)

    pub found_told : Lawful m → k < m.pieces → v.about ≡ Some key → IsTold meant k v (get_or s.words k 0)
    found_told lawful inside about = let o = r.pieces k inside in (
      found_word lawful s r k inside,
      λ x a h. ⊎_elim (λ (e : word_of m k (r.at k) ≡ 3). inl (o.word ∙ e)) (λ (e : word_of m k (r.at k) ≡ 4). inr (o.word ∙ e))
          (settled_has m k (r.at k) (known_settled (subst (λ (z : Key X). Knows (meant z.meaning) k v) (sym (one_key v.about key x about a)) h))),
    )

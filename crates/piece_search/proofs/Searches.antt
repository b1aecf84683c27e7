-- A search, one piece further.
use Rattle.std.proofs.Common.{◌≡◌, ℕ, ◌+◌, List, [], ◌∷◌, ◌++◌, refl, sym, ap, ◌∙◌, subst, arith, append-nil}
use Rattle.board_rule.specs.declared.view.Hold.{Hold}
use Rattle.board_rule.specs.declared.view.View.{View}
use Rattle.board_rule.specs.declared.view.Entry.{Entry}
use Rattle.settle_board.specs.Changes.{Becomes, TurnsAway}
use Rattle.settle_board.proofs.Callers.{then_more}
use Rattle.piece_search.specs.TurnParts.{nth_from, Round, none, more}

module _ {X T : Type 0} (u v w : View X T) (tried steps : List (Entry T)) (b : Becomes u.held u.lent 0 tried u v) where
  pub gets : (h : Hold T) → Becomes (h ∷ v.held) v.lent 0 steps v w → Becomes (h ∷ u.held) u.lent 0 (tried ++ steps) u w
  gets h d = let x = then_more (h ∷ v.held) v.lent 0 tried steps u v w b d in
      record { same = x.same; knows = x.knows; holds = x.holds ∙ ap (λ hs. h ∷ hs) b.holds; loan = x.loan ∙ b.loan; spent = x.spent; trail = x.trail }

  goes_on : Becomes v.held v.lent 0 steps v w → Becomes u.held u.lent 0 (tried ++ steps) u w
  goes_on d = let x = then_more v.held v.lent 0 tried steps u v w b d in
      record { same = x.same; knows = x.knows; holds = x.holds ∙ b.holds; loan = x.loan ∙ b.loan; spent = x.spent; trail = x.trail }

-- at first none was tried
pub tried_none : {X T : Type 0} (pick n : ℕ) (u : View X T) → (part : List (Entry T)) × Round pick n 0 part × Becomes u.held u.lent 0 part u u
tried_none pick n u = ([], none, record { same = (refl, refl, refl); knows = ((λ j h. h), (λ j h. h), (λ q. q)); holds = refl; loan = refl; spent = omega arith; trail = sym (append-nil u.trail) })

-- so far no piece was to be had, and one more was not
pub tried_more : {X T : Type 0} (pick n i k : ℕ) → k ≡ nth_from pick n i → (u v w : View X T) (t : (part : List (Entry T)) × Round pick n i part × Becomes u.held u.lent 0 part u v)
    → (part : List (Entry T)) × Becomes v.held v.lent 0 part v w × TurnsAway k part → (part : List (Entry T)) × Round pick n (i + 1) part × Becomes u.held u.lent 0 part u w
tried_more pick n i k e u v w t d = (t.0 ++ d.0, more i t.0 d.0 t.1 (subst (λ (z : ℕ). TurnsAway z d.0) e d.2), goes_on u v w t.0 d.0 t.2 d.1)

-- How `Items<T>` holds values of `T`, so that `T` may hold an `Items` of itself: as a list of them.
use mathlib.Core.Path.{◌≡◌, refl, sym}
use mathlib.Core.List.{List, []}
use mathlib.Core.Former.{Former, this, list, via, children}
use base.Stored.{code_map}
use denote.RattleType.{RattleType}
use denote.HoleLaws.{Alike}
use denote.HolePlaces.{Recodes, struct_places, laid}
use denote.Hole.Carrier.{listed, list-listed}
use denote.Hole.Fix.{over}
use denote.Param.Weighed.{Weighed, w_list}
use denote.Model.Placed.{view_places}
use Rattle.std.specs.formers.vec.Vec as vec
use Rattle.std.specs.declared.alloc.Global.{Global}
use Rattle.std.specs.contracts.alloc.Global as heap
use Rattle.std.specs.contracts.impls.GlobalAllocator.TheImpl.{ghosts}
use Rattle.containers.specs.declared.items.Items.TheInside.{Inside}
use Rattle.containers.specs.declared.items.Items.TheView.{view, invariant}
use Rattle.containers.specs.contracts.items.Items as held
use Rattle.containers.specs.contracts.items.Items.TheInside as inside

-- The shape is that of a list.
abbrev pub the_former : Former {0} → Former {0}
the_former of = list of

abbrev pub the_weighed : {of : Former {0}} → Weighed of → Weighed (the_former of)
the_weighed weighed = w_list weighed

pub the_empty : List ⊥
the_empty = []

abbrev pub the_items : (X : Type 0) → List X → List X
the_items X xs = xs

pub the_items_listed : (X : Type 0) (xs : List X) → listed _ (children (the_former this) X xs) ≡ the_items X xs
the_items_listed X xs = list-listed X xs

-- The one field, a `Vec`.
abbrev field : Former {0}
field = via (vec.the_former this Global) Inside (λ X it. it.items) (λ X v. record { items = v }) (λ X it. refl) (λ X v. refl)

module _ (R S : RattleType) (to : R.Denot → S.Denot) where
  pub the_places : Alike R S to → Alike (held.the_row R) (held.the_row S) ((the_former this).map R.Denot S.Denot to)
  the_places alike = view_places field (list this) view (λ X Y k u. refl) (λ X u. refl) R.Denot S.Denot to (held.the_row R).coded (held.the_row S).coded
      (invariant R.Denot) (invariant S.Denot) (λ u p q. refl) (λ u p q. refl) (λ u e. tt) (λ u e. tt)
      (over (inside.the_row R)) (over (inside.the_row S))
      (struct_places (inside.the_type R) (inside.the_type S) (vec.mapped to, tt) _ (λ xs. refl) refl (laid _ _ _ (vec.the_places heap.the_row ghosts R S to alike), tt))

  pub the_codes_placed : Recodes R S to → Recodes (held.the_row R) (held.the_row S) ((the_former this).map R.Denot S.Denot to)
  the_codes_placed recodes xs = sym (code_map R.coded.code S.coded.code to (λ x. sym (recodes x)) xs)

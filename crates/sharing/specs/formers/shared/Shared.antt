-- How `Shared<T>` holds a value of `T`, so that `T` may hold a `Shared` of itself: as that one value.
use mathlib.Core.Path.{refl}
use mathlib.Core.Former.{Former, this, const, pair, via}
use base.Stored.{gnil}
use base.Fml.{ftrue}
use denote.RattleType.{RattleType}
use denote.Memory.{part_of}
use denote.RawPtr.{Ptr}
use denote.Sharing.{nothing}
use denote.HoleLaws.{Alike}
use denote.HolePlaces.{Recodes, struct_places, laid, one_value}
use denote.Hole.Fix.{over}
use denote.Param.Weighed.{Weighed}
use denote.Model.Placed.{view_places}
use Rattle.std.specs.declared.sync.Arc.{Arc}
use Rattle.std.specs.contracts.sync.Arc as arc
use Rattle.std.specs.declared.alloc.Global.{Global}
use Rattle.std.specs.contracts.alloc.Global as heap
use Rattle.std.specs.contracts.impls.GlobalAllocator.TheImpl.{ghosts}
use Rattle.sharing.specs.declared.shared.Shared.TheInside.{Inside}
use Rattle.sharing.specs.declared.shared.Shared.TheView.{view, invariant}
use Rattle.sharing.specs.contracts.shared.Shared as held
use Rattle.sharing.specs.contracts.shared.Shared.TheInside as inside

-- The shape is that of the value itself.
abbrev pub the_former : Former {0} → Former {0}
the_former of = of

abbrev pub the_weighed : {of : Former {0}} → Weighed of → Weighed (the_former of)
the_weighed weighed = weighed

-- The one field, an `Arc`: where the value lies, and the value.
abbrev field : Former {0}
field = via (pair (const Ptr) this) Inside (λ X b. (b.inner.ptr, b.inner.value))
    (λ X v. record { inner = record { ptr = v.0; value = v.1 } }) (λ X b. refl) (λ X v. refl)

abbrev with_value : {X Y : Type 0} → Arc X Global → Y → Arc Y Global
with_value b y = record { ptr = b.ptr; value = y }

abbrev arc_of : RattleType → RattleType
arc_of R = arc.the_row R heap.the_row ghosts

module _ (R S : RattleType) (to : R.Denot → S.Denot) where
  -- An `Arc` of a value lies as one of the value that it is mapped to.
  arc_places : Alike R S to → Alike (arc_of R) (arc_of S) (λ b. with_value b (to b.value))
  unfolding part_of
  arc_places alike = record {
    mir_same = λ i. (arc_of (one_value R (alike.mir_same i) (λ _. ftrue) (λ _ _. nothing) gnil)).mir;
    own_same = λ b i. (arc_of (one_value R (alike.mir_same i) (alike.own_same b.value i) (alike.shr_same b.value i) gnil)).own_val (with_value b tt);
    shr_same = λ b i. (arc_of (one_value R (alike.mir_same i) (alike.own_same b.value i) (alike.shr_same b.value i) gnil)).shr_at (with_value b tt);
  }

  pub the_places : Alike R S to → Alike (held.the_row R) (held.the_row S) ((the_former this).map R.Denot S.Denot to)
  the_places alike = view_places field this view (λ X Y k u. refl) (λ X u. refl) R.Denot S.Denot to (held.the_row R).coded (held.the_row S).coded
      (invariant R.Denot) (invariant S.Denot) (λ u p q. refl) (λ u p q. refl) (λ u e. tt) (λ u e. tt)
      (over (inside.the_row R)) (over (inside.the_row S))
      (struct_places (inside.the_type R) (inside.the_type S) ((λ b. with_value b (to b.value)), tt) _ (λ b. refl) refl (laid _ _ _ (arc_places alike), tt))

  pub the_codes_placed : Recodes R S to → Recodes (held.the_row R) (held.the_row S) ((the_former this).map R.Denot S.Denot to)
  the_codes_placed recodes b = recodes b

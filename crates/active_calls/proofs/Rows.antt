-- How calls begin and end, computed at a depth of two.
use Rattle.std.proofs.Common.{◌≡◌, ℕ, ◌<◌, ◌≤◌, List, [], ◌∷◌, Option, None, Some, Result, Ok, Err, refl, arith}
use Rattle.cxx_base.specs.declared.code.Code.TheVariants.{V13}
use Rattle.cxx_base.specs.declared.note.Note.{Note}
use Rattle.core_words.specs.declared.stop.CallStop.TheVariants.{Refused, Memory}
use Rattle.active_calls.specs.Entering.{Entered, Left, too_deep}

it_is_too_deep : too_deep ≡ record { code = V13; detail = 0 }
it_is_too_deep = refl

module _ (a b c : Note) where
  below_the_depth_it_begins : Entered {U = Unit {0}} 2 b (a ∷ []) (Ok tt) (b ∷ a ∷ [])
  below_the_depth_it_begins = (let below : 1 < 2 = omega arith in below, refl)

  below_the_depth_it_is_not_refused : Entered {U = Unit {0}} 2 b (a ∷ []) (Err (Refused too_deep)) (a ∷ []) → ⊥
  below_the_depth_it_is_not_refused h = let beyond : 2 ≤ 1 = h.0 in omega arith

  at_the_depth_it_does_not_begin : Entered {U = Unit {0}} 2 c (b ∷ a ∷ []) (Ok tt) (c ∷ b ∷ a ∷ []) → ⊥
  at_the_depth_it_does_not_begin h = let below : 2 < 2 = h.0 in omega arith

  at_the_depth_it_is_refused : Entered {U = Unit {0}} 2 c (b ∷ a ∷ []) (Err (Refused too_deep)) (b ∷ a ∷ [])
  at_the_depth_it_is_refused = (let beyond : 2 ≤ 2 = omega arith in beyond, refl, refl)

  without_memory_nothing_changes : Entered {U = Unit {0}} 2 b (a ∷ []) (Err Memory) (a ∷ [])
  without_memory_nothing_changes = refl

  the_innermost_ends : Left (b ∷ a ∷ []) (Some b.function) (a ∷ [])
  the_innermost_ends = (refl, refl)

  where_none_is_active_none_ends : Left [] None []
  where_none_is_active_none_ends = (refl, refl)

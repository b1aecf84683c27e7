-- One step of the loop over the parts.
use Rattle.std.proofs.Common.{◌≡◌, ◌≢◌, ℕ, suc, ◌+◌, ◌<◌, ◌≤◌, max, List, [], ◌∷◌, ◌++◌, length, get_or, set, take, drop, append_assoc, length-set, get_or-set_other, drop-cons, arith, ap, sym, ◌∙◌}
use Rattle.std.proofs.lemmas.List.{take_more_set, drop-set-lt}
use Rattle.class_layout.specs.declared.part.Part.{Part}
use Rattle.class_layout.specs.Arrangement.{begin_of, end_of, placed, last_end, greatest_align, IsPart}

-- the part at the index, and the others behind it
front : (parts : List Part) (i : ℕ) (d : Part) → i < length parts → drop i parts ≡ get_or parts i d ∷ drop (i + 1) parts
front parts i d within =
    let next : suc i ≡ i + 1 = omega arith in drop-cons parts i d within ∙ ap (λ k. get_or parts i d ∷ drop k parts) next

behind : (parts : List Part) (i : ℕ) (p : Part) → drop (i + 1) (set parts i p) ≡ drop (i + 1) parts
behind parts i p = drop-set-lt (i + 1) parts i p (omega arith)

module _ (parts : List Part) (i end : ℕ) (d moved : Part) (next : ℕ) (within : i < length parts)
    (is_moved : moved ≡ record { size = (get_or parts i d).size; align = (get_or parts i d).align; offset = begin_of end (get_or parts i d) })
    (is_next : next ≡ end_of end (get_or parts i d)) where
  pub offsets_step : (all : List Part) → take i parts ++ placed end (drop i parts) ≡ all
      → take (i + 1) (set parts i moved) ++ placed next (drop (i + 1) (set parts i moved)) ≡ all
  offsets_step all before =
      let here : placed end (drop i parts) ≡ moved ∷ placed next (drop (i + 1) parts) =
      ap (placed end) (front parts i d within)
      ∙ ap (λ p. p ∷ placed (end_of end (get_or parts i d)) (drop (i + 1) parts)) (sym is_moved)
      ∙ ap (λ e. moved ∷ placed e (drop (i + 1) parts)) (sym is_next) in
      ap (λ xs. xs ++ placed next (drop (i + 1) (set parts i moved))) (take_more_set parts i moved within)
      ∙ ap (λ xs. (take i parts ++ moved ∷ []) ++ placed next xs) (behind parts i moved)
      ∙ append_assoc (take i parts) (moved ∷ []) (placed next (drop (i + 1) parts))
      ∙ ap (λ xs. take i parts ++ xs) (sym here)
      ∙ before

  pub ends_step : (all : ℕ) → last_end end (drop i parts) ≡ all → last_end next (drop (i + 1) (set parts i moved)) ≡ all
  ends_step all before =
      ap (last_end next) (behind parts i moved)
      ∙ ap (λ e. last_end e (drop (i + 1) parts)) is_next
      ∙ ap (last_end end) (sym (front parts i d within))
      ∙ before

  pub aligns_step : (align greater all : ℕ) → greater ≡ max align moved.align → greatest_align align (drop i parts) ≡ all
      → greatest_align greater (drop (i + 1) (set parts i moved)) ≡ all
  aligns_step align greater all is_greater before =
      ap (greatest_align greater) (behind parts i moved)
      ∙ ap (λ a. greatest_align a (drop (i + 1) parts)) (is_greater ∙ ap (λ p. max align p.align) is_moved)
      ∙ ap (greatest_align align) (sym (front parts i d within))
      ∙ before

  pub parts_step : ((k : ℕ) (e : Part) → i ≤ k → k < length parts → IsPart (get_or parts k e))
      → (k : ℕ) (e : Part) → i + 1 ≤ k → k < length (set parts i moved) → IsPart (get_or (set parts i moved) k e)
  parts_step before k e behind_i inside =
      let l = length-set parts i moved in
      let other : k ≢ i = omega arith in
      rw get_or-set_other (before k e (omega arith) (omega arith))

  pub this_part : ((k : ℕ) (e : Part) → i ≤ k → k < length parts → IsPart (get_or parts k e)) → IsPart (get_or parts i d)
  this_part before = before i d (omega arith) within

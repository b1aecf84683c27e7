-- The laws of layouts.
use Rattle.std.proofs.Common.{◌≡◌, ℕ, zero, suc, ◌+◌, ◌<◌, ◌≤◌, max, List, [], ◌∷◌, length, get_or, arith, sym, refl, subst}
use Rattle.std.specs.Int.{◌∣◌}
use Rattle.std.specs.List.{AllZip, AllByRecursion}
use Rattle.std.proofs.lemmas.List.Elements.{recursion_from_All, All-from_recursion}
use Rattle.std.proofs.lemmas.Nat.Gcd.{dvd_refl, dvd_trans}
use Rattle.class_layout.specs.declared.part.Part.{Part}
use Rattle.class_layout.specs.Arrangement.{begin_of, end_of, placed, last_end, greatest_align, align_of, size_of, IsPart}
use Rattle.class_layout.specs.Laws.{AreInOrder, ends_at, PartsAreInOrder, NoTwoOverlap, WholeIsAligned, IsTheLeast}
use Rattle.class_layout.proofs.Multiples.{next_divides, next_least, power_pos}
use Rattle.class_layout.proofs.Sizes.{IsAlign, one_is_align, max_is_align, align_divides}

-- ---- in order

in_order : (end : ℕ) (parts : List Part) → AllByRecursion IsPart parts → AreInOrder end (placed end parts)
in_order end [] are = tt
in_order end (part ∷ parts) are =
    (omega arith, next_divides end part.align (power_pos part.align are.0.power), in_order (end_of end part) parts are.1)

pub parts_are_in_order : PartsAreInOrder
parts_are_in_order parts are = in_order 0 parts (recursion_from_All IsPart parts are)

-- ---- no overlap

begins_behind :
    (end : ℕ) (parts : List Part) → AreInOrder end parts → (k : ℕ) (d : Part) → k < length parts
    → end ≤ (get_or parts k d).offset
begins_behind end [] order k d within = absurd (omega arith)
begins_behind end (part ∷ parts) order zero d within = order.0
begins_behind end (part ∷ parts) order (suc k) d within =
    let h = begins_behind (part.offset + part.size) parts order.2 k d (omega arith) in
    let here = order.0 in omega (arith, h, here)

apart :
    (end : ℕ) (parts : List Part) → AreInOrder end parts → (i j : ℕ) (d : Part) → i < j → j < length parts
    → (get_or parts i d).offset + (get_or parts i d).size ≤ (get_or parts j d).offset
apart end [] order i j d before within = absurd (omega arith)
apart end (part ∷ parts) order i zero d before within = absurd (omega arith)
apart end (part ∷ parts) order zero (suc j) d before within =
    begins_behind (part.offset + part.size) parts order.2 j d (omega arith)
apart end (part ∷ parts) order (suc i) (suc j) d before within =
    apart (part.offset + part.size) parts order.2 i j d (omega arith) (omega arith)

pub no_two_overlap : NoTwoOverlap
no_two_overlap parts are = apart 0 (placed 0 parts) (parts_are_in_order parts are)

-- ---- the whole

placed_ends : (end : ℕ) (parts : List Part) → ends_at end (placed end parts) ≡ last_end end parts
placed_ends end [] = refl
placed_ends end (part ∷ parts) = placed_ends (end_of end part) parts

placed_aligns : (align end : ℕ) (parts : List Part) → greatest_align align (placed end parts) ≡ greatest_align align parts
placed_aligns align end [] = refl
placed_aligns align end (part ∷ parts) = placed_aligns (max align part.align) (end_of end part) parts

greatest_is_align : (align : ℕ) (parts : List Part) → IsAlign align → AllByRecursion IsPart parts → IsAlign (greatest_align align parts)
greatest_is_align align [] is are = is
greatest_is_align align (part ∷ parts) is are =
    greatest_is_align (max align part.align) parts (max_is_align align part.align is (record { power = are.0.power; few = are.0.few })) are.1

-- each alignment divides the greatest
start_divides : (align : ℕ) (parts : List Part) → IsAlign align → AllByRecursion IsPart parts → align ∣ greatest_align align parts
start_divides align [] is are = dvd_refl align
start_divides align (part ∷ parts) is are =
    let other : IsAlign part.align = record { power = are.0.power; few = are.0.few } in
    let both = max_is_align align part.align is other in
    dvd_trans align (align_divides align (max align part.align) is both (omega arith)) (start_divides (max align part.align) parts both are.1)

each_divides :
    (align : ℕ) (parts : List Part) → IsAlign align → AllByRecursion IsPart parts
    → AllByRecursion (λ part. part.align ∣ greatest_align align parts) parts
each_divides align [] is are = tt
each_divides align (part ∷ parts) is are =
    let other : IsAlign part.align = record { power = are.0.power; few = are.0.few } in
    let both = max_is_align align part.align is other in (
      dvd_trans part.align (align_divides part.align (max align part.align) other both (omega arith)) (start_divides (max align part.align) parts both are.1),
      each_divides (max align part.align) parts both are.1,
    )

pub whole_is_aligned : WholeIsAligned
whole_is_aligned parts are =
    let each = recursion_from_All IsPart parts are in
    let align = greatest_is_align 1 parts one_is_align each in
    let some = power_pos (align_of parts) align.power in (
      record {
        positive = omega arith;
        whole = subst (λ n. n ∣ size_of parts) (sym (placed_aligns 1 0 parts)) (next_divides (max (last_end 0 parts) 1) (align_of parts) some);
        behind = let e = placed_ends 0 parts in omega arith;
      },
      All-from_recursion (λ part. part.align ∣ align_of parts) parts (each_divides 1 parts one_is_align each),
    )

-- ---- the least

no_later :
    (first other : ℕ) (parts : List Part) → first ≤ other → AllByRecursion IsPart parts → AreInOrder other parts
    → AllZip (λ a b. a.offset ≤ b.offset) (placed first parts) parts × (last_end first parts ≤ ends_at other parts)
no_later first other [] below are order = (tt, below)
no_later first other (part ∷ parts) below are order =
    let some = power_pos part.align are.0.power in
    let here : begin_of first part ≤ part.offset = next_least first part.align part.offset some (let h = order.0 in omega arith) order.1 in
    let rest = no_later (end_of first part) (part.offset + part.size) parts (omega arith) are.1 order.2 in
    ((here, rest.0), rest.1)

pub is_the_least : IsTheLeast
is_the_least parts are order =
    let each = recursion_from_All IsPart parts are in
    let align = greatest_is_align 1 parts one_is_align each in
    let some = power_pos (align_of parts) align.power in
    let h = no_later 0 0 parts (omega arith) each order in (
      h.0,
      λ size is. next_least (max (last_end 0 parts) 1) (align_of parts) size some
          (let ends = h.1 in let behind = is.behind in let positive = is.positive in omega arith) is.whole,
    )

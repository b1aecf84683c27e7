-- The loop goes over the parts as the definition does.
use Rattle.std.proofs.Common.{◌≡◌, ◌+◌, ◌<◌, ◌≤◌, ◌^◌, length, get_or, set, drop, arith, ap, sym, subst, refl, ◌∙◌}
use Rattle.std.proofs.lemmas.List.{drop_all}
use Rattle.class_layout.specs.declared.part.Part.{Part}
use Rattle.class_layout.specs.Arrangement.{last_end, greatest_align}
use Rattle.class_layout.proofs.Sizes.{IsAlign, one_is_align, max_is_align, end_below_last, too_large_by, fits_as}
use Rattle.class_layout.proofs.Steps.{offsets_step, ends_step, aligns_step, parts_step, this_part}
use Rattle.class_layout.proofs.arrange.layout.Goals as goal

pub loop-part-init : goal.loop-part-init
loop-part-init c = record {
  offsets = refl;
  ends = refl;
  aligns = refl;
  parts = λ k d low within. c.requires k d within;
  align = one_is_align;
  few = omega arith;
}

pub loop-part-preserved : goal.loop-part-preserved
loop-part-preserved c =
    let l = c.loop-part in
    let d : Part = record { size = 0; align = 0; offset = 0 } in
    let n = c.loop-part.auto.parts in
    let within : c.loop-part.part-index < length c.loop-part.parts = omega (arith, c.loop-part-test.true) in
    let e = c.place-end.ensures.part in
    let f = c.place-end.ensures.end in
    let this = this_part l.parts l.part-index l.end d c.place-end.new.part c.place-end.result within e f l.invariant.parts in
    let same : (get_or l.parts l.part-index d).align ≡ c.place-end.new.part.align = ap (λ p. p.align) (sym e) in
    let greater = c.max-align.ensures in
    record {
      offsets = offsets_step l.parts l.part-index l.end d c.place-end.new.part c.place-end.result within e f _ l.invariant.offsets;
      ends = ends_step l.parts l.part-index l.end d c.place-end.new.part c.place-end.result within e f _ l.invariant.ends;
      aligns = aligns_step l.parts l.part-index l.end d c.place-end.new.part c.place-end.result within e f l.align c.max-align.result _ greater l.invariant.aligns;
      parts = parts_step l.parts l.part-index l.end d c.place-end.new.part c.place-end.result within e f l.invariant.parts;
      align = subst IsAlign (sym greater)
          (max_is_align l.align c.place-end.new.part.align l.invariant.align (subst IsAlign same (record { power = this.power; few = this.few })));
      few = c.if-end-gt-MAX_OBJECT.false;
    }

pub returns-then-end-gt-MAX_OBJECT-clause-layout : goal.returns-then-end-gt-MAX_OBJECT-clause-layout
returns-then-end-gt-MAX_OBJECT-clause-layout c =
    let l = c.loop-part in
    let d : Part = record { size = 0; align = 0; offset = 0 } in
    let n = c.loop-part.auto.parts in
    let within : c.loop-part.part-index < length c.loop-part.parts = omega (arith, c.loop-part-test.true) in
    let ends = ends_step l.parts l.part-index l.end d c.place-end.new.part c.place-end.result within c.place-end.ensures.part c.place-end.ensures.end
    (last_end 0 c.args.parts.now) l.invariant.ends in
    let below = end_below_last c.place-end.result (drop (l.part-index + 1) (set l.parts l.part-index c.place-end.new.part)) in
    let large : 2 ^ 31 < last_end 0 c.args.parts.now = omega (arith, ends, below, c.if-end-gt-MAX_OBJECT.true) in
    sym (too_large_by c.args.parts.now large)

pub returns-clause-layout : goal.returns-clause-layout
returns-clause-layout c =
    let l = c.loop-part in
    let n = c.loop-part.auto.parts in
    let past : length c.loop-part.parts ≤ c.loop-part.part-index = omega (arith, c.loop-part-test.false) in
    let none = drop_all l.part-index l.parts past in
    let is_end : l.end ≡ last_end 0 c.args.parts.now = ap (last_end l.end) (sym none) ∙ l.invariant.ends in
    let is_align : l.align ≡ greatest_align 1 c.args.parts.now = ap (greatest_align l.align) (sym none) ∙ l.invariant.aligns in
    sym (fits_as c.args.parts.now l.end l.align c.max.result c.next_multiple_of.result is_end is_align c.max.ensures c.next_multiple_of.ensures.value
    l.invariant.align l.invariant.few)

use Rattle.std.proofs.Common.{◌≡◌, ℕ, ◌<◌, ◌≤◌, ◌^◌, ◌++◌, length, get_or, take, drop}
use Rattle.class_layout.specs.declared.part.Part.{Part}
use Rattle.class_layout.specs.Arrangement.{placed, last_end, greatest_align, IsPart}
use Rattle.class_layout.proofs.Sizes.{IsAlign}
use Rattle.class_layout.proofs.arrange.layout.Given as goal

-- the parts before the index are placed, and the others are as they were
abbrev pub invariant-loop-part : goal.invariant-loop-part
invariant-loop-part l = record {
  offsets : take l.part-index l.parts ++ placed l.end (drop l.part-index l.parts) ≡ placed 0 l.initial.parts;
  ends : last_end l.end (drop l.part-index l.parts) ≡ last_end 0 l.initial.parts;
  aligns : greatest_align l.align (drop l.part-index l.parts) ≡ greatest_align 1 l.initial.parts;
  parts : (k : ℕ) (d : Part) → l.part-index ≤ k → k < length l.parts → IsPart (get_or l.parts k d);
  align : IsAlign l.align;
  few : l.end ≤ 2 ^ 31;
}

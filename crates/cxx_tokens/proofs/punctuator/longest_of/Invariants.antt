use Rattle.std.proofs.Common.{◌≡◌, chars, length, IfSome}
use Rattle.cxx_tokens.specs.Cuts.{IsCut, seen_punctuators}
use Rattle.cxx_tokens.specs.Search.{combined, longest_among}
use Rattle.cxx_tokens.specs.Words.{AreBelow}
use Rattle.cxx_tokens.proofs.punctuator.longest_of.Given as goal

-- the longest of what was tried and of what is left is the longest of all
abbrev pub invariant-loop-left : goal.invariant-loop-left
invariant-loop-left l = record {
  same : combined (seen_punctuators l.found) (longest_among l.texts l.left (chars l.text)) ≡ longest_among l.texts l.numbers (chars l.text);
  cut : IfSome l.found (λ found. IsCut l.text found.cut);
  below : AreBelow (length l.texts) l.left;
}

abbrev pub decreases-loop-left : goal.decreases-loop-left
decreases-loop-left l = length l.left

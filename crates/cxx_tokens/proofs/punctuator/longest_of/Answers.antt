use Rattle.std.proofs.Common.{◌∙◌, refl, sym, chars, length}
use Rattle.cxx_tokens.specs.Cuts.{seen_punctuator, seen_punctuators}
use Rattle.cxx_tokens.proofs.Search.{below_rest, tried_first}
use Rattle.cxx_tokens.proofs.punctuator.longest_of.Goals as goal

pub loop-left-preserved-in-Some : goal.loop-left-preserved-in-Some
loop-left-preserved-in-Some c = record {
  same = tried_first c.args.texts.now c.loop-left.left.now _ (chars c.args.text.now) (seen_punctuators c.loop-left.found) (seen_punctuator c.longer.result)
      c.in-len1-up.len_at_least refl (sym c.in-Some.ensures.begins) c.longer.ensures.longer ∙ c.loop-left.invariant.same;
  cut = c.longer.ensures.cut c.args.text.now c.loop-left.invariant.cut (record { rest = c.in-Some.ensures.rest; within = c.in-Some.ensures.within });
  below = below_rest (length c.args.texts.now) c.loop-left.left.now _ c.in-len1-up.len_at_least refl c.loop-left.invariant.below;
}

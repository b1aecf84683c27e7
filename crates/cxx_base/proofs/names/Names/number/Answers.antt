use Rattle.std.proofs.Common.{sym, ap, subst, arith, length}
use Rattle.cxx_base.specs.KeyedHash.{IsKeyedBy}
use Rattle.cxx_base.specs.Library.{BeginsWithLibrary}
use Rattle.cxx_base.proofs.LibraryNames.{begins-with_text}
use Rattle.cxx_base.proofs.TextLemmas.{length-with_text}
use Rattle.cxx_base.proofs.names.Names.number.Goals as goal

pub invariant_of-self-2 : goal.invariant_of-self-2
invariant_of-self-2 c =
    let texts = c.in_ok-at.ensures.texts in
    let longer = length-with_text c.self.inside.texts.texts c.args.text.now in
    let old = ap length c.self.view_is in
    record {
      names = record {
        few = omega (arith, ap length texts, longer, old, c.requires);
        library = subst BeginsWithLibrary (sym texts) (begins-with_text c.self.inside.texts.texts c.args.text.now c.self.invariant.names.library);
      };
      source = c.self.invariant.source;
      keyed = subst (IsKeyedBy c.self.invariant.source) (sym c.in_ok-at.ensures.hash) c.self.invariant.keyed;
    }

use Rattle.std.proofs.Common.{refl, subst, string_bytes}
use Rattle.std.specs.String.{string_eq}
use Rattle.cxx_base.specs.Texts.{AreDistinct}
use Rattle.cxx_base.specs.TextTable.{TextTable}
use Rattle.cxx_base.proofs.TextLemmas.{distinct-map}
use Rattle.cxx_base.proofs.text_set.TextSet.len.Goals as goal

pub returns-clause-distinct : goal.returns-clause-distinct
returns-clause-distinct c =
    subst (λ (table : TextTable). AreDistinct table.texts) c.self.view_is
    (distinct-map string_eq string_bytes (λ _ _. refl) c.self.inside.texts.keys c.len.ensures.unique)

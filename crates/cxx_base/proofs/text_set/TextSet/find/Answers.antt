use Rattle.std.proofs.Common.{subst, string_bytes}
use Rattle.cxx_base.specs.TextTable.{TextTable}
use Rattle.cxx_base.proofs.TextLemmas.{Finds, finds}
use Rattle.cxx_base.proofs.text_set.TextSet.find.Goals as goal

pub returns-clause-number : goal.returns-clause-number
returns-clause-number c =
    (subst (λ (table : TextTable). Finds table.texts c.args.text.now c.get_index_of.result) c.self.view_is
    (finds string_bytes c.args.text.now c.self.inside.texts.keys c.get_index_of.result c.get_index_of.ensures.index)).number

pub returns-clause-stored : goal.returns-clause-stored
returns-clause-stored c =
    (subst (λ (table : TextTable). Finds table.texts c.args.text.now c.get_index_of.result) c.self.view_is
    (finds string_bytes c.args.text.now c.self.inside.texts.keys c.get_index_of.result c.get_index_of.ensures.index)).stored

pub returns-clause-held : goal.returns-clause-held
returns-clause-held c =
    (subst (λ (table : TextTable). Finds table.texts c.args.text.now c.get_index_of.result) c.self.view_is
    (finds string_bytes c.args.text.now c.self.inside.texts.keys c.get_index_of.result c.get_index_of.ensures.index)).held

use Rattle.std.proofs.Common.{◌∙◌, sym, ap, map, string_bytes, Some}
use Rattle.std.proofs.lemmas.Option.{slice_get-map}
use Rattle.std.specs.Cmp.Lexicographic.{bytes_decides}
use Rattle.std.specs.Option.{option_map}
use Rattle.cxx_base.specs.Texts.{number_of, with_text}
use Rattle.cxx_base.specs.TextTable.{TextTable}
use Rattle.cxx_base.proofs.TextLemmas.{number_of-map, with_text-map}
use Rattle.cxx_base.proofs.text_set.TextSet.insert.Goals as goal

pub returns-clause-number : goal.returns-clause-number
returns-clause-number c =
    c.in_ok-at.ensures.index
    ∙ sym (number_of-map string_bytes (string_bytes c.in_ok-owned.owned) c.self.inside.texts.keys)
    ∙ ap (number_of (map string_bytes c.self.inside.texts.keys)) c.in_ok-owned.ensures.ok
    ∙ ap (λ (table : TextTable). number_of table.texts c.args.text.now) c.self.view_is

pub returns-clause-texts : goal.returns-clause-texts
returns-clause-texts c =
    ap (map string_bytes) c.in_ok-at.ensures.keys
    ∙ with_text-map string_bytes c.in_ok-owned.owned c.self.inside.texts.keys
    ∙ ap (with_text (map string_bytes c.self.inside.texts.keys)) c.in_ok-owned.ensures.ok
    ∙ ap (λ (table : TextTable). with_text table.texts c.args.text.now) c.self.view_is

pub returns-clause-stored : goal.returns-clause-stored
returns-clause-stored c =
    let found = c.in_ok-at.ensures.stored in
    slice_get-map string_bytes c.insert_full.new.self.keys c.in_ok-at.at
    ∙ ap (option_map string_bytes) found.1
    ∙ ap Some (sym ((bytes_decides (string_bytes c.in_ok-owned.owned) (string_bytes found.0)).0 found.2) ∙ c.in_ok-owned.ensures.ok)

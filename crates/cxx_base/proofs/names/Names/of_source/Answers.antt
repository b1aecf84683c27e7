use Rattle.std.proofs.Common.{◌∙◌, ap, sym, subst, arith, codes, length, map}
use Rattle.cxx_base.specs.KeyedHash.{IsKeyedBy}
use Rattle.cxx_base.specs.Library.{BeginsWithLibrary}
use Rattle.cxx_base.specs.Texts.{number_of, with_texts}
use Rattle.cxx_base.specs.declared.library.TheConstants.{LIBRARY}
use Rattle.cxx_base.proofs.LibraryNames.{with_library, length-library, number_of-std, begins-library}
use Rattle.cxx_base.proofs.names.Names.of_source.Goals as goal

pub in_table_of-requires-clause-names : goal.in_table_of-requires-clause-names
in_table_of-requires-clause-names c =
    let names = c.in_ok-insert_each.ensures.texts ∙ ap (λ texts. with_texts texts (map (λ name. name.now) LIBRARY)) c.of_source-texts.ensures.texts ∙ with_library in
    let few = ap length names ∙ length-library in
    record { few = omega (arith, few); library = subst BeginsWithLibrary (sym names) begins-library }

pub in_table_of-requires-clause-keyed : goal.in_table_of-requires-clause-keyed
in_table_of-requires-clause-keyed c = subst (IsKeyedBy c.args.source.now) (sym c.in_ok-insert_each.ensures.hash) c.of_source-texts.ensures.keyed

pub returns-clause-names : goal.returns-clause-names
returns-clause-names c =
    c.in_table_of.ensures ∙ c.in_ok-insert_each.ensures.texts ∙ ap (λ texts. with_texts texts (map (λ name. name.now) LIBRARY)) c.of_source-texts.ensures.texts ∙ with_library

pub returns-clause-few : goal.returns-clause-few
returns-clause-few c =
    ap length
    (c.in_table_of.ensures ∙ c.in_ok-insert_each.ensures.texts ∙ ap (λ texts. with_texts texts (map (λ name. name.now) LIBRARY)) c.of_source-texts.ensures.texts ∙ with_library)
    ∙ length-library

pub returns-clause-std : goal.returns-clause-std
returns-clause-std c =
    ap (λ names. number_of names (codes "std"))
    (c.in_table_of.ensures ∙ c.in_ok-insert_each.ensures.texts ∙ ap (λ texts. with_texts texts (map (λ name. name.now) LIBRARY)) c.of_source-texts.ensures.texts ∙ with_library)
    ∙ number_of-std

use Rattle.std.proofs.Common.{◌≡◌, List, Option, IfSome, None, Some, if◌then◌else◌, sym, subst}
use Rattle.cxx_tree.specs.declared.decl.Item.{Item}
use Rattle.cxx_grammar.specs.Units.{unit}
use Rattle.parse_decl.specs.Answers.{SaysOf}
use Rattle.reflect_cli.specs.Accepted.{declarations}
use Rattle.reflect_cli.specs.Order.{AreNamed}
use Rattle.reflect_cli.specs.declared.form_tree.Declaration.{Declaration}
use Rattle.reflect_cli.proofs.Named.{found_named}
use Rattle.reflect_cli.proofs.program.parsed.Goals as goal

pub accepted-requires : goal.accepted-requires
accepted-requires c =
    let found : Option (List Declaration) = if c.unit_to-read.new.taker.is_accepted then Some c.unit_to-read.new.taker.found else None in
    let says = subst (λ read. SaysOf c.args.tokens (unit c.args.tokens) (λ items. declarations items ≡ found) read) c.in-Ok.is c.unit_to-read.ensures in
    subst (λ (o : Option (List Declaration)). IfSome o (AreNamed c.args.names)) (sym c.into_found.ensures)
    (found_named c.args.names c.args.tokens found c.names_have_texts.ensures c.requires says)

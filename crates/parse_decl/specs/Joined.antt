-- Items that share a beginning, read as one. Nobody need believe this file: in proofs/ they are shown to give what the grammar's own
-- forms give.
use Rattle.std.specs.Prelude.{◌+◌, if◌then◌else◌}
use Rattle.cxx_tree.specs.declared.decl.Item.{Item}
use Rattle.cxx_tokens.specs.declared.token.Tokens.{Tokens}
use Rattle.cxx_tokens.specs.declared.mark.TheConstants as mark
use Rattle.cxx_reading.specs.Reading.{Rule, is_punctuator, kind}
use Rattle.cxx_grammar.specs.Units.{namespace_head, decl_item}

-- `namespace` and a name: an alias where "=" follows, and else a head
unfoldable pub namespace_item : Tokens → Rule Item
namespace_item tokens = λ i. if is_punctuator mark.EQUAL (kind tokens (i + 2)) then decl_item tokens i else namespace_head tokens i

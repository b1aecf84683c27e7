-- What nests, as values: the rules at one level for all that stands in what is of its own kind.
use Rattle.std.specs.Prelude.{true, false}
use Rattle.cxx_tree.specs.declared.stmt.Stmt.{Stmt}
use Rattle.cxx_tree.specs.declared.decl.Member.{Member}
use Rattle.cxx_reading.specs.Reading.{Rule}
use Rattle.cxx_grammar.specs.declared.within.Within.{Within}

-- what a statement of the body of a function stands in, and one of the body of a block
abbrev pub of_function : Within
of_function = record { in_loop = false; in_block = false }

abbrev pub of_block : Within
of_block = record { in_loop = false; in_block = true }

-- the same in a loop of that body
abbrev pub looping : Within → Within
looping within = record { in_loop = true; in_block = within.in_block }

-- A statement of a body, by what it stands in; a statement within a statement, whose braces and parentheses are one level with
-- it; and a member of a class.
pub record Nests : Type 0 where
  pub stmt : Within → Rule Stmt
  pub sub : Within → Rule Stmt
  pub member : Rule Member

use Rattle.std.proofs.Common.{◌≡◌, [], drop}
use Rattle.reflect_cli.specs.Form.{names_in}
use Rattle.reflect_cli.specs.Search.{are_new}
use Rattle.reflect_cli.proofs.form.are_new.Given as goal

-- the answer for the names that are left is the answer
abbrev pub invariant-loop-declaration : goal.invariant-loop-declaration
invariant-loop-declaration l =
    are_new l.before.keys (names_in (drop l.declaration-index l.declarations)) ≡ are_new [] (names_in l.declarations)

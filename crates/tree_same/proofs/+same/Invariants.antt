-- The lists are the same where what is left of them is.
use Rattle.std.proofs.Common.{◌↔◌, drop}
use Rattle.tree_same.specs.Lists.{AreSame}
use Rattle.tree_same.specs.Same.{SameArg, SameDesignator, SameOperation, SameSuffix}
use Rattle.tree_same.proofs.+same.Given as goal

abbrev pub invariant-args::args_same-loop-x : goal.invariant-args::args_same-loop-x
invariant-args::args_same-loop-x l = AreSame SameArg l.fn.args l.fn.others ↔ AreSame SameArg (drop l.x-index l.fn.args) l.rest

abbrev pub invariant-braced::designators_same-loop-x : goal.invariant-braced::designators_same-loop-x
invariant-braced::designators_same-loop-x l =
    AreSame SameDesignator l.fn.clauses l.fn.others ↔ AreSame SameDesignator (drop l.x-index l.fn.clauses) l.rest

abbrev pub invariant-operation::operations_same-loop-x : goal.invariant-operation::operations_same-loop-x
invariant-operation::operations_same-loop-x l =
    AreSame SameOperation l.fn.operations l.fn.others ↔ AreSame SameOperation (drop l.x-index l.fn.operations) l.rest

abbrev pub invariant-suffix::suffixes_same-loop-x : goal.invariant-suffix::suffixes_same-loop-x
invariant-suffix::suffixes_same-loop-x l =
    AreSame SameSuffix l.fn.suffixes l.fn.others ↔ AreSame SameSuffix (drop l.x-index l.fn.suffixes) l.rest

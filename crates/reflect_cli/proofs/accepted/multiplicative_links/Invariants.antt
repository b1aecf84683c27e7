use Rattle.std.proofs.Common.{◌≡◌, [], length}
use Rattle.reflect_cli.specs.Accepted.{all_of, link, multiplicative, literal}
use Rattle.reflect_cli.proofs.accepted.multiplicative_links.Given as goal

-- what is left goes on from what was found
abbrev pub invariant-loop-operation : goal.invariant-loop-operation
invariant-loop-operation l =
    all_of (link multiplicative literal) [] l.fn.operations ≡ all_of (link multiplicative literal) l.found l.rest

abbrev pub decreases-loop-operation : goal.decreases-loop-operation
decreases-loop-operation l = length l.rest

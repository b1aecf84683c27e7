-- The ranges of limits.
use Rattle.std.specs.Prelude.{◌≤◌}
use Rattle.cxx_base.specs.declared.limits.Limits.{Limits}
use Rattle.cxx_base.specs.declared.limits.TheConstants.{MAX_STEPS, MAX_DEPTH}

-- What an evaluation that goes on may have left: some calls, and as many steps as there are, or none.
pub record MayBeLeft (limits : Limits) : Type 0 where
  pub steps : limits.steps ≤ MAX_STEPS
  pub some_calls : 1 ≤ limits.depth
  pub depth : limits.depth ≤ MAX_DEPTH

-- what the evaluation of a root may be given: of steps and of active calls at least one, and at most the greatest number
pub record InRange (limits : Limits) : Type 0 where
  pub some_steps : 1 ≤ limits.steps
  pub bounded : MayBeLeft limits

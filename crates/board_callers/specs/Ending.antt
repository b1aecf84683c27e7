-- What a board came to.
use Rattle.std.specs.Prelude.{◌≡◌, ◌<◌}
use Rattle.settle_core.specs.Meant.{Meant, outcomes_below}
use Rattle.board_callers.specs.declared.together.Ending.{Ending}
use Rattle.board_callers.specs.declared.together.Ending.TheVariants.{Settled, Left}

-- the outcomes are those of work in order, or a piece was left
abbrev pub EndingSays : {T O : Type 0} → Meant T O → Ending O → Type 0
EndingSays m (Settled outcomes) = outcomes ≡ outcomes_below m m.pieces
EndingSays m (Left unsettled) = unsettled.piece.0 < m.pieces

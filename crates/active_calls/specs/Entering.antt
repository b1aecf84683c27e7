-- How calls begin and end. The innermost active call stands first.
use Rattle.std.specs.Prelude.{◌≡◌, ℕ, ◌<◌, ◌≤◌, List, [], ◌∷◌, length, Option, None, Some, Result, Ok, Err}
use Rattle.cxx_base.specs.declared.cause.TheConstants.{ONE}
use Rattle.cxx_base.specs.declared.code.Code.TheVariants.{V13}
use Rattle.cxx_base.specs.declared.note.Note.{Note}
use Rattle.cxx_base.specs.declared.number.EntityNo.{EntityNo}
use Rattle.core_words.specs.declared.stop.Cause.{Cause}
use Rattle.core_words.specs.declared.stop.CallStop.{CallStop}
use Rattle.core_words.specs.declared.stop.CallStop.TheVariants.{Refused, Memory}

-- more calls would be active than the depth
abbrev pub too_deep : Cause
too_deep = record { code = V13; detail = ONE }

-- What comes of a call: it is the innermost one from then on. It is refused exactly where at least depth calls are active.
abbrev pub Entered : {U : Type 0} → ℕ → Note → List Note → Result U CallStop → List Note → Type 0
Entered depth call old (Ok done) new = (length old < depth) × (new ≡ call ∷ old)
Entered depth call old (Err (Refused cause)) new = (depth ≤ length old) × (cause ≡ too_deep) × (new ≡ old)
Entered depth call old (Err Memory) new = new ≡ old

-- the innermost call is left
abbrev pub Left : List Note → Option EntityNo → List Note → Type 0
Left [] function new = (function ≡ None) × (new ≡ [])
Left (call ∷ calls) function new = (function ≡ Some call.function) × (new ≡ calls)

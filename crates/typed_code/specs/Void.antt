-- The value of void.
use Rattle.std.specs.Prelude.{pos}
use Rattle.core_value.specs.declared.scalar.Scalar.TheVariants.{Number}
use Rattle.core_value.specs.declared.value.Value.{Value}
use Rattle.core_value.specs.declared.value.Value.TheVariants.{Scalar}

-- nothing reads it, so it is the same one everywhere
abbrev pub nothing : Value
nothing = Scalar (Number (pos 0))

-- Values that are equal.
use Rattle.std.specs.Prelude.{◌≡◌}
use Rattle.core_shape.specs.declared.shape.Shape.{out-Shape}
use Rattle.core_value.specs.declared.value.Value.{Value}
use Rattle.core_value.specs.declared.value.Value.TheVariants.{Scalar, Object}

-- Two scalars that are, or two objects of one type whose scalars are. Of the shapes nothing else is asked: a class is complete in one way.
abbrev pub Equal : Value → Value → Type 0
Equal (Scalar x) (Scalar y) = x ≡ y
Equal (Object x) (Object y) = ((out-Shape x.shape).of ≡ (out-Shape y.shape).of) × (x.scalars ≡ y.scalars)
Equal (Scalar x) (Object y) = ⊥
Equal (Object x) (Scalar y) = ⊥

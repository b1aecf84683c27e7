-- Constructors tell their values, and what a value that came out of an optional one says of it.
use Rattle.std.proofs.Common.{◌≡◌, ℕ, Option, Some, None, IsSome, refl, ap}
use Rattle.std.specs.Option.{option_map}
use Rattle.cxx_base.specs.declared.number.PieceNo.{PieceNo}
use Rattle.settle_core.specs.Next.{NextOf, Read, Ends}
use Rattle.settle_core.specs.Steps.{option_bind}

module _ {A : Type 0} where
  pub some_injective : (x y : A) → ◌≡◌ {A = Option A} (Some x) (Some y) → x ≡ y
  some_injective x y e = cc

  pub none_is_no_some : (x : A) → ◌≡◌ {A = Option A} None (Some x) → ⊥
  none_is_no_some x e = cc

  pub from_some : (o : Option A) → IsSome o → (x : A) × (o ≡ Some x)
  from_some None h = absurd (let b : ⊥ = cc in b)
  from_some (Some x) h = (x, refl)

module _ {A B : Type 0} where
  pub from_map : (f : A → B) (o : Option A) (y : B) → option_map f o ≡ Some y → (x : A) × (o ≡ Some x) × (f x ≡ y)
  from_map f None y e = absurd (none_is_no_some y e)
  from_map f (Some x) y e = (x, refl, some_injective (f x) y e)

  pub from_bind : (f : A → Option B) (o : Option A) (y : B) → option_bind o f ≡ Some y → (x : A) × (o ≡ Some x) × (f x ≡ Some y)
  from_bind f None y e = absurd (none_is_no_some y e)
  from_bind f (Some x) y e = (x, refl, e)

module _ {O : Type 0} where
  pub read_is : (p q : PieceNo) → ◌≡◌ {A = NextOf O} (Read p) (Read q) → p.0 ≡ q.0
  read_is p q e = ap number e
    where
      number : NextOf O → ℕ
      number (Read r) = r.0
      number (Ends o) = 0

  pub read_is_no_end : (p : PieceNo) (o : O) → ◌≡◌ {A = NextOf O} (Read p) (Ends o) → ⊥
  read_is_no_end p o e = cc

  pub end_is : (o u : O) → ◌≡◌ {A = NextOf O} (Ends o) (Ends u) → o ≡ u
  end_is o u e = cc

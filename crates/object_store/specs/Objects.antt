-- The objects of an evaluation: those that it has made, and those of earlier pieces that it has come to.
use Rattle.std.specs.Prelude.{◌≡◌, ◌⊎◌, ◌<◌, ℕ, zero, suc, ◌+◌, ◌/◌, Bool, true, false, ◌&&◌, ◌||◌, not, if◌then◌else◌, nat_eq, nat_lt, List, [], ◌∷◌, map, length, drop, Option, None, Some, slice_get, ℤ, pos, ◌-ℤ◌}
use Rattle.cxx_base.specs.declared.operator.IntKind.TheVariants as kind
use Rattle.cxx_type.specs.declared.basic.BasicType.{BasicType}
use Rattle.cxx_type.specs.declared.basic.BasicType.TheVariants as basic
use Rattle.cxx_type.specs.declared.runs.Layer.{Layer}
use Rattle.cxx_type.specs.declared.runs.Layer.TheVariants as layer
use Rattle.cxx_type.specs.declared.whole.CxxType.{CxxType}
use Rattle.core_pointer.specs.declared.origin.Literal.{Literal}
use Rattle.core_pointer.specs.declared.origin.Origin.{Origin}
use Rattle.core_pointer.specs.declared.origin.Origin.TheVariants as origin
use Rattle.core_pointer.specs.declared.path.PathStep.{PathStep}
use Rattle.core_pointer.specs.declared.path.PathStep.TheVariants as step
use Rattle.core_shape.specs.declared.class.Class.{Class, out-Class}
use Rattle.core_shape.specs.declared.class.Base.{Base, out-Base}
use Rattle.core_shape.specs.declared.class.Member.{Member, out-Member}
use Rattle.core_shape.specs.declared.shape.Shape.{Shape, out-Shape, roll-Shape}
use Rattle.core_value.specs.declared.scalar.Scalar.TheVariants as scalar
use Rattle.object_store.specs.Trees as tree
use Rattle.object_store.specs.Trees.{NotBegun, Has, Marks, Tree, Leaf, Trees, end_tree, more_tree}

-- an object: where it comes from, of what shape it is, and how it stands
pub record Object : Type 0 where
  pub origin : Origin
  pub shape : Shape
  pub tree : Tree

-- Two origins are one object. One literal of the source is one object.
abbrev pub is_same : Origin → Origin → Bool
is_same (origin.Static x) (origin.Static y) = nat_eq x.0 y.0
is_same (origin.Literal x) (origin.Literal y) = nat_eq x.number y.number
is_same (origin.Local x) (origin.Local y) = nat_eq x y
is_same (origin.Temporary x) (origin.Temporary y) = nat_eq x y
is_same (origin.Allocation x) (origin.Allocation y) = nat_eq x y
is_same (origin.Foreign x) (origin.Foreign y) = nat_eq x y
is_same origin.ForeignThis origin.ForeignThis = true
is_same origin.Null origin.Null = true
is_same _ _ = false

abbrev pub made : List Object → Origin → Option Object
made [] p = None
made (o ∷ os) p = if is_same o.origin p then Some o else made os p

-- The shapes of the parts

abbrev pub is_const_type : CxxType → List Layer → Bool
is_const_type of [] = of.is_const
is_const_type of (layer.Pointer is_const ∷ layers) = is_const
is_const_type of (layer.Reference ∷ layers) = false
is_const_type of (layer.Array n ∷ layers) = is_const_type of layers

-- an object of the shape is const: of an array, its elements are
abbrev pub is_const_shape : Shape → Bool
is_const_shape shape = is_const_type (out-Shape shape).of (out-Shape shape).of.layers

abbrev element_type : CxxType → CxxType
element_type of = record of { layers = drop 1 of.layers }

-- that of an element of an array of so many
abbrev pub element_shape : Shape → ℕ → Shape
element_shape shape n = let s = out-Shape shape in
    roll-Shape (record s { of = element_type s.of; scalars = s.scalars / n; leaves = s.leaves / n })

abbrev pub base_shape : Base → Shape
base_shape b = (out-Base b).shape

abbrev pub member_shape : Member → Shape
member_shape m = (out-Member m).shape

-- a scalar, the bases and the data members of a class, or so many elements
pub data Form : Type 0 where
  IsScalar : Form
  IsClass : List Shape → List Shape → Form
  IsArray : ℕ → Shape → Form

abbrev long_shape : Shape
long_shape = roll-Shape (record { of = record { basic = basic.Int kind.Long; is_const = false; layers = [] }; class = None; scalars = 1; leaves = 1 })

abbrev pub class_form : BasicType → Option Class → Form
class_form b (Some class) = IsClass (map base_shape (out-Class class).bases) (map member_shape (out-Class class).members)
class_form basic.MemberOffset None = IsClass [] (long_shape ∷ long_shape ∷ [])
class_form b None = IsScalar

abbrev pub form_under : Shape → List Layer → Form
form_under shape [] = class_form (out-Shape shape).of.basic (out-Shape shape).class
form_under shape (layer.Array n ∷ layers) = IsArray n (element_shape shape n)
form_under shape (layer.Pointer is_const ∷ layers) = IsScalar
form_under shape (layer.Reference ∷ layers) = IsScalar

-- what an object of the shape is made of
abbrev pub form : Shape → Form
form shape = form_under shape (out-Shape shape).of.layers

abbrev shape_step : Form → PathStep → Option Shape
shape_step (IsClass bases members) (step.Base i) = slice_get bases i
shape_step (IsClass bases members) (step.Member i) = slice_get members i
shape_step (IsArray n element) (step.Element i) = if nat_lt i n then Some element else None
shape_step _ _ = None

abbrev shape_go : Option Shape → List PathStep → Option Shape
shape_go s [] = s
shape_go None (step ∷ path) = None
shape_go (Some s) (step ∷ path) = shape_go (shape_step (form s) step) path

-- the shape of a subobject
abbrev pub shape_at : Shape → List PathStep → Option Shape
shape_at shape path = shape_go (Some shape) path

-- Fresh objects

abbrev pub fresh_marks : Bool → Marks
fresh_marks is_const = record { is_const = is_const; is_sealed = false }

abbrev pub trees_of : Trees → ℕ
trees_of end_tree = zero
trees_of (more_tree t ts) = suc (trees_of ts)

-- Nothing of it was begun: a tree of the form of the shape. The whole is const where its shape or its maker says so, each part where its
-- shape does.
abbrev mutual
  pub IsFresh : Bool → Shape → Tree → Type 0
  IsFresh is_const shape (Leaf m true x) = (m ≡ fresh_marks (is_const || is_const_shape shape)) × (x ≡ NotBegun) × (form shape ≡ IsScalar)
  IsFresh is_const shape (Leaf m false x) = (m ≡ fresh_marks (is_const || is_const_shape shape)) × (x ≡ NotBegun)
      × ((form shape ≡ IsClass [] []) ⊎ ((e : Shape) × (form shape ≡ IsArray 0 e)))
  IsFresh is_const shape (tree.Class m bs ms) = (m ≡ fresh_marks (is_const || is_const_shape shape))
      × ((b : List Shape) × (s : List Shape) × (form shape ≡ IsClass b s) × (0 < trees_of bs + trees_of ms) × AreFresh b bs × AreFresh s ms)
  IsFresh is_const shape (tree.Array m es) = (m ≡ fresh_marks (is_const || is_const_shape shape))
      × ((e : Shape) × (form shape ≡ IsArray (trees_of es) e) × (0 < trees_of es) × EachFresh e es)

  pub AreFresh : List Shape → Trees → Type 0
  AreFresh [] end_tree = Unit {0}
  AreFresh (s ∷ shapes) (more_tree t ts) = IsFresh false s t × AreFresh shapes ts
  AreFresh [] (more_tree t ts) = ⊥
  AreFresh (s ∷ shapes) end_tree = ⊥

  pub EachFresh : Shape → Trees → Type 0
  EachFresh s end_tree = Unit {0}
  EachFresh s (more_tree t ts) = IsFresh false s t × EachFresh s ts

-- String literals

abbrev char_value : ℕ → ℤ
char_value b = if nat_lt b 128 then pos b else pos b -ℤ pos 256

abbrev closed_char : ℤ → Tree
closed_char c = Leaf (record { is_const = true; is_sealed = true }) true (Has (scalar.Number c))

abbrev chars_of : List ℕ → Trees
chars_of [] = more_tree (closed_char (pos 0)) end_tree
chars_of (b ∷ bytes) = more_tree (closed_char (char_value b)) (chars_of bytes)

abbrev char_shape : ℕ → Shape
char_shape n = roll-Shape (record { of = record { basic = basic.Int kind.Char; is_const = true; layers = layer.Array n ∷ [] }; class = None; scalars = n; leaves = n })

-- the object of a literal: its bytes and a zero, const and made
abbrev pub literal_object : Literal → Object
literal_object l = record {
  origin = origin.Literal l;
  shape = char_shape (length l.bytes + 1);
  tree = tree.Array (record { is_const = true; is_sealed = true }) (chars_of l.bytes);
}

-- The object of an origin, where there is one. A literal is always there.
abbrev pub object_of : List Object → Origin → Option Object
object_of os (origin.Literal l) = Some (literal_object l)
object_of os p = made os p

-- An object of this evaluation: one that it made, or the static variable that it makes.
abbrev is_being_made : Tree → Bool
is_being_made t = (tree.marks t).is_const && not (tree.marks t).is_sealed

abbrev is_own_origin : Origin → Tree → Bool
is_own_origin (origin.Local n) t = true
is_own_origin (origin.Temporary n) t = true
is_own_origin (origin.Allocation n) t = true
is_own_origin (origin.Static v) t = is_being_made t
is_own_origin _ t = false

abbrev pub is_own : Object → Bool
is_own o = is_own_origin o.origin o.tree

-- a static variable that is not constexpr: it is there for its shape alone
abbrev is_hidden_origin : Origin → Tree → Bool
is_hidden_origin (origin.Static v) t = not (tree.marks t).is_const
is_hidden_origin _ t = false

abbrev pub is_hidden : Object → Bool
is_hidden o = is_hidden_origin o.origin o.tree

-- the objects, with what stands at a way in one of them changed
abbrev pub changed_at : (Tree → Tree) → Origin → List PathStep → List Object → List Object
changed_at f p path [] = []
changed_at f p path (o ∷ os) = if is_same o.origin p then record o { tree = tree.changed f path o.tree } ∷ os else o ∷ changed_at f p path os

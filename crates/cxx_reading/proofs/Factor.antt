-- Forms that share a beginning are read as one.
use Rattle.std.proofs.Common.{◌≡◌, ℕ, Bool, true, false, if◌then◌else◌, nat_lt, refl}
use Rattle.cxx_reading.specs.Reading.{End, Tree, No, Nothing, TooDeep, Rule, and_then, longer}

pub assoc : {A B C : Type 0} (e : End A) (f : A → Rule B) (g : B → Rule C) → and_then (and_then e f) g ≡ and_then e (λ a i. and_then (f a i) g)
assoc (Tree a i) f g = refl
assoc (No why) f g = refl

pub unit : {A : Type 0} (e : End A) → and_then e (λ a i. Tree a i) ≡ e
unit (Tree a i) = refl
unit (No why) = refl

-- what follows is the same where it is so at each tree and token
pub pointwise : {A B : Type 0} (e : End A) (f g : A → Rule B) → ((a : A) (i : ℕ) → f a i ≡ g a i) → and_then e f ≡ and_then e g
pointwise (Tree a i) f g h = h a i
pointwise (No why) f g h = refl

-- where the tree is known, it is enough there
pub there : {A B : Type 0} (e : End A) (f g : A → Rule B) → ((a : A) (i : ℕ) → e ≡ Tree a i → f a i ≡ g a i) → and_then e f ≡ and_then e g
there (Tree a i) f g h = h a i refl
there (No why) f g h = refl

-- two forms with the same beginning
pub factor : {A B : Type 0} (e : End A) (f g : A → Rule B) → longer (and_then e f) (and_then e g) ≡ and_then e (λ a i. longer (f a i) (g a i))
factor (Tree a i) f g = refl
factor (No Nothing) f g = refl
factor (No TooDeep) f g = refl

-- a form, and one that goes on behind it
pub front_first : {A : Type 0} (e : End A) (f : A → Rule A) → longer e (and_then e f) ≡ and_then e (λ a i. longer (Tree a i) (f a i))
front_first (Tree a i) f = refl
front_first (No Nothing) f = refl
front_first (No TooDeep) f = refl

pub front_last : {A : Type 0} (e : End A) (f : A → Rule A) → longer (and_then e f) e ≡ and_then e (λ a i. longer (f a i) (Tree a i))
front_last (Tree a i) f = refl
front_last (No Nothing) f = refl
front_last (No TooDeep) f = refl

-- the same, where the shorter form makes another tree of its beginning
pub made_first : {A B : Type 0} (e : End A) (h : A → ℕ → B) (f : A → Rule B) → longer (and_then e (λ a i. Tree (h a i) i)) (and_then e f) ≡ and_then e (λ a i. longer (Tree (h a i) i) (f a i))
made_first e h f = factor e (λ a i. Tree (h a i) i) f

pub made_last : {A B : Type 0} (e : End A) (f : A → Rule B) (h : A → ℕ → B) → longer (and_then e f) (and_then e (λ a i. Tree (h a i) i)) ≡ and_then e (λ a i. longer (f a i) (Tree (h a i) i))
made_last e f h = factor e f (λ a i. Tree (h a i) i)

chosen : {A B : Type 0} (b : Bool) (x y : End A) (f : A → Rule B) → (if b then and_then x f else and_then y f) ≡ and_then (if b then x else y) f
chosen true x y f = refl
chosen false x y f = refl

-- a function of the trees alone may be applied before the choice or after it
pub mapped : {A B : Type 0} (x y : End A) (h : A → ℕ → B) → longer (and_then x (λ a i. Tree (h a i) i)) (and_then y (λ a i. Tree (h a i) i)) ≡ and_then (longer x y) (λ a i. Tree (h a i) i)
mapped (No Nothing) y h = refl
mapped (No TooDeep) y h = refl
mapped (Tree a i) (No Nothing) h = refl
mapped (Tree a i) (No TooDeep) h = refl
mapped (Tree a i) (Tree b j) h = chosen (nat_lt i j) (Tree b j) (Tree a i) (λ c k. Tree (h c k) k)

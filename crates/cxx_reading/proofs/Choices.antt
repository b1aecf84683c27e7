-- Which of two forms is the longer one.
use Rattle.cxx_reading.specs.declared.fault.ExprFault.{ExprFault}
use Rattle.std.proofs.Common.{◌≡◌, ℕ, ◌+◌, ◌<◌, ◌≤◌, Bool, true, false, if◌then◌else◌, nat_lt, Result, ◌⊎◌, inl, inr, refl, ◌∙◌, sym, arith}
use Rattle.std.proofs.lemmas.Bool.{lt-ltb, le-ltb, ltb-true, ltb-false}
use Rattle.cxx_reading.proofs.Starts.{longer_nothing, longer_deep}
use Rattle.cxx_reading.specs.Extents.{EndsFrom, IsNothing}
use Rattle.cxx_reading.specs.Laws.{EndsBefore, IsLongest, IsDeepAsEither, IsNothingAsBoth}
use Rattle.cxx_reading.specs.Reading.{End, Tree, No, Why, Nothing, TooDeep, longer, go_on, Gives, Chooses}

pub longer_later : {A : Type 0} (a b : A) (i j : ℕ) → i < j → longer (Tree a i) (Tree b j) ≡ Tree b j
longer_later a b i j h = rw (lt-ltb i j h)

pub longer_earlier : {A : Type 0} (a b : A) (i j : ℕ) → j ≤ i → longer (Tree a i) (Tree b j) ≡ Tree a i
longer_earlier a b i j h = rw (le-ltb i j h)

-- What ends later, and is there, is the longer one.
pub beats : {A : Type 0} (t : A) (k : ℕ) (e : End A) → EndsFrom (k + 1) e → (IsNothing e → ⊥) → longer (Tree t k) e ≡ e
beats t k (Tree b j) h g = let lt : k < j = omega arith in longer_later t b k j lt
beats t k (No Nothing) h g = absurd (g tt)
beats t k (No TooDeep) h g = refl

-- What stands first, is there, and ends no earlier is the longer one.
pub stays : {A : Type 0} (e : End A) (t : A) (k : ℕ) → EndsFrom k e → (IsNothing e → ⊥) → longer e (Tree t k) ≡ e
stays (Tree b j) t k h g = longer_earlier b t j k h
stays (No Nothing) t k h g = absurd (g tt)
stays (No TooDeep) t k h g = refl

-- Beside a tree, a form that goes on behind it is taken where it reads.
pub goes_behind : {A : Type 0} (t : A) (k : ℕ) (e : End A) → EndsFrom (k + 1) e → longer (Tree t k) e ≡ go_on (λ a i. Tree a i) t k e
goes_behind t k (Tree b j) h = let lt : k < j = omega arith in longer_later t b k j lt
goes_behind t k (No Nothing) h = refl
goes_behind t k (No TooDeep) h = refl

pub goes_before : {A : Type 0} (e : End A) (t : A) (k : ℕ) → EndsFrom k e → longer e (Tree t k) ≡ go_on (λ a i. Tree a i) t k e
goes_before (Tree b j) t k h = longer_earlier b t j k h
goes_before (No Nothing) t k h = refl
goes_before (No TooDeep) t k h = refl

-- What `longer` gives, for `using` on a function that calls it.
pub choice : {A : Type 0} {first second result : Result (A × ℕ) ExprFault} (x y : End A) → Chooses first second result → Gives x first → Gives y second → Gives (longer x y) result
choice x y c g h = c.gives x y g h

-- ---- three forms may be taken together in either way

module _ {A : Type 0} (a b c : A) (i j k : ℕ) where
  all_three : (first second : Bool) → nat_lt i j ≡ first → nat_lt j k ≡ second
      → longer (if first then Tree b j else Tree a i) (Tree c k) ≡ longer (Tree a i) (if second then Tree c k else Tree b j)
  all_three true true f s =
      let ij : i < j = ltb-true i j f in
      let jk : j < k = ltb-true j k s in
      let ik : i < k = omega arith in
      longer_later b c j k jk ∙ sym (longer_later a c i k ik)
  all_three true false f s =
      let ij : i < j = ltb-true i j f in
      let kj : k ≤ j = ltb-false j k s in
      longer_earlier b c j k kj ∙ sym (longer_later a b i j ij)
  all_three false true f s = refl
  all_three false false f s =
      let ji : j ≤ i = ltb-false i j f in
      let kj : k ≤ j = ltb-false j k s in
      let ki : k ≤ i = omega arith in
      longer_earlier a c i k ki ∙ sym (longer_earlier a b i j ji)

pub longer_assoc : {A : Type 0} (x y z : End A) → longer (longer x y) z ≡ longer x (longer y z)
longer_assoc (No Nothing) y z = refl
longer_assoc (No TooDeep) y z = refl
longer_assoc (Tree a i) (No Nothing) z = refl
longer_assoc (Tree a i) (No TooDeep) z = refl
longer_assoc (Tree a i) (Tree b j) (No Nothing) = longer_nothing (longer (Tree a i) (Tree b j))
longer_assoc (Tree a i) (Tree b j) (No TooDeep) = longer_deep (longer (Tree a i) (Tree b j))
longer_assoc (Tree a i) (Tree b j) (Tree c k) = all_three a b c i j k (nat_lt i j) (nat_lt j k) refl refl

-- ---- what a choice gives

longest_of : {A : Type 0} (a b c : A) (i j k : ℕ) (first : Bool) → nat_lt i j ≡ first → (if first then Tree b j else Tree a i) ≡ Tree c k
    → ((Tree a i ≡ Tree c k) × EndsBefore (k + 1) (Tree b j)) ⊎ ((Tree b j ≡ Tree c k) × EndsBefore k (Tree a i))
longest_of a b c i j k true f e =
    let ij : i < j = ltb-true i j f in
    let jk : j ≡ k = cc in
    let ik : i < k = omega arith in
    inr (e, ik)
longest_of a b c i j k false f e =
    let ji : j ≤ i = ltb-false i j f in
    let ik : i ≡ k = cc in
    let jk : j < k + 1 = omega arith in
    inl (e, jk)

pub longest : {A : Type 0} → IsLongest A
longest (No Nothing) y a k e = inr (e, tt)
longest (No TooDeep) y a k e = cc
longest (Tree b i) (No Nothing) a k e = inl (e, tt)
longest (Tree b i) (No TooDeep) a k e = cc
longest (Tree b i) (Tree c j) a k e = longest_of b c a i j k (nat_lt i j) refl e

one_is_there : {A : Type 0} (first : Bool) (a b : A) (i j : ℕ) (w : Why) → (if first then Tree b j else Tree a i) ≡ No w → ⊥
one_is_there true a b i j w e = cc
one_is_there false a b i j w e = cc

pub deep_as_either : {A : Type 0} → IsDeepAsEither A
deep_as_either (No Nothing) y = ((λ e. inr e), λ h. elim h [ inl e ↦ cc | inr e ↦ e ])
deep_as_either (No TooDeep) y = ((λ e. inl e), λ h. refl)
deep_as_either (Tree a i) (No Nothing) = ((λ e. cc), λ h. elim h [ inl e ↦ cc | inr e ↦ cc ])
deep_as_either (Tree a i) (No TooDeep) = ((λ e. inr e), λ h. refl)
deep_as_either (Tree a i) (Tree b j) = ((λ e. absurd (one_is_there (nat_lt i j) a b i j TooDeep e)), λ h. elim h [ inl e ↦ cc | inr e ↦ cc ])

pub nothing_as_both : {A : Type 0} → IsNothingAsBoth A
nothing_as_both (No Nothing) y = ((λ e. (refl, e)), λ h. h.1)
nothing_as_both (No TooDeep) y = ((λ e. cc), λ h. h.0)
nothing_as_both (Tree a i) (No Nothing) = ((λ e. cc), λ h. h.0)
nothing_as_both (Tree a i) (No TooDeep) = ((λ e. cc), λ h. cc)
nothing_as_both (Tree a i) (Tree b j) = ((λ e. absurd (one_is_there (nat_lt i j) a b i j Nothing e)), λ h. cc)

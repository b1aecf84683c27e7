-- The texts of the library's names in the code are those of the definition, and each name stands at its number in all names.
use Rattle.std.proofs.Common.{◌≡◌, ℕ, zero, suc, ◌<◌, ◌≤◌, Bool, true, false, ◌&&◌, cond, true≢false, List, [], ◌∷◌, ◌++◌, length, map, take, Option, None, Some, slice_get, codes, refl, sym, ap, ◌∙◌, arith}
use Rattle.std.proofs.lemmas.List.{length-take, take-append-le}
use Rattle.std.proofs.lemmas.Option.{slice_get_within}
use Rattle.std.specs.List.{list_all, AllByRecursion}
use Rattle.std.specs.Str.{bytes_eq}
use Rattle.std.specs.Cmp.Lexicographic.{bytes_decides}
use Rattle.cxx_base.specs.Library.{library, library_names, BeginsWithLibrary, AreInPlace}
use Rattle.cxx_base.specs.LibraryScopes.{AreDeclared}
use Rattle.cxx_base.specs.Texts.{Text, has_text, number_of, with_text, with_texts}
use Rattle.cxx_base.specs.declared.library.TheConstants.{LIBRARY}
use Rattle.cxx_base.specs.declared.name.Name.{Name}

pub with_library : with_texts [] (map (λ name. name.now) LIBRARY) ≡ library_names
unfolding library library_names
with_library = refl

pub length-library : length library_names ≡ 69
unfolding library library_names
length-library = refl

pub number_of-std : number_of library_names (codes "std") ≡ 0
unfolding library library_names
number_of-std = refl

pub begins-library : BeginsWithLibrary library_names
unfolding library library_names
begins-library = refl

pub are_declared : AreDeclared
unfolding library library_names
are_declared = refl

-- a list that begins with those of the library is no shorter
long : (texts : List Text) → BeginsWithLibrary texts → length library_names ≤ length texts
long texts begins =
    let few = length-take (length library_names) texts in
    let same = ap length begins in
    omega (arith, few, same)

-- and so does the list with one text more
pub begins-with_text : (texts : List Text) (text : Text) → BeginsWithLibrary texts → BeginsWithLibrary (with_text texts text)
begins-with_text texts text begins = by (has_text texts text)
  where
    by : (b : Bool) → BeginsWithLibrary (cond b texts (texts ++ text ∷ []))
    by true = begins
    by false = take-append-le (length library_names) texts (text ∷ []) (long texts begins) ∙ begins

-- what stands in the front of a list stands there in the list
front : (k : ℕ) (texts : List Text) (n : ℕ) → n < k → slice_get (take k texts) n ≡ slice_get texts n
front zero texts n h = absurd (omega (arith, h))
front (suc k) [] n h = refl
front (suc k) (text ∷ texts) zero h = refl
front (suc k) (text ∷ texts) (suc n) h = front k texts n (omega (arith, h))

at_front : (texts : List Text) → BeginsWithLibrary texts → (n : ℕ) (text : Text) → slice_get library_names n ≡ Some text → slice_get texts n ≡ Some text
at_front texts begins n text e =
    sym (front (length library_names) texts n (slice_get_within library_names n text e)) ∙ ap (λ names. slice_get names n) begins ∙ e

-- whether a name stands at its number
abbrev is_text : Text → Option Text → Bool
is_text text None = false
is_text text (Some found) = bytes_eq found text

abbrev stands : (Name × Text) → Bool
stands named = is_text named.1 (slice_get library_names named.0.0)

stood : (text : Text) (found : Option Text) → is_text text found ≡ true → found ≡ Some text
stood text None h = absurd (true≢false (sym h))
stood text (Some found) h = ap Some ((bytes_decides found text).0 h)

all_stand : list_all stands library ≡ true
unfolding library library_names
all_stand = refl

first : (a b : Bool) → (a && b) ≡ true → a ≡ true
first true b h = refl
first false b h = absurd (true≢false (sym h))

second : (a b : Bool) → (a && b) ≡ true → b ≡ true
second true b h = h
second false b h = absurd (true≢false (sym h))

each : (texts : List Text) → BeginsWithLibrary texts → (some : List (Name × Text)) → list_all stands some ≡ true
    → AllByRecursion (λ named. slice_get texts named.0.0 ≡ Some named.1) some
each texts begins [] h = tt
each texts begins (named ∷ more) h = (
  at_front texts begins named.0.0 named.1 (stood named.1 (slice_get library_names named.0.0) (first (stands named) (list_all stands more) h)),
  each texts begins more (second (stands named) (list_all stands more) h),
)

pub in_place : (texts : List Text) → BeginsWithLibrary texts → AreInPlace texts
in_place texts begins = each texts begins library all_stand

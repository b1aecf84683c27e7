-- Where the names of the library are declared before the first piece.
use Rattle.std.specs.Prelude.{◌≡◌, Bool, ◌||◌, ◌==◌, nat_lt, if◌then◌else◌, List, [], ◌∷◌, map, drop, length, Option, None, Some, codes}
use Rattle.cxx_base.specs.Library.{library, library_names}
use Rattle.cxx_base.specs.Texts.{Text}
use Rattle.cxx_base.specs.declared.library.LibraryScope.{LibraryScope}
use Rattle.cxx_base.specs.declared.library.LibraryScope.TheVariants.{Global, Std, Meta}
use Rattle.cxx_base.specs.declared.library.TheConstants as number
use Rattle.cxx_base.specs.declared.name.Name.{Name}

-- the names that are declared in `std`
abbrev pub is_in_std : Name → Bool
is_in_std name =
    name.0 == number.META.0 || name.0 == number.VECTOR.0 || name.0 == number.STRING_VIEW.0
    || name.0 == number.SIZE_T.0 || name.0 == number.PTRDIFF_T.0

-- `std` is declared in the global namespace, those names in `std`, and all others of the library in `std::meta`
abbrev pub scope_of : Name → Option LibraryScope
scope_of name =
    if name.0 == number.STD.0 then Some Global
    else (if is_in_std name then Some Std else (if nat_lt name.0 number.COUNT then Some Meta else None))

-- the scope of each name, beside its text
abbrev pub AreDeclared : Type 0
AreDeclared =
    map {B = Text × Option LibraryScope} (λ named. (named.1, scope_of named.0)) library
    ≡ (codes "std", Some Global) ∷ (codes "meta", Some Std) ∷ (codes "vector", Some Std) ∷ (codes "extract", Some Meta)
    ∷ (codes "info", Some Meta) ∷ (codes "string_view", Some Std) ∷ (codes "access_context", Some Meta)
    ∷ (codes "member_offset", Some Meta) ∷ (codes "size_t", Some Std) ∷ (codes "ptrdiff_t", Some Std)
    ∷ map {B = Text × Option LibraryScope} (λ text. (text, Some Meta)) (drop 10 library_names)

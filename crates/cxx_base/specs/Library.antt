-- The names of the library, with their numbers.
use Rattle.std.specs.Prelude.{◌≡◌, ◌≤◌, ◌^◌, List, [], ◌∷◌, length, map, take, slice_get, Some, codes}
use Rattle.std.specs.List.{AllByRecursion}
use Rattle.cxx_base.specs.Texts.{Text}
use Rattle.cxx_base.specs.declared.name.Name.{Name}
use Rattle.cxx_base.specs.declared.library.TheConstants as number

-- The names of the library, in their fixed order: those that the grammar knows, and then the others that are declared in
-- `std` or in `std::meta` before the first piece. Beside each stands the constant that is its number.
unfoldable pub library : List (Name × Text)
library =
    (number.STD, codes "std") ∷
    (number.META, codes "meta") ∷
    (number.VECTOR, codes "vector") ∷
    (number.EXTRACT, codes "extract") ∷
    (number.INFO, codes "info") ∷
    (number.STRING_VIEW, codes "string_view") ∷
    (number.ACCESS_CONTEXT, codes "access_context") ∷
    (number.MEMBER_OFFSET, codes "member_offset") ∷
    (number.SIZE_T, codes "size_t") ∷
    (number.PTRDIFF_T, codes "ptrdiff_t") ∷
    (number.SIZE_OF, codes "size_of") ∷
    (number.ALIGNMENT_OF, codes "alignment_of") ∷
    (number.DATA_MEMBER_SPEC, codes "data_member_spec") ∷
    (number.DEFINE_AGGREGATE, codes "define_aggregate") ∷
    (number.IS_TYPE, codes "is_type") ∷
    (number.IS_NAMESPACE, codes "is_namespace") ∷
    (number.IS_TYPE_ALIAS, codes "is_type_alias") ∷
    (number.IS_NAMESPACE_ALIAS, codes "is_namespace_alias") ∷
    (number.IS_VARIABLE, codes "is_variable") ∷
    (number.IS_FUNCTION, codes "is_function") ∷
    (number.IS_CONSTRUCTOR, codes "is_constructor") ∷
    (number.IS_DESTRUCTOR, codes "is_destructor") ∷
    (number.IS_ENUMERATOR, codes "is_enumerator") ∷
    (number.IS_NONSTATIC_DATA_MEMBER, codes "is_nonstatic_data_member") ∷
    (number.IS_BASE, codes "is_base") ∷
    (number.IS_VALUE, codes "is_value") ∷
    (number.IS_DATA_MEMBER_SPEC, codes "is_data_member_spec") ∷
    (number.IS_CLASS_MEMBER, codes "is_class_member") ∷
    (number.IS_STATIC_MEMBER, codes "is_static_member") ∷
    (number.IS_PUBLIC, codes "is_public") ∷
    (number.IS_PROTECTED, codes "is_protected") ∷
    (number.IS_PRIVATE, codes "is_private") ∷
    (number.IS_CLASS_TYPE, codes "is_class_type") ∷
    (number.IS_ENUM_TYPE, codes "is_enum_type") ∷
    (number.IS_SCOPED_ENUM_TYPE, codes "is_scoped_enum_type") ∷
    (number.IS_INTEGRAL_TYPE, codes "is_integral_type") ∷
    (number.IS_SIGNED_TYPE, codes "is_signed_type") ∷
    (number.IS_UNSIGNED_TYPE, codes "is_unsigned_type") ∷
    (number.IS_POINTER_TYPE, codes "is_pointer_type") ∷
    (number.IS_ARRAY_TYPE, codes "is_array_type") ∷
    (number.IS_LVALUE_REFERENCE_TYPE, codes "is_lvalue_reference_type") ∷
    (number.IS_VOID_TYPE, codes "is_void_type") ∷
    (number.IS_REFLECTION_TYPE, codes "is_reflection_type") ∷
    (number.IS_CONST_TYPE, codes "is_const_type") ∷
    (number.IS_SAME_TYPE, codes "is_same_type") ∷
    (number.IS_COMPLETE_TYPE, codes "is_complete_type") ∷
    (number.IS_ENUMERABLE_TYPE, codes "is_enumerable_type") ∷
    (number.HAS_IDENTIFIER, codes "has_identifier") ∷
    (number.IDENTIFIER_OF, codes "identifier_of") ∷
    (number.TYPE_OF, codes "type_of") ∷
    (number.PARENT_OF, codes "parent_of") ∷
    (number.DEALIAS, codes "dealias") ∷
    (number.CONSTANT_OF, codes "constant_of") ∷
    (number.REFLECT_CONSTANT, codes "reflect_constant") ∷
    (number.MEMBERS_OF, codes "members_of") ∷
    (number.BASES_OF, codes "bases_of") ∷
    (number.STATIC_DATA_MEMBERS_OF, codes "static_data_members_of") ∷
    (number.NONSTATIC_DATA_MEMBERS_OF, codes "nonstatic_data_members_of") ∷
    (number.ENUMERATORS_OF, codes "enumerators_of") ∷
    (number.IS_ACCESSIBLE, codes "is_accessible") ∷
    (number.OFFSET_OF, codes "offset_of") ∷
    (number.REMOVE_CONST, codes "remove_const") ∷
    (number.ADD_CONST, codes "add_const") ∷
    (number.REMOVE_POINTER, codes "remove_pointer") ∷
    (number.ADD_POINTER, codes "add_pointer") ∷
    (number.REMOVE_REFERENCE, codes "remove_reference") ∷
    (number.ADD_LVALUE_REFERENCE, codes "add_lvalue_reference") ∷
    (number.REMOVE_EXTENT, codes "remove_extent") ∷
    (number.UNDERLYING_TYPE, codes "underlying_type") ∷
    []

unfoldable pub library_names : List Text
library_names = map (λ named. named.1) library

-- the names of the library stand first
abbrev pub BeginsWithLibrary : List Text → Type 0
BeginsWithLibrary texts = take (length library_names) texts ≡ library_names

-- the names of a source: those of the library first, and no more than can be numbered
pub record AreNames (texts : List Text) : Type 0 where
  pub few : length texts ≤ 2 ^ 24
  pub library : BeginsWithLibrary texts

-- each name of the library stands at its number
abbrev pub AreInPlace : List Text → Type 0
AreInPlace texts = AllByRecursion (λ named. slice_get texts named.0.0 ≡ Some named.1) library

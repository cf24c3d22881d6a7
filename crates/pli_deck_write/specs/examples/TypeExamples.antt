-- Worked examples: types in which a `*` stands, each with its bytes, and bytes that are none.
use Rattle.std.specs.Prelude.{◌≡◌, ℕ, List, [], ◌∷◌, Ok, Err, pos}
use Rattle.pli_map.specs.declared.parameter.StringForm.TheVariants as forms
use Rattle.pli_map.specs.Description.{Pointer, Structure, NoMembers, MemberThen}
use Rattle.pli_map.specs.ParameterTypes.{ParameterType, Stated, AnyString, AnyArray, ArrayOf, StructureOf}
use Rattle.pli_map.specs.ParameterTypes.{NoType, TypeThen}
use Rattle.pli_code.specs.declared.fault.DeckFault.TheVariants.{Truncated, OutOfRange}
use Rattle.pli_code.specs.declared.version.Version.TheVariants.{First, Second, Third}
use Rattle.pli_deck_write.specs.Descriptions.{description}

-- (1:2) BIT(*)
abbrev pub two_strings : ParameterType
two_strings = ArrayOf (record { low = pos 1; high = pos 2 } ∷ []) (AnyString forms.Bit)

-- its bytes
abbrev pub two_bytes : List ℕ
two_bytes = 8 ∷ 1 ∷ 0 ∷ 0 ∷ 0 ∷ 1 ∷ 0 ∷ 0 ∷ 0 ∷ 2 ∷ 12 ∷ []

-- a pointer and a string of any length, as members
abbrev pub with_string : ParameterType
with_string = StructureOf (TypeThen (Stated Pointer) (TypeThen (AnyString forms.Varying) NoType))

-- how they are written
abbrev pub TypesWrittenSo : Type 0
TypesWrittenSo =
    ((description Third).bytes_of (AnyString forms.Character) ≡ 10 ∷ [])
    × ((description Third).bytes_of (AnyArray 2 (Stated Pointer)) ≡ 13 ∷ 2 ∷ 5 ∷ [])
    × ((description Third).bytes_of two_strings ≡ two_bytes)
    × ((description Third).bytes_of with_string ≡ 9 ∷ 0 ∷ 2 ∷ 5 ∷ 11 ∷ [])

-- how they are read; the element of an array whose bounds are `*` is no area, array or structure, whatever
-- follows; it has 1 to 8 dimensions; older versions have no such type, and what is stated is a description
abbrev pub TypesReadSo : Type 0
TypesReadSo =
    ((description Third).read (11 ∷ 60 ∷ []) ≡ Ok (AnyString forms.Varying, 60 ∷ []))
    × ((description Third).read (13 ∷ 2 ∷ 5 ∷ []) ≡ Ok (AnyArray 2 (Stated Pointer), []))
    × ((description Third).read two_bytes ≡ Ok (two_strings, []))
    × ((description Third).read (9 ∷ 0 ∷ 2 ∷ 5 ∷ 11 ∷ []) ≡ Ok (with_string, []))
    × ((description Third).read (9 ∷ 0 ∷ 1 ∷ 5 ∷ []) ≡ Ok (Stated (Structure (MemberThen Pointer NoMembers)), []))
    × ((description Third).read (13 ∷ 1 ∷ 7 ∷ []) ≡ Err OutOfRange)
    × ((description Third).read (13 ∷ 1 ∷ 8 ∷ []) ≡ Err OutOfRange)
    × ((description Third).read (13 ∷ 1 ∷ 9 ∷ []) ≡ Err OutOfRange)
    × ((description Third).read (13 ∷ 1 ∷ 13 ∷ []) ≡ Err OutOfRange)
    × ((description Third).read (13 ∷ 0 ∷ 5 ∷ []) ≡ Err OutOfRange)
    × ((description Third).read (13 ∷ 9 ∷ 5 ∷ []) ≡ Err OutOfRange)
    × ((description Third).read (13 ∷ 1 ∷ []) ≡ Err Truncated)
    × ((description Third).read (14 ∷ []) ≡ Err OutOfRange)
    × ((description Second).read (10 ∷ []) ≡ Err OutOfRange)
    × ((description First).read (13 ∷ 1 ∷ 5 ∷ []) ≡ Err OutOfRange)

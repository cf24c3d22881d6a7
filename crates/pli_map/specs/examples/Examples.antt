-- Worked examples of sizes, alignments and places.
use Rattle.std.specs.Prelude.{◌≡◌, ℕ, pos, negsuc, List, [], ◌∷◌, Some, None}
use Rattle.pli_map.specs.declared.description.Bounds.{Bounds}
use Rattle.pli_map.specs.Description.{Description, FixedBinary, Character, Varying, Bit, Pointer, Offset}
use Rattle.pli_map.specs.Description.{Array, Structure, Members, NoMembers, MemberThen, area}
use Rattle.pli_map.specs.Sizes.{alignment_of, size_of}
use Rattle.pli_map.specs.Parts.{Member, Element, place_of}

-- from 1 to n
abbrev pub up_to : ℕ → Bounds
up_to n = record { low = pos 1; high = pos n }

-- members, one after another
abbrev pub all_of : List Description → Members
all_of [] = NoMembers
all_of (d ∷ ds) = MemberThen d (all_of ds)

-- a structure of these members
abbrev pub structure : List Description → Description
structure ds = Structure (all_of ds)

-- this size and this alignment
abbrev pub Takes : Description → ℕ → ℕ → Type 0
Takes d size alignment = (size_of d ≡ size) × (alignment_of d ≡ alignment)

-- FIXED BINARY up to 15 and beyond, strings, locators and areas
abbrev pub ScalarSizes : Type 0
ScalarSizes =
    Takes (FixedBinary 15) 2 2 × Takes (FixedBinary 16) 4 4 × Takes (FixedBinary 31) 4 4
    × Takes (FixedBinary 32) 8 8 × Takes (FixedBinary 63) 8 8
    × Takes (Character 3) 3 1 × Takes (Varying 3) 5 2
    × Takes (Bit 8) 1 1 × Takes (Bit 9) 2 1 × Takes Pointer 8 4 × Takes Offset 4 4 × Takes (area 9) 16 8
    × Takes (area 16) 16 8

-- FIXED BINARY(15), FIXED BINARY(31), CHARACTER(3), CHARACTER(5) VARYING, BIT(9)
abbrev pub mixed : Description
mixed = structure (FixedBinary 15 ∷ FixedBinary 31 ∷ Character 3 ∷ Varying 5 ∷ Bit 9 ∷ [])

-- each member stands at its next aligned place, and the size is not rounded up
abbrev pub MixedMembers : Type 0
MixedMembers = Takes mixed 21 4
    × (place_of mixed (Member 1 ∷ []) ≡ Some (record { offset = 4; description = FixedBinary 31 }))
    × (place_of mixed (Member 2 ∷ []) ≡ Some (record { offset = 8; description = Character 3 }))
    × (place_of mixed (Member 3 ∷ []) ≡ Some (record { offset = 12; description = Varying 5 }))
    × (place_of mixed (Member 4 ∷ []) ≡ Some (record { offset = 19; description = Bit 9 }))
    × (place_of mixed (Member 5 ∷ []) ≡ None)

-- FIXED BINARY(15), FIXED BINARY(63)
abbrev pub wide : Description
wide = structure (FixedBinary 15 ∷ FixedBinary 63 ∷ [])

-- a number of eight bytes stands at a multiple of 8
abbrev pub WideMembers : Type 0
WideMembers = Takes wide 16 8
    × (place_of wide (Member 1 ∷ []) ≡ Some (record { offset = 8; description = FixedBinary 63 }))

-- (2:3, -1:1) CHARACTER(4): six elements, the last subscript fastest
abbrev pub table : Description
table =
    Array (record { low = pos 2; high = pos 3 } ∷ record { low = negsuc 0; high = pos 1 } ∷ []) (Character 4)

-- (2, -1) first, (2, 0) next, (3, -1) after three, (3, 1) last; (3, 2) and one subscript alone lead nowhere
abbrev pub RowMajorOrder : Type 0
RowMajorOrder = Takes table 24 1
    × (place_of table (Element (pos 2 ∷ negsuc 0 ∷ []) ∷ [])
    ≡ Some (record { offset = 0; description = Character 4 }))
    × (place_of table (Element (pos 2 ∷ pos 0 ∷ []) ∷ [])
    ≡ Some (record { offset = 4; description = Character 4 }))
    × (place_of table (Element (pos 3 ∷ negsuc 0 ∷ []) ∷ [])
    ≡ Some (record { offset = 12; description = Character 4 }))
    × (place_of table (Element (pos 3 ∷ pos 1 ∷ []) ∷ [])
    ≡ Some (record { offset = 20; description = Character 4 }))
    × (place_of table (Element (pos 3 ∷ pos 2 ∷ []) ∷ []) ≡ None)
    × (place_of table (Element (pos 3 ∷ []) ∷ []) ≡ None)

-- three structures of FIXED BINARY(31) and FIXED BINARY(15), each of 6 bytes, stand 8 bytes apart
abbrev pub pairs : Description
pairs = Array (up_to 3 ∷ []) (structure (FixedBinary 31 ∷ FixedBinary 15 ∷ []))

-- the last member of the last element, 2 * 8 + 4 bytes after the beginning
abbrev pub StridesAreAligned : Type 0
StridesAreAligned = Takes pairs 24 4
    × (place_of pairs (Element (pos 3 ∷ []) ∷ Member 1 ∷ [])
    ≡ Some (record { offset = 20; description = FixedBinary 15 }))

-- no subscripts lie between 3 and 1
abbrev pub NoElements : Type 0
NoElements = size_of (Array (record { low = pos 3; high = pos 1 } ∷ []) (Character 4)) ≡ 0

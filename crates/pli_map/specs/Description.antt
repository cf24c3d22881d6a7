-- Descriptions, as definitions speak of them (own): without where they lie in memory. Names do not stand in
-- them, so two descriptions are equal where types, bounds and structure agree.
use Rattle.std.specs.Prelude.{ℕ, List, [], ◌∷◌}
use Rattle.std.specs.Int.{next_multiple_of}
use Rattle.pli_map.specs.declared.description.Bounds.{Bounds}

mutual
  -- a type, an array of elements, or a structure of members
  pub data Description : Type 0 where
    FixedBinary : (precision : ℕ) → Description
    Character : (length : ℕ) → Description
    Varying : (length : ℕ) → Description
    Bit : (length : ℕ) → Description
    Pointer : Description
    Offset : Description
    Area : (bytes : ℕ) → Description
    Array : (bounds : List Bounds) (element : Description) → Description
    Structure : (members : Members) → Description

  -- the members of a structure, in their order
  pub data Members : Type 0 where
    NoMembers : Members
    MemberThen : (first : Description) (others : Members) → Members

-- the description of AREA(n): an area's size is a multiple of 8 bytes
abbrev pub area : ℕ → Description
area n = Area (next_multiple_of n 8)

-- the members of a structure, as a list
abbrev pub listed : Members → List Description
listed NoMembers = []
listed (MemberThen d ds) = d ∷ listed ds

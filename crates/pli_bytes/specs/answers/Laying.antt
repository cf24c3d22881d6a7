-- What is kept where values are laid down one after the other.
use Rattle.std.specs.Prelude.{◌≡◌, ℕ, ◌+◌, ◌==◌, Bool, true, false, ◌&&◌, List, ◌++◌, map, length}
use Rattle.std.specs.Prelude.{take, drop}
use Rattle.pli_map.specs.Description.{Description, FixedBinary, Character, Varying, Bit, Pointer, Offset}
use Rattle.pli_map.specs.Description.{Area, Array, Structure, Members, NoMembers, MemberThen}
use Rattle.pli_map.specs.Parts.{PlacedPart, moved}
use Rattle.pli_map.specs.Scalars.{scalars_of}
use Rattle.pli_map.specs.Sizes.{size_of}
use Rattle.pli_map.specs.Values.{are_held}
use Rattle.pli_value.specs.Value.{Value}
use Rattle.pli_bytes.specs.Contents.{scalars_at, value_in}

-- of values so many are held as there are scalars, and these are left
pub record Taken (ds : List Description) (vs rest : List Value) : Type 0 where
  pub used : List Value
  pub is : vs ≡ used ++ rest
  pub held : are_held ds used ≡ true

-- whatever scalars stand after these, the values are not theirs
abbrev pub NoneTaken : (ds : List Description) (vs : List Value) → Type 0
NoneTaken ds vs = (es : List Description) → are_held (ds ++ es) vs ≡ false

-- these places, which lie between two bytes, hold these values now, and no byte before or after them has
-- changed
pub record Laid (low : ℕ) (ss : List PlacedPart) (high : ℕ) (vs : List Value) (old new : List ℕ)
    : Type 0 where
  pub values : map (value_in new) ss ≡ vs
  pub front : take low new ≡ take low old
  pub back : drop high new ≡ drop high old
  pub size : length new ≡ length old

-- the same of the scalars of a description that stands after so many bytes
abbrev pub LaidAt : (at : ℕ) (d : Description) (vs : List Value) (old new : List ℕ) → Type 0
LaidAt at d vs old new = Laid at (map (moved at) (scalars_at d)) (at + size_of d) vs old new

-- there its scalars hold the first values now, and these are left
pub record LaidFront (at : ℕ) (d : Description) (vs rest : List Value) (old new : List ℕ) : Type 0 where
  pub taken : Taken (scalars_of d) vs rest
  pub laid : LaidAt at d taken.used old new

-- each scalar begins with the value that it holds where all of its bytes are this one
abbrev mutual
  pub begins_with : (byte : ℕ) → Description → Bool
  begins_with byte (FixedBinary p) = byte == 0
  begins_with byte (Character n) = byte == 32
  begins_with byte (Varying n) = byte == 0
  begins_with byte (Bit n) = byte == 0
  begins_with byte Pointer = byte == 0
  begins_with byte Offset = byte == 0
  begins_with byte (Area n) = true
  begins_with byte (Array bounds element) = begins_with byte element
  begins_with byte (Structure members) = all_begin_with byte members

  -- so do those of these members
  pub all_begin_with : (byte : ℕ) → Members → Bool
  all_begin_with byte NoMembers = true
  all_begin_with byte (MemberThen d ds) = begins_with byte d && all_begin_with byte ds

-- What the values of a description's scalars and those of its parts have to do with bytes.
use Rattle.std.specs.Prelude.{◌≡◌, ℕ, ◌+◌, true, Some, List, ◌++◌, map, length, take, drop, slice_get}
use Rattle.pli_map.specs.Description.{Description}
use Rattle.pli_map.specs.Parts.{PathStep, PlacedPart, place_of}
use Rattle.pli_map.specs.ScalarPaths.{scalars_before}
use Rattle.pli_map.specs.Scalars.{is_scalar, scalars_in, scalars_of, first_scalar}
use Rattle.pli_map.specs.Sizes.{size_of}
use Rattle.pli_bytes.specs.Contents.{scalars_at, bytes_from, values_of, with_bytes_at}

-- a description has as many scalars as places of scalars
abbrev pub Counted : Type 0
Counted = (d : Description) → length (scalars_at d) ≡ scalars_in d

-- and at these stand its scalars, in their order
abbrev pub Described : Type 0
Described = (d : Description) → map (λ s. s.description) (scalars_at d) ≡ scalars_of d

-- a scalar that a path leads to lies where the path says: its number is how many scalars stand before it
abbrev pub OnPaths : Type 0
OnPaths =
    (whole : Description) (path : List PathStep) (part : PlacedPart) (k : ℕ)
    → is_scalar part.description ≡ true → place_of whole path ≡ Some part
    → scalars_before whole path ≡ Some k → slice_get (scalars_at whole) k ≡ Some part

-- the values of a part are those of its own bytes
abbrev pub PartValues : Type 0
PartValues =
    (whole : Description) (offset : ℕ) (part : Description) (k : ℕ) (bytes : List ℕ)
    → first_scalar whole offset part ≡ Some k
    → take (scalars_in part) (drop k (values_of whole bytes)) ≡ values_of part (drop offset bytes)

-- where the bytes of a part are put, its values are put in the place of those that it had, and no others
abbrev pub PartPut : Type 0
PartPut =
    (whole : Description) (offset : ℕ) (part : Description) (k : ℕ) (new bytes : List ℕ)
    → first_scalar whole offset part ≡ Some k → length new ≡ size_of part → length bytes ≡ size_of whole
    → values_of whole (with_bytes_at offset new bytes)
    ≡ take k (values_of whole bytes) ++ values_of part new
    ++ drop (k + length (values_of part new)) (values_of whole bytes)

-- where the bytes of a part of one description are copied to a part of another of the same description, its
-- values are
abbrev pub PartCopied : Type 0
PartCopied =
    (source : Description) (place : ℕ) (target : Description) (offset : ℕ) (part : Description) (j k : ℕ)
    (from to : List ℕ)
    → first_scalar source place part ≡ Some j → first_scalar target offset part ≡ Some k
    → length from ≡ size_of source → length to ≡ size_of target
    → let vs = take (scalars_in part) (drop j (values_of source from)) in
    values_of target (with_bytes_at offset (bytes_from place (size_of part) from) to)
    ≡ take k (values_of target to) ++ vs ++ drop (k + length vs) (values_of target to)

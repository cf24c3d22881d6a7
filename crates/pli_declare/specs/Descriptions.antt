-- The descriptions of variables, where they are known.
use Rattle.std.specs.Prelude.{◌≡◌, ℕ, zero, suc, Bool, false, not, ◌&&◌, ◌||◌, nat_le, Option, Some, None}
use Rattle.std.specs.Prelude.{is_none, option_map, List, [], ◌∷◌, map, length, get_or, if◌then◌else◌}
use Rattle.pli_base.specs.Name.{Name}
use Rattle.pli_base.specs.Codes.{code_place}
use Rattle.pli_base.specs.Declarations.{Item}
use Rattle.pli_base.specs.declared.code.Code.{Code}
use Rattle.pli_base.specs.declared.code.Code.TheVariants.{BadBounds}
use Rattle.pli_map.specs.Description.{Description, Structure, Members, NoMembers, MemberThen}
use Rattle.pli_declare.specs.Extents.{all_bounds, are_bad_bounds}
use Rattle.pli_declare.specs.Extents as extents
use Rattle.pli_declare.specs.Faults.{with_bounds, described_scalar, is_too_large}
use Rattle.pli_declare.specs.Sets.{outermost, set_of}
use Rattle.pli_declare.specs.Types.{number_of, is_bad_precision, is_bad_length}
use Rattle.pli_declare.specs.Types as types
use Rattle.pli_declare.specs.Tables.{Entry, no_entry, numbers_from}
use Rattle.pli_declare.specs.Places.{item_of, members_of, own_code, is_variable}

-- one of A3 to A7
abbrev pub is_of_shape : Option Code → Bool
is_of_shape None = false
is_of_shape (Some c) = nat_le (code_place c) (code_place BadBounds)

-- the type that an item without members has
abbrev pub scalar_at : List Entry → ℕ → Description
scalar_at entries n = described_scalar (map outermost (item_of entries n).attributes)

-- members, where each is known
abbrev pub member_then : Option Description → Option Members → Option Members
member_then None ms = None
member_then (Some d) ms = option_map (MemberThen d) ms

-- the members of a structure, where each has a description
abbrev pub members_made : (ℕ → Option Description) → List ℕ → Option Members
members_made describe [] = Some NoMembers
members_made describe (k ∷ ks) = member_then (describe k) (members_made describe ks)

-- a structure of the members, or the type of an item without any
abbrev pub inside : (ℕ → Option Description) → Description → List ℕ → Option Description
inside describe scalar [] = Some scalar
inside describe scalar (k ∷ ks) = option_map Structure (members_made describe (k ∷ ks))

-- the description of an item, where neither it nor an item in it has one of A3 to A7; its members stand
-- after it, so they nest less deep than there are entries. A `*` counts as 1 in it
abbrev pub described : (bound : ℕ) → List Entry → (codes : List (Option Code)) → ℕ → Option Description
described zero entries codes n = None
described (suc bound) entries codes n =
    if is_of_shape (get_or codes n None) then None
    else option_map (with_bounds (all_bounds (item_of entries n).dimensions))
    (inside (described bound entries codes) (scalar_at entries n) (members_of entries n))

-- each item's least fault apart from names
abbrev pub own_codes : List Entry → (parameters : List Name) → List (Option Code)
own_codes entries parameters = map (own_code entries parameters) (numbers_from 0 (length entries))

-- the description of an item
abbrev pub description_of : List Entry → (parameters : List Name) → ℕ → Option Description
description_of entries parameters n = described (length entries) entries (own_codes entries parameters) n

-- whether a description is too large
abbrev pub is_large : Option Description → Bool
is_large None = false
is_large (Some d) = is_too_large d

-- a `*` stands in an item, so that its size is not known
abbrev pub is_starred : Item → Bool
is_starred item = types.has_star (map outermost item.attributes) || extents.has_star item.dimensions

-- a variable of its own that is too large, where its size is known
abbrev pub is_large_at : List Entry → (codes : List (Option Code)) → ℕ → Bool
is_large_at entries codes n =
    is_none (get_or entries n no_entry).owner && is_variable (get_or entries n no_entry).entity
    && is_large (described (length entries) entries codes n) && not (is_starred (item_of entries n))

-- the same, by each item's least fault
abbrev pub is_too_large_variable : List Entry → (parameters : List Name) → ℕ → Bool
is_too_large_variable entries parameters n = is_large_at entries (own_codes entries parameters) n

-- bounds, precision and length are within the limits
pub record IsSoundItem (item : Item) : Type 0 where
  pub bounds : are_bad_bounds item.dimensions ≡ false
  pub precision : is_bad_precision (set_of (map outermost item.attributes))
      (number_of (map outermost item.attributes)) ≡ false
  pub length_of : is_bad_length (set_of (map outermost item.attributes))
      (number_of (map outermost item.attributes)) ≡ false

-- an item whose code is none of A3 to A7 is within the limits
abbrev pub ShapesAreSound : List Entry → (codes : List (Option Code)) → Type 0
ShapesAreSound entries codes =
    (n : ℕ) → is_of_shape (get_or codes n None) ≡ false → IsSoundItem (item_of entries n)

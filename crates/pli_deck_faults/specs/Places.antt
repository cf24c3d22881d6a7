-- Where the scalars of a description stand, in a form in which one is found without going over those before
-- it.
use Rattle.std.specs.Prelude.{ℕ, ◌+◌, nat_eq, nat_le, List, [], ◌∷◌, map, Option, Some, None, option_map}
use Rattle.std.specs.Prelude.{if◌then◌else◌}
use Rattle.std.specs.Int.{next_multiple_of}
use Rattle.pli_map.specs.Description as tree
use Rattle.pli_map.specs.Description.{Description, Members}
use Rattle.pli_map.specs.Sizes.{alignment_of, size_of, stride_of}
use Rattle.pli_map.specs.ParameterTypes.{ParameterType, Stated}
use Rattle.pli_map.specs.views.DescriptionView.{description_view}
use Rattle.pli_deck_faults.specs.declared.places.Places as program
use Rattle.pli_deck_faults.specs.declared.places.DescriptionExtent as placed_program
use Rattle.pli_deck_faults.specs.declared.places.Places.TheOpen.{Places-F}
use Rattle.pli_deck_faults.specs.declared.places.Places.TheFolds.{fold-Places}

mutual
  -- none; that of a scalar; those of an array's elements, by its bytes and those from one element to the
  -- next; those of a structure's members, by where each starts and ends
  pub data Places : Type 0 where
    Nothing : Places
    One : Description → Places
    Elements : (bytes stride : ℕ) → Places → Places
    Among : (starts ends : List ℕ) → PlacesList → Places

  -- the places of each member of a structure
  pub data PlacesList : Type 0 where
    NoPlaces : PlacesList
    PlacesThen : Places → PlacesList → PlacesList

-- where members start, the first after this byte
abbrev pub starts_from : (at : ℕ) → Members → List ℕ
starts_from at tree.NoMembers = []
starts_from at (tree.MemberThen d ds) =
    next_multiple_of at (alignment_of d) ∷ starts_from (next_multiple_of at (alignment_of d) + size_of d) ds

-- where they end
abbrev pub ends_from : (at : ℕ) → Members → List ℕ
ends_from at tree.NoMembers = []
ends_from at (tree.MemberThen d ds) =
    (next_multiple_of at (alignment_of d) + size_of d)
    ∷ ends_from (next_multiple_of at (alignment_of d) + size_of d) ds

abbrev mutual
  -- the places of a description
  pub places_of : Description → Places
  places_of (tree.Array bounds element) =
      if nat_eq (size_of (tree.Array bounds element)) 0 then Nothing
      else Elements (size_of (tree.Array bounds element)) (stride_of element) (places_of element)
  places_of (tree.Structure members) =
      Among (starts_from 0 members) (ends_from 0 members) (places_among members)
  places_of scalar = One scalar

  -- those of members
  pub places_among : Members → PlacesList
  places_among tree.NoMembers = NoPlaces
  places_among (tree.MemberThen d ds) = PlacesThen (places_of d) (places_among ds)

-- places in a list
abbrev pub list_of_places : List Places → PlacesList
list_of_places [] = NoPlaces
list_of_places (p ∷ ps) = PlacesThen p (list_of_places ps)

-- one level of the places of the program, with what each inside says in its place
abbrev pub places_level : Places-F Places → Places
places_level Places-F.Nothing = Nothing
places_level (Places-F.One d) = One (description_view d)
places_level (Places-F.Elements bytes stride element) = Elements bytes stride element.value
places_level (Places-F.Among starts ends members) =
    Among starts.items ends.items (list_of_places members.items)

-- what places of the program say
abbrev pub places_view : program.Places → Places
places_view = fold-Places Places places_level

-- the size of a description, with its places
pub record DescriptionExtent : Type 0 where
  pub bytes : ℕ
  pub places : Places

-- none of a description of more than 1,000,000 bytes
abbrev pub placed_of : Description → Option DescriptionExtent
placed_of d =
    if nat_le (size_of d) 1000000 then Some (record { bytes = size_of d; places = places_of d }) else None

-- the same of a type; none of one in which a `*` stands
abbrev pub placed_type : ParameterType → Option DescriptionExtent
placed_type (Stated d) = placed_of d
placed_type other = None

-- the same with the size
abbrev pub placed_view : placed_program.DescriptionExtent → DescriptionExtent
placed_view p = record { bytes = p.bytes; places = places_view p.places }

-- the same of descriptions that may be too large
abbrev pub all_placed : List (Option placed_program.DescriptionExtent) → List (Option DescriptionExtent)
all_placed ps = map (option_map placed_view) ps

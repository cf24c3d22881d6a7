-- The items of a block as variables: where each stands, and its least fault apart from names.
use Rattle.std.specs.Prelude.{ℕ, zero, suc, ◌+◌, ◌*◌, Bool, false, not, ◌&&◌, ◌||◌, ◌==◌}
use Rattle.std.specs.Prelude.{Option, Some, None, is_none, option_map, List, [], ◌∷◌, map, length, get_or}
use Rattle.std.specs.Prelude.{if◌then◌else◌, codes}
use Rattle.std.specs.List.{list_any, list_all, filter}
use Rattle.std.specs.Option.{unwrap_or}
use Rattle.pli_base.specs.Name.{Name}
use Rattle.pli_base.specs.Words.{same_name}
use Rattle.pli_base.specs.declared.code.Code.{Code}
use Rattle.pli_base.specs.Declarations.{Item}
use Rattle.pli_map.specs.Sizes.{count_of}
use Rattle.pli_declare.specs.Extents.{all_bounds, are_unknown, is_array}
use Rattle.pli_declare.specs.Faults.{item_fault}
use Rattle.pli_declare.specs.Sets.{outermost, set_of, has, none_of, entry, built_in, based, area}
use Rattle.pli_declare.specs.Sets.{pointer, offset}
use Rattle.pli_declare.specs.declared.place.ItemPlace.{ItemPlace}
use Rattle.pli_declare.specs.declared.place.Position.{Position}
use Rattle.pli_declare.specs.declared.place.Position.TheVariants.{AtLevelOne, Member, Parameter}
use Rattle.pli_declare.specs.Tables.{Entity, AsItem, AsLabel, AsProcedure, Entry, no_entry}
use Rattle.pli_declare.specs.Tables.{numbers_from}

-- the items that an entry is a member of, the nearest first; each stands before it
abbrev pub above : (bound : ℕ) → List Entry → Option ℕ → List ℕ
above zero entries owner = []
above (suc bound) entries None = []
above (suc bound) entries (Some n) = n ∷ above bound entries (get_or entries n no_entry).owner

-- the items that an item belongs to, the nearest first
abbrev pub owners_of : List Entry → ℕ → List ℕ
owners_of entries n = above (length entries) entries (get_or entries n no_entry).owner

-- whether an entry belongs to the item of this number
abbrev pub owner_is : ℕ → Entry → Bool
owner_is n e = unwrap_or (option_map (λ o. o == n) e.owner) false

-- the members of an item
abbrev pub members_of : List Entry → ℕ → List ℕ
members_of entries n = filter (λ k. owner_is n (get_or entries k no_entry)) (numbers_from 0 (length entries))

-- an item that says nothing
abbrev pub no_item : Item
no_item = record { level = None; names = []; dimensions = []; attributes = [] }

-- the item of an entity
abbrev pub item_in : Entity → Item
item_in (AsItem item is_bad) = item
item_in (AsLabel region) = no_item
item_in (AsProcedure heading region) = no_item

-- the item of an entry
abbrev pub item_of : List Entry → ℕ → Item
item_of entries n = item_in (get_or entries n no_entry).entity

-- the names of built-in functions
abbrev pub built_in_names : List Name
built_in_names =
    codes "ABS" ∷ codes "MAX" ∷ codes "MIN" ∷ codes "MOD" ∷ codes "DIVIDE" ∷ codes "SIGN" ∷ codes "LENGTH"
    ∷ codes "INDEX" ∷ codes "ALLOCATION" ∷ codes "LBOUND" ∷ codes "HBOUND"
    ∷ codes "SUBSTR" ∷ codes "ADDR" ∷ codes "NULL" ∷ codes "EMPTY" ∷ codes "POINTER" ∷ codes "OFFSET" ∷ []

-- the name of a built-in function
unfoldable pub is_built_in : Name → Bool
is_built_in name = list_any (same_name name) built_in_names

-- an item's level is a fault
abbrev pub is_bad_level : Entity → Bool
is_bad_level (AsItem item is_bad) = is_bad
is_bad_level (AsLabel region) = false
is_bad_level (AsProcedure heading region) = false

-- it belongs to no item
abbrev pub stands_alone : Entry → Bool
stands_alone e = is_none e.owner

-- what belongs to no item is a parameter, where its name is one's, or else at level 1, unless its level is a
-- fault
abbrev pub position_of : (stands_alone is_named is_bad : Bool) → Position
position_of alone is_named is_bad =
    if alone && is_named then Parameter else if alone && not is_bad then AtLevelOne else Member

-- how many elements the levels above make, where none of them has bad bounds or a `*`
abbrev pub elements_through : List Entry → List ℕ → Option ℕ
elements_through entries [] = Some 1
elements_through entries (n ∷ ns) =
    let dimensions = (item_of entries n).dimensions in
    if are_unknown dimensions then None
    else option_map (λ count. count * count_of (all_bounds dimensions)) (elements_through entries ns)

-- where an item stands; the parameters are those of the procedure that is the block
abbrev pub place_in : List Entry → (parameters : List Name) → ℕ → ItemPlace
place_in entries parameters n =
    let entry = get_or entries n no_entry in
    let name = entry.identifier.name in
    record {
      position =
          position_of (stands_alone entry) (list_any (same_name name) parameters) (is_bad_level entry.entity);
      has_members = not (length (members_of entries n) == 0);
      in_array = list_any (λ k. is_array (item_of entries k).dimensions) (owners_of entries n);
      elements_above = elements_through entries (owners_of entries n);
      built_in_name = is_built_in name;
    }

-- the least fault of an entry's own attributes
abbrev pub own_code : List Entry → (parameters : List Name) → ℕ → Option Code
own_code entries parameters n = item_fault (place_in entries parameters n) (item_of entries n)

-- the attributes of an item as a set
abbrev pub set_in : List Entry → ℕ → ℕ
set_in entries n = set_of (map outermost (item_of entries n).attributes)

-- an entry or a built-in function is no variable
abbrev pub is_variable : Entity → Bool
is_variable (AsItem item is_bad) = none_of (set_of (map outermost item.attributes)) (entry + built_in)
is_variable (AsLabel region) = false
is_variable (AsProcedure heading region) = false

-- neither it nor an item that it is a member of has dimensions
abbrev pub is_unsubscripted : List Entry → ℕ → Bool
is_unsubscripted entries n =
    list_all (λ k. not (is_array (item_of entries k).dimensions)) (n ∷ owners_of entries n)

-- a locator that BASED may name: a variable with POINTER or OFFSET, unsubscripted, that is not BASED
abbrev pub is_locator : List Entry → ℕ → Bool
is_locator entries n =
    is_variable (get_or entries n no_entry).entity
    && (has (set_in entries n) pointer || has (set_in entries n) offset) && is_unsubscripted entries n
    && list_all (λ k. none_of (set_in entries k) based) (n ∷ owners_of entries n)

-- an area that OFFSET may name: a variable with AREA, unsubscripted; what else is wrong with it is a fault of
-- its own
abbrev pub is_area : List Entry → ℕ → Bool
is_area entries n =
    is_variable (get_or entries n no_entry).entity && has (set_in entries n) area
    && is_unsubscripted entries n

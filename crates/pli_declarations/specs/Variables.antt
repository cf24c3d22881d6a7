-- The names of a block: where each item stands, its least fault apart from faults of names and levels, its
-- description, and what each name is declared as.
use Rattle.std.specs.Prelude.{ℕ, zero, suc, Bool, false, not, ◌&&◌, ◌||◌, ◌==◌, if◌then◌else◌, Option, Some}
use Rattle.std.specs.Prelude.{None, option_map, option_and_then, List, [], ◌∷◌, map, length, get_or}
use Rattle.std.specs.Prelude.{slice_get}
use Rattle.std.specs.List.{list_any, list_all}
use Rattle.std.specs.Option.{unwrap_or}
use Rattle.pli_base.specs.Name.{Name}
use Rattle.pli_base.specs.Words.{same_name}
use Rattle.pli_base.specs.declared.code.Code.{Code}
use Rattle.pli_base.specs.Declarations.{DescribedAttribute, Plain, Pointer, Offset, Area, Based}
use Rattle.pli_map.specs.Description.{Description, Structure, Members, NoMembers, MemberThen}
use Rattle.pli_declare.specs.Sets.{outermost}
use Rattle.pli_declare.specs.Extents.{all_bounds, is_array}
use Rattle.pli_declare.specs.Extents as extents
use Rattle.pli_declare.specs.Faults.{with_bounds, is_too_large}
use Rattle.pli_declare.specs.declared.place.ItemPlace.{ItemPlace}
use Rattle.pli_declare.specs.declared.place.Position.TheVariants.{AtLevelOne, Member, Parameter}
use Rattle.pli_declare.specs.Tables.{Entity, AsItem, AsLabel, AsProcedure, Entry, no_entry}
use Rattle.pli_declare.specs.Tables.{numbers_from}
use Rattle.pli_declare.specs.Places.{owners_of, members_of, item_of, is_bad_level, stands_alone}
use Rattle.pli_declare.specs.Places.{elements_through, is_unsubscripted}
use Rattle.pli_declare.specs.Descriptions.{is_of_shape}
use Rattle.pli_declare.specs.Declarations.{Declaration, DeclaredKind, OfItem, OfLabel, OfProcedure}
use Rattle.pli_declare.specs.Declarations.{returned_by}
use Rattle.pli_declare.specs.BuiltIns.{built_in_functions}
use Rattle.pli_declarations.specs.Attributes.{has, has_none, is_variable}
use Rattle.pli_declarations.specs.Types.{has_star, scalar_of}
use Rattle.pli_declarations.specs.Items.{item_fault, completed_of}

-- items

-- the name of a built-in function
abbrev pub is_built_in : Name → Bool
is_built_in name = list_any (λ f. same_name name f.0) built_in_functions

-- where an item stands; the parameters are those of the procedure that is the block. What belongs to no item
-- is a parameter, where its name is one's, or else at level 1, unless its level is a fault
abbrev pub place_in : List Entry → (parameters : List Name) → ℕ → ItemPlace
place_in entries parameters n =
    let e = get_or entries n no_entry in
    record {
      position =
          if not (stands_alone e) then Member
          else if list_any (same_name e.identifier.name) parameters then Parameter
          else if is_bad_level e.entity then Member else AtLevelOne;
      has_members = not (length (members_of entries n) == 0);
      in_array = list_any (λ k. is_array (item_of entries k).dimensions) (owners_of entries n);
      elements_above = elements_through entries (owners_of entries n);
      built_in_name = is_built_in e.identifier.name;
    }

-- the least fault of an entry's own attributes
abbrev pub own_code : List Entry → (parameters : List Name) → ℕ → Option Code
own_code entries parameters n = item_fault (place_in entries parameters n) (item_of entries n)

-- the attributes of an item
abbrev pub attributes_in : List Entry → ℕ → List DescribedAttribute
attributes_in entries n = map outermost (item_of entries n).attributes

-- an item that is no entry and no built-in function
abbrev pub is_variable_item : Entity → Bool
is_variable_item (AsItem item is_bad) = is_variable (map outermost item.attributes)
is_variable_item other = false

-- a locator that BASED may name: a variable with POINTER or OFFSET, unsubscripted, that is not BASED
abbrev pub is_locator : List Entry → ℕ → Bool
is_locator entries n =
    is_variable_item (get_or entries n no_entry).entity
    && (has (attributes_in entries n) (Plain Pointer) || has (attributes_in entries n) (Plain (Offset None)))
    && is_unsubscripted entries n
    && list_all (λ k. has_none (attributes_in entries k) (Plain (Based None) ∷ [])) (n ∷ owners_of entries n)

-- an area that OFFSET may name: a variable with AREA, unsubscripted; what else is wrong with it is a fault of
-- its own
abbrev pub is_area : List Entry → ℕ → Bool
is_area entries n =
    is_variable_item (get_or entries n no_entry).entity && has (attributes_in entries n) (Plain (Area None))
    && is_unsubscripted entries n

-- descriptions

-- the members of a structure, where each has a description
abbrev pub members_made : (ℕ → Option Description) → List ℕ → Option Members
members_made describe [] = Some NoMembers
members_made describe (k ∷ ks) =
    option_and_then (λ d. option_map (MemberThen d) (members_made describe ks)) (describe k)

-- a structure of the members, or the type of an item without any
abbrev pub inside : (ℕ → Option Description) → (scalar : Description) → List ℕ → Option Description
inside describe scalar [] = Some scalar
inside describe scalar ks = option_map Structure (members_made describe ks)

-- the description of an item, where neither it nor an item in it has one of A3 to A7; its members stand
-- after it, so they nest less deep than there are entries. A `*` counts as 1 in it
abbrev pub described : (bound : ℕ) → List Entry → (codes : List (Option Code)) → ℕ → Option Description
described zero entries codes n = None
described (suc bound) entries codes n =
    if is_of_shape (get_or codes n None) then None
    else option_map (with_bounds (all_bounds (item_of entries n).dimensions))
    (inside (described bound entries codes) (scalar_of (attributes_in entries n)) (members_of entries n))

-- the description of an item of a block
abbrev pub description_of : List Entry → (parameters : List Name) → ℕ → Option Description
description_of entries parameters n =
    described (length entries) entries (map (own_code entries parameters) (numbers_from 0 (length entries))) n

-- a variable of its own
abbrev pub is_whole : List Entry → ℕ → Bool
is_whole entries n = let e = get_or entries n no_entry in stands_alone e && is_variable_item e.entity

-- a variable of its own that is too large; where a `*` stands in it, its size is not known
abbrev pub is_too_large_variable : List Entry → (parameters : List Name) → ℕ → Bool
is_too_large_variable entries parameters n =
    is_whole entries n && unwrap_or (option_map is_too_large (description_of entries parameters n)) false
    && not (has_star (attributes_in entries n) || extents.has_star (item_of entries n).dimensions)

-- declarations

-- what the name of this number is declared as: of the RETURNS of a procedure the first decides, and a second
-- one is a fault
abbrev pub kind_at : List Entry → (parameters : List Name) → ℕ → Entity → DeclaredKind
kind_at entries parameters n (AsItem item is_bad) =
    OfItem (completed_of (place_in entries parameters n) item)
    (if is_whole entries n then description_of entries parameters n else None)
kind_at entries parameters n (AsLabel region) = OfLabel region
kind_at entries parameters n (AsProcedure heading region) =
    OfProcedure (option_map scalar_of (slice_get (returned_by heading.options) 0)) region

-- all names of a block, where the parameters are those of the procedure that is the block
abbrev pub declared_in : List Entry → (parameters : List Name) → List Declaration
declared_in entries parameters = map at (numbers_from 0 (length entries))
  where
    at : ℕ → Declaration
    at n =
        let e = get_or entries n no_entry in
        record { identifier = e.identifier; owner = e.owner; kind = kind_at entries parameters n e.entity }

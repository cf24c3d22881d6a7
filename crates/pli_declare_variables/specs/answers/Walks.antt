-- What is known of each item by what is known of the items before it.
use Rattle.std.specs.Prelude.{ℕ, ◌==◌, ◌||◌, ◌&&◌, not, Bool, true, false, Option, Some, None, List, ◌∷◌, map}
use Rattle.std.specs.Prelude.{length, get_or}
use Rattle.std.specs.List.{list_any, list_all}
use Rattle.pli_base.specs.Name.{Name}
use Rattle.pli_base.specs.Words.{same_name}
use Rattle.pli_declare.specs.Extents.{is_array}
use Rattle.pli_declare.specs.Initials.{elements_inside}
use Rattle.pli_declare_attributes.specs.answers.Cuts.{cut, cut_place}
use Rattle.pli_declare.specs.Sets.{none_of, based, set_of, outermost}
use Rattle.pli_declare.specs.declared.place.ItemPlace.{ItemPlace}
use Rattle.pli_base.specs.Declarations.{Item}
use Rattle.pli_declare.specs.Tables.{Entry}
use Rattle.pli_declare.specs.Places.{owners_of, members_of, item_of, is_bad_level, stands_alone}
use Rattle.pli_declare.specs.Places.{position_of, elements_through, is_built_in, set_in, is_locator}
use Rattle.pli_declare.specs.Places.{is_area, place_in}
use Rattle.pli_declare_variables.specs.declared.places.LevelsAbove.{LevelsAbove}
use Rattle.pli_declare_variables.specs.declared.locators.Chain.{Chain}
use Rattle.pli_declare_variables.specs.declared.locators.Nameable.{Nameable}

-- whether an item has members
abbrev pub has_members_at : List Entry → ℕ → Bool
has_members_at entries n = not (length (members_of entries n) == 0)

-- what levels make, the nearest first; elements are counted up to a limit
abbrev pub made_by : List Entry → List ℕ → LevelsAbove
made_by entries ns =
    record {
      in_array = list_any (λ k. is_array (item_of entries k).dimensions) ns;
      elements = cut (elements_through entries ns);
    }

-- what the items make that an item is a member of, the nearest first
abbrev pub above_at : List Entry → ℕ → LevelsAbove
above_at entries n = made_by entries (owners_of entries n)

-- of an item that is a member of none
abbrev pub nothing_above : LevelsAbove
nothing_above = record { in_array = false; elements = Some 1 }

-- what is above a member of this owner, where it is known of each item before
abbrev pub above_owner : List LevelsAbove → List Entry → Option ℕ → LevelsAbove
above_owner aboves entries None = nothing_above
above_owner aboves entries (Some o) =
    let dimensions = (item_of entries o).dimensions in
    let above = get_or aboves o nothing_above in
    record {
      in_array = is_array dimensions
          || above.in_array;
      elements = cut (elements_inside above.elements dimensions);
    }

-- where an item stands
abbrev pub placed : Entry → (parameters : List Name) → (has_members : Bool) → LevelsAbove → ItemPlace
placed entry parameters has_members above =
    record {
      position =
          position_of (stands_alone entry) (list_any (same_name entry.identifier.name) parameters)
          (is_bad_level entry.entity);
      has_members = has_members;
      in_array = above.in_array;
      elements_above = above.elements;
      built_in_name = is_built_in entry.identifier.name;
    }

-- where an item stands, with its count of elements up to the limit
abbrev pub cut_place_in : List Entry → (parameters : List Name) → ℕ → ItemPlace
cut_place_in entries parameters n = cut_place (place_in entries parameters n)

-- what all of these items are
abbrev pub chain_of : List Entry → List ℕ → Chain
chain_of entries ns =
    record {
      is_unsubscripted = list_all (λ k. not (is_array (item_of entries k).dimensions)) ns;
      is_not_based = list_all (λ k. none_of (set_in entries k) based) ns;
    }

-- of an item and those that it is a member of
abbrev pub chain_at : List Entry → ℕ → Chain
chain_at entries n = chain_of entries (n ∷ owners_of entries n)

-- of no items
abbrev pub no_chain : Chain
no_chain = record { is_unsubscripted = true; is_not_based = true }

-- what an owner and those above it are, where it is known of each item before
abbrev pub chain_above : List Chain → Option ℕ → Chain
chain_above chains None = no_chain
chain_above chains (Some o) = get_or chains o no_chain

-- what an item is together with those above it
abbrev pub chain_with : Item → Chain → Chain
chain_with item chain =
    record {
      is_unsubscripted = not (is_array item.dimensions) && chain.is_unsubscripted;
      is_not_based = none_of (set_of (map outermost item.attributes)) based && chain.is_not_based;
    }

-- whether BASED and OFFSET may name an item
abbrev pub nameable_at : List Entry → ℕ → Nameable
nameable_at entries n = record { is_locator = is_locator entries n; is_area = is_area entries n }

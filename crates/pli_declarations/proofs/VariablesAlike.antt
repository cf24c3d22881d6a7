-- The names of a block are declared as the passes find them.
use Rattle.std.specs.Prelude.{◌≡◌, refl, ℕ, zero, suc, ◌+◌, Bool, true, false, not, ◌&&◌, ◌||◌, ◌==◌, if◌then◌else◌, Option, Some, None, is_none, option_map, option_and_then, List, [], ◌∷◌, map, length, get_or, slice_get}
use Rattle.std.specs.List.{list_any, list_all}
use Rattle.std.specs.Option.{unwrap_or}
use Rattle.std.proofs.Common.{ap}
use Rattle.pli_base.specs.Name.{Name}
use Rattle.pli_base.specs.Words.{same_name}
use Rattle.pli_base.specs.declared.code.Code.{Code}
use Rattle.pli_base.specs.Declarations.{DescribedAttribute}
use Rattle.pli_map.specs.Description.{Description, Structure, MemberThen}
use Rattle.pli_declare.specs.Sets as sets
use Rattle.pli_declare.specs.Sets.{outermost}
use Rattle.pli_declare.specs.Extents.{all_bounds, is_array}
use Rattle.pli_declare.specs.Extents as extents
use Rattle.pli_declare.specs.Faults.{with_bounds, is_too_large}
use Rattle.pli_declare.specs.declared.place.Position.TheVariants.{AtLevelOne, Member, Parameter}
use Rattle.pli_declare.specs.Tables.{Entity, AsItem, AsLabel, AsProcedure, Entry, no_entry, numbers_from}
use Rattle.pli_declare.specs.Places as places
use Rattle.pli_declare.specs.Places.{owners_of, members_of, item_of, is_bad_level, stands_alone, elements_through, is_unsubscripted}
use Rattle.pli_declare.specs.Descriptions as descriptions
use Rattle.pli_declare.specs.Descriptions.{is_of_shape}
use Rattle.pli_declare.specs.Declarations as declarations
use Rattle.pli_declare.specs.Declarations.{OfItem, OfProcedure, returned_by}
use Rattle.pli_declarations.specs.Types.{scalar_of}
use Rattle.pli_declarations.specs.Variables.{is_built_in, place_in, own_code, attributes_in, is_variable_item, is_locator, is_area, members_made, inside, described, description_of, is_whole, is_too_large_variable, kind_at, declared_in}
use Rattle.pli_declarations.proofs.AttributesAlike.{set_alike, star_alike, scalar_alike}
use Rattle.pli_declarations.proofs.ItemsAlike.{item_alike, completed_alike}

-- ---- items

pub built_in_alike : (name : Name) → is_built_in name ≡ places.is_built_in name
unfolding places.is_built_in
built_in_alike name = refl

position_alike : (alone named bad : Bool) → (if not alone then Member else if named then Parameter else if bad then Member else AtLevelOne) ≡ places.position_of alone named bad
position_alike true true bad = refl
position_alike true false true = refl
position_alike true false false = refl
position_alike false named bad = refl

pub place_alike : (entries : List Entry) (parameters : List Name) (n : ℕ) → place_in entries parameters n ≡ places.place_in entries parameters n
place_alike entries parameters n =
    let e = get_or entries n no_entry in
    λ i. record {
      position = position_alike (stands_alone e) (list_any (same_name e.identifier.name) parameters) (is_bad_level e.entity) i;
      has_members = not (length (members_of entries n) == 0);
      in_array = list_any (λ k. is_array (item_of entries k).dimensions) (owners_of entries n);
      elements_above = elements_through entries (owners_of entries n);
      built_in_name = built_in_alike e.identifier.name i;
    }

pub code_alike : (entries : List Entry) (parameters : List Name) (n : ℕ) → own_code entries parameters n ≡ places.own_code entries parameters n
code_alike entries parameters n = λ i. item_alike (place_alike entries parameters n i) (item_of entries n) i

variable_alike : (e : Entity) → is_variable_item e ≡ places.is_variable e
variable_alike (AsItem item is_bad) = λ i. sets.none_of (set_alike (map outermost item.attributes) i) (sets.entry + sets.built_in)
variable_alike (AsLabel region) = refl
variable_alike (AsProcedure heading region) = refl

pub locator_alike : (entries : List Entry) (n : ℕ) → is_locator entries n ≡ places.is_locator entries n
locator_alike entries n =
    λ i. let s = set_alike (attributes_in entries n) i in
    variable_alike (get_or entries n no_entry).entity i
    && (sets.has s sets.pointer || sets.has s sets.offset) && is_unsubscripted entries n
    && list_all (λ k. sets.none_of (set_alike (attributes_in entries k) i) sets.based) (n ∷ owners_of entries n)

pub area_alike : (entries : List Entry) (n : ℕ) → is_area entries n ≡ places.is_area entries n
area_alike entries n =
    λ i. variable_alike (get_or entries n no_entry).entity i && sets.has (set_alike (attributes_in entries n) i) sets.area && is_unsubscripted entries n

-- ---- descriptions

members_alike : (describe : ℕ → Option Description) (ks : List ℕ) → members_made describe ks ≡ descriptions.members_made describe ks
members_alike describe [] = refl
members_alike describe (k ∷ ks) = by (describe k) (members_alike describe ks)
  where
    by : (d : Option Description) → members_made describe ks ≡ descriptions.members_made describe ks
        → option_and_then (λ x. option_map (MemberThen x) (members_made describe ks)) d ≡ descriptions.member_then d (descriptions.members_made describe ks)
    by None e = refl
    by (Some d) e = ap (option_map (MemberThen d)) e

inside_alike : (describe : ℕ → Option Description) (scalar : Description) (ks : List ℕ) → inside describe scalar ks ≡ descriptions.inside describe scalar ks
inside_alike describe scalar [] = refl
inside_alike describe scalar (k ∷ ks) = ap (option_map Structure) (members_alike describe (k ∷ ks))

described_alike : (bound : ℕ) (entries : List Entry) (codes : List (Option Code)) (n : ℕ) → described bound entries codes n ≡ descriptions.described bound entries codes n
described_alike zero entries codes n = refl
described_alike (suc bound) entries codes n =
    λ i. if is_of_shape (get_or codes n None) then None
    else option_map (with_bounds (all_bounds (item_of entries n).dimensions))
    (inside_alike (λ k. described_alike bound entries codes k i) (scalar_alike (attributes_in entries n) i) (members_of entries n) i)

description_alike : (entries : List Entry) (parameters : List Name) (n : ℕ) → description_of entries parameters n ≡ descriptions.description_of entries parameters n
description_alike entries parameters n =
    λ i. described_alike (length entries) entries (map (λ k. code_alike entries parameters k i) (numbers_from 0 (length entries))) n i

whole_alike : (entries : List Entry) (n : ℕ) → is_whole entries n ≡ (is_none (get_or entries n no_entry).owner && places.is_variable (get_or entries n no_entry).entity)
whole_alike entries n = λ i. is_none (get_or entries n no_entry).owner && variable_alike (get_or entries n no_entry).entity i

large_alike : (d : Option Description) → unwrap_or (option_map is_too_large d) false ≡ descriptions.is_large d
large_alike None = refl
large_alike (Some d) = refl

pub too_large_alike : (entries : List Entry) (parameters : List Name) (n : ℕ) → is_too_large_variable entries parameters n ≡ descriptions.is_too_large_variable entries parameters n
too_large_alike entries parameters n =
    λ i. whole_alike entries n i && large_alike (description_alike entries parameters n i) i
    && not (star_alike (attributes_in entries n) i || extents.has_star (item_of entries n).dimensions)

-- ---- declarations

result_alike : (returned : List (List DescribedAttribute)) → option_map scalar_of (slice_get returned 0) ≡ declarations.described_result returned
result_alike [] = refl
result_alike (xs ∷ more) = ap Some (scalar_alike xs)

kind_alike : (entries : List Entry) (parameters : List Name) (n : ℕ) (e : Entity) → kind_at entries parameters n e ≡ declarations.kind_of entries parameters n e
kind_alike entries parameters n (AsItem item is_bad) =
    λ i. OfItem (completed_alike (place_alike entries parameters n i) item i) (if whole_alike entries n i then description_alike entries parameters n i else None)
kind_alike entries parameters n (AsLabel region) = refl
kind_alike entries parameters n (AsProcedure heading region) = λ i. OfProcedure (result_alike (returned_by heading.options) i) region

pub declared_alike : (entries : List Entry) (parameters : List Name) → declared_in entries parameters ≡ declarations.declared_in entries parameters
declared_alike entries parameters =
    λ i. map (λ n. let e = get_or entries n no_entry in record { identifier = e.identifier; owner = e.owner; kind = kind_alike entries parameters n e.entity i })
    (numbers_from 0 (length entries))

-- Types in which a `*` stands: they are within the limits where symbols say them, and so are their elements.
use Rattle.std.specs.Prelude.{◌≡◌, ℕ, zero, suc, ◌≤◌, ◌==◌, Bool, true, false, Some, List, [], ◌∷◌, length, refl}
use Rattle.std.specs.List.{AllByRecursion}
use Rattle.std.proofs.Common.{arith, subst}
use Rattle.std.proofs.lemmas.Bool.Decides.{Decides-eqb}
use Rattle.std.proofs.lemmas.Option.{same_Some}
use Rattle.pli_map.specs.Description.{Description, FixedBinary, Character, Varying, Bit, Pointer, Offset, Area, Array, Structure}
use Rattle.pli_map.specs.ParameterTypes.{ParameterType, Stated, AnyString, AnyArray, ArrayOf, StructureOf, stated, type_if, element_type}
use Rattle.pli_resolve_bounds.specs.SymbolBounds.{IsTaken}
use Rattle.pli_type_rules.specs.References.{open_part}
use Rattle.pli_deck_laws.specs.Limits.{IsDescription, IsAnyString, IsOpenElement, IsParameterType}

-- what a symbol says that a parameter may be
pub taken_fits : (t : ParameterType) → IsTaken t → IsParameterType t
taken_fits (Stated d) h = h.0
taken_fits (AnyString form) h = tt
taken_fits (AnyArray k element) h = ((h.0, h.1), h.2)
taken_fits (ArrayOf bounds element) h = ((h.0, h.1), h.2, h.3)
taken_fits (StructureOf types) h = absurd h

pub all_taken : (ts : List ParameterType) → AllByRecursion IsTaken ts → AllByRecursion IsParameterType ts
all_taken [] h = tt
all_taken (t ∷ ts) h = (taken_fits t h.0, all_taken ts h.1)

-- what is stated of a type
pub stated_fits : (t : ParameterType) (d : Description) → IsParameterType t → stated t ≡ Some d → IsDescription d
stated_fits (Stated c) d h e = subst IsDescription (same_Some c d e) h
stated_fits other d h e = absurd cc

if_type : (b : Bool) (t u : ParameterType) → type_if b t ≡ Some u → (b ≡ true) × (t ≡ u)
if_type true t u e = (refl, same_Some t u e)
if_type false t u e = absurd cc

string_fits : (t : ParameterType) → IsAnyString t → IsParameterType t
string_fits (AnyString form) h = tt
string_fits other h = absurd h

element_within : (t : ParameterType) → IsOpenElement t → IsParameterType t
element_within (Stated (FixedBinary p)) h = h
element_within (Stated (Character n)) h = h
element_within (Stated (Varying n)) h = h
element_within (Stated (Bit n)) h = h
element_within (Stated Pointer) h = tt
element_within (Stated Offset) h = tt
element_within (Stated (Area n)) h = absurd h
element_within (Stated (Array bounds d)) h = absurd h
element_within (Stated (Structure ds)) h = absurd h
element_within (AnyString form) h = tt
element_within other h = absurd h

-- an element of so many subscripts, of which there are few
element_fits : (k : ℕ) (t u : ParameterType) → IsParameterType t → element_type k t ≡ Some u → IsParameterType u × (k ≤ 8)
element_fits k (AnyArray j element) u h e =
    let is = if_type (j == k) element u e in
    let same : j ≡ k = (Decides-eqb j k).0 is.0 in
    let few = h.0.1 in
    (subst IsParameterType is.1 (element_within element h.1), omega (arith, few, same))
element_fits k (ArrayOf bounds element) u h e =
    let is = if_type (length bounds == k) element u e in
    let same : length bounds ≡ k = (Decides-eqb (length bounds) k).0 is.0 in
    let few = h.0.1 in
    (subst IsParameterType is.1 (string_fits element h.2), omega (arith, few, same))
element_fits k (Stated d) u h e = absurd cc
element_fits k (AnyString form) u h e = absurd cc
element_fits k (StructureOf types) u h e = absurd cc

-- the whole, or an element
pub open_part_fits : (t : ParameterType) (given : ℕ) (u : ParameterType) → IsParameterType t → open_part t given ≡ Some u → IsParameterType u × (given ≤ 8)
open_part_fits t zero u h e = (subst IsParameterType (same_Some t u e) h, omega arith)
open_part_fits t (suc n) u h e = element_fits (suc n) t u h e

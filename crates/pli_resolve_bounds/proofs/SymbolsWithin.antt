-- The symbols of a unit without faults say what is within the limits.
use Rattle.std.proofs.Common.{◌≡◌, ℕ, zero, suc, ◌+◌, ◌<◌, ◌≤◌, ◌||◌, nat_lt, Bool, true, false, if◌then◌else◌, inl, inr, Option, Some, None, option_map, List, [], ◌∷◌, ◌++◌, map, length, get_or, refl, sym, ap, subst, ◌∙◌, arith}
use Rattle.std.specs.List.{AllByRecursion, list_any}
use Rattle.std.specs.Option.{unwrap_or}
use Rattle.std.proofs.lemmas.Bool.{cases_lt}
use Rattle.std.proofs.lemmas.List.{get_or_past, length-map}
use Rattle.pli_base.specs.Declarations as tree
use Rattle.pli_base.specs.Name.{Name}
use Rattle.pli_base.specs.Statements.{ExternalProcedure}
use Rattle.pli_base.specs.declared.code.Code.{Code}
use Rattle.pli_base.specs.declared.code.Code.TheVariants.{TooManyParameters, GenerationTooLarge}
use Rattle.pli_base.specs.declared.syntax.Identifier.{Identifier}
use Rattle.pli_map.specs.Description.{Description}
use Rattle.pli_map.specs.Description as described
use Rattle.pli_map.specs.ParameterTypes.{ParameterType, Stated}
use Rattle.pli_map.specs.Sizes.{size_of}
use Rattle.pli_declare_outline.specs.Outlines.{Outline, outline_of}
use Rattle.pli_declare.specs.Completed.{Completed, OfVariable, OfEntry, OfBuiltIn, completed_of, variable_of}
use Rattle.pli_declare.specs.Faults.{first_of, is_too_large_type, own_fault, item_fault, entry_fault, parameters_fault, parameter_fault, parameters_in, parameter_of, returned_fault, returned_in, result_fault, described_scalar}
use Rattle.pli_declare.specs.Sets.{set_of, outermost, has, entry, built_in}
use Rattle.pli_declare.specs.Extents.{has_star}
use Rattle.pli_declare.specs.Types as types
use Rattle.pli_declare.proofs.LeastFaults.{no_lesser}
use Rattle.pli_declare_attributes.proofs.LimitsOfItems.{results_are_scalars}
use Rattle.pli_declare.proofs.ShapeLemmas.{parts_none, or_none}
use Rattle.pli_declare_attributes.proofs.TakenLemmas.{stars_are_taken}
use Rattle.pli_declare.specs.Tables.{Entity, AsItem, AsLabel, AsProcedure, Entry, no_entry, numbers_from, entries_in, unit_entries}
use Rattle.pli_declare.specs.Declarations.{Declaration, DeclaredKind, OfItem, OfLabel, OfProcedure, described_result, returned_by, whole_description, kind_of, declaration_at, declared_in, AreSound, IsGood, AreGood}
use Rattle.pli_declare.specs.Descriptions.{is_starred}
use Rattle.pli_declare.specs.Places.{place_in, item_in}
use Rattle.pli_declare.specs.Resolution.{parameters_of, resolution_faults}
use Rattle.pli_declare.specs.Resolved as declare
use Rattle.pli_declare.specs.Resolved.{resolved_of, block_at}
use Rattle.pli_declare.proofs.ListsByNumber.{made_at, made_length}
use Rattle.pli_declare.specs.ResolvedUnits.{resolved_unit_of, block_of, block_regions_of, region_block, facts_of, no_block}
use Rattle.pli_declare.specs.Symbols.{Symbol, SymbolKind, SymbolFacts, Way, kind_with, symbol_kind, symbols_with, ways_of}
use Rattle.pli_declare.specs.declared.block_numbers.BlockRegion.{BlockRegion}
use Rattle.pli_declare.specs.declared.symbol.SymbolKey.{SymbolKey}
use Rattle.pli_resolve.proofs.MeantNames.{all_good}
use Rattle.pli_deck_laws.specs.Limits.{IfThere, IsDescription, IsMade}
use Rattle.pli_resolve_bounds.specs.SymbolBounds.{IsLimited, IsTaken, SymbolsAreLimited, ParametersAreFew}
use Rattle.pli_resolve_bounds.proofs.Descriptions.{scalar_described, whole_described}
use Rattle.pli_resolve_bounds.proofs.TypesTaken.{parameter_taken, variable_taken}
use Rattle.pli_resolve_bounds.proofs.Faultless.{AreStored, IsStored, at_most, block_stored, blocks_few, unit_stored, whole_stored}
use Rattle.pli_resolve_bounds.proofs.LevelsOfEntries.{AreRanked, entries_ranked, unit_ranked}

-- ---- what ENTRY and RETURNS describe

result_described : (attributes : List tree.DescribedAttribute) → result_fault attributes ≡ None → IsDescription (described_scalar attributes)
result_described attributes h = scalar_described attributes 512 (omega arith) (results_are_scalars attributes h)

-- more than so many of them are a fault, and so is one that is too large
two_false : (a b : Bool) (c d : Code) → first_of ((a, c) ∷ (b, d) ∷ []) ≡ None → (a ≡ false) × (b ≡ false)
two_false true b c d h = cc
two_false false true c d h = cc
two_false false false c d h = (refl, refl)

either_false : (a b : Bool) → (a || b) ≡ false → (a ≡ false) × (b ≡ false)
either_false true b h = cc
either_false false b h = (refl, h)

-- what is stated is of no more bytes
size_within : (t : ParameterType) → is_too_large_type t ≡ false → (e : Description) → t ≡ Stated e → size_of e ≤ 1000000
size_within (Stated d) h e is = subst (λ t. IsSmall t) is (at_most 1000000 (size_of d) h)
  where
    IsSmall : ParameterType → Type 0
    IsSmall (Stated d) = size_of d ≤ 1000000
    IsSmall t = Unit {0}
size_within t h e is = cc

parameters_made : (ds : List tree.ParameterDescription) → parameters_fault ds ≡ None → list_any is_too_large_type (map parameter_of ds) ≡ false
    → AllByRecursion IsTaken (map parameter_of ds)
parameters_made [] h k = tt
parameters_made (d ∷ ds) h k =
    let two = no_lesser (parameter_fault d) (parameters_fault ds) h in
    let sizes = either_false (is_too_large_type (parameter_of d)) (list_any is_too_large_type (map parameter_of ds)) k in
    (parameter_taken d two.0 (size_within (parameter_of d) sizes.0), parameters_made ds two.1 sizes.1)

entry_within : (ds : List tree.ParameterDescription) → parameters_fault ds ≡ None → entry_fault ds ≡ None
    → (length (map parameter_of ds) ≤ 64) × AllByRecursion IsTaken (map parameter_of ds)
entry_within ds h k =
    let two = two_false (nat_lt 64 (length ds)) (list_any is_too_large_type (map parameter_of ds)) TooManyParameters GenerationTooLarge k in
    (omega (arith, at_most 64 (length ds) two.0, length-map ds parameter_of), parameters_made ds h two.1)

returned_described : (r : Option (List tree.DescribedAttribute)) → returned_fault r ≡ None → IfThere IsDescription (option_map described_scalar r)
returned_described None h = tt
returned_described (Some attributes) h = result_described attributes h

first_described : (rs : List (List tree.DescribedAttribute)) → AreSound rs → IfThere IsDescription (described_result rs)
first_described [] h = tt
first_described (r ∷ rs) h = result_described r h.0

-- ---- what names are declared as

abbrev IsCompletedWithin : Completed → Option Description → Type 0
IsCompletedWithin (OfVariable v) description = (v.taken ≡ None → IfThere IsMade description) × IfThere IsTaken v.taken
IsCompletedWithin (OfEntry parameters returned) description =
    (length parameters ≤ 64) × AllByRecursion IsTaken parameters × IfThere IsDescription returned
IsCompletedWithin OfBuiltIn description = Unit {0}

abbrev IsKindWithin : DeclaredKind → Type 0
IsKindWithin (OfItem completed description) = IsCompletedWithin completed description
IsKindWithin (OfLabel region) = Unit {0}
IsKindWithin (OfProcedure returned region) = IfThere IsDescription returned

abbrev Within : Declaration → Type 0
Within d = IsKindWithin d.kind

neither : (a b : Bool) → a ≡ false → b ≡ false → (a || b) ≡ false
neither true b h k = cc
neither false b h k = k

-- an item without a fault, where the variable that it may be is described
completed_within : (entries : List Entry) (parameters : List Name) (n : ℕ) (i : tree.Item) → item_fault (place_in entries parameters n) i ≡ None
    → (whole : Option Description) → (is_starred i ≡ false → IfThere IsMade whole) → IsCompletedWithin (completed_of (place_in entries parameters n) i) whole
unfolding item_fault completed_of
completed_within entries parameters n i h whole described =
    let p = place_in entries parameters n in
    let both = or_none _ (entry_fault (parameters_in i.attributes)) h in
    let parts = parts_none p i both.0 in
    let s = set_of (map outermost i.attributes) in
    by (has s entry) (has s built_in) (entry_within (parameters_in i.attributes) parts.1 both.1) (returned_described (returned_in i.attributes) parts.2)
    (variable_taken p i h)
  where
    own : own_fault (place_in entries parameters n) i ≡ None
    own = (parts_none (place_in entries parameters n) i (or_none _ (entry_fault (parameters_in i.attributes)) h).0).0

    by : (a b : Bool) → (length (map parameter_of (parameters_in i.attributes)) ≤ 64) × AllByRecursion IsTaken (map parameter_of (parameters_in i.attributes))
        → IfThere IsDescription (option_map described_scalar (returned_in i.attributes)) → IfThere IsTaken (variable_of (place_in entries parameters n) i).taken
        → IsCompletedWithin (if a then OfEntry (map parameter_of (parameters_in i.attributes)) (option_map described_scalar (returned_in i.attributes)) else if b then OfBuiltIn else OfVariable (variable_of (place_in entries parameters n) i)) whole
    by true b ps r taken = (ps.0, ps.1, r)
    by false true ps r taken = tt
    by false false ps r taken = (
      λ none. let stars = stars_are_taken (place_in entries parameters n) i own none in
          described (neither (types.has_star (map outermost i.attributes)) (has_star i.dimensions) stars.0 stars.1),
      taken,
    )

kind_within : (entries : List Entry) (parameters : List Name) (n : ℕ) (x : Entity) → IsGood entries parameters n x → (get_or entries n no_entry).entity ≡ x
    → (is_starred (item_in x) ≡ false → IfThere IsMade (whole_description entries parameters n)) → IsKindWithin (kind_of entries parameters n x)
kind_within entries parameters n (AsItem item is_bad) good is whole =
    completed_within entries parameters n item
    (ap (λ (x : Entity). item_fault (place_in entries parameters n) (item_in x)) (sym is) ∙ good.1)
    (whole_description entries parameters n) whole
kind_within entries parameters n (AsLabel region) good is whole = tt
kind_within entries parameters n (AsProcedure heading region) good is whole = first_described (returned_by heading.options) good

both_there : (x : Option Description) → IfThere IsDescription x → IfThere IsStored x → IfThere IsMade x
both_there None h k = tt
both_there (Some d) h k = (h, k)

declaration_within : (entries : List Entry) (parameters : List Name) → AreGood entries parameters → AreRanked entries → AreStored entries parameters
    → (n : ℕ) → n < length entries → Within (declaration_at entries parameters n)
declaration_within entries parameters good ranked stored n lt =
    kind_within entries parameters n (get_or entries n no_entry).entity (good n lt) refl
    (λ none. both_there (whole_description entries parameters n) (whole_described entries parameters ranked good n lt) (whole_stored entries parameters stored n lt none))

-- what is made of each of some numbers
numbers_within : {A : Type 0} (P : A → Type 0) (f : ℕ → A) (first count : ℕ) → ((n : ℕ) → n < first + count → P (f n)) → AllByRecursion P (map f (numbers_from first count))
numbers_within P f first zero each = tt
numbers_within P f first (suc count) each =
    (each first (omega arith), numbers_within P f (first + 1) count (λ n lt. each n (omega (arith, lt))))

declarations_within : (entries : List Entry) (parameters : List Name) → AreGood entries parameters → AreRanked entries → AreStored entries parameters
    → AllByRecursion Within (declared_in entries parameters)
declarations_within entries parameters good ranked stored =
    numbers_within Within (declaration_at entries parameters) 0 (length entries)
    (λ n lt. declaration_within entries parameters good ranked stored n (omega (arith, lt)))

-- ---- symbols

abbrev IsWithin : Symbol → Type 0
IsWithin s = IsLimited s.kind

-- what has no description of its own is a locator to no purpose
variable_within : (description : Option Description) → IfThere IsMade description → IsMade (unwrap_or description described.Pointer)
variable_within None h = (tt, omega arith)
variable_within (Some d) h = h

own_within : (t : Option ParameterType) (slot : ℕ) (area : Option SymbolKey) (kind : SymbolKind) → IfThere IsTaken t → (t ≡ None → IsLimited kind) → IsLimited (kind_with t slot area kind)
own_within None slot area kind h k = k refl
own_within (Some t) slot area kind h k = h

symbol_within : (f : SymbolFacts) (parameters : List Name) (w : Way) (i : Identifier) (owner : Option ℕ) (k : DeclaredKind) → IsKindWithin k
    → IsLimited (symbol_kind f parameters w i owner k)
symbol_within f parameters w i None (OfItem (OfVariable v) description) h = own_within v.taken _ _ _ h.1 (λ none. variable_within description (h.0 none))
symbol_within f parameters w i (Some owner) (OfItem (OfVariable v) description) h = tt
symbol_within f parameters w i None (OfItem (OfEntry described returned) description) h = h
symbol_within f parameters w i (Some owner) (OfItem (OfEntry described returned) description) h = h
symbol_within f parameters w i None (OfItem OfBuiltIn description) h = tt
symbol_within f parameters w i (Some owner) (OfItem OfBuiltIn description) h = tt
symbol_within f parameters w i None (OfLabel region) h = tt
symbol_within f parameters w i (Some owner) (OfLabel region) h = tt
symbol_within f parameters w i None (OfProcedure returned region) h = h
symbol_within f parameters w i (Some owner) (OfProcedure returned region) h = h

symbols_within : (f : SymbolFacts) (parameters : List Name) (ws : List Way) (ds : List Declaration) → AllByRecursion Within ds
    → AllByRecursion IsWithin (symbols_with f parameters ws ds)
symbols_within f parameters ws [] h = tt
symbols_within f parameters [] (d ∷ ds) h = tt
symbols_within f parameters (w ∷ ws) (d ∷ ds) h =
    (symbol_within f parameters w d.identifier d.owner d.kind h.0, symbols_within f parameters ws ds h.1)

-- ---- blocks

-- what a region declares, if there is one
block_declared : (o : Outline) → ((b : ℕ) → AreGood (entries_in o b) (parameters_of o b)) → ((b : ℕ) → AreStored (entries_in o b) (parameters_of o b)) → (n : ℕ)
    → AllByRecursion Within (get_or (map (block_at o) (numbers_from 0 (length o.regions))) n no_block).declarations
block_declared o good stored n =
    elim (cases_lt n (length o.regions)) [
      | inl lt ↦
          subst (λ (b : declare.BlockDeclarations). AllByRecursion Within b.declarations) (sym (made_at (block_at o) (length o.regions) n no_block lt))
          (declarations_within (entries_in o n) (parameters_of o n) (good n) (entries_ranked o n) (stored n))
      | inr past ↦
          subst (λ (b : declare.BlockDeclarations). AllByRecursion Within b.declarations)
          (sym (get_or_past (map (block_at o) (numbers_from 0 (length o.regions))) n no_block (omega (arith, past, made_length (block_at o) (length o.regions))))) tt
    ]

region_declared : (u : ExternalProcedure) → resolution_faults u ≡ [] → (n : ℕ) → AllByRecursion Within (region_block u n).declarations
unfolding resolved_of
region_declared u h n = block_declared (outline_of u) (λ b. all_good u h (Some b)) (block_stored u h) n

outermost_declared : (u : ExternalProcedure) → resolution_faults u ≡ [] → AllByRecursion Within (resolved_of u).outermost
unfolding resolved_of
outermost_declared u h = declarations_within (unit_entries (outline_of u).marks) [] (all_good u h None) (unit_ranked (outline_of u).marks) (unit_stored (outline_of u).marks)

abbrev AllWithin : List Symbol → Type 0
AllWithin ss = AllByRecursion IsWithin ss

blocks_within : (u : ExternalProcedure) → resolution_faults u ≡ [] → (bs : List BlockRegion) (last : List Symbol) → AllWithin last
    → AllByRecursion AllWithin (map (λ b. b.symbols) (map (block_of u) bs) ++ last ∷ [])
blocks_within u h [] last end = (end, tt)
blocks_within u h (b ∷ bs) last end =
    let declared = region_block u b.region in (
      symbols_within (facts_of u) declared.parameters (ways_of declared.declarations) declared.declarations (region_declared u h b.region),
      blocks_within u h bs last end,
    )

pub symbols_are_limited : SymbolsAreLimited
symbols_are_limited u h =
    blocks_within u h (block_regions_of u) (resolved_unit_of u).outermost
    (symbols_within (facts_of u) [] (ways_of (resolved_of u).outermost) (resolved_of u).outermost (outermost_declared u h))

pub parameters_are_few : ParametersAreFew
parameters_are_few u h = blocks_few u h (block_regions_of u)

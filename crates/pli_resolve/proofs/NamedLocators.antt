-- What BASED and OFFSET name in a unit without faults: an unsubscripted locator that is not based, and an area.
use Rattle.std.proofs.Common.{◌≡◌, ℕ, zero, suc, ◌+◌, ◌<◌, Bool, true, false, not, ◌==◌, ◌&&◌, ◌||◌, if◌then◌else◌, Option, Some, None, is_none, List, [], ◌∷◌, map, length, get_or, slice_get, Contains, bit_and, inl, inr, refl, sym, ap, ◌∙◌, subst, arith}
use Rattle.std.specs.List.{flat_map, list_all, list_any}
use Rattle.std.proofs.lemmas.Bool.{cases_lt, cases_eq, eqb-true}
use Rattle.std.proofs.lemmas.Option.{slice_get_within, get_or_from_slice_get}
use Rattle.pli_base.specs.Name.{Name}
use Rattle.pli_base.specs.Words.{same_name}
use Rattle.pli_base.specs.Declarations.{Offset, DescribedAttribute, Plain, AnyEntry, AnyReturns}
use Rattle.pli_base.specs.Statements.{Heading, ExternalProcedure}
use Rattle.pli_base.specs.declared.code.Code.{Code}
use Rattle.pli_base.specs.declared.syntax.Identifier.{Identifier}
use Rattle.pli_base.specs.declared.token.Fault.{Fault}
use Rattle.pli_map.specs.Description as described
use Rattle.pli_map.specs.Description.{Description}
use Rattle.pli_map.specs.ParameterTypes.{ParameterType}
use Rattle.pli_declare.specs.Agreement.{is_member}
use Rattle.pli_declare.specs.Sets.{pointer, offset, area, based, built_in, entry, data_attributes, has, none_of, outermost, set_of}
use Rattle.pli_declare.specs.Types.{number_of}
use Rattle.pli_declare.specs.Faults.{item_fault}
use Rattle.pli_declare.specs.Completed.{Variable as AVariable, OfVariable, OfEntry, OfBuiltIn, storage_at, variable_of, completed_of}
use Rattle.pli_declare.specs.declared.completed.DeclaredStorage.{DeclaredStorage}
use Rattle.pli_declare.specs.declared.completed.DeclaredStorage.TheVariants as storage
use Rattle.pli_declare_outline.specs.Outlines.{Mark, Declared, Labelled, Entered, Used, Jumped, PlacedMark, Outline, outline_of}
use Rattle.pli_declare.specs.Tables.{Entity, AsItem, AsLabel, AsProcedure, Entry, no_entry, entries_in, heading_entries, unit_entries}
use Rattle.pli_declare.specs.answers.Owners.{AreAfterOwners}
use Rattle.pli_declare.proofs.MembersStandAfter.{owners_stand_before}
use Rattle.pli_declare.specs.Places.{members_of, owners_of, place_in, position_of, item_in, item_of, is_variable, stands_alone, is_bad_level, set_in, is_unsubscripted, is_locator, is_area}
use Rattle.pli_declare.specs.Descriptions.{scalar_at, own_codes, description_of}
use Rattle.pli_declare.specs.Declarations.{Declaration, DeclaredKind, OfItem, OfLabel, OfProcedure, IsGood, AreGood, returned_by, declaration_at, declared_in, kind_of, whole_description}
use Rattle.pli_declare.specs.Resolution.{names_nothing, returned_are, heading_code, parameters_of, resolution_faults}
use Rattle.pli_declare.specs.Resolved.{resolved_of, meaning_at}
use Rattle.pli_declare.specs.AttributeNames.{plain_of, area_in}
use Rattle.pli_declare.specs.laws.FaultLaws.{AtUnit, HasHeading}
use Rattle.pli_declare.specs.declared.block.Target.{Target}
use Rattle.pli_declare.proofs.FaultsAreExact.{faults_are_least_codes}
use Rattle.pli_declare.proofs.ListsByNumber.{made_at, made_length}
use Rattle.pli_declare.specs.Symbols.{Symbol, SymbolFacts, Way, no_way, ways_of, class_of, place_among, locator_of, area_of, key_of, SymbolKind, kind_with, symbol_kind, symbol_of, symbols_with}
use Rattle.pli_declare.specs.ResolvedUnits.{ResolvedUnit, resolved_unit_of, symbol_at, facts_of, numbers_of, outermost_number, block_regions_of}
use Rattle.pli_resolve.specs.laws.LocatorLaws.{IsVariable, IsLocating, IsNotBased, IsLocator, IsArea, locator_names, area_names, Means, ClassNames, KindNames, declared_under, entry_under, LocatorsAndAreasAreNamed}
use Rattle.pli_declare.specs.declared.block_numbers.BlockRegion.{BlockRegion}
use Rattle.pli_declare.specs.declared.symbol.StorageClass.{StorageClass}
use Rattle.pli_declare.specs.declared.symbol.SymbolKey.{SymbolKey}
use Rattle.pli_resolve.proofs.BuiltInNames.{variable_so}
use Rattle.pli_resolve.proofs.DeclaredBlocks.{IsRegion, key_in, block_there, symbol_by}
use Rattle.pli_resolve.proofs.MeantNames.{entries_at, regions_same, all_good, declared_number}
use Rattle.pli_resolve.proofs.MembersAreParts.{no_dimensions, shape_good, rooted, root_kind, symbol_there, symbol_nowhere, found_of, own_kind, nothing_there}
use Rattle.pli_resolve.proofs.NamesFit.{IsNamed, IsSome, all_flat, names_good_in, area_meant, locator_meant, area_there, locator_there}
use Rattle.pli_resolve.proofs.OwnersAreItems.{IsItem, OwnersAreItems, owners_are_items}
use Rattle.pli_resolve.proofs.PartsOfMembers.{scalar_alone}
use Rattle.pli_resolve.proofs.SymbolsAt.{symbol_outside, symbol_beyond}
use Rattle.pli_resolve.proofs.TypesOfLocators.{locating, area_of as type_of_area, area_bytes, type_of, no_members, area_alone, storage_so, not_based, starless, not_open}

-- variables

variable_item : (e : Entity) → is_variable e ≡ true → IsItem e
variable_item (AsItem item is_bad) h = (item, is_bad, refl)
variable_item (AsLabel region) h = cc
variable_item (AsProcedure heading region) h = cc

variable_set : (e : Entity) → is_variable e ≡ true → none_of (set_of (map outermost (item_in e).attributes)) (entry + built_in) ≡ true
variable_set (AsItem item is_bad) h = h
variable_set (AsLabel region) h = cc
variable_set (AsProcedure heading region) h = cc

variable_kind : (es : List Entry) (ps : List Name) (n : ℕ) (e : Entity) → is_variable e ≡ true
    → kind_of es ps n e ≡ OfItem (OfVariable (variable_of (place_in es ps n) (item_in e))) (whole_description es ps n)
variable_kind es ps n (AsItem item is_bad) h = ap (λ c. OfItem c (whole_description es ps n)) (variable_so (place_in es ps n) item h)
variable_kind es ps n (AsLabel region) h = cc
variable_kind es ps n (AsProcedure heading region) h = cc

stored : (es : List Entry) (ps : List Name) (n : ℕ) (e : Entity) (v : AVariable) (d : Option Description) → kind_of es ps n e ≡ OfItem (OfVariable v) d
    → v.storage ≡ storage_at (place_in es ps n).position (set_of (map outermost (item_in e).attributes))
stored es ps n (AsItem item is_bad) v d h = let same : completed_of (place_in es ps n) item ≡ OfVariable v = cc in storage_so (place_in es ps n) item v same
stored es ps n (AsLabel region) v d h = cc
stored es ps n (AsProcedure heading region) v d h = cc

four_true : (a b c d : Bool) → (a && b && c && d) ≡ true → (a ≡ true) × (b ≡ true) × (c ≡ true) × (d ≡ true)
four_true true true true true h = (refl, refl, refl, refl)
four_true false b c d h = cc
four_true true false c d h = cc
four_true true true false d h = cc
four_true true true true false h = cc

three_true : (a b c : Bool) → (a && b && c) ≡ true → (a ≡ true) × (b ≡ true) × (c ≡ true)
three_true true true true h = (refl, refl, refl)
three_true false b c h = cc
three_true true false c h = cc
three_true true true false h = cc

either_of_three : (a b c : Bool) → (a || b) ≡ true → (a || b || c) ≡ true
either_of_three true b c h = refl
either_of_three false true c h = refl
either_of_three false false c h = cc

third_of_three : (a b c : Bool) → c ≡ true → (a || b || c) ≡ true
third_of_three true b c h = refl
third_of_three false true c h = refl
third_of_three false false c h = h

left_true : (a b : Bool) → (a && b) ≡ true → a ≡ true
left_true true b h = refl
left_true false b h = cc

not_false : (b : Bool) → not b ≡ false → b ≡ true
not_false true h = refl
not_false false h = cc

empty : (xs : List ℕ) → not (length xs == 0) ≡ false → xs ≡ []
empty [] h = refl
empty (x ∷ xs) h = absurd (omega (arith, eqb-true (length (x ∷ xs)) 0 (not_false (length (x ∷ xs) == 0) h)))

alone_of : (alone is_named is_bad : Bool) → is_member (position_of alone is_named is_bad) ≡ false → alone ≡ true
alone_of true is_named is_bad h = refl
alone_of false is_named is_bad h = cc

none_of_it : (owner : Option ℕ) → is_none owner ≡ true → owner ≡ None
none_of_it None h = refl
none_of_it (Some o) h = cc

abbrev entity : List Entry → ℕ → Entity
entity es n = (get_or es n no_entry).entity

-- the parts of the tests
abbrev IsLocatorBy : List Entry → ℕ → Type 0
IsLocatorBy es n =
    (is_variable (entity es n) ≡ true) × ((has (set_in es n) pointer || has (set_in es n) offset) ≡ true) × (is_unsubscripted es n ≡ true)
    × (list_all (λ k. none_of (set_in es k) based) (n ∷ owners_of es n) ≡ true)

locator_parts : (es : List Entry) (n : ℕ) → is_locator es n ≡ true → IsLocatorBy es n
locator_parts es n h =
    four_true (is_variable (entity es n)) (has (set_in es n) pointer || has (set_in es n) offset) (is_unsubscripted es n)
    (list_all (λ k. none_of (set_in es k) based) (n ∷ owners_of es n)) h

area_parts : (es : List Entry) (n : ℕ) → is_area es n ≡ true → (is_variable (entity es n) ≡ true) × (has (set_in es n) area ≡ true) × (is_unsubscripted es n ≡ true)
area_parts es n h = three_true (is_variable (entity es n)) (has (set_in es n) area) (is_unsubscripted es n) h

module _ (es : List Entry) (ps : List Name) (owners : AreAfterOwners es) (items : OwnersAreItems es) (good : AreGood es ps) where
  own_none : (n : ℕ) → n < length es → is_variable (entity es n) ≡ true → item_fault (place_in es ps n) (item_of es n) ≡ None
  own_none n lt h =
      let x = variable_item (entity es n) h in
      (subst (IsGood es ps n) x.2 (good n lt)).1

  scalar_there : (n k : ℕ) → n < length es → is_variable (entity es n) ≡ true → (item_of es n).dimensions ≡ [] → bit_and data_attributes k ≡ k → has (set_in es n) k ≡ true → has 0 k ≡ false
      → description_of es ps n ≡ Some (scalar_at es n)
  scalar_there n k lt h bare e there z =
      let none = no_members (place_in es ps n) (item_of es n) k (own_none n lt h) (variable_set (entity es n) h) e there z in
      scalar_alone (length es) es (own_codes es ps) n (omega (arith, lt)) (shape_good es ps owners items good n lt (variable_item (entity es n) h)) bare (empty (members_of es n) none)

  locator_there_is : (n : ℕ) → n < length es → is_variable (entity es n) ≡ true → (item_of es n).dimensions ≡ [] → (has (set_in es n) pointer || has (set_in es n) offset) ≡ true
      → description_of es ps n ≡ Some (scalar_at es n)
  locator_there_is n lt h bare types = by (has (set_in es n) pointer) refl types
    where
      by : (b : Bool) → has (set_in es n) pointer ≡ b → (b || has (set_in es n) offset) ≡ true → description_of es ps n ≡ Some (scalar_at es n)
      by true e f = scalar_there n pointer lt h bare refl e refl
      by false e f = scalar_there n offset lt h bare refl f refl

-- what stands in a block

module _ (u : ExternalProcedure) (h : resolution_faults u ≡ []) (b : ℕ) (is : IsRegion (outline_of u).regions (Some b)) where
  abbrev outline : Outline
  outline = outline_of u

  abbrev resolved : ResolvedUnit
  resolved = resolved_unit_of u

  abbrev facts : SymbolFacts
  facts = facts_of u

  abbrev entries : List Entry
  entries = entries_in outline b

  abbrev parameters : List Name
  parameters = parameters_of outline b

  abbrev way : ℕ → Way
  way n = get_or (ways_of (declared_in entries parameters)) n no_way

  their_owners : AreAfterOwners entries
  their_owners = owners_stand_before outline b

  their_items : OwnersAreItems entries
  their_items = owners_are_items outline b

  all_sound : AreGood entries parameters
  all_sound = all_good u h (Some b)

  symbol_of_number : (n : ℕ) → n < length entries → symbol_at resolved (key_in u (Some b) n) ≡ Some (symbol_of facts parameters (way n) (declaration_at entries parameters n))
  symbol_of_number n lt =
      let at = block_there u b 0 (subst (λ rs. IsRegion rs (Some b)) (sym (regions_same u)) is) in
      symbol_there u h (key_in u (Some b) 0) _ at.1 is.0 n ∙ symbol_by facts parameters (declared_in entries parameters) n (declaration_at entries parameters n) (declared_number entries parameters n lt)

  -- a variable of its own
  abbrev class_at : (n : ℕ) → AVariable → StorageClass
  class_at n v = class_of v.storage (place_among parameters (get_or entries n no_entry).identifier.name) (locator_of facts (get_or entries n no_entry).identifier.at)

  variable_at : (n : ℕ) (v : AVariable) (d : Description) → n < length entries → (get_or entries n no_entry).owner ≡ None → (declaration_at entries parameters n).kind ≡ OfItem (OfVariable v) (Some d) → v.taken ≡ None
      → IsVariable resolved (key_in u (Some b) n) (class_at n v) d
  variable_at n v d lt alone kind none =
      let x = declaration_at entries parameters n in
      record {
        symbol = symbol_of facts parameters (way n) x;
        scope = v.scope;
        initial = v.initial;
        area = area_of facts x.identifier.at;
        there = symbol_of_number n lt;
        is_variable = own_kind facts parameters (way n) x.identifier x.owner x.kind v d alone kind none;
      }

  class_good : (n : ℕ) (v : AVariable) (d : Description) → (declaration_at entries parameters n).kind ≡ OfItem (OfVariable v) (Some d) → none_of (set_in entries n) based ≡ true → IsNotBased (class_at n v)
  class_good n v d kind none =
      let i = (get_or entries n no_entry).identifier in
      subst (λ x. IsNotBased (class_of x (place_among parameters i.name) (locator_of facts i.at))) (sym (stored entries parameters n (entity entries n) v (Some d) kind))
      (not_based (place_in entries parameters n).position (set_in entries n) (place_among parameters i.name) (locator_of facts i.at) none)

  alone_kind : (n : ℕ) (d : Description) → (get_or entries n no_entry).owner ≡ None → is_variable (entity entries n) ≡ true → description_of entries parameters n ≡ Some d
      → (declaration_at entries parameters n).kind ≡ OfItem (OfVariable (variable_of (place_in entries parameters n) (item_of entries n))) (Some d)
  alone_kind n d alone v e =
      variable_kind entries parameters n (entity entries n) v
      ∙ ap (λ w. OfItem (OfVariable (variable_of (place_in entries parameters n) (item_of entries n))) w)
      (ap (λ (t : Bool). if t && is_variable (entity entries n) then description_of entries parameters n else None) (ap is_none alone)
      ∙ ap (λ (t : Bool). if t then description_of entries parameters n else None) v ∙ e)

  locator_good : (n : ℕ) → n < length entries → is_locator entries n ≡ true → IsLocator resolved (key_in u (Some b) n)
  locator_good n lt t = by (get_or entries n no_entry).owner refl
    where
      all : IsLocatorBy entries n
      all = locator_parts entries n t

      is_described : description_of entries parameters n ≡ Some (scalar_at entries n)
      is_described = locator_there_is entries parameters their_owners their_items all_sound n lt all.0 (no_dimensions entries n (left_true _ _ all.2)) all.1

      locates : IsLocating (scalar_at entries n)
      locates =
          locating (set_in entries n) (number_of (map outermost (item_of entries n).attributes))
          (type_of (place_in entries parameters n) (item_of entries n) (own_none entries parameters their_owners their_items all_sound n lt all.0) (variable_set (entity entries n) all.0)) all.1

      closed : (variable_of (place_in entries parameters n) (item_of entries n)).taken ≡ None
      closed =
          not_open (place_in entries parameters n) (item_of entries n)
          (starless (place_in entries parameters n) (item_of entries n) (own_none entries parameters their_owners their_items all_sound n lt all.0) (variable_set (entity entries n) all.0)
          (either_of_three (has (set_in entries n) pointer) (has (set_in entries n) offset) (has (set_in entries n) area) all.1))
          (no_dimensions entries n (left_true _ _ all.2))

      by : (owner : Option ℕ) → (get_or entries n no_entry).owner ≡ owner → IsLocator resolved (key_in u (Some b) n)
      by None e =
          let v = variable_of (place_in entries parameters n) (item_of entries n) in
          let kind = alone_kind n (scalar_at entries n) e all.0 is_described in
          record {
            class = class_at n v;
            description = scalar_at entries n;
            unsubscripted = inl (variable_at n v (scalar_at entries n) lt e kind closed);
            locates = locates;
            not_based = class_good n v (scalar_at entries n) kind (left_true (none_of (set_in entries n) based) _ all.3);
          }
      by (Some p) e =
          let known = rooted entries parameters their_owners their_items all_sound n lt in
          let kind = root_kind entries parameters their_owners their_items all_sound n p lt e in
          let root = (way n).root in
          let x = declaration_at entries parameters n in
          let v = variable_of (place_in entries parameters n) (item_of entries n) in
          record {
            class = class_at root kind.0;
            description = scalar_at entries n;
            unsubscripted = inr (record {
              symbol = symbol_of facts parameters (way n) x;
              root = root;
              path = (way n).path;
              initial = v.initial;
              area = area_of facts x.identifier.at;
              whole = kind.1;
              there = symbol_of_number n lt;
              is_member = ap (λ q. symbol_kind facts parameters (way n) x.identifier q x.kind) e ∙ ap (symbol_kind facts parameters (way n) x.identifier (Some p)) (variable_kind entries parameters n (entity entries n) all.0);
              of = variable_at root kind.0 kind.1 known.low known.alone kind.3 kind.4;
              leads = known.plain all.2 kind.1 (scalar_at entries n) kind.2 is_described;
            });
            locates = locates;
            not_based = class_good root kind.0 kind.1 kind.3 (known.over (λ k. none_of (set_in entries k) based) all.3);
          }

  area_good : (n : ℕ) → n < length entries → is_area entries n ≡ true → IsArea resolved (key_in u (Some b) n)
  area_good n lt t =
      let all = area_parts entries n t in
      let own = own_none entries parameters their_owners their_items all_sound n lt all.0 in
      let number = number_of (map outermost (item_of entries n).attributes) in
      let one = type_of (place_in entries parameters n) (item_of entries n) own (variable_set (entity entries n) all.0) in
      let bytes = area_bytes number in
      let it : scalar_at entries n ≡ described.Area bytes.0 = type_of_area (set_in entries n) number one all.1 ∙ bytes.1 in
      let there = scalar_there entries parameters their_owners their_items all_sound n area lt all.0 (no_dimensions entries n (left_true _ _ all.2)) refl all.1 refl in
      let alone = none_of_it (get_or entries n no_entry).owner (alone_of (stands_alone (get_or entries n no_entry)) (list_any (same_name (get_or entries n no_entry).identifier.name) parameters) (is_bad_level (entity entries n))
      (area_alone (place_in entries parameters n) (item_of entries n) own all.1)) in
      let v = variable_of (place_in entries parameters n) (item_of entries n) in
      record {
        class = class_at n v;
        bytes = bytes.0;
        variable = variable_at n v (described.Area bytes.0) lt alone (alone_kind n (described.Area bytes.0) alone all.0 (there ∙ ap Some it))
            (not_open (place_in entries parameters n) (item_of entries n)
            (starless (place_in entries parameters n) (item_of entries n) own (variable_set (entity entries n) all.0)
            (third_of_three (has (set_in entries n) pointer) (has (set_in entries n) offset) (has (set_in entries n) area) all.1))
            (no_dimensions entries n (left_true _ _ all.2)));
      }

-- the unit's own name is no variable, and names nothing
heading_variable : (m : Mark) (n : ℕ) → is_variable (get_or (heading_entries m) n no_entry).entity ≡ true → ⊥
heading_variable (Entered heading region) zero e = cc
heading_variable (Entered heading region) (suc n) e = cc
heading_variable (Declared items) n e = cc
heading_variable (Labelled label) n e = cc
heading_variable (Used names) n e = cc
heading_variable (Jumped label) n e = cc

unit_variable : (ms : List PlacedMark) (n : ℕ) → is_variable (get_or (unit_entries ms) n no_entry).entity ≡ true → ⊥
unit_variable [] n e = cc
unit_variable (p ∷ ps) n e = heading_variable p.mark n e

nothing_named : (ds : List DescribedAttribute) → list_all names_nothing ds ≡ true → area_in (flat_map plain_of ds) ≡ []
nothing_named [] h = refl
nothing_named (Plain (Offset (Some name)) ∷ ds) h = cc
nothing_named (Plain a ∷ ds) h = nothing_named ds h
nothing_named (AnyEntry ∷ ds) h = nothing_named ds h
nothing_named (AnyReturns ∷ ds) h = nothing_named ds h

some_named : {n : Name} {ns : List Name} → [] ≡ n ∷ ns → ⊥
some_named e = cc

module _ (u : ExternalProcedure) (h : resolution_faults u ≡ []) where
  abbrev all_marks : List PlacedMark
  all_marks = (outline_of u).marks

  no_fault : (f : Fault) → AtUnit all_marks f → ⊥
  no_fault f at =
      let there : Contains (resolution_faults u) f = (faults_are_least_codes u f).1 (inl at) in
      let none = subst (λ fs. Contains fs f) h there in
      omega (arith, none.1)

  heading_none : (heading : Heading) → ((code : Code) → heading_code (returned_are (list_all names_nothing) heading) heading ≡ Some code → ⊥)
      → area_in (flat_map plain_of (flat_map (λ (attributes : List DescribedAttribute). attributes) (returned_by heading.options))) ≡ []
  heading_none heading none =
      let sound = returned_are (list_all names_nothing) heading in
      nothing_named (flat_map (λ (attributes : List DescribedAttribute). attributes) (returned_by heading.options))
      (all_flat names_nothing (list_all names_nothing) (λ (attributes : List DescribedAttribute). attributes) (λ x g. g) (returned_by heading.options)
      (names_good_in sound heading (by (heading_code sound heading) none)))
    where
      by : (code : Option Code) → ((c : Code) → code ≡ Some c → ⊥) → code ≡ None
      by None never = refl
      by (Some c) never = absurd (never c refl)

  unit_names : (n : ℕ) → (locator_names (get_or (unit_entries all_marks) n no_entry).entity ≡ []) × (area_names (get_or (unit_entries all_marks) n no_entry).entity ≡ [])
  unit_names n = of_marks all_marks (λ f at. no_fault f at)
    where
      of_mark : (m : Mark) (n : ℕ) → ((heading : Heading) (region : ℕ) → m ≡ Entered heading region → (code : Code) → heading_code (returned_are (list_all names_nothing) heading) heading ≡ Some code → ⊥)
          → (locator_names (get_or (heading_entries m) n no_entry).entity ≡ []) × (area_names (get_or (heading_entries m) n no_entry).entity ≡ [])
      of_mark (Entered heading region) zero never = (refl, heading_none heading (never heading region refl))
      of_mark (Entered heading region) (suc n) never = (refl, refl)
      of_mark (Declared items) n never = (refl, refl)
      of_mark (Labelled label) n never = (refl, refl)
      of_mark (Used names) n never = (refl, refl)
      of_mark (Jumped label) n never = (refl, refl)

      of_marks : (ms : List PlacedMark) → ((f : Fault) → AtUnit ms f → ⊥) → (locator_names (get_or (unit_entries ms) n no_entry).entity ≡ []) × (area_names (get_or (unit_entries ms) n no_entry).entity ≡ [])
      of_marks [] never = (refl, refl)
      of_marks (p ∷ ps) never =
          of_mark p.mark n
          (λ heading region e code has.
          never (record { code = code; at = heading.name.at }) (subst (λ m. HasHeading m (record { code = code; at = heading.name.at })) (sym e) (refl, has)))

  -- a target that fits has a symbol that fits
  abbrev IsKey : (fits : SymbolKey → Type 0) → Target → Type 0
  IsKey fits t = (key : SymbolKey) × (key_of (numbers_of u) (outermost_number u) (Some t) ≡ Some key) × fits key

  locator_in_region : (region : Option ℕ) (n : ℕ) → IsRegion (outline_of u).regions region → n < length (entries_at (outline_of u) region) → is_locator (entries_at (outline_of u) region) n ≡ true
      → IsLocator (resolved_unit_of u) (key_in u region n)
  locator_in_region None n is lt e = absurd (unit_variable all_marks n (locator_parts (unit_entries all_marks) n e).0)
  locator_in_region (Some b) n is lt e = locator_good u h b is n lt e

  area_in_region : (region : Option ℕ) (n : ℕ) → IsRegion (outline_of u).regions region → n < length (entries_at (outline_of u) region) → is_area (entries_at (outline_of u) region) n ≡ true
      → IsArea (resolved_unit_of u) (key_in u region n)
  area_in_region None n is lt e = absurd (unit_variable all_marks n (area_parts (unit_entries all_marks) n e).0)
  area_in_region (Some b) n is lt e = area_good u h b is n lt e

  locator_key : (t : Target) → IsNamed u h is_locator t → IsKey (IsLocator (resolved_unit_of u)) t
  locator_key t it =
      (key_in u it.region it.number, ap (λ x. key_of (numbers_of u) (outermost_number u) (Some x)) it.same, locator_in_region it.region it.number it.is_region it.within it.fit)

  area_key : (t : Target) → IsNamed u h is_area t → IsKey (IsArea (resolved_unit_of u)) t
  area_key t it =
      (key_in u it.region it.number, ap (λ x. key_of (numbers_of u) (outermost_number u) (Some x)) it.same, area_in_region it.region it.number it.is_region it.within it.fit)

  means : (fits : SymbolKey → Type 0) (names : List Name) (found : Option Target) → ((t : Target) → found ≡ Some t → IsKey fits t) → ((n : Name) (ns : List Name) → names ≡ n ∷ ns → IsSome found)
      → Means fits names (key_of (numbers_of u) (outermost_number u) found)
  means fits names (Some t) key some =
      let it = key t refl in
      subst (Means fits names) (sym it.1) it.2
  means fits [] None key some = tt
  means fits (n ∷ ns) None key some = let it = some n ns refl in absurd (nothing_there it.1)

  locator_means : (names : List Name) (at : ℕ) → ((n : Name) (ns : List Name) → names ≡ n ∷ ns → IsSome (meaning_at (resolved_of u).locators at))
      → Means (IsLocator (resolved_unit_of u)) names (locator_of (facts_of u) at)
  locator_means names at some =
      means (IsLocator (resolved_unit_of u)) names (meaning_at (resolved_of u).locators at) (λ t e. locator_key t (locator_meant u h at t e)) some

  area_means : (names : List Name) (at : ℕ) → ((n : Name) (ns : List Name) → names ≡ n ∷ ns → IsSome (meaning_at (resolved_of u).areas at))
      → Means (IsArea (resolved_unit_of u)) names (area_of (facts_of u) at)
  area_means names at some =
      means (IsArea (resolved_unit_of u)) names (meaning_at (resolved_of u).areas at) (λ t e. area_key t (area_meant u h at t e)) some

-- the names of a symbol
module _ (r : ResolvedUnit) (e : Entity) (f : SymbolFacts) (i : Identifier) (l : Means (IsLocator r) (locator_names e) (locator_of f i.at)) (a : Means (IsArea r) (area_names e) (area_of f i.at)) where
  class_names : (from : Option DeclaredStorage) (slot : ℕ) → ClassNames r (locator_names e) (class_of from slot (locator_of f i.at))
  class_names None slot = tt
  class_names (Some storage.Automatic) slot = tt
  class_names (Some storage.Static) slot = tt
  class_names (Some storage.Controlled) slot = tt
  class_names (Some storage.Based) slot = l

  own_names : (t : Option ParameterType) (slot : ℕ) (kind : SymbolKind) → KindNames r e kind → KindNames r e (kind_with t slot (area_of f i.at) kind)
  own_names None slot kind h = h
  own_names (Some t) slot kind h = a

  kind_names : (ps : List Name) (w : Way) (owner : Option ℕ) (kind : DeclaredKind) → KindNames r e (symbol_kind f ps w i owner kind)
  kind_names ps w None (OfItem (OfVariable v) d) = own_names v.taken (place_among ps i.name) _ (class_names v.storage (place_among ps i.name), a)
  kind_names ps w None (OfItem (OfEntry qs x) d) = a
  kind_names ps w None (OfItem OfBuiltIn d) = tt
  kind_names ps w None (OfLabel region) = tt
  kind_names ps w None (OfProcedure returned region) = a
  kind_names ps w (Some p) (OfItem (OfVariable v) d) = a
  kind_names ps w (Some p) (OfItem (OfEntry qs x) d) = a
  kind_names ps w (Some p) (OfItem OfBuiltIn d) = tt
  kind_names ps w (Some p) (OfLabel region) = tt
  kind_names ps w (Some p) (OfProcedure returned region) = a

module _ (u : ExternalProcedure) (h : resolution_faults u ≡ []) (key : SymbolKey) (s : Symbol) (there : symbol_at (resolved_unit_of u) key ≡ Some s) where
  -- a symbol of names that are declared
  symbol_names : (es : List Entry) (ps : List Name) → slice_get (symbols_with (facts_of u) ps (ways_of (declared_in es ps)) (declared_in es ps)) key.number ≡ Some s
      → (key.number < length es → (n : Name) (ns : List Name) → locator_names (get_or es key.number no_entry).entity ≡ n ∷ ns → IsSome (meaning_at (resolved_of u).locators (get_or es key.number no_entry).identifier.at))
      → (key.number < length es → (n : Name) (ns : List Name) → area_names (get_or es key.number no_entry).entity ≡ n ∷ ns → IsSome (meaning_at (resolved_of u).areas (get_or es key.number no_entry).identifier.at))
      → KindNames (resolved_unit_of u) (get_or es key.number no_entry).entity s.kind
  symbol_names es ps e locators areas =
      let n = key.number in
      let of = found_of (facts_of u) ps (ways_of (declared_in es ps)) (declared_in es ps) n s e in
      let low : n < length es = omega (arith, slice_get_within (declared_in es ps) n of.1 of.3, made_length (declaration_at es ps) (length es)) in
      let it : declaration_at es ps n ≡ of.1 =
      sym (made_at (declaration_at es ps) (length es) n of.1 low) ∙ get_or_from_slice_get (declared_in es ps) n of.1 of.1 of.3 in
      let x = declaration_at es ps n in
      let entity = (get_or es n no_entry).entity in
      let kind : symbol_kind (facts_of u) ps of.0 x.identifier x.owner x.kind ≡ s.kind =
      ap (λ (d : Declaration). (symbol_of (facts_of u) ps of.0 d).kind) it ∙ ap (λ (y : Symbol). y.kind) of.4 in
      subst (KindNames (resolved_unit_of u) entity) kind
      (kind_names (resolved_unit_of u) entity (facts_of u) x.identifier (locator_means u h (locator_names entity) x.identifier.at (locators low))
      (area_means u h (area_names entity) x.identifier.at (areas low)) ps of.0 x.owner x.kind)

  abbrev Names : Option BlockRegion → Type 0
  Names block = KindNames (resolved_unit_of u) (get_or (declared_under (outline_of u) block) key.number no_entry).entity s.kind

  in_block : (b : BlockRegion) → slice_get (block_regions_of u) key.block ≡ Some b → Names (Some b)
  in_block b found = elim (cases_lt b.region (length (outline_of u).regions)) [
    | inl lt ↦
        symbol_names (entries_in (outline_of u) b.region) (parameters_of (outline_of u) b.region) (sym (symbol_there u h key b found lt key.number) ∙ there)
        (λ low n ns some. locator_there u h b.region key.number low n ns some) (λ low n ns some. area_there u h b.region key.number low n ns some)
    | inr past ↦ absurd (nothing_there (sym (symbol_nowhere u h key b found past) ∙ there))
  ]

  -- the outermost block
  outermost_is : declared_in (unit_entries (outline_of u).marks) [] ≡ (resolved_of u).outermost
  unfolding resolved_of
  outermost_is = refl

  outside : slice_get (block_regions_of u) key.block ≡ None → Names None
  outside found = elim (cases_eq key.block (length (block_regions_of u))) [
    | inl last ↦
        symbol_names (unit_entries (outline_of u).marks) []
        (ap (λ ds. slice_get (symbols_with (facts_of u) [] (ways_of ds) ds) key.number) outermost_is ∙ sym (symbol_outside u key last) ∙ there)
        (λ low n ns some. absurd (some_named (sym (unit_names u h key.number).0 ∙ some))) (λ low n ns some. absurd (some_named (sym (unit_names u h key.number).1 ∙ some)))
    | inr other ↦ absurd (nothing_there (sym (symbol_beyond u key found other) ∙ there))
  ]

  names_under : (block : Option BlockRegion) → slice_get (block_regions_of u) key.block ≡ block → KindNames (resolved_unit_of u) (entry_under u key).entity s.kind
  names_under (Some b) found = subst Names (sym found) (in_block b found)
  names_under None found = subst Names (sym found) (outside found)

pub locators_and_areas_are_named : LocatorsAndAreasAreNamed
locators_and_areas_are_named u h key s there = names_under u h key s there (slice_get (block_regions_of u) key.block) refl

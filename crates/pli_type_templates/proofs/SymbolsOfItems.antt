-- What a symbol of a unit says, an item of DECLARE says that has its name.
use Rattle.std.proofs.Common.{◌≡◌, ℕ, zero, suc, ◌<◌, ◌≤◌, Bool, true, false, if◌then◌else◌, Option, Some, None, option_and_then, option_map, slice_get, List, [], ◌∷◌, length, map, get_or, Contains, inl, inr, refl, sym, ap, ◌∙◌, subst, arith}
use Rattle.std.specs.List.{All, flat_map}
use Rattle.std.proofs.lemmas.Bool.{cases_eq, cases_lt}
use Rattle.std.proofs.lemmas.List.{get_or_past}
use Rattle.std.proofs.lemmas.List.Elements.{Contains-append_cases}
use Rattle.std.proofs.lemmas.Option.{get_or_from_slice_get, none-some, same_Some, slice_get-get_or, slice_get_within}
use Rattle.pli_base.specs.Declarations.{Item}
use Rattle.pli_base.specs.Name.{Name}
use Rattle.pli_base.specs.Statements.{ExternalProcedure}
use Rattle.pli_base.specs.declared.syntax.Identifier.{Identifier}
use Rattle.pli_declare.specs.Resolution.{parameters_of}
use Rattle.pli_declare.specs.Resolved as declare
use Rattle.pli_declare.specs.Resolved.{block_at, resolved_of}
use Rattle.pli_declare.proofs.ListsByNumber.{made_at, made_length}
use Rattle.pli_declare.specs.Completed.{Completed, Variable, OfVariable, OfEntry, OfBuiltIn, completed_of, variable_of}
use Rattle.pli_declare.specs.Faults.{described_scalar, parameter_of, parameters_in, returned_in}
use Rattle.pli_declare.specs.Initials.{values_in}
use Rattle.pli_declare.specs.Sets.{built_in, entry, has, outermost, set_of}
use Rattle.pli_declare.specs.declared.place.ItemPlace.{ItemPlace}
use Rattle.pli_declare_outline.specs.Outlines.{Mark, Declared, Labelled, Entered, Used, Jumped, PlacedMark, Outline, outline_of}
use Rattle.pli_declare.specs.Tables.{Entity, AsItem, AsLabel, AsProcedure, Entry, no_entry, entries_in, entries_of, inner_marks, named, unit_entries}
use Rattle.pli_declare.specs.Declarations.{Declaration, OfItem, OfLabel, OfProcedure, declaration_at, declared_in, described_result, kind_of, returned_by, whole_description}
use Rattle.pli_declare.specs.Places.{place_in}
use Rattle.pli_map.specs.Description.{Description}
use Rattle.pli_map.specs.ParameterTypes.{ParameterType}
use Rattle.pli_declare.specs.ResolvedUnits.{all_symbols, block_regions_of, facts_of, no_block, region_block, resolved_unit_of}
use Rattle.pli_declare.specs.Symbols.{Symbol, SymbolKind, SymbolFacts, Way, kind_with, symbol_kind, symbol_of, symbols_of, ways_of}
use Rattle.pli_declare.specs.declared.block_numbers.BlockRegion.{BlockRegion}
use Rattle.pli_declare.specs.declared.symbol.SymbolKey.{SymbolKey}
use Rattle.pli_resolve.proofs.MembersAreParts.{found_of}
use Rattle.pli_resolve.proofs.NamesOfMarks.{item_of_entry, mark_of}
use Rattle.pli_resolve.proofs.SymbolsAt.{symbol_beyond, symbol_inside, symbol_outside}
use Rattle.pli_type_templates.specs.ItemNames.{AreOfItems, IsNameOf, IsOfItem, items_of}
use Rattle.pli_type_templates.specs.declared.item_number.ItemNumber.{ItemNumber}

-- ---- the item of an entry

-- a name of an item
abbrev HasName : List PlacedMark → Identifier → Item → Type 0
HasName marks i item = (number : ItemNumber) × IsNameOf marks i.at number item

abbrev with_item : Item → Identifier → Identifier × Item
with_item item i = (i, item)

named_so : (item : Item) (names : List Identifier) (x : Identifier × Item) (k : ℕ) → k < length (map (λ (i : Identifier). with_item item i) names)
    → get_or (map (λ (i : Identifier). with_item item i) names) k x ≡ x → (x.1 ≡ item) × Contains names x.0
named_so item [] x k lt e = absurd (omega (arith, lt))
named_so item (i ∷ is) x zero lt e = (ap (λ (z : Identifier × Item). z.1) (sym e), (0, omega arith, ap (λ (z : Identifier × Item). z.0) e))
named_so item (i ∷ is) x (suc k) lt e =
    let rest = named_so item is x k (omega (arith, lt)) e in
    (rest.0, (suc rest.1.0, omega (arith, rest.1.1), rest.1.2))

named_in : (items : List Item) (x : Identifier × Item) → Contains (flat_map named items) x → (j : ℕ) × (slice_get items j ≡ Some x.1) × Contains x.1.names x.0
named_in [] x c = absurd (omega (arith, c.1))
named_in (item ∷ items) x c = elim (Contains-append_cases (named item) (flat_map named items) x c) [
  | inl here ↦ (let it = named_so item item.names x here.0 here.1 here.2 in
      (0, ap Some (sym it.0), subst (λ (y : Item). Contains y.names x.0) (sym it.0) it.1))
  | inr past ↦ (let it = named_in items x past in
      (suc it.0, it.1, it.2))
]

-- what a mark declares
named_by : (marks : List PlacedMark) (p : PlacedMark) (m : ℕ) → slice_get marks m ≡ Some p → (mark : Mark) → p.mark ≡ mark → (base here k : ℕ) → k < length (entries_of base here mark)
    → (item : Item) (is_bad : Bool) → (get_or (entries_of base here mark) k no_entry).entity ≡ AsItem item is_bad → HasName marks (get_or (entries_of base here mark) k no_entry).identifier item
named_by marks p m found (Declared items) is base here k lt item is_bad e =
    let it = item_of_entry base here items k lt in
    let x = it.0 in
    let in_list = named_in items x (k, it.1, it.2) in
    let same : x.1 ≡ item = only x.1 item it.3 is_bad (sym it.5 ∙ e) in
    let number : ItemNumber = record { mark = m; item = in_list.0 } in (
      number,
      record {
        there = ap (option_and_then (λ (q : PlacedMark). slice_get (items_of q.mark) in_list.0)) found
            ∙ ap (λ (n : Mark). slice_get (items_of n) in_list.0) is ∙ in_list.1 ∙ ap Some same;
        identifier = x.0;
        named = subst (λ (y : Item). Contains y.names x.0) same in_list.2;
        here = ap (λ (i : Identifier). i.at) (sym it.4);
      },
    )
  where
    only : (x y : Item) (a b : Bool) → AsItem x a ≡ AsItem y b → x ≡ y
    only x y a b f = cc
named_by marks p m found (Labelled label) is base here zero lt item is_bad e = cc
named_by marks p m found (Labelled label) is base here (suc k) lt item is_bad e = absurd (omega (arith, lt))
named_by marks p m found (Entered heading region) is base here zero lt item is_bad e = cc
named_by marks p m found (Entered heading region) is base here (suc k) lt item is_bad e = absurd (omega (arith, lt))
named_by marks p m found (Used names) is base here k lt item is_bad e = absurd (omega (arith, lt))
named_by marks p m found (Jumped label) is base here k lt item is_bad e = absurd (omega (arith, lt))

mark_there : (marks : List PlacedMark) (p : PlacedMark) → Contains (inner_marks marks) p → (m : ℕ) × (slice_get marks m ≡ Some p)
mark_there [] p c = absurd (omega (arith, c.1))
mark_there (q ∷ marks) p c = (suc c.0, slice_get-get_or marks c.0 p c.1 ∙ ap Some c.2)

-- an item that these entries have under a number has its name
abbrev AreNamed : List PlacedMark → List Entry → Type 0
AreNamed marks es =
    (n : ℕ) (item : Item) (is_bad : Bool) → n < length es → (get_or es n no_entry).entity ≡ AsItem item is_bad → HasName marks (get_or es n no_entry).identifier item

block_named : (o : Outline) (block : ℕ) → AreNamed o.marks (entries_in o block)
block_named o block n item is_bad lt e =
    let it = mark_of o block n lt in
    let m = mark_there o.marks it.placed it.stands in
    subst (λ (x : Entry). HasName o.marks x.identifier item) it.same
    (named_by o.marks it.placed m.0 m.1 it.placed.mark refl it.base it.placed.region it.number it.within item is_bad (ap (λ (x : Entry). x.entity) it.same ∙ e))

unit_named : (all marks : List PlacedMark) → AreNamed all (unit_entries marks)
unit_named all [] n item is_bad lt e = absurd (omega (arith, lt))
unit_named all (p ∷ ps) n item is_bad lt e = by p.mark n lt e
  where
    by : (m : Mark) (n : ℕ) → n < length (unit_entries (record { region = p.region; mark = m } ∷ ps))
        → (get_or (unit_entries (record { region = p.region; mark = m } ∷ ps)) n no_entry).entity ≡ AsItem item is_bad
        → HasName all (get_or (unit_entries (record { region = p.region; mark = m } ∷ ps)) n no_entry).identifier item
    by (Entered heading region) zero lt e = cc
    by (Entered heading region) (suc n) lt e = absurd (omega (arith, lt))
    by (Declared items) n lt e = absurd (omega (arith, lt))
    by (Labelled label) n lt e = absurd (omega (arith, lt))
    by (Used names) n lt e = absurd (omega (arith, lt))
    by (Jumped label) n lt e = absurd (omega (arith, lt))

-- ---- what an item says

only_variable : (ds : List ParameterType) (r : Option Description) (w v : Variable) (a b : Bool) → (if a then OfEntry ds r else if b then OfBuiltIn else OfVariable w) ≡ OfVariable v → v ≡ w
only_variable ds r w v true b e = cc
only_variable ds r w v false true e = cc
only_variable ds r w v false false e = cc

only_entry : (ds es : List ParameterType) (r q : Option Description) (w : Variable) (a b : Bool) → (if a then OfEntry ds r else if b then OfBuiltIn else OfVariable w) ≡ OfEntry es q → (es ≡ ds) × (q ≡ r)
only_entry ds es r q w true b e = (cc, cc)
only_entry ds es r q w false true e = cc
only_entry ds es r q w false false e = cc

values_said : (p : ItemPlace) (item : Item) (v : Variable) → completed_of p item ≡ OfVariable v → v.initial ≡ values_in item.attributes
unfolding completed_of variable_of
values_said p item v e =
    let s = set_of (map outermost item.attributes) in
    ap (λ (x : Variable). x.initial)
    (only_variable (map parameter_of (parameters_in item.attributes)) (option_map described_scalar (returned_in item.attributes)) (variable_of p item) v (has s entry) (has s built_in) e)

entry_said : (p : ItemPlace) (item : Item) (ds : List ParameterType) (r : Option Description) → completed_of p item ≡ OfEntry ds r
    → (ds ≡ map parameter_of (parameters_in item.attributes)) × (r ≡ option_map described_scalar (returned_in item.attributes))
unfolding completed_of
entry_said p item ds r e =
    let s = set_of (map outermost item.attributes) in
    only_entry (map parameter_of (parameters_in item.attributes)) ds (option_map described_scalar (returned_in item.attributes)) r (variable_of p item) (has s entry) (has s built_in) e

-- ---- symbols

module _ (marks : List PlacedMark) (f : SymbolFacts) (ps : List Name) (w : Way) (i : Identifier) where
  own_said : (t : Option ParameterType) (slot : ℕ) (area : Option SymbolKey) (kind : SymbolKind) → IsOfItem marks i.at kind → IsOfItem marks i.at (kind_with t slot area kind)
  own_said None slot area kind h = h
  own_said (Some t) slot area kind h = tt

  item_said : (owner : Option ℕ) (c : Completed) (description : Option Description) (p : ItemPlace) (item : Item) → completed_of p item ≡ c → HasName marks i item
      → IsOfItem marks i.at (symbol_kind f ps w i owner (OfItem c description))
  item_said None (OfVariable v) description p item e h = own_said v.taken _ _ _ (record { number = h.0; item = item; name = h.1; said = values_said p item v e })
  item_said (Some o) (OfVariable v) description p item e h = tt
  item_said None (OfEntry ds r) description p item e h =
      let it = entry_said p item ds r e in
      record { number = h.0; item = item; name = h.1; taken = it.0; given = it.1 }
  item_said (Some o) (OfEntry ds r) description p item e h =
      let it = entry_said p item ds r e in
      record { number = h.0; item = item; name = h.1; taken = it.0; given = it.1 }
  item_said None OfBuiltIn description p item e h = tt
  item_said (Some o) OfBuiltIn description p item e h = tt

  label_said : (owner : Option ℕ) (region : ℕ) → IsOfItem marks i.at (symbol_kind f ps w i owner (OfLabel region))
  label_said None region = tt
  label_said (Some o) region = tt

  procedure_said : (owner : Option ℕ) (returned : Option Description) (region : ℕ) → IsOfItem marks i.at (symbol_kind f ps w i owner (OfProcedure returned region))
  procedure_said None returned region = tt
  procedure_said (Some o) returned region = tt

entity_said : (marks : List PlacedMark) (f : SymbolFacts) (names : List Name) (w : Way) (es : List Entry) (ps : List Name) (n : ℕ) (i : Identifier) (owner : Option ℕ) (x : Entity)
    → ((item : Item) (is_bad : Bool) → x ≡ AsItem item is_bad → HasName marks i item) → IsOfItem marks i.at (symbol_kind f names w i owner (kind_of es ps n x))
entity_said marks f names w es ps n i owner (AsItem item is_bad) h = item_said marks f names w i owner (completed_of (place_in es ps n) item) (whole_description es ps n) (place_in es ps n) item refl (h item is_bad refl)
entity_said marks f names w es ps n i owner (AsLabel region) h = label_said marks f names w i owner region
entity_said marks f names w es ps n i owner (AsProcedure heading region) h = procedure_said marks f names w i owner (described_result (returned_by heading.options)) region

symbol_said : (marks : List PlacedMark) (f : SymbolFacts) (es : List Entry) (ps : List Name) → AreNamed marks es → (n : ℕ) (s : Symbol) → slice_get (symbols_of f ps (declared_in es ps)) n ≡ Some s
    → AreOfItems marks s
symbol_said marks f es ps h n s e =
    let ds = declared_in es ps in
    let of = found_of f ps (ways_of ds) ds n s e in
    let low : n < length es = omega (arith, slice_get_within ds n of.1 of.3, made_length (declaration_at es ps) (length es)) in
    let it : declaration_at es ps n ≡ of.1 = sym (made_at (declaration_at es ps) (length es) n of.1 low) ∙ get_or_from_slice_get ds n of.1 of.1 of.3 in
    let x = get_or es n no_entry in
    subst (AreOfItems marks) of.4
    (subst (λ (d : Declaration). AreOfItems marks (symbol_of f ps of.0 d)) it
    (entity_said marks f ps of.0 es ps n x.identifier x.owner x.entity (λ item is_bad same. h n item is_bad low same)))

module _ (u : ExternalProcedure) where
  abbrev marks : List PlacedMark
  marks = (outline_of u).marks

  region_there : (region : ℕ) → region < length (outline_of u).regions → region_block u region ≡ block_at (outline_of u) region
  unfolding resolved_of
  region_there region lt = made_at (block_at (outline_of u)) (length (outline_of u).regions) region no_block lt

  region_beyond : (region : ℕ) → length (outline_of u).regions ≤ region → region_block u region ≡ no_block
  unfolding resolved_of
  region_beyond region past =
      get_or_past (resolved_of u).blocks region no_block (omega (arith, past, made_length (block_at (outline_of u)) (length (outline_of u).regions)))

  abbrev of_block : (n : ℕ) → declare.BlockDeclarations → Option Symbol
  of_block n x = slice_get (symbols_of (facts_of u) x.parameters x.declarations) n

  in_region : (region n : ℕ) (s : Symbol) → of_block n (region_block u region) ≡ Some s → AreOfItems marks s
  in_region region n s e = elim (cases_lt region (length (outline_of u).regions)) [
    | inl lt ↦ symbol_said marks (facts_of u) (entries_in (outline_of u) region) (parameters_of (outline_of u) region) (block_named (outline_of u) region) n s
        (ap (of_block n) (sym (region_there region lt)) ∙ e)
    | inr past ↦ absurd (none-some s (ap (of_block n) (sym (region_beyond region past)) ∙ e))
  ]

  outermost_said : (n : ℕ) (s : Symbol) → slice_get (resolved_unit_of u).outermost n ≡ Some s → AreOfItems marks s
  unfolding resolved_of
  outermost_said n s e = symbol_said marks (facts_of u) (unit_entries marks) [] (unit_named marks marks) n s e

  symbol_of_item : (block n : ℕ) (s : Symbol) → slice_get (get_or (all_symbols (resolved_unit_of u)) block []) n ≡ Some s → AreOfItems marks s
  symbol_of_item block n s e = by (slice_get (block_regions_of u) block) refl
    where
      by : (b : Option BlockRegion) → slice_get (block_regions_of u) block ≡ b → AreOfItems marks s
      by (Some b) found = in_region b.region n s (sym (symbol_inside u (record { block = block; number = n }) b found) ∙ e)
      by None found = elim (cases_eq block (length (block_regions_of u))) [
        | inl last ↦ outermost_said n s (sym (symbol_outside u (record { block = block; number = n }) last) ∙ e)
        | inr other ↦ absurd (none-some s (sym (symbol_beyond u (record { block = block; number = n }) found other) ∙ e))
      ]

  pub symbols_of_items : All (All (AreOfItems marks)) (all_symbols (resolved_unit_of u))
  symbols_of_items block d lt n e low =
      let all = all_symbols (resolved_unit_of u) in
      let same : get_or all block [] ≡ get_or all block d = same_Some _ _ (sym (slice_get-get_or all block [] lt) ∙ slice_get-get_or all block d lt) in
      symbol_of_item block n _ (ap (λ (ss : List Symbol). slice_get ss n) same ∙ slice_get-get_or (get_or all block d) n e low)

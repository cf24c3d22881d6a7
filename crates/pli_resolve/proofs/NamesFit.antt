-- In a unit without faults each name in BASED means a locator that it may name, and each in OFFSET an area.
use Rattle.std.proofs.Common.{◌≡◌, ℕ, zero, suc, ◌+◌, ◌<◌, nat_eq, Bool, true, false, not, ◌&&◌, ◌||◌, nat_lt, if◌then◌else◌, Option, Some, None, List, [], ◌∷◌, ◌++◌, map, length, get_or, Contains, inl, inr, refl, sym, ap, ◌∙◌, subst, arith}
use Rattle.std.specs.List.{flat_map, list_all, list_any}
use Rattle.std.proofs.lemmas.Bool.{eq-eqb}
use Rattle.std.proofs.lemmas.Grind.{flat_map-append}
use Rattle.std.proofs.lemmas.List.Elements.{Contains-append_left, Contains-append_right}
use Rattle.pli_base.specs.Name.{Name}
use Rattle.pli_base.specs.Declarations.{Item, SimpleAttribute, Offset, Based, DescribedAttribute, Plain, AnyEntry, AnyReturns, Attribute, Simple, Entry, Returns}
use Rattle.pli_base.specs.Statements.{Heading, ExternalProcedure}
use Rattle.pli_base.specs.declared.code.Code.{Code}
use Rattle.pli_base.specs.declared.code.Code.TheVariants.{AttributesConflict, BadLocatorOrAreaName, BadLevel, TooManyParameters}
use Rattle.pli_base.specs.declared.syntax.Identifier.{Identifier}
use Rattle.pli_base.specs.declared.token.Fault.{Fault}
use Rattle.pli_declare.specs.Faults.{first_of, lesser, result_fault}
use Rattle.pli_declare.proofs.LeastFaults.{no_lesser}
use Rattle.pli_declare_constructs.specs.Regions.{block_of}
use Rattle.pli_declare_outline.specs.Outlines.{Mark, Declared, Labelled, Entered, Used, Jumped, PlacedMark, Outline, outline_of, regions_among}
use Rattle.pli_declare_scopes.specs.Scopes.{Scope, meant}
use Rattle.pli_declare_scopes.specs.declared.found.ReferenceMeaning.{ReferenceMeaning}
use Rattle.pli_declare_scopes.specs.declared.found.ReferenceMeaning.TheVariants.{Item as Means, Ambiguous, NotDeclared}
use Rattle.pli_declare_scopes.specs.declared.repeat.Verdict.TheVariants.{Counts}
use Rattle.pli_declare.specs.Tables as tables
use Rattle.pli_declare.specs.Tables.{Entity, AsItem, AsProcedure, no_entry, named, entries_of, entries_in, block_in, inner_marks, unit_block, unit_entries, verdicts_in, scope_of, tables_of}
use Rattle.pli_declare.specs.Places.{own_code, is_locator, is_area}
use Rattle.pli_declare.specs.Descriptions.{is_too_large_variable}
use Rattle.pli_declare.specs.Declarations.{returned_by}
use Rattle.pli_declare.specs.Resolution.{is_main, names_fit, is_good, simple_is_good, described_is_good, attribute_is_good, twice_code, returned_are, least, heading_code, entity_codes, item_code, parameters_of, resolution_faults}
use Rattle.pli_declare.specs.Resolved.{resolved_of, used_as, named_at, item_names, areas_at, locators_at, of_marks, meaning_after, meaning_at}
use Rattle.pli_declare.specs.AttributeNames.{plain_of, simple_of, area_in, locator_in}
use Rattle.pli_declare.specs.declared.block.Use.{Use}
use Rattle.pli_declare.specs.declared.block.Target.{Target}
use Rattle.pli_declare.specs.declared.block.Target.TheVariants.{Name as AName}
use Rattle.pli_declare.proofs.FaultsAreExact.{faults_are_least_codes}
use Rattle.pli_declare.proofs.LookUpLemmas.{no_names}
use Rattle.pli_resolve.specs.laws.LocatorLaws.{locator_names, area_names}
use Rattle.pli_resolve.proofs.BlocksThere.{round_its_block}
use Rattle.pli_resolve.proofs.DeclaredBlocks.{IsRegion}
use Rattle.pli_resolve.proofs.MarksStand.{Each, each_both, marks_stand}
use Rattle.pli_resolve.proofs.MeantNames.{entries_at, region_of, meant_in}
use Rattle.pli_resolve.proofs.NamesOfMarks.{IsOf, item_at, item_of_entry, mark_of, names_of_mark}

-- lists of lists
each_of : {A B : Type 0} (P : B → Type 0) (f : A → List B) (xs : List A) → ((k : ℕ) (x : A) → k < length xs → get_or xs k x ≡ x → Each P (f x)) → Each P (flat_map f xs)
each_of P f [] h = tt
each_of P f (x ∷ xs) h = each_both P (f x) (flat_map f xs) (h 0 x (omega arith) refl) (each_of P f xs (λ k y lt e. h (suc k) y (omega (arith, lt)) e))

in_flat : {A B : Type 0} (f : A → List B) (xs : List A) (k : ℕ) (x : A) (y : B) → k < length xs → get_or xs k x ≡ x → Contains (f x) y → Contains (flat_map f xs) y
in_flat f [] k x y lt e c = absurd (omega (arith, lt))
in_flat f (z ∷ zs) zero x y lt e c = Contains-append_left (f z) (flat_map f zs) y (subst (λ w. Contains (f w) y) (sym e) c)
in_flat f (z ∷ zs) (suc k) x y lt e c = Contains-append_right (f z) (flat_map f zs) y (in_flat f zs k x y (omega (arith, lt)) e c)

-- uses by their tokens
found_good : (P : Target → Type 0) (us : List Use) (at : ℕ) (found : Option Target) → Each (λ (x : Use). P x.target) us → ((t : Target) → found ≡ Some t → P t)
    → (t : Target) → meaning_after found us at ≡ Some t → P t
found_good P [] at found each h t e = h t e
found_good P (x ∷ xs) at found each h t e = by (nat_eq x.at at) (λ next g. found_good P xs at next each.1 g t) e
  where
    by : (b : Bool) → ((next : Option Target) → ((t : Target) → next ≡ Some t → P t) → meaning_after next xs at ≡ Some t → P t)
        → meaning_after (if b then Some x.target else found) xs at ≡ Some t → P t
    by true rest f = rest (Some x.target) (λ s g. let same : x.target ≡ s = cc in subst P same each.0) f
    by false rest f = rest found h f

abbrev pub IsSome : Option Target → Type 0
IsSome found = (t : Target) × (found ≡ Some t)

stays_some : (us : List Use) (at : ℕ) (found : Option Target) → IsSome found → IsSome (meaning_after found us at)
stays_some [] at found h = h
stays_some (x ∷ xs) at found h = by (nat_eq x.at at) (λ next g. stays_some xs at next g)
  where
    by : (b : Bool) → ((next : Option Target) → IsSome next → IsSome (meaning_after next xs at)) → IsSome (meaning_after (if b then Some x.target else found) xs at)
    by true rest = rest (Some x.target) (x.target, refl)
    by false rest = rest found h

found_some : (us : List Use) (found : Option Target) (k : ℕ) (x : Use) → k < length us → get_or us k x ≡ x → IsSome (meaning_after found us x.at)
found_some [] found k x lt e = absurd (omega (arith, lt))
found_some (y ∷ ys) found zero x lt e =
    let here : (if nat_eq y.at x.at then Some y.target else found) ≡ Some y.target =
    ap (λ (b : Bool). if b then Some y.target else found) (eq-eqb y.at x.at (ap (λ (z : Use). z.at) e)) in
    stays_some ys x.at (if nat_eq y.at x.at then Some y.target else found) (y.target, here)
found_some (y ∷ ys) found (suc k) x lt e = found_some ys (if nat_eq y.at x.at then Some y.target else found) k x (omega (arith, lt)) e

-- attributes without a fault of names

true_of : (b : Bool) (c : Code) → first_of ((not b, c) ∷ []) ≡ None → b ≡ true
true_of true c h = refl
true_of false c h = cc

left_true : (a b : Bool) → (a && b) ≡ true → a ≡ true
left_true true b h = refl
left_true false b h = cc

right_true : (a b : Bool) → (a && b) ≡ true → b ≡ true
right_true true b h = h
right_true false b h = cc

module _ {A : Type 0} (test : A → Bool) where
  all_both : (xs ys : List A) → list_all test xs ≡ true → list_all test ys ≡ true → list_all test (xs ++ ys) ≡ true
  all_both [] ys h k = k
  all_both (x ∷ xs) ys h k =
      ap (λ b. b && list_all test (xs ++ ys)) (left_true (test x) (list_all test xs) h)
      ∙ all_both xs ys (right_true (test x) (list_all test xs) h) k

pub all_flat : {A B : Type 0} (test : B → Bool) (all : A → Bool) (f : A → List B) → ((x : A) → all x ≡ true → list_all test (f x) ≡ true)
    → (xs : List A) → list_all all xs ≡ true → list_all test (flat_map f xs) ≡ true
all_flat test all f each [] h = refl
all_flat test all f each (x ∷ xs) h =
    all_both test (f x) (flat_map f xs) (each x (left_true (all x) (list_all all xs) h)) (all_flat test all f each xs (right_true (all x) (list_all all xs) h))

plain_good : (o : Outline) (b : ℕ) (a : DescribedAttribute) → described_is_good o b a ≡ true → list_all (simple_is_good o b) (plain_of a) ≡ true
plain_good o b (Plain a) h = ap (λ t. t && true) h
plain_good o b AnyEntry h = refl
plain_good o b AnyReturns h = refl

simple_good : (o : Outline) (b : ℕ) (a : Attribute) → attribute_is_good o b a ≡ true → list_all (simple_is_good o b) (simple_of a) ≡ true
simple_good o b (Simple a) h = ap (λ t. t && true) h
simple_good o b (Entry parameters) h = refl
simple_good o b (Returns attributes) h = all_flat (simple_is_good o b) (described_is_good o b) plain_of (plain_good o b) attributes h

-- names fit, if there are any
abbrev pub AreGoodNames : Outline → (block : ℕ) → (List tables.Entry → ℕ → Bool) → List Name → Type 0
AreGoodNames o b fits [] = Unit {0}
AreGoodNames o b fits (n ∷ ns) = is_good o b fits (n ∷ ns) ≡ true

good_names : (o : Outline) (b : ℕ) (fits : List tables.Entry → ℕ → Bool) (names : List Name) → is_good o b fits names ≡ true → AreGoodNames o b fits names
good_names o b fits [] h = tt
good_names o b fits (n ∷ ns) h = h

locators_fit : (o : Outline) (b : ℕ) (ss : List SimpleAttribute) → list_all (simple_is_good o b) ss ≡ true → AreGoodNames o b is_locator (locator_in ss)
locators_fit o b [] h = tt
locators_fit o b (Based (Some names) ∷ more) h = good_names o b is_locator names (left_true (is_good o b is_locator names) _ h)
locators_fit o b (a ∷ more) h = locators_fit o b more (right_true (simple_is_good o b a) _ h)

areas_fit : (o : Outline) (b : ℕ) (ss : List SimpleAttribute) → list_all (simple_is_good o b) ss ≡ true → AreGoodNames o b is_area (area_in ss)
areas_fit o b [] h = tt
areas_fit o b (Offset (Some name) ∷ more) h = left_true (is_good o b is_area (name ∷ [])) _ h
areas_fit o b (a ∷ more) h = areas_fit o b more (right_true (simple_is_good o b a) _ h)

fourth_none : (a b c d e : Option Code) → lesser a (lesser b (lesser c (lesser d e))) ≡ None → d ≡ None
fourth_none a b c d e h = (no_lesser d e (no_lesser c (lesser d e) (no_lesser b (lesser c (lesser d e)) (no_lesser a _ h).1).1).1).0

pub names_good_in : (are_good : Bool) (heading : Heading) → heading_code are_good heading ≡ None → are_good ≡ true
names_good_in are_good heading h =
    let returned = returned_by heading.options in
    true_of are_good BadLocatorOrAreaName
    (fourth_none (first_of ((nat_lt 1 (length returned), AttributesConflict) ∷ []))
    (first_of ((list_any is_main heading.options && (nat_lt 0 (length heading.parameters) || nat_lt 0 (length returned)), AttributesConflict) ∷ []))
    (least (map result_fault returned)) (first_of ((not are_good, BadLocatorOrAreaName) ∷ [])) (lesser (first_of ((nat_lt 64 (length heading.parameters), TooManyParameters) ∷ [])) None) h)

-- the attributes in the RETURNS of a heading
abbrev simple_in : Heading → List SimpleAttribute
simple_in heading = flat_map plain_of (flat_map (λ (attributes : List DescribedAttribute). attributes) (returned_by heading.options))

-- what the names of items mean, name by name
abbrev of_name : Outline → (here : ℕ) → (List SimpleAttribute → List Name) → Identifier × Item → List Use
of_name o here names_in x = named_at o here (names_in (flat_map simple_of x.1.attributes)) x.0

of_one : (o : Outline) (here : ℕ) (names_in : List SimpleAttribute → List Name) (item : Item) (is : List Identifier)
    → flat_map (named_at o here (names_in (flat_map simple_of item.attributes))) is ≡ flat_map (of_name o here names_in) (map (λ i. (i, item)) is)
of_one o here names_in item [] = refl
of_one o here names_in item (i ∷ is) = ap (λ us. named_at o here (names_in (flat_map simple_of item.attributes)) i ++ us) (of_one o here names_in item is)

of_items : (o : Outline) (here : ℕ) (names_in : List SimpleAttribute → List Name) (items : List Item) → flat_map (item_names o here names_in) items ≡ flat_map (of_name o here names_in) (flat_map named items)
of_items o here names_in [] = refl
of_items o here names_in (item ∷ items) =
    ap (λ us. us ++ flat_map (item_names o here names_in) items) (of_one o here names_in item item.names)
    ∙ ap (λ us. flat_map (of_name o here names_in) (named item) ++ us) (of_items o here names_in items)
    ∙ sym (flat_map-append (of_name o here names_in) (named item) (flat_map named items))

module _ (u : ExternalProcedure) (h : resolution_faults u ≡ []) where
  abbrev o : Outline
  o = outline_of u

  abbrev marks : List PlacedMark
  marks = inner_marks o.marks

  abbrev bound : ℕ
  bound = 1 + regions_among u.statements

  faultless : (b n : ℕ) → n < length (entries_in o b) → item_code o b n ≡ None
  faultless b n lt = by (item_code o b n) refl
    where
      by : (c : Option Code) → item_code o b n ≡ c → item_code o b n ≡ None
      by None e = e
      by (Some code) e =
          let f : Fault = record { code = code; at = (get_or (entries_in o b) n no_entry).identifier.at } in
          let there : Contains (resolution_faults u) f = (faults_are_least_codes u f).1 (inr (inl (record { block = b; number = n; within = lt; at = refl; code = e }))) in
          let none = subst (λ fs. Contains fs f) h there in
          absurd (omega (arith, none.1))

  abbrev codes_with : (b n : ℕ) → Entity → Option Code
  codes_with b n entity =
      least (twice_code (get_or (verdicts_in o b) n Counts) ∷ entity_codes o b (own_code (entries_in o b) (parameters_of o b) n) (is_too_large_variable (entries_in o b) (parameters_of o b) n) entity)

  codes_none : (b n : ℕ) (entity : Entity) → n < length (entries_in o b) → (get_or (entries_in o b) n no_entry).entity ≡ entity → codes_with b n entity ≡ None
  codes_none b n entity lt e = ap (codes_with b n) (sym e) ∙ faultless b n lt

  item_attributes : (b n : ℕ) (item : Item) (is_bad : Bool) → n < length (entries_in o b) → (get_or (entries_in o b) n no_entry).entity ≡ AsItem item is_bad
      → list_all (attribute_is_good o b) item.attributes ≡ true
  item_attributes b n item is_bad lt e =
      true_of (list_all (attribute_is_good o b) item.attributes) BadLocatorOrAreaName
      (fourth_none (twice_code (get_or (verdicts_in o b) n Counts)) (own_code (entries_in o b) (parameters_of o b) n) (first_of ((is_bad, BadLevel) ∷ [])) _ _ (codes_none b n (AsItem item is_bad) lt e))

  heading_attributes : (b n : ℕ) (heading : Heading) (region : ℕ) → n < length (entries_in o b) → (get_or (entries_in o b) n no_entry).entity ≡ AsProcedure heading region
      → returned_are (list_all (described_is_good o b)) heading ≡ true
  heading_attributes b n heading region lt e =
      let are_good = returned_are (list_all (described_is_good o b)) heading in
      names_good_in are_good heading
      (no_lesser (heading_code are_good heading) None (no_lesser (twice_code (get_or (verdicts_in o b) n Counts)) _ (codes_none b n (AsProcedure heading region) lt e)).1).0

  -- a target that fits
  pub record IsNamed (fits : List tables.Entry → ℕ → Bool) (t : Target) : Type 0 where
    pub region : Option ℕ
    pub number : ℕ
    pub same : t ≡ AName region number
    pub is_region : IsRegion o.regions region
    pub within : number < length (entries_at o region)
    pub fit : fits (entries_at o region) number ≡ true

  abbrev AllNamed : (fits : List tables.Entry → ℕ → Bool) → List Use → Type 0
  AllNamed fits us = Each (λ (x : Use). IsNamed fits x.target) us

  abbrev OneNamed : (fits : List tables.Entry → ℕ → Bool) → (at : ℕ) → List Use → Type 0
  OneNamed fits at us = (t : Target) × (us ≡ record { at = at; target = t } ∷ []) × IsNamed fits t

  false_not_true : false ≡ true → ⊥
  false_not_true e = cc

  named_one : (fits : List tables.Entry → ℕ → Bool) (here : ℕ) → here < bound → (names : List Name) (i : Identifier) → is_good o (block_of o.regions here) fits names ≡ true
      → OneNamed fits i.at (named_at o here names i)
  named_one fits here lt names i g = by (meant (scope_of o here) names) refl
    where
      b : ℕ
      b = block_of o.regions here

      scopes : scope_of o b ≡ scope_of o here
      scopes = ap (λ bs. map (block_in o) bs ++ unit_block o ∷ []) (round_its_block u here lt)

      all_tables : tables_of o b ≡ tables_of o here
      all_tables = ap (λ bs. map (entries_in o) bs ++ unit_entries o.marks ∷ []) (round_its_block u here lt)

      good : names_fit o b fits names (meant (scope_of o here) names) ≡ true
      good = ap (λ (sc : Scope). names_fit o b fits names (meant sc names)) (sym scopes) ∙ g

      by : (m : ReferenceMeaning) → meant (scope_of o here) names ≡ m → OneNamed fits i.at (named_at o here names i)
      by (Means number out) m =
          let w = meant_in o here names number out m in
          let there : fits (get_or (tables_of o b) out []) number ≡ true = ap (names_fit o b fits names) (sym m) ∙ good in (
            AName (region_of o here out) number,
            ap (used_as o here i.at []) m,
            record {
              region = region_of o here out;
              number = number;
              same = refl;
              is_region = w.0;
              within = w.1;
              fit = ap (λ es. fits es number) (sym w.2) ∙ ap (λ (ts : List (List tables.Entry)). fits (get_or ts out []) number) (sym all_tables) ∙ there;
            },
          )
      by Ambiguous m = absurd (false_not_true (ap (names_fit o b fits names) (sym m) ∙ good))
      by NotDeclared m = absurd (false_not_true (ap (names_fit o b fits names) (sym m) ∙ good))

  named_good : (fits : List tables.Entry → ℕ → Bool) (here : ℕ) → here < bound → (names : List Name) (i : Identifier) → AreGoodNames o (block_of o.regions here) fits names
      → AllNamed fits (named_at o here names i)
  named_good fits here lt [] i g = subst (λ m. AllNamed fits (used_as o here i.at [] m)) (sym (no_names (scope_of o here) 0)) tt
  named_good fits here lt (n ∷ ns) i g =
      let one = named_one fits here lt (n ∷ ns) i g in
      subst (AllNamed fits) (sym one.1) (one.2, tt)

  -- the names of a mark in its block
  module _ (p : PlacedMark) (c : Contains marks p) where
    abbrev here : ℕ
    here = p.region

    abbrev block : ℕ
    block = block_of o.regions p.region

    inside : here < bound
    inside = (marks_stand u p c).within

    -- an item of a DECLARE
    item_good : (items : List Item) → p.mark ≡ Declared items → (k : ℕ) (x : Identifier × Item) → k < length (flat_map named items) → get_or (flat_map named items) k x ≡ x
        → list_all (simple_is_good o block) (flat_map simple_of x.1.attributes) ≡ true
    item_good items is k x lt e =
        let names = names_of_mark o p c in
        let it = item_at names.base here items k x lt e in
        let within = subst (λ (y : Mark). k < length (entries_of names.base here y)) (sym is) it.0 in
        let entity = ap (λ (y : tables.Entry). y.entity) (names.same k within) ∙ ap (λ (y : Mark). (get_or (entries_of names.base here y) k no_entry).entity) is ∙ it.3 in
        all_flat (simple_is_good o block) (attribute_is_good o block) simple_of (simple_good o block) x.1.attributes
        (item_attributes block (names.base + k) x.1 it.1 (names.within k within) entity)

    -- a heading
    heading_good : (heading : Heading) (region : ℕ) → p.mark ≡ Entered heading region
        → list_all (simple_is_good o block) (simple_in heading) ≡ true
    heading_good heading region is =
        let names = names_of_mark o p c in
        let within = subst (λ (y : Mark). 0 < length (entries_of names.base here y)) (sym is) (omega arith) in
        let entity = ap (λ (y : tables.Entry). y.entity) (names.same 0 within) ∙ ap (λ (y : Mark). (get_or (entries_of names.base here y) 0 no_entry).entity) is in
        all_flat (simple_is_good o block) (described_is_good o block) plain_of (plain_good o block) (flat_map (λ (attributes : List DescribedAttribute). attributes) (returned_by heading.options))
        (all_flat (described_is_good o block) (list_all (described_is_good o block)) (λ (attributes : List DescribedAttribute). attributes) (λ x g. g) (returned_by heading.options)
        (heading_attributes block (names.base + 0) heading region (names.within 0 within) entity))

    module _ (fits : List tables.Entry → ℕ → Bool) (names_in : List SimpleAttribute → List Name) (fit : (ss : List SimpleAttribute) → list_all (simple_is_good o block) ss ≡ true → AreGoodNames o block fits (names_in ss)) where
      items_good : (items : List Item) → p.mark ≡ Declared items → AllNamed fits (flat_map (item_names o here names_in) items)
      items_good items is =
          subst (AllNamed fits) (sym (of_items o here names_in items))
          (each_of (λ (x : Use). IsNamed fits x.target) (of_name o here names_in) (flat_map named items)
          (λ k x lt e. named_good fits here inside (names_in (flat_map simple_of x.1.attributes)) x.0 (fit (flat_map simple_of x.1.attributes) (item_good items is k x lt e))))

      items_there : (items : List Item) → p.mark ≡ Declared items → (k : ℕ) (x : Identifier × Item) → k < length (flat_map named items) → get_or (flat_map named items) k x ≡ x
          → (n : Name) (ns : List Name) → names_in (flat_map simple_of x.1.attributes) ≡ n ∷ ns → (y : Use) × (y.at ≡ x.0.at) × Contains (flat_map (item_names o here names_in) items) y
      items_there items is k x lt e n ns some =
          let good : is_good o block fits (n ∷ ns) ≡ true = subst (AreGoodNames o block fits) some (fit (flat_map simple_of x.1.attributes) (item_good items is k x lt e)) in
          let one = named_one fits here inside (n ∷ ns) x.0 good in
          let used : Use = record { at = x.0.at; target = one.0 } in
          let alone : of_name o here names_in x ≡ used ∷ [] = ap (λ ms. named_at o here ms x.0) some ∙ one.1 in
          let single : Contains (of_name o here names_in x) used = subst (λ us. Contains us used) (sym alone) (0, omega arith, refl) in
          (used, refl, subst (λ us. Contains us used) (sym (of_items o here names_in items)) (in_flat (of_name o here names_in) (flat_map named items) k x used lt e single))

  -- all uses of a unit

  areas_good : (p : PlacedMark) → Contains marks p → AllNamed is_area (areas_at o p.region p.mark)
  areas_good p c = by p.mark refl
    where
      by : (m : Mark) → p.mark ≡ m → AllNamed is_area (areas_at o p.region p.mark)
      by (Declared items) e = subst (λ m. AllNamed is_area (areas_at o p.region m)) (sym e) (items_good p c is_area area_in (areas_fit o (block_of o.regions p.region)) items e)
      by (Entered heading region) e =
          subst (λ m. AllNamed is_area (areas_at o p.region m)) (sym e)
          (named_good is_area p.region (marks_stand u p c).within (area_in (simple_in heading)) heading.name
          (areas_fit o (block_of o.regions p.region) (simple_in heading) (heading_good p c heading region e)))
      by (Labelled label) e = subst (λ m. AllNamed is_area (areas_at o p.region m)) (sym e) tt
      by (Used names) e = subst (λ m. AllNamed is_area (areas_at o p.region m)) (sym e) tt
      by (Jumped label) e = subst (λ m. AllNamed is_area (areas_at o p.region m)) (sym e) tt

  locators_good : (p : PlacedMark) → Contains marks p → AllNamed is_locator (locators_at o p.region p.mark)
  locators_good p c = by p.mark refl
    where
      by : (m : Mark) → p.mark ≡ m → AllNamed is_locator (locators_at o p.region p.mark)
      by (Declared items) e =
          subst (λ m. AllNamed is_locator (locators_at o p.region m)) (sym e) (items_good p c is_locator locator_in (locators_fit o (block_of o.regions p.region)) items e)
      by (Entered heading region) e = subst (λ m. AllNamed is_locator (locators_at o p.region m)) (sym e) tt
      by (Labelled label) e = subst (λ m. AllNamed is_locator (locators_at o p.region m)) (sym e) tt
      by (Used names) e = subst (λ m. AllNamed is_locator (locators_at o p.region m)) (sym e) tt
      by (Jumped label) e = subst (λ m. AllNamed is_locator (locators_at o p.region m)) (sym e) tt

  pub area_meant : (at : ℕ) (t : Target) → meaning_at (resolved_of u).areas at ≡ Some t → IsNamed is_area t
  unfolding resolved_of
  area_meant at t e =
      found_good (IsNamed is_area) (of_marks (areas_at o) marks) at None
      (each_of (λ (x : Use). IsNamed is_area x.target) (λ (p : PlacedMark). areas_at o p.region p.mark) marks (λ k p lt is. areas_good p (k, lt, is))) (λ s f. cc) t e

  pub locator_meant : (at : ℕ) (t : Target) → meaning_at (resolved_of u).locators at ≡ Some t → IsNamed is_locator t
  unfolding resolved_of
  locator_meant at t e =
      found_good (IsNamed is_locator) (of_marks (locators_at o) marks) at None
      (each_of (λ (x : Use). IsNamed is_locator x.target) (λ (p : PlacedMark). locators_at o p.region p.mark) marks (λ k p lt is. locators_good p (k, lt, is))) (λ s f. cc) t e

  -- where a declaration has names, something is meant

  abbrev HasUseOf : List Use → (at : ℕ) → Type 0
  HasUseOf us at = (y : Use) × (y.at ≡ at) × Contains us y

  no_names_there : {n : Name} {ns : List Name} → [] ≡ n ∷ ns → ⊥
  no_names_there e = cc

  area_use : (p : PlacedMark) → Contains marks p → (m : Mark) → p.mark ≡ m → (base k : ℕ) → k < length (entries_of base p.region m) → (n : Name) (ns : List Name)
      → area_names (get_or (entries_of base p.region m) k no_entry).entity ≡ n ∷ ns → HasUseOf (areas_at o p.region m) (get_or (entries_of base p.region m) k no_entry).identifier.at
  area_use p c (Declared items) e base k lt n ns some =
      let x = item_of_entry base p.region items k lt in
      let used = items_there p c is_area area_in (areas_fit o (block_of o.regions p.region)) items e k x.0 x.1 x.2 n ns (ap area_names (sym x.5) ∙ some) in
      (used.0, used.1 ∙ ap (λ (i : Identifier). i.at) (sym x.4), used.2)
  area_use p c (Entered heading region) e base zero lt n ns some =
      let good : is_good o (block_of o.regions p.region) is_area (n ∷ ns) ≡ true =
      subst (AreGoodNames o (block_of o.regions p.region) is_area) some (areas_fit o (block_of o.regions p.region) (simple_in heading) (heading_good p c heading region e)) in
      let one = named_one is_area p.region (marks_stand u p c).within (n ∷ ns) heading.name good in
      let used : Use = record { at = heading.name.at; target = one.0 } in
      let alone : areas_at o p.region (Entered heading region) ≡ used ∷ [] = ap (λ ms. named_at o p.region ms heading.name) some ∙ one.1 in
      (used, refl, subst (λ us. Contains us used) (sym alone) (0, omega arith, refl))
  area_use p c (Entered heading region) e base (suc k) lt n ns some = absurd (omega (arith, lt))
  area_use p c (Labelled label) e base zero lt n ns some = absurd (no_names_there some)
  area_use p c (Labelled label) e base (suc k) lt n ns some = absurd (omega (arith, lt))
  area_use p c (Used names) e base k lt n ns some = absurd (omega (arith, lt))
  area_use p c (Jumped label) e base k lt n ns some = absurd (omega (arith, lt))

  locator_use : (p : PlacedMark) → Contains marks p → (m : Mark) → p.mark ≡ m → (base k : ℕ) → k < length (entries_of base p.region m) → (n : Name) (ns : List Name)
      → locator_names (get_or (entries_of base p.region m) k no_entry).entity ≡ n ∷ ns → HasUseOf (locators_at o p.region m) (get_or (entries_of base p.region m) k no_entry).identifier.at
  locator_use p c (Declared items) e base k lt n ns some =
      let x = item_of_entry base p.region items k lt in
      let used = items_there p c is_locator locator_in (locators_fit o (block_of o.regions p.region)) items e k x.0 x.1 x.2 n ns (ap locator_names (sym x.5) ∙ some) in
      (used.0, used.1 ∙ ap (λ (i : Identifier). i.at) (sym x.4), used.2)
  locator_use p c (Entered heading region) e base zero lt n ns some = absurd (no_names_there some)
  locator_use p c (Entered heading region) e base (suc k) lt n ns some = absurd (omega (arith, lt))
  locator_use p c (Labelled label) e base zero lt n ns some = absurd (no_names_there some)
  locator_use p c (Labelled label) e base (suc k) lt n ns some = absurd (omega (arith, lt))
  locator_use p c (Used names) e base k lt n ns some = absurd (omega (arith, lt))
  locator_use p c (Jumped label) e base k lt n ns some = absurd (omega (arith, lt))

  used_there : (uses : ℕ → Mark → List Use) (p : PlacedMark) (at : ℕ) → Contains marks p → HasUseOf (uses p.region p.mark) at → IsSome (meaning_at (of_marks uses marks) at)
  used_there uses p at c used =
      let there = in_flat (λ (q : PlacedMark). uses q.region q.mark) marks c.0 p used.0 c.1 c.2 used.2 in
      subst (λ k. IsSome (meaning_at (of_marks uses marks) k)) used.1 (found_some (of_marks uses marks) None there.0 used.0 there.1 there.2)

  entry_used : (uses : ℕ → Mark → List Use) (b k : ℕ) → k < length (entries_in o b)
      → ((m : IsOf o.regions b marks (get_or (entries_in o b) k no_entry))
      → HasUseOf (uses m.placed.region m.placed.mark)
      (get_or (entries_of m.base m.placed.region m.placed.mark) m.number no_entry).identifier.at)
      → IsSome (meaning_at (of_marks uses marks) (get_or (entries_in o b) k no_entry).identifier.at)
  entry_used uses b k lt told =
      let m = mark_of o b k lt in
      subst (λ (x : tables.Entry). IsSome (meaning_at (of_marks uses marks) x.identifier.at)) m.same
      (used_there uses m.placed _ m.stands (told m))

  pub area_there : (b k : ℕ) → k < length (entries_in o b) → (n : Name) (ns : List Name) → area_names (get_or (entries_in o b) k no_entry).entity ≡ n ∷ ns
      → IsSome (meaning_at (resolved_of u).areas (get_or (entries_in o b) k no_entry).identifier.at)
  unfolding resolved_of
  area_there b k lt n ns some =
      entry_used (areas_at o) b k lt
      (λ m. area_use m.placed m.stands m.placed.mark refl m.base m.number m.within n ns
      (ap (λ (x : tables.Entry). area_names x.entity) m.same ∙ some))

  pub locator_there : (b k : ℕ) → k < length (entries_in o b) → (n : Name) (ns : List Name) → locator_names (get_or (entries_in o b) k no_entry).entity ≡ n ∷ ns
      → IsSome (meaning_at (resolved_of u).locators (get_or (entries_in o b) k no_entry).identifier.at)
  unfolding resolved_of
  locator_there b k lt n ns some =
      entry_used (locators_at o) b k lt
      (λ m. locator_use m.placed m.stands m.placed.mark refl m.base m.number m.within n ns
      (ap (λ (x : tables.Entry). locator_names x.entity) m.same ∙ some))

-- Where a unit has no fault no variable is too large, and no procedure has too many parameters.
use Rattle.std.proofs.Common.{◌≡◌, ℕ, zero, suc, ◌+◌, ◌<◌, ◌≤◌, ◌==◌, ◌&&◌, ◌||◌, not, Bool, true, false, nat_lt, if◌then◌else◌, Option, Some, None, is_none, List, [], ◌∷◌, ◌++◌, map, length, get_or, Contains, inl, inr, refl, sym, ap, subst, ◌∙◌, arith}
use Rattle.std.specs.List.{AllByRecursion, flat_map, list_all, list_any}
use Rattle.std.proofs.lemmas.Bool.{cases_eq, cases_lt}
use Rattle.std.proofs.lemmas.Bool.Decides.{nat_tests}
use Rattle.std.proofs.lemmas.List.{get_or_past, length-append, length-map}
use Rattle.pli_base.specs.Name.{Name}
use Rattle.pli_base.specs.Statements.{Heading, ExternalProcedure}
use Rattle.pli_base.specs.declared.code.Code.{Code}
use Rattle.pli_base.specs.declared.code.Code.TheVariants.{AttributesConflict, BadLevel, BadLocatorOrAreaName, TooManyParameters, GenerationTooLarge}
use Rattle.pli_base.specs.declared.token.Fault.{Fault}
use Rattle.pli_map.specs.Description.{Description}
use Rattle.pli_map.specs.Sizes.{size_of}
use Rattle.pli_declare.specs.Faults.{first_of, lesser, result_fault}
use Rattle.pli_declare.proofs.LeastFaults.{no_lesser}
use Rattle.pli_declare_constructs.specs.Regions.{block_of}
use Rattle.pli_declare_outline.specs.Outlines.{Mark, Declared, Labelled, Entered, Used, Jumped, PlacedMark, Outline, outline_of}
use Rattle.pli_declare_scopes.specs.declared.repeat.Verdict.TheVariants.{Counts}
use Rattle.pli_declare.specs.Tables.{Entity, AsItem, AsLabel, AsProcedure, Entry, no_entry, entries_of, entries_in, inner_marks, numbers_from, heading_entries, unit_entries, verdicts_in}
use Rattle.pli_declare.specs.Declarations.{returned_by, whole_description}
use Rattle.pli_declare.specs.Descriptions.{description_of, is_large, is_starred, is_too_large_variable}
use Rattle.pli_declare.specs.Places.{own_code, item_of, is_variable}
use Rattle.pli_declare.specs.Resolution.{attribute_is_good, described_is_good, is_main, entity_codes, headed, heading_code, item_code, least, names_nothing, parameters_of, resolution_faults, returned_are, twice_code}
use Rattle.pli_declare.specs.Resolved as declare
use Rattle.pli_declare.specs.Resolved.{resolved_of, block_at}
use Rattle.pli_declare.proofs.FaultsAreExact.{faults_are_least_codes}
use Rattle.pli_declare.proofs.ListsByNumber.{made_at, made_length}
use Rattle.pli_declare.proofs.ParametersOfBlocks.{gathered, headed_elsewhere}
use Rattle.pli_declare.specs.ResolvedUnits.{region_block, no_block}
use Rattle.pli_declare.specs.ResolvedUnits as resolved
use Rattle.pli_declare.specs.Symbols.{number_declared}
use Rattle.pli_declare.specs.declared.block_numbers.BlockRegion.{BlockRegion}
use Rattle.pli_resolve.proofs.EnteredRegions.{entered, entered_in, headed_from, entered_among}
use Rattle.pli_resolve.proofs.NamesOfMarks.{names_of_mark}
use Rattle.pli_resolve.proofs.RegionWalks.{statements_headings}
use Rattle.pli_deck_laws.specs.Limits.{IfThere}

-- the last of five codes
fifth_none : (a b c d : Option Code) (t : Bool) (code : Code) → least (a ∷ b ∷ c ∷ d ∷ first_of ((t, code) ∷ []) ∷ []) ≡ None → t ≡ false
fifth_none a b c d t code h = by t (no_lesser (first_of ((t, code) ∷ [])) None (no_lesser d _ (no_lesser c _ (no_lesser b _ (no_lesser a _ h).1).1).1).1).0
  where
    by : (t : Bool) → first_of ((t, code) ∷ []) ≡ None → t ≡ false
    by true e = cc
    by false e = refl

pub at_most : (limit n : ℕ) → nat_lt limit n ≡ false → n ≤ limit
at_most limit n h = grind (arith, nat_tests, h)

heading_few : (are_good : Bool) (heading : Heading) → heading_code are_good heading ≡ None → length heading.parameters ≤ 64
heading_few are_good heading h =
    let returned = returned_by heading.options in
    at_most 64 (length heading.parameters)
    (fifth_none (first_of ((nat_lt 1 (length returned), AttributesConflict) ∷ []))
    (first_of ((list_any is_main heading.options && (nat_lt 0 (length heading.parameters) || nat_lt 0 (length returned)), AttributesConflict) ∷ []))
    (least (map result_fault returned)) (first_of ((not are_good, BadLocatorOrAreaName) ∷ []))
    (nat_lt 64 (length heading.parameters)) TooManyParameters h)

-- ---- sizes

abbrev pub IsStored : Description → Type 0
IsStored d = size_of d ≤ 1000000

-- a variable that no code says to be too large
abbrev pub AreStored : List Entry → List Name → Type 0
AreStored entries parameters =
    (n : ℕ) → n < length entries → is_variable (get_or entries n no_entry).entity ≡ true → is_too_large_variable entries parameters n ≡ false

left_of : (b : Bool) → (b && true) ≡ false → b ≡ false
left_of true h = cc
left_of false h = refl

stored_when : (a b star : Bool) (x : Option Description) → star ≡ false → (b ≡ true → (a && b && is_large x && not star) ≡ false) → IfThere IsStored (if a && b then x else None)
stored_when a b true x none h = cc
stored_when false b false x none h = tt
stored_when true false false x none h = tt
stored_when true true false None none h = tt
stored_when true true false (Some d) none h = at_most 1000000 (size_of d) (left_of (is_large (Some d)) (h refl))

-- where a `*` stands its size is not known
pub whole_stored : (entries : List Entry) (parameters : List Name) → AreStored entries parameters → (n : ℕ) → n < length entries → is_starred (item_of entries n) ≡ false
    → IfThere IsStored (whole_description entries parameters n)
whole_stored entries parameters h n lt none =
    stored_when (is_none (get_or entries n no_entry).owner) (is_variable (get_or entries n no_entry).entity) (is_starred (item_of entries n)) (description_of entries parameters n) none (h n lt)

heading_stored : (mark : Mark) → AreStored (heading_entries mark) []
heading_stored (Entered heading region) zero lt is = cc
heading_stored (Entered heading region) (suc n) lt is = absurd (omega (arith, lt))
heading_stored (Declared items) n lt is = absurd (omega (arith, lt))
heading_stored (Labelled label) n lt is = absurd (omega (arith, lt))
heading_stored (Used names) n lt is = absurd (omega (arith, lt))
heading_stored (Jumped label) n lt is = absurd (omega (arith, lt))

-- the unit's own name is no variable
pub unit_stored : (ps : List PlacedMark) → AreStored (unit_entries ps) []
unit_stored [] n lt is = absurd (omega (arith, lt))
unit_stored (p ∷ ps) n lt is = heading_stored p.mark n lt is

-- ---- parameters

abbrev Few : Mark → Type 0
Few (Entered heading region) = length heading.parameters ≤ 64
Few (Declared items) = Unit {0}
Few (Labelled label) = Unit {0}
Few (Used names) = Unit {0}
Few (Jumped label) = Unit {0}

abbrev AllFew : List (Heading × ℕ) → Type 0
AllFew hs = AllByRecursion (λ h. length h.0.parameters ≤ 64) hs

few_entered : (ps : List PlacedMark) → ((p : PlacedMark) → Contains ps p → Few p.mark) → AllFew (entered_in ps)
few_entered [] h = tt
few_entered (p ∷ ps) h =
    by p.mark (h p (0, omega arith, refl)) (few_entered ps (λ q c. h q (suc c.0, omega (arith, c.1), c.2)))
  where
    by : (m : Mark) → Few m → AllFew (entered_in ps) → AllFew (entered m ++ entered_in ps)
    by (Entered heading region) few rest = (few, rest)
    by (Declared items) few rest = rest
    by (Labelled label) few rest = rest
    by (Used names) few rest = rest
    by (Jumped label) few rest = rest

-- the names of parameters of a region, by the procedures that marks enter
abbrev names_entered : (region : ℕ) → List (Heading × ℕ) → List Name
names_entered n hs = flat_map (λ h. headed n (Entered h.0 h.1)) hs

gathered_by : (n : ℕ) (ps : List PlacedMark) → gathered ps n ≡ names_entered n (entered_in ps)
gathered_by n [] = refl
gathered_by n (p ∷ ps) = by p.mark (gathered_by n ps)
  where
    by : (m : Mark) → gathered ps n ≡ names_entered n (entered_in ps) → headed n m ++ gathered ps n ≡ names_entered n (entered m ++ entered_in ps)
    by (Entered heading region) e = ap (λ xs. headed n (Entered heading region) ++ xs) e
    by (Declared items) e = e
    by (Labelled label) e = e
    by (Used names) e = e
    by (Jumped label) e = e

none_before : (n k : ℕ) (hs : List (Option Heading)) → n < k → names_entered n (headed_from k hs) ≡ []
none_before n k [] h = refl
none_before n k (Some heading ∷ hs) h =
    ap (λ ns. ns ++ names_entered n (headed_from (k + 1) hs)) (headed_elsewhere heading k n (λ e. omega (arith, h, e)))
    ∙ none_before n (k + 1) hs (omega (arith, h))
none_before n k (None ∷ hs) h = none_before n (k + 1) hs (omega (arith, h))

headed_few : (n k : ℕ) (heading : Heading) → length heading.parameters ≤ 64 → length (headed n (Entered heading k)) ≤ 64
headed_few n k heading h = by (k == n)
  where
    by : (b : Bool) → length (if b then map (λ i. i.name) heading.parameters else []) ≤ 64
    by true = omega (arith, h, length-map heading.parameters (λ i. i.name))
    by false = omega arith

few_headed : (n k : ℕ) (hs : List (Option Heading)) → AllFew (headed_from k hs) → length (names_entered n (headed_from k hs)) ≤ 64
few_headed n k [] few = omega arith
few_headed n k (None ∷ hs) few = few_headed n (k + 1) hs few
few_headed n k (Some heading ∷ hs) few =
    let later = few_headed n (k + 1) hs few.1 in
    elim (cases_eq k n) [
      | inl here ↦ omega (
        arith,
        headed_few n k heading few.0,
        length-append (headed n (Entered heading k)) (names_entered n (headed_from (k + 1) hs)),
        ap length (none_before n (k + 1) hs (omega (arith, here))),
      )
      | inr other ↦ omega (
        arith,
        later,
        ap (λ ns. length (ns ++ names_entered n (headed_from (k + 1) hs))) (headed_elsewhere heading k n other),
      )
    ]

module _ (u : ExternalProcedure) (h : resolution_faults u ≡ []) where
  abbrev o : Outline
  o = outline_of u

  nowhere : (f : Fault) → Contains (resolution_faults u) f → ⊥
  nowhere f there = let none = subst (λ fs. Contains fs f) h there in omega (arith, none.1)

  codeless : (b n : ℕ) → n < length (entries_in o b) → item_code o b n ≡ None
  codeless b n lt = by (item_code o b n) refl
    where
      by : (c : Option Code) → item_code o b n ≡ c → item_code o b n ≡ None
      by None e = e
      by (Some code) e =
          let f : Fault = record { code = code; at = (get_or (entries_in o b) n no_entry).identifier.at } in
          absurd (nowhere f ((faults_are_least_codes u f).1 (inr (inl (record { block = b; number = n; within = lt; at = refl; code = e })))))

  abbrev codes_with : (b n : ℕ) → Entity → Option Code
  codes_with b n entity =
      least (twice_code (get_or (verdicts_in o b) n Counts) ∷ entity_codes o b (own_code (entries_in o b) (parameters_of o b) n) (is_too_large_variable (entries_in o b) (parameters_of o b) n) entity)

  pub block_stored : (b : ℕ) → AreStored (entries_in o b) (parameters_of o b)
  block_stored b n lt is = by (get_or (entries_in o b) n no_entry).entity is (codeless b n lt)
    where
      by : (x : Entity) → is_variable x ≡ true → codes_with b n x ≡ None → is_too_large_variable (entries_in o b) (parameters_of o b) n ≡ false
      by (AsItem item is_bad) is none =
          fifth_none (twice_code (get_or (verdicts_in o b) n Counts)) (own_code (entries_in o b) (parameters_of o b) n) (first_of ((is_bad, BadLevel) ∷ []))
          (first_of ((not (list_all (attribute_is_good o b) item.attributes), BadLocatorOrAreaName) ∷ []))
          (is_too_large_variable (entries_in o b) (parameters_of o b) n) GenerationTooLarge none
      by (AsLabel region) is none = cc
      by (AsProcedure heading region) is none = cc

  mark_few : (p : PlacedMark) → Contains (inner_marks o.marks) p → Few p.mark
  mark_few p c = by p.mark refl
    where
      by : (m : Mark) → p.mark ≡ m → Few m
      by (Entered heading region) is =
          let names = names_of_mark o p c in
          let b = block_of o.regions p.region in
          let within = subst (λ (y : Mark). 0 < length (entries_of names.base p.region y)) (sym is) (omega arith) in
          let entity : (get_or (entries_in o b) (names.base + 0) no_entry).entity ≡ AsProcedure heading region =
          ap (λ (y : Entry). y.entity) (names.same 0 within) ∙ ap (λ (y : Mark). (get_or (entries_of names.base p.region y) 0 no_entry).entity) is in
          let none : codes_with b (names.base + 0) (AsProcedure heading region) ≡ None =
          ap (codes_with b (names.base + 0)) (sym entity) ∙ codeless b (names.base + 0) (names.within 0 within) in
          let are_good = returned_are (list_all (described_is_good o b)) heading in
          heading_few are_good heading (no_lesser (heading_code are_good heading) None (no_lesser (twice_code (get_or (verdicts_in o b) (names.base + 0) Counts)) (lesser (heading_code are_good heading) None) none).1).0
      by (Declared items) is = tt
      by (Labelled label) is = tt
      by (Used names) is = tt
      by (Jumped label) is = tt

  first_few : length u.heading.parameters ≤ 64
  unfolding outline_of
  first_few = heading_few are_good u.heading (by (heading_code are_good u.heading) refl)
    where
      are_good : Bool
      are_good = returned_are (list_all names_nothing) u.heading

      by : (c : Option Code) → heading_code are_good u.heading ≡ c → heading_code are_good u.heading ≡ None
      by None e = e
      by (Some code) e =
          let f : Fault = record { code = code; at = u.heading.name.at } in
          absurd (nowhere f ((faults_are_least_codes u f).1 (inl (refl, e))))

  names_few : (n : ℕ) → length (parameters_of o n) ≤ 64
  unfolding outline_of
  names_few n =
      let inner = few_entered (inner_marks o.marks) mark_few in
      let all : AllFew (headed_from 0 (Some u.heading ∷ statements_headings u.statements)) = (first_few, subst AllFew (entered_among u.statements 0 1) inner) in
      let same : parameters_of o n ≡ names_entered n (headed_from 0 (Some u.heading ∷ statements_headings u.statements)) =
      gathered_by n o.marks ∙ ap (λ hs. names_entered n ((u.heading, 0) ∷ hs)) (entered_among u.statements 0 1) in
      omega (arith, ap length same, few_headed n 0 (Some u.heading ∷ statements_headings u.statements) all)

  region_few : (n : ℕ) → length (region_block u n).parameters ≤ 64
  unfolding resolved_of
  region_few n =
      elim (cases_lt n (length o.regions)) [
        | inl lt ↦ omega (arith, names_few n, ap (λ (b : declare.BlockDeclarations). length b.parameters) (made_at (block_at o) (length o.regions) n no_block lt))
        | inr past ↦ omega (
          arith,
          ap (λ (b : declare.BlockDeclarations). length b.parameters)
              (get_or_past (map (block_at o) (numbers_from 0 (length o.regions))) n no_block (omega (arith, past, made_length (block_at o) (length o.regions)))),
        )
      ]

  pub blocks_few : (bs : List BlockRegion) → AllByRecursion (λ b. length b.parameters ≤ 64) (map (resolved.block_of u) bs)
  blocks_few [] = tt
  blocks_few (b ∷ bs) =
      let declared = region_block u b.region in
      (omega (arith, region_few b.region, length-map declared.parameters (number_declared declared.declarations)), blocks_few bs)

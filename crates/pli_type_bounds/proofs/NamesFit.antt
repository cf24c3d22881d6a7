-- What the names of a unit without faults mean is within the limits, and so are its parameters and results.
use Rattle.std.specs.Prelude.{◌≡◌, ℕ, zero, suc, ◌+◌, ◌<◌, ◌≤◌, nat_eq, nat_le, Bool, true, false, Option, Some, None, option_map, option_and_then}
use Rattle.std.specs.Prelude.{List, [], ◌∷◌, ◌++◌, map, length, slice_get, if◌then◌else◌, refl}
use Rattle.std.specs.List.{AllByRecursion}
use Rattle.std.proofs.Common.{sym, ap, ◌∙◌, subst, arith, length-append}
use Rattle.std.proofs.lemmas.Bool.{and_parts, leb-true, eqb-true}
use Rattle.std.proofs.lemmas.List.{length-map}
use Rattle.std.proofs.lemmas.Option.{same_Some, none-some, slice_get_within, get_or_from_slice_get}
use Rattle.pli_base.specs.Statements.{ExternalProcedure}
use Rattle.pli_base.specs.declared.syntax.Identifier.{Identifier}
use Rattle.pli_declare.specs.Resolution.{resolution_faults}
use Rattle.pli_map.specs.Description.{Description, Area}
use Rattle.pli_map.specs.ParameterTypes.{ParameterType, Stated, AnyString, AnyArray, ArrayOf, StructureOf, stated}
use Rattle.pli_map.specs.Sizes.{size_of}
use Rattle.pli_declare.specs.ResolvedUnits.{ResolvedUnit, ResolvedBlock, resolved_unit_of, all_symbols, symbol_at, meaning_at}
use Rattle.pli_declare.specs.Symbols.{Symbol, SymbolKind, Variable, OpenParameter, Member, Label, Procedure, Entry, BuiltIn}
use Rattle.pli_declare.specs.declared.symbol.StorageClass.{StorageClass}
use Rattle.pli_declare.specs.declared.symbol.StorageClass.TheVariants as classes
use Rattle.pli_declare.specs.declared.symbol.SymbolKey.{SymbolKey}
use Rattle.pli_type_rules.specs.Beginnings.{beginning_of}
use Rattle.pli_type_rules.specs.NamedUnits.{may_stand, is_automatic, is_based, is_passed_class, root_of, area_on, area_in, area_at, area_named, locator_part, locator_on, locator_in, locator_meant, locator_named}
use Rattle.pli_type_rules.specs.NamedUnits.{block_symbols, of_block, is_procedure, parameter_numbers, type_in, parameters_of, returned_by, name_of, returned_of, returned_area_of}
use Rattle.pli_type_rules.specs.NamedUnits.{outward_to, is_reached, all_globals, templates_of, named_as}
use Rattle.pli_type_rules.specs.References.{StridedPart, part_on, whole_part, locator_at, reference_to, subscripts_at}
use Rattle.pli_type_rules.specs.Names.{LocatorVariable, NamedStorage, Begins, IsBased, NamedVariable, NamedProcedure, NamedAs, AVariable, AFunction, AProcedure, ALabel, Untyped}
use Rattle.pli_type_rules.specs.declared.beginning.Beginning.{Beginning}
use Rattle.pli_type_laws.proofs.NamesMean.{MayBe, StandsIn, IsStored, IsNamedArea, IsThere, variable_begins, procedure_named_so}
use Rattle.pli_type_laws.proofs.RootsStand.{Standing, IsOf, IsEntry, root_begins, descriptions, automatic_stored, based_stored, entry_stands}
use Rattle.pli_program.specs.declared.kind.VariableKind.{VariableKind}
use Rattle.pli_program.specs.declared.kind.VariableKind.TheVariants.{Static, Controlled}
use Rattle.pli_type_tree.specs.Globals.{description_of, described_as, signature_of}
use Rattle.pli_type_tree.specs.laws.GlobalLaws.{described_parts}
use Rattle.pli_type_tree.specs.Templates.{Template}
use Rattle.pli_type_tree.specs.TypedTree.{Root, InSlot, OfProgram, NewestOf, Located, Stride, Callee, OfBlock, OfEntry, Global, OwnVariable, ExternalVariable, EntryPoint, Signature, TypedUnit}
use Rattle.pli_resolve_bounds.proofs.SymbolsWithin.{parameters_are_few}
use Rattle.pli_type_bounds.proofs.Meanings.{IsPart, IsAreaNamed, IsImplied, locator_fits, IsStorage, IsVariable, IsProcedureNamed, IsMeaning}
use Rattle.pli_type_bounds.proofs.PartsFit.{way_fits, parts_fit}
use Rattle.pli_type_bounds.proofs.SymbolsFit.{symbol_fits, initial_fits}
use Rattle.pli_resolve_bounds.specs.SymbolBounds.{IsLimited}
use Rattle.pli_type_laws.proofs.InitialHeld.{all_after}
use Rattle.pli_type_bounds.proofs.TemplatesFit.{AreSymbols, templates_fit, globals_fit}
use Rattle.pli_type_bounds.proofs.TypesFit.{stated_fits, taken_fits, all_taken}
use Rattle.pli_initial_laws.specs.InitialCounts.{HaveFewInitial}
use Rattle.pli_deck_laws.specs.Limits.{IfThere, IsDescription, IsParameterType, IsTemplate, IsGlobal, link_limit, parameter_limit}
use Rattle.pli_deck_laws.specs.WellFormed.{HasBlock, HasSlot, IsRoot, IsCallee, IsReference, AreSubscripts}

-- ---- lists

all_mapped : {A B : Type 0} (P : B → Type 0) (f : A → B) (xs : List A) → ((x : A) → P (f x)) → AllByRecursion P (map f xs)
all_mapped P f [] h = tt
all_mapped P f (x ∷ xs) h = (h x, all_mapped P f xs h)

pub all_at : {A : Type 0} (P : A → Type 0) (xs : List A) → ((i : ℕ) (x : A) → slice_get xs i ≡ Some x → P x) → AllByRecursion P xs
all_at P [] h = tt
all_at P (x ∷ xs) h = (h 0 x refl, all_at P xs (λ i y e. h (suc i) y e))

at_all : {A : Type 0} (P : A → Type 0) (xs : List A) (i : ℕ) (x : A) → AllByRecursion P xs → slice_get xs i ≡ Some x → P x
at_all P [] i x h e = absurd (none-some x e)
at_all P (y ∷ xs) zero x h e = subst P (same_Some y x e) h.0
at_all P (y ∷ xs) (suc i) x h e = at_all P xs i x h.1 e

-- a block that is found around is one of few, and has what all of them have
pub outward_near : (P : ℕ → Type 0) (numbers : List ℕ) (block outward : ℕ) → AllByRecursion P numbers → outward_to numbers block ≡ Some outward
    → (outward < length numbers) × P block
outward_near P [] block outward all e = absurd (none-some outward e)
outward_near P (n ∷ ns) block outward all e = by (nat_eq n block) refl e (λ k f. outward_near P ns block k all.1 f)
  where
    next : (o : Option ℕ) → outward_to ns block ≡ o → option_map suc o ≡ Some outward
        → ((k : ℕ) → outward_to ns block ≡ Some k → (k < length ns) × P block) → (outward < suc (length ns)) × P block
    next None is f rest = absurd (none-some outward f)
    next (Some k) is f rest = let known = rest k is in (omega (arith, known.0, same_Some (suc k) outward f), known.1)

    by : (c : Bool) → nat_eq n block ≡ c → (if c then Some 0 else option_map suc (outward_to ns block)) ≡ Some outward
        → ((k : ℕ) → outward_to ns block ≡ Some k → (k < length ns) × P block) → (outward < suc (length ns)) × P block
    by true is f rest = (omega (arith, same_Some 0 outward f), subst P (eqb-true n block is) all.0)
    by false is f rest = next (outward_to ns block) refl f rest

-- ---- a unit

module _ (u : ExternalProcedure) (none : resolution_faults u ≡ []) where
  abbrev pub R : ResolvedUnit
  R = resolved_unit_of u

  -- the symbols of a block
  pub symbol_in : (block number : ℕ) (s : Symbol) → slice_get (block_symbols R block) number ≡ Some s → IsLimited s.kind
  symbol_in block number s e = symbol_fits u none (record { block = block; number = number }) s e

  pub symbols_in : (block : ℕ) → AllByRecursion (λ (s : Symbol). IsLimited s.kind) (block_symbols R block)
  symbols_in block = all_at (λ (s : Symbol). IsLimited s.kind) (block_symbols R block) (λ i s e. symbol_in block i s e)

  -- parameters
  kind_described : (i : Identifier) (kind : SymbolKind) → IsLimited kind → IsParameterType (type_in (Some (record { identifier = i; kind = kind })))
  kind_described i (Variable d class scope initial area) h = h.0
  kind_described i (OpenParameter type slot area) h = taken_fits type h
  kind_described i (Member root path initial area) h = tt
  kind_described i (Label statement) h = tt
  kind_described i (Procedure block returned area) h = tt
  kind_described i (Entry parameters returned area) h = tt
  kind_described i BuiltIn h = tt

  parameter_described : (block number : ℕ) (o : Option Symbol) → slice_get (block_symbols R block) number ≡ o → IsParameterType (type_in o)
  parameter_described block number None e = tt
  parameter_described block number (Some s) e = kind_described s.identifier s.kind (symbol_in block number s e)

  pub parameters_described : (block : ℕ) → AllByRecursion IsParameterType (parameters_of R block)
  parameters_described block =
      all_mapped IsParameterType (λ number. type_in (slice_get (block_symbols R block) number)) (parameter_numbers R block)
      (λ number. parameter_described block number (slice_get (block_symbols R block) number) refl)

  few_if : (b : Bool) (xs : List ℕ) → length xs ≤ parameter_limit → length (if b then xs else []) ≤ parameter_limit
  few_if true xs h = h
  few_if false xs h = omega arith

  numbers_few : (block : ℕ) (o : Option ResolvedBlock) → slice_get R.blocks block ≡ o
      → length (of_block (λ b. if is_procedure b.kind then b.parameters else []) [] o) ≤ parameter_limit
  numbers_few block None e = omega arith
  numbers_few block (Some b) e =
      few_if (is_procedure b.kind) b.parameters
      (at_all (λ (b : ResolvedBlock). length b.parameters ≤ parameter_limit) R.blocks block b (parameters_are_few u none) e)

  pub parameters_few : (block : ℕ) → length (parameters_of R block) ≤ parameter_limit
  parameters_few block =
      omega (
        arith,
        numbers_few block (slice_get R.blocks block) refl,
        length-map (parameter_numbers R block) (λ number. type_in (slice_get (block_symbols R block) number)),
      )

  -- results
  kind_returned : (i : Identifier) (kind : SymbolKind) → IsLimited kind → IfThere IsDescription (returned_by (Some (record { identifier = i; kind = kind })))
  kind_returned i (Variable d class scope initial area) h = tt
  kind_returned i (OpenParameter type slot area) h = tt
  kind_returned i (Member root path initial area) h = tt
  kind_returned i (Label statement) h = tt
  kind_returned i (Procedure block returned area) h = h
  kind_returned i (Entry parameters returned area) h = tt
  kind_returned i BuiltIn h = tt

  symbol_returned : (key : SymbolKey) (o : Option Symbol) → symbol_at R key ≡ o → IfThere IsDescription (returned_by o)
  symbol_returned key None e = tt
  symbol_returned key (Some s) e = kind_returned s.identifier s.kind (symbol_fits u none key s e)

  key_returned : (o : Option SymbolKey) → IfThere IsDescription (option_and_then (λ key. returned_by (symbol_at R key)) o)
  key_returned None = tt
  key_returned (Some key) = symbol_returned key (symbol_at R key) refl

  pub returned_described : (block : ℕ) → IfThere IsDescription (returned_of R block)
  returned_described block = key_returned (name_of R block)

  -- ---- what is there in the typed unit

  abbrev pub Automatic : (block : ℕ) → List Template
  Automatic block = templates_of (is_automatic 63) (block_symbols R block)

  abbrev pub Globals : List Global
  Globals = all_globals 63 (all_symbols R)

  -- the typed unit has the globals and the blocks, each with its slots
  pub record Has (t : TypedUnit) : Type 0 where
    pub globals : t.globals ≡ Globals
    pub blocks : (block : ℕ) → block < length R.blocks → HasBlock t block
    pub slots : (block slot : ℕ) → block < length R.blocks → slot < length (parameters_of R block) + length (Automatic block) → HasSlot t slot

  -- where something is made of what stands at a number, it stands there
  found_within : {A B : Type 0} (f : Option A → Option B) (xs : List A) (number : ℕ) (y : B) → f None ≡ None → f (slice_get xs number) ≡ Some y → number < length xs
  found_within {A} f xs number y none e = by (slice_get xs number) refl e
    where
      by : (o : Option A) → slice_get xs number ≡ o → f o ≡ Some y → number < length xs
      by None is h = absurd (none-some y (sym none ∙ h))
      by (Some x) is h = slice_get_within xs number x is

  global_within : (gs : List Global) (number : ℕ) (d : Description) → description_of (slice_get gs number) ≡ Some d → number < length gs
  global_within gs number d e = found_within description_of gs number d refl e

  entry_within : (gs : List Global) (number : ℕ) (s : Signature) → signature_of (slice_get gs number) ≡ Some s → number < length gs
  entry_within gs number s e = found_within signature_of gs number s refl e

  pub automatic_fit : (block : ℕ) → AllByRecursion IsTemplate (Automatic block)
  automatic_fit block =
      templates_fit (is_automatic 63) (automatic_stored 63) (block_symbols R block) 0 (block_symbols R block) (symbols_in block) (initial_fits u none block)

  -- and BASED ones
  pub based_fit : (block : ℕ) → AllByRecursion IsTemplate (templates_of (is_based 63) (block_symbols R block))
  based_fit block =
      templates_fit (is_based 63) (based_stored 63) (block_symbols R block) 0 (block_symbols R block) (symbols_in block) (initial_fits u none block)

  each_block : (i : ℕ) (ss : List Symbol) → slice_get (all_symbols R) i ≡ Some ss
      → AreSymbols ss × HaveFewInitial ss 0 ss
  each_block i ss e =
      let same : block_symbols R i ≡ ss = get_or_from_slice_get (all_symbols R) i ss [] e in
      (subst AreSymbols same (symbols_in i), subst (λ (ss : List Symbol). HaveFewInitial ss 0 ss) same (initial_fits u none i))

  pub all_globals_fit : AllByRecursion IsGlobal Globals
  all_globals_fit =
      globals_fit (all_symbols R)
      (all_at (λ (ss : List Symbol). AreSymbols ss × HaveFewInitial ss 0 ss) (all_symbols R) each_block)

  -- what slots and globals are
  described_templates : (ts : List Template) → AllByRecursion IsTemplate ts → AllByRecursion IsParameterType (descriptions ts)
  described_templates [] h = tt
  described_templates (v ∷ ts) h = (h.0.0.0, described_templates ts h.1)

  slots_described : (block : ℕ) → AllByRecursion IsParameterType (parameters_of R block ++ descriptions (Automatic block))
  slots_described block =
      all_after IsParameterType (parameters_of R block) (descriptions (Automatic block)) (parameters_described block)
      (described_templates (Automatic block) (automatic_fit block))

  global_described : (o : Option Global) (d : Description) → ((g : Global) → o ≡ Some g → IsGlobal g) → description_of o ≡ Some d → IsDescription d
  global_described None d h e = absurd (none-some d e)
  global_described (Some (OwnVariable kind v)) d h e = subst IsDescription (same_Some v.description d e) (h (OwnVariable kind v) refl).0.0
  global_described (Some (ExternalVariable name kind v)) d h e = subst IsDescription (same_Some v.description d e) (h (ExternalVariable name kind v) refl).0.0
  global_described (Some (EntryPoint name s)) d h e = absurd (none-some d e)

  module _ (t : TypedUnit) (has : Has t) where
    abbrev IsInside : List ℕ → Type 0
    IsInside blocks = AllByRecursion (λ b. b < length R.blocks) blocks

    slot_fits : (blocks : List ℕ) (is_parameter : Bool) (outward slot : ℕ) (type : ParameterType) → length blocks ≤ link_limit → IsInside blocks
        → Standing 63 R blocks is_parameter (InSlot outward slot) type → IsRoot t (InSlot outward slot) × IsParameterType type
    slot_fits blocks is_parameter outward slot type near inside (block, at, there, own) =
        let found = outward_near (λ b. b < length R.blocks) blocks block outward inside at in
        let within : slot < length (parameters_of R block) + length (Automatic block) =
        omega (
          arith,
          slice_get_within (parameters_of R block ++ descriptions (Automatic block)) slot type there,
          length-append (parameters_of R block) (descriptions (Automatic block)),
          length-map (Automatic block) (λ (v : Template). Stated v.description),
        ) in
        ((omega (arith, found.0, near), has.slots block slot found.1 within), at_all IsParameterType _ slot type (slots_described block) there)

    global_fits : (kind : VariableKind) (number : ℕ) (d : Description) → described_as kind (slice_get Globals number) ≡ Some d
        → (number < length t.globals) × IsDescription d
    global_fits kind number d e =
        let is = (described_parts kind (slice_get Globals number) d e).1 in (
          subst (λ (gs : List Global). number < length gs) (sym has.globals) (global_within Globals number d is),
          global_described (slice_get Globals number) d (λ g is. at_all IsGlobal Globals number g all_globals_fit is) is,
        )

    stated_global : (kind : VariableKind) (number : ℕ) (type : ParameterType)
        → ((d : Description) × (type ≡ Stated d) × (described_as kind (slice_get Globals number) ≡ Some d))
        → (number < length t.globals) × IsParameterType type
    stated_global kind number type (d, is, e) = let known = global_fits kind number d e in (known.0, subst IsParameterType (sym is) known.1)

    root_fits : (blocks : List ℕ) (is_parameter : Bool) (root : Root) (type : ParameterType) → length blocks ≤ link_limit → IsInside blocks
        → Standing 63 R blocks is_parameter root type → IsRoot t root × IsParameterType type
    root_fits blocks is_parameter (InSlot outward slot) type near inside h = slot_fits blocks is_parameter outward slot type near inside h
    root_fits blocks is_parameter (OfProgram number) type near inside h = stated_global Static number type h
    root_fits blocks is_parameter (NewestOf number) type near inside h = stated_global Controlled number type h
    root_fits blocks is_parameter (Located locator whole) type near inside h = absurd h

    -- the area that a declaration names
    root_named : (root : Root) → IsRoot t root → IsAreaNamed t (beginning_of root)
    root_named (InSlot outward slot) h = h
    root_named (OfProgram number) h = h
    root_named (NewestOf number) h = h
    root_named (Located locator whole) h = tt

    on_named : (path : List ℕ) (whole : Description) (o : Option Root) → ((root : Root) → o ≡ Some root → IsRoot t root)
        → IsAreaNamed t (area_on path whole o)
    on_named [] (Area bytes) None h = tt
    on_named [] (Area bytes) (Some root) h = root_named root (h root refl)
    on_named path whole o h = tt

    -- without dimensions, of what begins somewhere
    scalar_fits : (root : Root) (path : List ℕ) (q : StridedPart) → IsRoot t root → IsPart q → IsReference t (reference_to root path q [])
    scalar_fits root [] q h k = h
    scalar_fits root (i ∷ path) q h k = (h, k.offset, k.described, alone q.strides)
      where
        alone : (ss : List Stride) → AreSubscripts t (subscripts_at ss [])
        alone [] = tt
        alone (s ∷ ss) = tt

    implied_if : (b : Bool) (o : Option LocatorVariable) → IsImplied t o → IsImplied t (if b then o else None)
    implied_if true o h = h
    implied_if false o h = tt

    part_fits : (root : Root) (path : List ℕ) (area : Option Beginning) → IsAreaNamed t area → (o : Option StridedPart) → IsRoot t root
        → ((q : StridedPart) → o ≡ Some q → IsPart q) → IsImplied t (locator_part root path area o)
    part_fits root path area there None h k = tt
    part_fits root path area there (Some q) h k =
        implied_if (nat_eq (length q.strides) 0) (locator_at (reference_to root path q []) (Stated q.description) area)
        (locator_fits t (reference_to root path q []) (Stated q.description) area (scalar_fits root path q h (k q refl)) there)

    module _ (blocks : List ℕ) (near : length blocks ≤ link_limit) (inside : IsInside blocks) where
      -- areas
      begun_fits : (key : SymbolKey) (class : StorageClass) (d : Description) (s : Symbol)
          → slice_get (block_symbols R key.block) key.number ≡ Some s → IsOf class d s.kind → (root : Root)
          → root_of 63 R blocks key class d ≡ Some root → IsRoot t root
      begun_fits key class d s there of root is =
          let begun = root_begins 63 R blocks key d root s there class of is in
          (root_fits blocks (is_passed_class class) root (Stated d) near inside begun.0).0

      area_kind_fits : (key : SymbolKey) (path : List ℕ) (s : Symbol) (kind : SymbolKind)
          → slice_get (block_symbols R key.block) key.number ≡ Some s → s.kind ≡ kind
          → IsAreaNamed t (area_in 63 R blocks key path (Some (record { identifier = s.identifier; kind = kind })))
      area_kind_fits key path s (Variable d class scope initial area) there is =
          on_named path d (root_of 63 R blocks key class d)
          (λ root e. begun_fits key class d s there (subst (IsOf class d) (sym is) (refl, refl)) root e)
      area_kind_fits key path s (OpenParameter type slot area) there is = tt
      area_kind_fits key path s (Member root p initial area) there is = tt
      area_kind_fits key path s (Label statement) there is = tt
      area_kind_fits key path s (Procedure block returned area) there is = tt
      area_kind_fits key path s (Entry parameters returned area) there is = tt
      area_kind_fits key path s BuiltIn there is = tt

      area_symbol_fits : (key : SymbolKey) (path : List ℕ) (o : Option Symbol) → slice_get (block_symbols R key.block) key.number ≡ o
          → IsAreaNamed t (area_in 63 R blocks key path o)
      area_symbol_fits key path None there = tt
      area_symbol_fits key path (Some s) there = area_kind_fits key path s s.kind there refl

      area_meant_fits : (key : SymbolKey) (o : Option Symbol) → slice_get (block_symbols R key.block) key.number ≡ o
          → IsAreaNamed t (area_at 63 R blocks key o)
      area_meant_fits key None there = tt
      area_meant_fits key (Some s) there = by s.kind refl
        where
          by : (kind : SymbolKind) → s.kind ≡ kind
              → IsAreaNamed t (area_at 63 R blocks key (Some (record { identifier = s.identifier; kind = kind })))
          by (Variable d class scope initial area) is = area_kind_fits key [] s (Variable d class scope initial area) there is
          by (OpenParameter type slot area) is = tt
          by (Member root path initial area) is =
              area_symbol_fits (record { block = key.block; number = root }) path (slice_get (block_symbols R key.block) root) refl
          by (Label statement) is = tt
          by (Procedure block returned area) is = tt
          by (Entry parameters returned area) is = tt
          by BuiltIn is = tt

      area_fits : (named : Option SymbolKey) → IsAreaNamed t (area_named 63 R blocks named)
      area_fits None = tt
      area_fits (Some key) = area_meant_fits key (symbol_at R key) refl

      named_area : (area : Option Beginning) → IsNamedArea 63 R blocks area → IsAreaNamed t area
      named_area area (named, is) = subst (IsAreaNamed t) (sym is) (area_fits named)

      -- locators
      on_fits : (key : SymbolKey) (class : StorageClass) (d : Description) (path : List ℕ) (named : Option SymbolKey) (s : Symbol)
          → slice_get (block_symbols R key.block) key.number ≡ Some s → IsOf class d s.kind → (o : Option Root)
          → root_of 63 R blocks key class d ≡ o → IsImplied t (locator_on o d path (area_named 63 R blocks named))
      on_fits key class d path named s there of None is = tt
      on_fits key class d path named s there of (Some root) is =
          let begun = root_begins 63 R blocks key d root s there class of is in
          let both = root_fits blocks (is_passed_class class) root (Stated d) near inside begun.0 in
          let small : size_of d ≤ 1000000 = leb-true (size_of d) 1000000 (and_parts (may_stand 63 d) (nat_le (size_of d) 1000000) begun.1).1 in
          part_fits root path (area_named 63 R blocks named) (area_fits named) (part_on (whole_part d) path) both.0
          (λ q e. way_fits d path both.1 small q e)

      kind_fits : (key : SymbolKey) (path : List ℕ) (named : Option SymbolKey) (s : Symbol) (kind : SymbolKind)
          → slice_get (block_symbols R key.block) key.number ≡ Some s → s.kind ≡ kind
          → IsImplied t (locator_in 63 R blocks key path (area_named 63 R blocks named) (Some (record { identifier = s.identifier; kind = kind })))
      kind_fits key path named s (Variable d class scope initial area) there is =
          on_fits key class d path named s there (subst (IsOf class d) (sym is) (refl, refl)) (root_of 63 R blocks key class d) refl
      kind_fits key path named s (OpenParameter type slot area) there is = tt
      kind_fits key path named s (Member root p initial area) there is = tt
      kind_fits key path named s (Label statement) there is = tt
      kind_fits key path named s (Procedure block returned area) there is = tt
      kind_fits key path named s (Entry parameters returned area) there is = tt
      kind_fits key path named s BuiltIn there is = tt

      in_fits : (key : SymbolKey) (path : List ℕ) (named : Option SymbolKey) (o : Option Symbol)
          → slice_get (block_symbols R key.block) key.number ≡ o
          → IsImplied t (locator_in 63 R blocks key path (area_named 63 R blocks named) o)
      in_fits key path named None there = tt
      in_fits key path named (Some s) there = kind_fits key path named s s.kind there refl

      meant_fits : (key : SymbolKey) (o : Option Symbol) → slice_get (block_symbols R key.block) key.number ≡ o
          → IsImplied t (locator_meant 63 R blocks key o)
      meant_fits key None there = tt
      meant_fits key (Some s) there = by s.kind refl
        where
          by : (kind : SymbolKind) → s.kind ≡ kind
              → IsImplied t (locator_meant 63 R blocks key (Some (record { identifier = s.identifier; kind = kind })))
          by (Variable d class scope initial area) is = kind_fits key [] area s (Variable d class scope initial area) there is
          by (OpenParameter type slot area) is = tt
          by (Member root path initial area) is =
              in_fits (record { block = key.block; number = root }) path area (slice_get (block_symbols R key.block) root) refl
          by (Label statement) is = tt
          by (Procedure block returned area) is = tt
          by (Entry parameters returned area) is = tt
          by BuiltIn is = tt

      implied_fits : (locator : Option SymbolKey) → IsImplied t (locator_named 63 R blocks locator)
      implied_fits None = tt
      implied_fits (Some key) = meant_fits key (symbol_at R key) refl

      -- storage
      storage_fits : (storage : NamedStorage) (type : ParameterType) → StandsIn 63 R blocks storage type → IsStorage t storage
      storage_fits (Begins root is_parameter) type h = (root_fits blocks is_parameter root type near inside h).0
      storage_fits (IsBased block number implied) type h = subst (IsImplied t) (sym h.3) (implied_fits h.0)

      -- the area that RETURNS of a function names
      pub areas_fit : (block : ℕ) → IsAreaNamed t (area_named 63 R blocks (returned_area_of R block))
      areas_fit block = area_fits (returned_area_of R block)

    -- what a symbol is, is described
    of_described : (class : StorageClass) (d : Description) (kind : SymbolKind) → IsOf class d kind → IsLimited kind → IsDescription d
    of_described class d (Variable description c scope values area) h g = subst IsDescription h.0 g.0
    of_described class d (OpenParameter type slot area) h g = absurd h
    of_described class d (Member root path values area) h g = absurd h
    of_described class d (Label statement) h g = absurd h
    of_described class d (Procedure block returned area) h g = absurd h
    of_described class d (Entry parameters returned area) h g = absurd h
    of_described class d BuiltIn h g = absurd h

    whole_fits : (blocks : List ℕ) (storage : NamedStorage) (type : ParameterType) → length blocks ≤ link_limit → IsInside blocks
        → StandsIn 63 R blocks storage type → IsParameterType type
    whole_fits blocks (Begins root is_parameter) type near inside h = (root_fits blocks is_parameter root type near inside h).1
    whole_fits blocks (IsBased block number implied) type near inside h =
        subst IsParameterType (sym h.6)
        (of_described (classes.Based h.0) h.5 h.2.kind h.7 (symbol_in h.1.block h.1.number h.2 h.4))

    -- what is stated of it is small
    stated_small : (whole : ParameterType) (d : Description) → MayBe 63 whole → stated whole ≡ Some d → size_of d ≤ 1000000
    stated_small (Stated c) d may is =
        subst (λ (e : Description). size_of e ≤ 1000000) (same_Some c d is)
        (leb-true (size_of c) 1000000 (and_parts (may_stand 63 c) (nat_le (size_of c) 1000000) may).1)
    stated_small (AnyString form) d may is = absurd cc
    stated_small (AnyArray dimensions element) d may is = absurd cc
    stated_small (ArrayOf bounds element) d may is = absurd cc
    stated_small (StructureOf types) d may is = absurd cc

    variable_fits : (blocks : List ℕ) (v : NamedVariable) → length blocks ≤ link_limit → IsInside blocks → IsStored 63 R blocks v → IsVariable t v
    variable_fits blocks v near inside b =
        let good = whole_fits blocks v.storage v.whole near inside b.0 in
        record {
          storage = storage_fits blocks near inside v.storage v.whole b.0;
          whole = good;
          area = named_area blocks near inside v.area b.2;
          parts = λ d p q given is e f.
              parts_fit d v.path (stated_fits v.whole d good is) (stated_small v.whole d b.1 is) p q given e f;
        }

    -- procedures
    reached_within : (blocks : List ℕ) (block : ℕ) (o : Option ResolvedBlock) → slice_get R.blocks block ≡ o → is_reached blocks o ≡ true
        → block < length R.blocks
    reached_within blocks block None is h = absurd (not_true h)
      where
        not_true : false ≡ true → ⊥
        not_true e = absurd (cc)
    reached_within blocks block (Some b) is h = slice_get_within R.blocks block b is

    entry_parts : (p : NamedProcedure) (kind : SymbolKind) → IsEntry p.parameters p.returned kind → IsLimited kind
        → (length p.parameters ≤ parameter_limit) × AllByRecursion IsParameterType p.parameters
    entry_parts p (Entry ps o area) h g =
        (subst (λ (ts : List ParameterType). length ts ≤ parameter_limit) h.0 g.0, subst (AllByRecursion IsParameterType) h.0 (all_taken ps g.1))
    entry_parts p (Variable d class scope values area) h g = absurd h
    entry_parts p (OpenParameter type slot area) h g = absurd h
    entry_parts p (Member root path values area) h g = absurd h
    entry_parts p (Label statement) h g = absurd h
    entry_parts p (Procedure block returned area) h g = absurd h
    entry_parts p BuiltIn h g = absurd h

    callee_fits : (blocks : List ℕ) (p : NamedProcedure) (c : Callee) → p.callee ≡ c → IsThere 63 R blocks p c → IsAreaNamed t p.area
        → IsProcedureNamed t p
    callee_fits blocks p (OfBlock block) is h area =
        let same : parameters_of R block ≡ p.parameters = ap (λ (q : NamedProcedure). q.parameters) h.0 in
        record {
          callee = subst (IsCallee t) (sym is) (has.blocks block (reached_within blocks block (slice_get R.blocks block) refl h.1));
          few = subst (λ (ts : List ParameterType). length ts ≤ parameter_limit) same (parameters_few block);
          described = subst (AllByRecursion IsParameterType) same (parameters_described block);
          area = area;
        }
    callee_fits blocks p (OfEntry number) is h area =
        let parts = entry_parts p h.symbol.kind h.entry (symbol_in h.key.block h.key.number h.symbol h.there) in
        let within = entry_within Globals _ _ (entry_stands 63 R h.key h.symbol p.parameters p.returned h.there h.entry) in
        record {
          callee =
              subst (IsCallee t) (sym is)
              (subst (λ (gs : List Global). number < length gs) (sym has.globals) (subst (λ k. k < length Globals) (sym h.is) within));
          few = parts.0;
          described = parts.1;
          area = area;
        }

    named_fits : (blocks : List ℕ) (at : ℕ) → length blocks ≤ link_limit → IsInside blocks → (a : NamedAs) → named_as 63 R blocks (meaning_at R at) ≡ a
        → IsMeaning t a
    named_fits blocks at near inside (AVariable v) e = variable_fits blocks v near inside (variable_begins 63 R blocks v (meaning_at R at) e)
    named_fits blocks at near inside (AProcedure p) e =
        let known = procedure_named_so 63 R blocks p (meaning_at R at) e in
        callee_fits blocks p p.callee refl known.there (named_area blocks near inside p.area known.area)
    named_fits blocks at near inside (AFunction f) e = tt
    named_fits blocks at near inside (ALabel statement) e = tt
    named_fits blocks at near inside Untyped e = tt

    pub meanings_fit : (blocks : List ℕ) (at : ℕ) → length blocks ≤ link_limit → IsInside blocks
        → IsMeaning t (named_as 63 R blocks (meaning_at R at))
    meanings_fit blocks at near inside = named_fits blocks at near inside (named_as 63 R blocks (meaning_at R at)) refl

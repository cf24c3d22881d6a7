-- Where the storage of variables is, and which areas OFFSET and which locators BASED names, by what is kept of symbols.
use Rattle.std.proofs.Common.{◌≡◌, ℕ, suc, nat_eq, Bool, true, false, ◌&&◌, Option, Some, None, List, [], ◌∷◌, option_map, slice_get, get_or, length}
use Rattle.std.proofs.Math.Dec.{eqb-suc-zero}
use Rattle.std.proofs.Common.{refl, ap, sym, ◌∙◌, arith}
use Rattle.std.specs.Option.{unwrap_or, option_and_then}
use Rattle.std.specs.Prelude.{if◌then◌else◌}
use Rattle.pli_map.specs.Description as described
use Rattle.pli_map.specs.Description.{Description}
use Rattle.pli_map.specs.ParameterTypes.{ParameterType, Stated, AnyString, AnyArray, ArrayOf, StructureOf}
use Rattle.pli_declare.specs.ResolvedUnits.{ResolvedUnit}
use Rattle.pli_declare.specs.Symbols.{Symbol, SymbolKind, Variable, OpenParameter, Member, Label, Procedure, Entry, BuiltIn}
use Rattle.pli_declare.specs.declared.symbol.StorageClass.{StorageClass}
use Rattle.pli_declare.specs.declared.symbol.StorageClass.TheVariants as classes
use Rattle.pli_declare.specs.declared.symbol.SymbolKey.{SymbolKey}
use Rattle.pli_type_rules.specs.Beginnings.{root_at}
use Rattle.pli_type_rules.specs.Names.{LocatorVariable, Begins, IsBased}
use Rattle.pli_type_rules.specs.NamedUnits.{area_on, area_in, area_at, area_named, block_symbols, gives_stored, global_number, is_based, is_open_parameter, is_parameter}
use Rattle.pli_type_rules.specs.NamedUnits.{is_stored, is_valued, parameter_numbers, root_of, locator_part, locator_on, locator_in, locator_meant}
use Rattle.pli_type_rules.specs.NamedUnits.{locator_named, storage_of, such_before}
use Rattle.pli_type_rules.specs.References.{StridedPart, part_on, locator_at, reference_to, whole_part}
use Rattle.pli_type_rules.specs.declared.beginning.Beginning.{Beginning}
use Rattle.pli_type_rules.specs.declared.beginning.Beginning.TheVariants as beginnings
use Rattle.pli_type_names.specs.BlockFacts.{BlockFacts, facts_of}
use Rattle.pli_type_names.specs.SymbolMeaning.{is_way}
use Rattle.pli_type_names.specs.OwnVariables.{OwnVariable, begun, global_at, own_at, own_variables, place_at}
use Rattle.pli_type_names.specs.Seen.{Kept, KeptVariable, KeptEntry, KeptNothing, kept_symbols, kind_kept, on_way, open_kept, root_from}
use Rattle.pli_type_names.specs.Seen.{area_from, area_kept, area_under, if_locator, offset_if, locator_from, locator_kept, locator_under}
use Rattle.pli_type_names.specs.Seen.{storage_from}
use Rattle.pli_type_names.specs.declared.place.Location.{Location}
use Rattle.pli_type_names.specs.declared.place.Location.TheVariants.{Passed, Based}
use Rattle.pli_type_names.proofs.ListLemmas.{each_get}
use Rattle.pli_type_tree.specs.TypedTree.{Root, Stride}

-- ---- where variables begin

if_placed : (from : Location → Option Root) (b : Bool) (p : Location)
    → (if b then from p else None) ≡ option_and_then from (if b then Some p else None)
if_placed from true p = refl
if_placed from false p = refl

based_nowhere : (blocks : List ℕ) (block : ℕ) (b : Bool) (number : ℕ) (locator : Option SymbolKey)
    → None ≡ option_and_then (root_from blocks block) (if b then Some (Based number locator) else None)
based_nowhere blocks block true number locator = refl
based_nowhere blocks block false number locator = refl

root_is : (r : ResolvedUnit) (blocks : List ℕ) (key : SymbolKey) (class : StorageClass) (d : Description)
    → root_of 63 r blocks key class d ≡ option_and_then (root_from blocks key.block) (place_at (facts_of r key.block) key.number class d)
root_is r blocks key classes.Automatic d =
    if_placed (root_from blocks key.block) (is_stored 63 d) _
root_is r blocks key (classes.Parameter slot) d =
    if_placed (root_from blocks key.block) (is_stored 63 d && is_parameter (parameter_numbers r key.block) slot key.number) (Passed slot)
root_is r blocks key classes.Static d =
    if_placed (root_from blocks key.block) (is_stored 63 d) _
root_is r blocks key classes.Controlled d =
    if_placed (root_from blocks key.block) (is_stored 63 d) _
root_is r blocks key (classes.Based locator) d =
    based_nowhere blocks key.block (is_valued 63 d) _ locator

-- ---- variables of their own

abbrev pub own_there : BlockFacts → (number : ℕ) → Option Symbol → Option OwnVariable
own_there f number o = unwrap_or (option_map (λ (s : Symbol). own_at f number s.kind) o) None

pub own_get : (f : BlockFacts) (n : ℕ) → get_or (own_variables f) n None ≡ own_there f n (slice_get f.symbols n)
own_get f n = each_get (λ m s. own_at f m s.kind) f.symbols 0 n n None (omega arith)

-- ---- what is kept

-- what is kept of a symbol that may not be there
abbrev pub kept_there : ResolvedUnit → SymbolKey → Option Symbol → Kept
kept_there r key o = unwrap_or (option_map (λ (s : Symbol). kind_kept (parameter_numbers r key.block) (own_variables (facts_of r key.block)) key.number (global_number 63 r key) s.kind) o) KeptNothing

pub kept_get : (r : ResolvedUnit) (key : SymbolKey) → get_or (kept_symbols (facts_of r key.block)) key.number KeptNothing
    ≡ kept_there r key (slice_get (block_symbols r key.block) key.number)
kept_get r key =
    each_get (λ m s. kind_kept (parameter_numbers r key.block) (own_variables (facts_of r key.block)) m (global_at (facts_of r key.block) m) s.kind) (block_symbols r key.block) 0 key.number key.number KeptNothing (omega arith)

-- what is kept of the symbols of all blocks
abbrev pub AreRows : ResolvedUnit → List (List Kept) → Type 0
AreRows r rows = (block : ℕ) → get_or rows block [] ≡ kept_symbols (facts_of r block)

-- ---- areas

-- a beginning is again that of its root
pub begun_again : (bytes : ℕ) (o : Option Beginning) → o ≡ area_from false (Stated (described.Area bytes)) (option_map root_at o)
begun_again bytes None = refl
begun_again bytes (Some (beginnings.InSlot outward slot)) = refl
begun_again bytes (Some (beginnings.OfProgram number)) = refl
begun_again bytes (Some (beginnings.NewestOf number)) = refl

area_same : (path : List ℕ) (d : Description) (o : Option Root) → area_from (is_way path) (Stated d) o ≡ area_on path d o
area_same [] (described.FixedBinary p) o = refl
area_same [] (described.Character n) o = refl
area_same [] (described.Varying n) o = refl
area_same [] (described.Bit n) o = refl
area_same [] described.Pointer o = refl
area_same [] described.Offset o = refl
area_same [] (described.Area n) o = refl
area_same [] (described.Array bounds element) o = refl
area_same [] (described.Structure of) o = refl
area_same (i ∷ path) d o = refl

area_nowhere : (path : List ℕ) (d : Description) → None ≡ area_on path d None
area_nowhere [] (described.FixedBinary p) = refl
area_nowhere [] (described.Character n) = refl
area_nowhere [] (described.Varying n) = refl
area_nowhere [] (described.Bit n) = refl
area_nowhere [] described.Pointer = refl
area_nowhere [] described.Offset = refl
area_nowhere [] (described.Area n) = refl
area_nowhere [] (described.Array bounds element) = refl
area_nowhere [] (described.Structure of) = refl
area_nowhere (i ∷ path) d = refl

module _ (r : ResolvedUnit) (blocks : List ℕ) where
  area_way : (block : ℕ) (o : Option Location) (d : Description) (path : List ℕ) (area : Option SymbolKey)
      → area_kept blocks block (on_way (begun o d) path area) ≡ area_on path d (option_and_then (root_from blocks block) o)
  area_way block None d path area = area_nowhere path d
  area_way block (Some p) d path area = area_same path d (root_from blocks block p)

  area_of_class : (key : SymbolKey) (path : List ℕ) (area : Option SymbolKey) (class : StorageClass) (d : Description)
      → area_kept blocks key.block (on_way (begun (place_at (facts_of r key.block) key.number class d) d) path area)
      ≡ area_on path d (root_of 63 r blocks key class d)
  area_of_class key path area class d =
      area_way key.block (place_at (facts_of r key.block) key.number class d) d path area
      ∙ ap (area_on path d) (sym (root_is r blocks key class d))

  area_way_of : (key : SymbolKey) (path : List ℕ) (area : Option SymbolKey) (s : Symbol) (k : SymbolKind)
      → area_kept blocks key.block (on_way (own_at (facts_of r key.block) key.number k) path area)
      ≡ area_in 63 r blocks key path (Some (record { identifier = s.identifier; kind = k }))
  area_way_of key path area s (Variable d class scope initial named) = area_of_class key path area class d
  area_way_of key path area s (OpenParameter type slot named) = refl
  area_way_of key path area s (Member root p initial named) = refl
  area_way_of key path area s (Label statement) = refl
  area_way_of key path area s (Procedure block returned named) = refl
  area_way_of key path area s (Entry parameters returned named) = refl
  area_way_of key path area s BuiltIn = refl

  area_way_there : (key : SymbolKey) (path : List ℕ) (area : Option SymbolKey) (o : Option Symbol)
      → area_kept blocks key.block (on_way (own_there (facts_of r key.block) key.number o) path area) ≡ area_in 63 r blocks key path o
  area_way_there key path area None = refl
  area_way_there key path area (Some s) = area_way_of key path area s s.kind

  no_area : (block number : ℕ) (parameters : List ParameterType) (returned : Option Description) (area : Option SymbolKey) (gives : Bool)
      → area_kept blocks block (if gives then KeptEntry number parameters returned area else KeptNothing) ≡ None
  no_area block number parameters returned area true = refl
  no_area block number parameters returned area false = refl

  -- a parameter in which a `*` stands is none
  open_no_area : (block number slot : ℕ) (parameters : List ℕ) (t : ParameterType) (area : Option SymbolKey)
      → area_kept blocks block (open_kept parameters number slot t area) ≡ None
  open_no_area block number slot parameters (Stated d) area = refl
  open_no_area block number slot parameters (AnyString form) area = by (is_parameter parameters slot number)
    where
      by : (b : Bool) → area_kept blocks block (if b then KeptVariable (Passed slot) (AnyString form) false None area else KeptNothing) ≡ None
      by true = refl
      by false = refl
  open_no_area block number slot parameters (AnyArray k e) area = by (is_open_parameter 63 (AnyArray k e) && is_parameter parameters slot number)
    where
      by : (b : Bool) → area_kept blocks block (if b then KeptVariable (Passed slot) (AnyArray k e) false None area else KeptNothing) ≡ None
      by true = refl
      by false = refl
  open_no_area block number slot parameters (ArrayOf bs e) area = by (is_open_parameter 63 (ArrayOf bs e) && is_parameter parameters slot number)
    where
      by : (b : Bool) → area_kept blocks block (if b then KeptVariable (Passed slot) (ArrayOf bs e) false None area else KeptNothing) ≡ None
      by true = refl
      by false = refl
  open_no_area block number slot parameters (StructureOf ts) area = refl

  area_of_kind : (key : SymbolKey) (s : Symbol) (k : SymbolKind)
      → slice_get (block_symbols r key.block) key.number ≡ Some s → s.kind ≡ k
      → area_kept blocks key.block (kind_kept (parameter_numbers r key.block) (own_variables (facts_of r key.block)) key.number (global_number 63 r key) k)
      ≡ area_at 63 r blocks key (Some (record { identifier = s.identifier; kind = k }))
  area_of_kind key s (Variable d class scope initial area) e is =
      let f = facts_of r key.block in
      ap (λ o. area_kept blocks key.block (on_way o [] area))
      (own_get f key.number ∙ ap (own_there f key.number) e ∙ ap (own_at f key.number) is)
      ∙ area_of_class key [] area class d
  area_of_kind key s (OpenParameter type slot area) e is = open_no_area key.block key.number slot (parameter_numbers r key.block) type area
  area_of_kind key s (Member root path initial area) e is =
      ap (λ o. area_kept blocks key.block (on_way o path area)) (own_get (facts_of r key.block) root)
      ∙ area_way_there (record { block = key.block; number = root }) path area (slice_get (block_symbols r key.block) root)
  area_of_kind key s (Label statement) e is = refl
  area_of_kind key s (Procedure block returned area) e is = refl
  area_of_kind key s (Entry parameters returned area) e is =
      no_area key.block (global_number 63 r key) parameters returned area (gives_stored 63 returned)
  area_of_kind key s BuiltIn e is = refl

  area_there : (key : SymbolKey) (o : Option Symbol) → slice_get (block_symbols r key.block) key.number ≡ o
      → area_kept blocks key.block (kept_there r key o) ≡ area_at 63 r blocks key o
  area_there key None e = refl
  area_there key (Some s) e = area_of_kind key s s.kind e refl

  pub area_is : (rows : List (List Kept)) → AreRows r rows → (area : Option SymbolKey)
      → area_under rows blocks area ≡ area_named 63 r blocks area
  area_is rows are None = refl
  area_is rows are (Some key) =
      ap (λ row. area_kept blocks key.block (get_or row key.number KeptNothing)) (are key.block)
      ∙ ap (area_kept blocks key.block) (kept_get r key)
      ∙ area_there key (slice_get (block_symbols r key.block) key.number) refl

-- ---- locators

if_false : {A : Type 0} (b : Bool) (x y : A) (z : A) → b ≡ false → (if b then x else z) ≡ (if b then y else z)
if_false true x y z h = absurd (cc)
if_false false x y z h = refl

part_locator_with : (root : Root) (path : List ℕ) (area : Option Beginning) (offset : ℕ) (d : Description) (ss : List Stride)
    → locator_from (Some root) (is_way path) (Some (record { offset = offset; description = d; strides = ss })) area
    ≡ locator_part root path area (Some (record { offset = offset; description = d; strides = ss }))
part_locator_with root [] area offset described.Pointer [] = refl
part_locator_with root (i ∷ path) area offset described.Pointer [] = refl
part_locator_with root [] None offset described.Offset [] = refl
part_locator_with root (i ∷ path) None offset described.Offset [] = refl
part_locator_with root [] (Some a) offset described.Offset [] = refl
part_locator_with root (i ∷ path) (Some a) offset described.Offset [] = refl
part_locator_with root path area offset (described.FixedBinary p) [] = refl
part_locator_with root path area offset (described.Character n) [] = refl
part_locator_with root path area offset (described.Varying n) [] = refl
part_locator_with root path area offset (described.Bit n) [] = refl
part_locator_with root path area offset (described.Area n) [] = refl
part_locator_with root path area offset (described.Array bounds element) [] = refl
part_locator_with root path area offset (described.Structure of) [] = refl
part_locator_with root path area offset d (s ∷ ss) =
    if_false (nat_eq (suc (length ss)) 0) (if_locator d root (offset_if (is_way path) offset) area)
    (locator_at (reference_to root path (record { offset = offset; description = d; strides = s ∷ ss }) []) (Stated d) area) None
    (eqb-suc-zero (length ss))

part_locator : (root : Root) (path : List ℕ) (area : Option Beginning) (q : Option StridedPart)
    → locator_from (Some root) (is_way path) q area ≡ locator_part root path area q
part_locator root path area None = refl
part_locator root path area (Some p) = part_locator_with root path area p.offset p.description p.strides

from_locator : (o : Option Root) (d : Description) (path : List ℕ) (area : Option Beginning)
    → locator_from o (is_way path) (part_on (whole_part d) path) area ≡ locator_on o d path area
from_locator None d path area = refl
from_locator (Some root) d path area = part_locator root path area (part_on (whole_part d) path)

module _ (r : ResolvedUnit) (blocks : List ℕ) (rows : List (List Kept)) (are : AreRows r rows) where
  locator_way : (block : ℕ) (o : Option Location) (d : Description) (path : List ℕ) (area : Option SymbolKey)
      → locator_kept rows blocks block (on_way (begun o d) path area)
      ≡ locator_on (option_and_then (root_from blocks block) o) d path (area_named 63 r blocks area)
  locator_way block None d path area = refl
  locator_way block (Some p) d path area =
      from_locator (root_from blocks block p) d path (area_under rows blocks area)
      ∙ ap (locator_on (root_from blocks block p) d path) (area_is r blocks rows are area)

  locator_of_class : (key : SymbolKey) (path : List ℕ) (area : Option SymbolKey) (class : StorageClass) (d : Description)
      → locator_kept rows blocks key.block (on_way (begun (place_at (facts_of r key.block) key.number class d) d) path area)
      ≡ locator_on (root_of 63 r blocks key class d) d path (area_named 63 r blocks area)
  locator_of_class key path area class d =
      locator_way key.block (place_at (facts_of r key.block) key.number class d) d path area
      ∙ ap (λ o. locator_on o d path (area_named 63 r blocks area)) (sym (root_is r blocks key class d))

  locator_way_of : (key : SymbolKey) (path : List ℕ) (area : Option SymbolKey) (s : Symbol) (k : SymbolKind)
      → locator_kept rows blocks key.block (on_way (own_at (facts_of r key.block) key.number k) path area)
      ≡ locator_in 63 r blocks key path (area_named 63 r blocks area) (Some (record { identifier = s.identifier; kind = k }))
  locator_way_of key path area s (Variable d class scope initial named) = locator_of_class key path area class d
  locator_way_of key path area s (OpenParameter type slot named) = refl
  locator_way_of key path area s (Member root p initial named) = refl
  locator_way_of key path area s (Label statement) = refl
  locator_way_of key path area s (Procedure block returned named) = refl
  locator_way_of key path area s (Entry parameters returned named) = refl
  locator_way_of key path area s BuiltIn = refl

  locator_way_there : (key : SymbolKey) (path : List ℕ) (area : Option SymbolKey) (o : Option Symbol)
      → locator_kept rows blocks key.block (on_way (own_there (facts_of r key.block) key.number o) path area)
      ≡ locator_in 63 r blocks key path (area_named 63 r blocks area) o
  locator_way_there key path area None = refl
  locator_way_there key path area (Some s) = locator_way_of key path area s s.kind

  no_locator : (block number : ℕ) (parameters : List ParameterType) (returned : Option Description) (area : Option SymbolKey) (gives : Bool)
      → locator_kept rows blocks block (if gives then KeptEntry number parameters returned area else KeptNothing) ≡ None
  no_locator block number parameters returned area true = refl
  no_locator block number parameters returned area false = refl

  -- a parameter in which a `*` stands is none
  no_part : (o : Option Root) (area : Option Beginning) → locator_from o false None area ≡ None
  no_part None area = refl
  no_part (Some root) area = refl

  open_no_locator : (block slot : ℕ) (t : ParameterType) (area : Option SymbolKey) (b : Bool)
      → locator_kept rows blocks block (if b then KeptVariable (Passed slot) t false None area else KeptNothing) ≡ None
  open_no_locator block slot t area true = no_part (root_from blocks block (Passed slot)) (area_under rows blocks area)
  open_no_locator block slot t area false = refl

  locator_of_kind : (key : SymbolKey) (s : Symbol) (k : SymbolKind)
      → slice_get (block_symbols r key.block) key.number ≡ Some s → s.kind ≡ k
      → locator_kept rows blocks key.block (kind_kept (parameter_numbers r key.block) (own_variables (facts_of r key.block)) key.number (global_number 63 r key) k)
      ≡ locator_meant 63 r blocks key (Some (record { identifier = s.identifier; kind = k }))
  locator_of_kind key s (Variable d class scope initial area) e is =
      let f = facts_of r key.block in
      ap (λ o. locator_kept rows blocks key.block (on_way o [] area))
      (own_get f key.number ∙ ap (own_there f key.number) e ∙ ap (own_at f key.number) is)
      ∙ locator_of_class key [] area class d
  locator_of_kind key s (OpenParameter type slot area) e is =
      open_no_locator key.block slot type area (is_open_parameter 63 type && is_parameter (parameter_numbers r key.block) slot key.number)
  locator_of_kind key s (Member root path initial area) e is =
      ap (λ o. locator_kept rows blocks key.block (on_way o path area)) (own_get (facts_of r key.block) root)
      ∙ locator_way_there (record { block = key.block; number = root }) path area (slice_get (block_symbols r key.block) root)
  locator_of_kind key s (Label statement) e is = refl
  locator_of_kind key s (Procedure block returned area) e is = refl
  locator_of_kind key s (Entry parameters returned area) e is =
      no_locator key.block (global_number 63 r key) parameters returned area (gives_stored 63 returned)
  locator_of_kind key s BuiltIn e is = refl

  locator_there : (key : SymbolKey) (o : Option Symbol) → slice_get (block_symbols r key.block) key.number ≡ o
      → locator_kept rows blocks key.block (kept_there r key o) ≡ locator_meant 63 r blocks key o
  locator_there key None e = refl
  locator_there key (Some s) e = locator_of_kind key s s.kind e refl

  locator_is : (locator : Option SymbolKey) → locator_under rows blocks locator ≡ locator_named 63 r blocks locator
  locator_is None = refl
  locator_is (Some key) =
      ap (λ row. locator_kept rows blocks key.block (get_or row key.number KeptNothing)) (are key.block)
      ∙ ap (locator_kept rows blocks key.block) (kept_get r key)
      ∙ locator_there key (slice_get (block_symbols r key.block) key.number) refl

  -- ---- storage

  storage_placed : (block : ℕ) (b passed : Bool) (p : Location)
      → storage_from rows blocks block p ≡ option_map (λ root. Begins root passed) (root_from blocks block p)
      → option_and_then (storage_from rows blocks block) (if b then Some p else None)
      ≡ option_map (λ root. Begins root passed) (if b then root_from blocks block p else None)
  storage_placed block true passed p h = h
  storage_placed block false passed p h = refl

  storage_based : (block number : ℕ) (locator : Option SymbolKey) (implied : Option LocatorVariable) (b : Bool)
      → locator_under rows blocks locator ≡ implied
      → option_and_then (storage_from rows blocks block) (if b then Some (Based number locator) else None)
      ≡ (if b then Some (IsBased block number implied) else None)
  storage_based block number locator implied true h = ap (λ o. Some (IsBased block number o)) h
  storage_based block number locator implied false h = refl

  pub storage_is : (key : SymbolKey) (class : StorageClass) (d : Description)
      → option_and_then (storage_from rows blocks key.block) (place_at (facts_of r key.block) key.number class d)
      ≡ storage_of 63 r blocks key class d
  storage_is key classes.Automatic d = storage_placed key.block (is_stored 63 d) false _ refl
  storage_is key (classes.Parameter slot) d =
      storage_placed key.block (is_stored 63 d && is_parameter (parameter_numbers r key.block) slot key.number) true (Passed slot) refl
  storage_is key classes.Static d = storage_placed key.block (is_stored 63 d) false _ refl
  storage_is key classes.Controlled d = storage_placed key.block (is_stored 63 d) false _ refl
  storage_is key (classes.Based locator) d =
      storage_based key.block (such_before (is_based 63) (block_symbols r key.block) key.number) locator _ (is_valued 63 d)
      (locator_is locator)

-- What names mean, with the part of the variable that is named.
use Rattle.std.specs.Prelude.{ℕ, nat_eq, Bool, true, false, ◌&&◌, Option, Some, None, option_map, List, []}
use Rattle.std.specs.Prelude.{length, get_or, option_and_then, slice_get, if◌then◌else◌}
use Rattle.pli_map.specs.Description as described
use Rattle.pli_map.specs.Description.{Description}
use Rattle.pli_map.specs.ParameterTypes.{ParameterType, Stated}
use Rattle.pli_declare.specs.Symbols.{SymbolKind, Variable, OpenParameter, Member, Label, Procedure, Entry}
use Rattle.pli_declare.specs.Symbols.{BuiltIn}
use Rattle.pli_declare.specs.declared.built_in.BuiltInFunction.{BuiltInFunction}
use Rattle.pli_declare.specs.declared.symbol.SymbolKey.{SymbolKey}
use Rattle.pli_type_rules.specs.Names.{NamedAs, NamedProcedure, AVariable, AFunction, AProcedure, ALabel}
use Rattle.pli_type_rules.specs.Names.{Untyped}
use Rattle.pli_type_rules.specs.Beginnings.{beginning_of}
use Rattle.pli_type_rules.specs.Names.{LocatorVariable, OfPointer, OfOffset, NamedStorage, Begins, IsBased}
use Rattle.pli_type_rules.specs.NamedUnits.{gives_stored, in_slot, is_open_parameter, is_parameter}
use Rattle.pli_type_rules.specs.NamedUnits.{outward_to}
use Rattle.pli_type_rules.specs.NamedUnits.{stands_around}
use Rattle.pli_type_rules.specs.References.{StridedPart, part_of, part_on, whole_part}
use Rattle.pli_type_names.specs.BlockEntries.{BlockEntry}
use Rattle.pli_type_names.specs.BlockFacts.{BlockFacts}
use Rattle.pli_type_names.specs.LocatorReferences.{locator_reference}
use Rattle.pli_type_names.specs.SymbolMeaning.{is_way}
use Rattle.pli_type_names.specs.Numbered.{each_from}
use Rattle.pli_type_names.specs.OwnVariables.{OwnVariable, global_at, own_variables}
use Rattle.pli_type_names.specs.declared.place.Location.{Location}
use Rattle.pli_type_names.specs.declared.place.Location.TheVariants as locations
use Rattle.pli_type_rules.specs.declared.beginning.Beginning.{Beginning}
use Rattle.pli_type_tree.specs.TypedTree.{OfBlock, OfEntry, Root, OfProgram, NewestOf}

-- where a name is used

-- what a name means where it is used: a variable, by its storage, what it is as a whole, whether members
-- stand on the way, the part that they lead to, and the area that its OFFSET names; a built-in function; a
-- procedure; a label; or what has no type
pub data Seen : Type 0 where
  SeenVariable : (storage : NamedStorage) (whole : ParameterType) (is_member : Bool)
      (part : Option StridedPart) (area : Option Beginning) → Seen
  SeenFunction : (function : BuiltInFunction) → Seen
  SeenProcedure : (procedure : NamedProcedure) → Seen
  SeenLabel : (statement : ℕ) → Seen
  SeenUntyped : Seen

-- what a name means, with the part that it leads to
abbrev pub seen : NamedAs → Seen
seen (AVariable v) = SeenVariable v.storage v.whole (is_way v.path) (part_of v) v.area
seen (AFunction function) = SeenFunction function
seen (AProcedure procedure) = SeenProcedure procedure
seen (ALabel statement) = SeenLabel statement
seen Untyped = SeenUntyped

-- wherever a name is used

-- a variable, by where it begins in its own block, with the area that its OFFSET names; a procedure, by its
-- block; an external one, by the number of its entry, with the area that OFFSET in its RETURNS names; a
-- label; or what has no type
pub data Kept : Type 0 where
  KeptVariable : (begins : Location) (whole : ParameterType) (is_member : Bool)
      (part : Option StridedPart) (area : Option SymbolKey) → Kept
  KeptProcedure : (block : ℕ) → Kept
  KeptEntry : (number : ℕ) (parameters : List ParameterType) (returned : Option Description)
      (area : Option SymbolKey) → Kept
  KeptLabel : (statement : ℕ) → Kept
  KeptNothing : Kept

-- the part of a variable of its own on a way, whose OFFSET names this area
abbrev pub on_way : Option OwnVariable → (path : List ℕ) → (area : Option SymbolKey) → Kept
on_way None path area = KeptNothing
on_way (Some v) path area =
    KeptVariable v.begins (Stated v.whole) (is_way path) (part_on (whole_part v.whole) path) area

-- an external procedure whose value, if it gives one, a variable could hold
abbrev pub entry_kept : (number : ℕ) → List ParameterType → Option Description → (area : Option SymbolKey)
    → Kept
entry_kept number parameters returned area =
    if gives_stored 63 returned then KeptEntry number parameters returned area else KeptNothing

-- a parameter in which a `*` stands and which is the symbol of this number, where its slot has that
abbrev pub open_kept : (parameters : List ℕ) → (number slot : ℕ) → ParameterType → (area : Option SymbolKey)
    → Kept
open_kept parameters number slot type area =
    if is_open_parameter 63 type && is_parameter parameters slot number
    then KeptVariable (locations.Passed slot) type false None area else KeptNothing

-- the symbol of this number, by the numbers of the parameters, each under its slot, and the variables of
-- their own; an entry has this number among the globals
abbrev pub kind_kept : (parameters : List ℕ) → List (Option OwnVariable) → (number global : ℕ) → SymbolKind
    → Kept
kind_kept parameters variables number global (Variable description class scope initial area) =
    on_way (get_or variables number None) [] area
kind_kept parameters variables number global (OpenParameter type slot area) =
    open_kept parameters number slot type area
kind_kept parameters variables number global (Member root path initial area) =
    on_way (get_or variables root None) path area
kind_kept parameters variables number global (Label statement) = KeptLabel statement
kind_kept parameters variables number global (Procedure block returned area) = KeptProcedure block
kind_kept parameters variables number global (Entry taken returned area) =
    entry_kept global taken returned area
kind_kept parameters variables number global BuiltIn = KeptNothing

-- each symbol of a block
abbrev pub kept_symbols : BlockFacts → List Kept
kept_symbols f =
    each_from (λ number s. kind_kept f.parameters (own_variables f) number (global_at f number) s.kind) 0
    f.symbols

-- from there to here

-- where a variable of a block begins where these blocks stand around
abbrev pub root_from : (blocks : List ℕ) → (block : ℕ) → Location → Option Root
root_from blocks block (locations.InBlock slot) = in_slot (outward_to blocks block) slot
root_from blocks block (locations.Passed slot) = in_slot (outward_to blocks block) slot
root_from blocks block (locations.BeforeProgram number) = Some (OfProgram number)
root_from blocks block (locations.NewestOf number) = Some (NewestOf number)
root_from blocks block (locations.Based number locator) = None

-- where an area begins, if this is one that begins somewhere: it is no member of a variable
abbrev pub area_from : (is_member : Bool) → (whole : ParameterType) → Option Root → Option Beginning
area_from false (Stated (described.Area bytes)) root = option_and_then beginning_of root
area_from is_member whole root = None

-- what is kept of a symbol of a block, where it is an area
abbrev pub area_kept : (blocks : List ℕ) → (block : ℕ) → Kept → Option Beginning
area_kept blocks block (KeptVariable begins whole is_member part area) =
    area_from is_member whole (root_from blocks block begins)
area_kept blocks block kept = None

-- the area that is kept under a key, by what is kept of the symbols of each block
abbrev pub area_under : List (List Kept) → (blocks : List ℕ) → Option SymbolKey → Option Beginning
area_under rows blocks None = None
area_under rows blocks (Some key) =
    area_kept blocks key.block (get_or (get_or rows key.block []) key.number KeptNothing)

-- where a member stands, and a variable of its own none
abbrev pub offset_if : (is_member : Bool) → (offset : ℕ) → Option ℕ
offset_if true offset = Some offset
offset_if false offset = None

-- what is a POINTER, or an OFFSET that names an area, as such a variable
abbrev pub if_locator : Description → Root → (offset : Option ℕ) → (area : Option Beginning)
    → Option LocatorVariable
if_locator described.Pointer root offset area =
    Some (OfPointer (locator_reference root offset described.Pointer))
if_locator described.Offset root offset (Some area) =
    Some (OfOffset (locator_reference root offset described.Offset) area)
if_locator d root offset area = None

-- a locator without dimensions that is this part of a variable
abbrev pub locator_from : Option Root → (is_member : Bool) → Option StridedPart → (area : Option Beginning)
    → Option LocatorVariable
locator_from None is_member part area = None
locator_from (Some root) is_member None area = None
locator_from (Some root) is_member (Some p) area =
    if nat_eq (length p.strides) 0 then if_locator p.description root (offset_if is_member p.offset) area
    else None

-- what is kept of a symbol of a block, where it is a locator
abbrev pub locator_kept : List (List Kept) → (blocks : List ℕ) → (block : ℕ) → Kept → Option LocatorVariable
locator_kept rows blocks block (KeptVariable begins whole is_member part area) =
    locator_from (root_from blocks block begins) is_member part (area_under rows blocks area)
locator_kept rows blocks block kept = None

-- the locator that is kept under a key
abbrev pub locator_under : List (List Kept) → (blocks : List ℕ) → Option SymbolKey → Option LocatorVariable
locator_under rows blocks None = None
locator_under rows blocks (Some key) =
    locator_kept rows blocks key.block (get_or (get_or rows key.block []) key.number KeptNothing)

-- it begins in the slot of a parameter
abbrev pub is_passed_place : Location → Bool
is_passed_place (locations.Passed slot) = true
is_passed_place place = false

-- the storage of a variable of a block where these blocks stand around
abbrev pub storage_from : List (List Kept) → (blocks : List ℕ) → (block : ℕ) → Location
    → Option NamedStorage
storage_from rows blocks block (locations.Based number locator) =
    Some (IsBased block number (locator_under rows blocks locator))
storage_from rows blocks block place =
    option_map (λ root. Begins root (is_passed_place place)) (root_from blocks block place)

-- a variable, where it has storage
abbrev pub variable_seen : Option NamedStorage → (whole : ParameterType) → (is_member : Bool)
    → (part : Option StridedPart) → (area : Option Beginning) → Seen
variable_seen None whole is_member part area = SeenUntyped
variable_seen (Some storage) whole is_member part area = SeenVariable storage whole is_member part area

-- a procedure, by what is found for its block
abbrev pub procedure_seen : List (List Kept) → (blocks : List ℕ) → Option BlockEntry → (block : ℕ) → Seen
procedure_seen rows blocks None block = SeenUntyped
procedure_seen rows blocks (Some e) block =
    if e.is_named && stands_around blocks e.outer
    then SeenProcedure (record {
      callee = OfBlock block;
      parameters = e.parameters;
      returned = e.returned;
      area = area_under rows blocks e.area;
    })
    else SeenUntyped

-- a symbol of a block
abbrev pub kept_seen : List (List Kept) → (blocks : List ℕ) → List BlockEntry → (block : ℕ) → Kept → Seen
kept_seen rows blocks entries block (KeptVariable begins whole is_member part area) =
    variable_seen (storage_from rows blocks block begins) whole is_member part (area_under rows blocks area)
kept_seen rows blocks entries block (KeptProcedure procedure) =
    procedure_seen rows blocks (slice_get entries procedure) procedure
kept_seen rows blocks entries block (KeptEntry number parameters returned area) =
    SeenProcedure (record {
      callee = OfEntry number;
      parameters = parameters;
      returned = returned;
      area = area_under rows blocks area;
    })
kept_seen rows blocks entries block (KeptLabel statement) = SeenLabel statement
kept_seen rows blocks entries block KeptNothing = SeenUntyped

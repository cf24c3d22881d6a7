-- A resolved unit as types see it: where its variables begin, what its names mean, and what its variables are
-- made from. A name is looked at from where it is used: what the blocks around are says how many static links
-- outward a variable is.
use Rattle.std.specs.Prelude.{ℕ, zero, suc, ◌+◌, nat_eq, nat_lt, nat_le, Bool, true, false, not, ◌&&◌, ◌||◌}
use Rattle.std.specs.Prelude.{map}
use Rattle.std.specs.Prelude.{length}
use Rattle.std.specs.Prelude.{unsigned_abs, Option, Some, None, option_map, option_and_then, List, [], ◌∷◌}
use Rattle.std.specs.Prelude.{◌++◌, get_or, replicate, take, slice_get, Result, if◌then◌else◌}
use Rattle.std.specs.List.{flat_map}
use Rattle.pli_base.specs.Name.{Name}
use Rattle.pli_base.specs.declared.token.Fault.{Fault}
use Rattle.pli_declare.specs.declared.completed.ScopeAttribute.{ScopeAttribute}
use Rattle.pli_declare.specs.declared.completed.ScopeAttribute.TheVariants as scopes
use Rattle.pli_map.specs.Description as described
use Rattle.pli_map.specs.Description.{Description, FixedBinary, Character, Varying, Bit, Array, Structure}
use Rattle.pli_map.specs.Description.{Members, NoMembers, MemberThen}
use Rattle.pli_map.specs.ParameterTypes.{ParameterType, Stated, AnyString, AnyArray, ArrayOf}
use Rattle.pli_map.specs.Scalars.{is_area, is_aggregate}
use Rattle.pli_map.specs.Sizes.{count_of, size_of}
use Rattle.pli_map.specs.declared.description.Bounds.{Bounds}
use Rattle.pli_program.specs.declared.kind.VariableKind.{VariableKind}
use Rattle.pli_program.specs.declared.kind.VariableKind.TheVariants as generations
use Rattle.pli_declare.specs.ResolvedUnits.{ResolvedUnit, ResolvedBlock, meaning_at, all_symbols, symbol_at}
use Rattle.pli_declare.specs.Symbols.{Symbol, SymbolKind, Variable, OpenParameter, Member, Label, Procedure}
use Rattle.pli_declare.specs.Symbols.{Entry, BuiltIn}
use Rattle.pli_declare.specs.declared.block_numbers.ResolvedBlockKind.{ResolvedBlockKind}
use Rattle.pli_declare.specs.declared.block_numbers.ResolvedBlockKind.TheVariants as kinds
use Rattle.pli_declare.specs.declared.symbol.NameMeaning.{NameMeaning}
use Rattle.pli_declare.specs.declared.symbol.NameMeaning.TheVariants as meanings
use Rattle.pli_declare.specs.declared.symbol.StorageClass.{StorageClass}
use Rattle.pli_declare.specs.declared.symbol.StorageClass.TheVariants as classes
use Rattle.pli_declare.specs.declared.symbol.SymbolKey.{SymbolKey}
use Rattle.pli_type_rules.specs.Beginnings.{beginning_of}
use Rattle.pli_type_rules.specs.Checked.{checked}
use Rattle.pli_type_rules.specs.InitialScalars.{InitialItem, template_of}
use Rattle.pli_type_rules.specs.Names.{NamedAs, AVariable, AFunction, AProcedure, ALabel, Untyped}
use Rattle.pli_type_rules.specs.Names.{NamedProcedure}
use Rattle.pli_type_rules.specs.Names.{Naming, NamedUnit, NamedStorage, Begins, IsBased, LocatorVariable}
use Rattle.pli_type_rules.specs.References.{StridedPart, part_on, locator_at, reference_to, whole_part}
use Rattle.pli_type_rules.specs.TextOrder.{in_order, text_places}
use Rattle.pli_type_rules.specs.declared.beginning.Beginning.{Beginning}
use Rattle.pli_type_tree.specs.Templates.{Template}
use Rattle.pli_type_tree.specs.TypedTree.{OfBlock, OfEntry, Global, OwnVariable, ExternalVariable, EntryPoint}
use Rattle.pli_type_tree.specs.TypedTree.{Root, InSlot, OfProgram, NewestOf, TypedUnit}

-- which variables there are

-- a length of a string: 1 to 32,767 elements
abbrev pub is_length : ℕ → Bool
is_length n = nat_lt 0 n && nat_le n 32767

-- bounds of 16 binary digits
abbrev pub are_bounds : List Bounds → Bool
are_bounds [] = true
are_bounds (b ∷ bs) =
    nat_le (unsigned_abs b.low) 32768 && nat_le (unsigned_abs b.high) 32768 && are_bounds bs

abbrev mutual
  -- a description of numbers, strings and locators alone, within the language's limits, as all variables have
  -- that are no areas: numbers of so many digits at most, strings of such lengths, arrays with elements and
  -- such bounds, and structures with members
  pub is_plain : (greatest : ℕ) → Description → Bool
  is_plain greatest (FixedBinary precision) = nat_le precision greatest
  is_plain greatest (Character n) = is_length n
  is_plain greatest (Varying n) = is_length n
  is_plain greatest (Bit n) = is_length n
  is_plain greatest described.Pointer = true
  is_plain greatest described.Offset = true
  is_plain greatest (Array (b ∷ bs) element) =
      nat_lt 0 (count_of (b ∷ bs)) && are_bounds (b ∷ bs) && is_plain greatest element
  is_plain greatest (Structure (MemberThen d ds)) = is_plain greatest d && all_plain greatest ds
  is_plain greatest other = false

  -- such members
  pub all_plain : (greatest : ℕ) → Members → Bool
  all_plain greatest NoMembers = true
  all_plain greatest (MemberThen d ds) = is_plain greatest d && all_plain greatest ds

-- such a description, of at most 1,000,000 bytes: it is one of values
abbrev pub is_valued : (greatest : ℕ) → Description → Bool
is_valued greatest d = is_plain greatest d && nat_le (size_of d) 1000000

-- what a variable of its own may be: an area too, which stands nowhere else
abbrev pub may_stand : (greatest : ℕ) → Description → Bool
may_stand greatest d = is_area d || is_plain greatest d

-- the same, of so many bytes
abbrev pub is_stored : (greatest : ℕ) → Description → Bool
is_stored greatest d = may_stand greatest d && nat_le (size_of d) 1000000

-- how many dimensions an array may have: 1 to 8
abbrev pub are_dimensions : ℕ → Bool
are_dimensions n = nat_lt 0 n && nat_le n 8

-- a string of any length
abbrev pub is_any_length : ParameterType → Bool
is_any_length (AnyString form) = true
is_any_length type = false

-- an element of an array whose bounds are all `*`: a scalar that is no area, or a string of any length
abbrev pub is_open_element : (greatest : ℕ) → ParameterType → Bool
is_open_element greatest (Stated d) = is_plain greatest d && not (is_aggregate d)
is_open_element greatest type = is_any_length type

-- a parameter in which a `*` stands: a string of any length; an array of any bounds of such elements; or one
-- of bounds within the limits, of strings of any length
abbrev pub is_open_parameter : (greatest : ℕ) → ParameterType → Bool
is_open_parameter greatest (Stated d) = false
is_open_parameter greatest (AnyString form) = true
is_open_parameter greatest (AnyArray dimensions element) =
    are_dimensions dimensions && is_open_element greatest element
is_open_parameter greatest (ArrayOf bounds element) =
    are_dimensions (length bounds) && are_bounds bounds && is_any_length element
is_open_parameter greatest type = false

-- what a variable that a name means may be
abbrev pub may_be : (greatest : ℕ) → ParameterType → Bool
may_be greatest (Stated d) = may_stand greatest d
may_be greatest type = is_open_parameter greatest type

-- an AUTOMATIC variable of it
abbrev pub is_automatic : (greatest : ℕ) → StorageClass → Description → Bool
is_automatic greatest classes.Automatic d = is_stored greatest d
is_automatic greatest class d = false

-- a variable of it that is there for the whole program: STATIC or CONTROLLED
abbrev pub is_global : (greatest : ℕ) → StorageClass → Description → Bool
is_global greatest classes.Static d = is_stored greatest d
is_global greatest classes.Controlled d = is_stored greatest d
is_global greatest class d = false

-- a BASED variable, which is no area
abbrev pub is_based : (greatest : ℕ) → StorageClass → Description → Bool
is_based greatest (classes.Based locator) d = is_valued greatest d
is_based greatest class d = false

-- how the generations of such a variable come
abbrev pub kind_of_class : StorageClass → VariableKind
kind_of_class classes.Controlled = generations.Controlled
kind_of_class class = generations.Static

-- blocks

-- what the block of a number declares
abbrev pub block_symbols : ResolvedUnit → (block : ℕ) → List Symbol
block_symbols r block = get_or (all_symbols r) block []

-- a part of a block, or something else where there is no such block
abbrev pub of_block : {A : Type 0} → (ResolvedBlock → A) → (otherwise : A) → Option ResolvedBlock → A
of_block part otherwise None = otherwise
of_block part otherwise (Some b) = part b

-- the block is a procedure
abbrev pub is_procedure : ResolvedBlockKind → Bool
is_procedure kinds.Procedure = true
is_procedure other = false

-- the numbers of a procedure's parameters among its symbols, each under its slot
abbrev pub parameter_numbers : ResolvedUnit → (block : ℕ) → List ℕ
parameter_numbers r block =
    of_block (λ b. if is_procedure b.kind then b.parameters else []) [] (slice_get r.blocks block)

-- what a variable of its own is, or a parameter in which a `*` stands; each parameter is one of them
abbrev pub type_in : Option Symbol → ParameterType
type_in None = Stated described.Pointer
type_in (Some s) = of_kind s.kind
  where
    of_kind : SymbolKind → ParameterType
    of_kind (Variable description class scope initial area) = Stated description
    of_kind (OpenParameter type slot area) = type
    of_kind other = Stated described.Pointer

-- what the parameters of a procedure are
abbrev pub parameters_of : ResolvedUnit → (block : ℕ) → List ParameterType
parameters_of r block =
    map (λ number. type_in (slice_get (block_symbols r block) number)) (parameter_numbers r block)

-- what the procedure of this symbol gives
abbrev pub returned_by : Option Symbol → Option Description
returned_by None = None
returned_by (Some s) = of_kind s.kind
  where
    of_kind : SymbolKind → Option Description
    of_kind (Procedure block returned area) = returned
    of_kind other = None

-- the symbol of the name of a procedure
abbrev pub name_of : ResolvedUnit → (block : ℕ) → Option SymbolKey
name_of r block = of_block (λ b. if is_procedure b.kind then b.name else None) None (slice_get r.blocks block)

-- what a procedure gives, by the symbol of its name
abbrev pub returned_of : ResolvedUnit → (block : ℕ) → Option Description
returned_of r block = option_and_then (λ key. returned_by (symbol_at r key)) (name_of r block)

-- the area that OFFSET in the RETURNS of the procedure of this symbol names
abbrev pub area_returned_by : Option Symbol → Option SymbolKey
area_returned_by None = None
area_returned_by (Some s) = of_kind s.kind
  where
    of_kind : SymbolKind → Option SymbolKey
    of_kind (Procedure block returned area) = area
    of_kind other = None

-- the same of a procedure, by the symbol of its name
abbrev pub returned_area_of : ResolvedUnit → (block : ℕ) → Option SymbolKey
returned_area_of r block = option_and_then (λ key. area_returned_by (symbol_at r key)) (name_of r block)

-- where variables begin

-- a variable of its own of such a class: one, or none
abbrev pub one_such : (StorageClass → Description → Bool) → SymbolKind → ℕ
one_such is_such (Variable description class scope initial area) = if is_such class description then 1 else 0
one_such is_such kind = 0

-- how many of the symbols before the one of this number are such variables
abbrev pub such_before : (StorageClass → Description → Bool) → List Symbol → (number : ℕ) → ℕ
such_before is_such [] number = 0
such_before is_such (s ∷ ss) zero = 0
such_before is_such (s ∷ ss) (suc number) = one_such is_such s.kind + such_before is_such ss number

-- how many globals a symbol is: a STATIC or CONTROLLED variable is one, and an external procedure
abbrev pub one_global : (greatest : ℕ) → SymbolKind → ℕ
one_global greatest (Variable description class scope initial area) =
    if is_global greatest class description then 1 else 0
one_global greatest (Entry parameters returned area) = 1
one_global greatest kind = 0

-- how many globals there are before the symbol of this number
abbrev pub globals_before : (greatest : ℕ) → List Symbol → (number : ℕ) → ℕ
globals_before greatest [] number = 0
globals_before greatest (s ∷ ss) zero = 0
globals_before greatest (s ∷ ss) (suc number) =
    one_global greatest s.kind + globals_before greatest ss number

-- how many globals there are in all these blocks
abbrev pub globals_in : (greatest : ℕ) → List (List Symbol) → ℕ
globals_in greatest [] = 0
globals_in greatest (ss ∷ more) = globals_before greatest ss (length ss) + globals_in greatest more

-- the number of a symbol among all globals, block after block
abbrev pub number_in_blocks : (greatest : ℕ) → ResolvedUnit → SymbolKey → ℕ
number_in_blocks greatest r key =
    globals_in greatest (take key.block (all_symbols r))
    + globals_before greatest (block_symbols r key.block) key.number

-- the tokens of the names of globals, symbol after symbol
abbrev pub global_tokens : (greatest : ℕ) → List Symbol → List ℕ
global_tokens greatest [] = []
global_tokens greatest (s ∷ ss) =
    replicate (one_global greatest s.kind) s.identifier.at ++ global_tokens greatest ss

-- the same, block after block
abbrev pub all_tokens : (greatest : ℕ) → List (List Symbol) → List ℕ
all_tokens greatest blocks = flat_map (global_tokens greatest) blocks

-- the number of a symbol among all globals, in the order of their names in the text
abbrev pub global_number : (greatest : ℕ) → ResolvedUnit → SymbolKey → ℕ
global_number greatest r key =
    get_or (text_places (all_tokens greatest (all_symbols r))) (number_in_blocks greatest r key) 0

-- how many static links outward a block is, if it stands around
abbrev pub outward_to : (blocks : List ℕ) → (block : ℕ) → Option ℕ
outward_to [] block = None
outward_to (b ∷ bs) block = if nat_eq b block then Some 0 else option_map suc (outward_to bs block)

-- a slot of a block, if the block stands around
abbrev pub in_slot : (outward : Option ℕ) → (slot : ℕ) → Option Root
in_slot outward slot = option_map (λ o. InSlot o slot) outward

-- the parameter in a slot is the symbol of this number
abbrev pub is_parameter : (numbers : List ℕ) → (slot number : ℕ) → Bool
is_parameter numbers slot number = is_number (slice_get numbers slot)
  where
    is_number : Option ℕ → Bool
    is_number None = false
    is_number (Some n) = nat_eq n number

-- Parameters stand in slots, each in its own, and the AUTOMATIC variables of the block after them, in the
-- order of the text; STATIC and CONTROLLED variables are globals, which stand in the order of the text of the
-- whole unit. BASED variables begin nowhere
abbrev pub root_of : (greatest : ℕ) → ResolvedUnit → (blocks : List ℕ) → SymbolKey → StorageClass
    → Description → Option Root
root_of greatest r blocks key classes.Automatic d =
    if is_stored greatest d
    then in_slot (outward_to blocks key.block)
    (length (parameter_numbers r key.block)
    + such_before (is_automatic greatest) (block_symbols r key.block) key.number)
    else None
root_of greatest r blocks key (classes.Parameter slot) d =
    if is_stored greatest d && is_parameter (parameter_numbers r key.block) slot key.number
    then in_slot (outward_to blocks key.block) slot else None
root_of greatest r blocks key classes.Static d =
    if is_stored greatest d then Some (OfProgram (global_number greatest r key)) else None
root_of greatest r blocks key classes.Controlled d =
    if is_stored greatest d then Some (NewestOf (global_number greatest r key)) else None
root_of greatest r blocks key class d = None

-- a parameter in which a `*` stands begins in its slot too
abbrev pub open_root : (greatest : ℕ) → ResolvedUnit → (blocks : List ℕ) → SymbolKey → (slot : ℕ)
    → ParameterType → Option Root
open_root greatest r blocks key slot type =
    if is_open_parameter greatest type && is_parameter (parameter_numbers r key.block) slot key.number
    then in_slot (outward_to blocks key.block) slot else None

-- where areas begin

-- where an area begins, if this is one that begins somewhere: it is no member of a variable
abbrev pub area_on : (path : List ℕ) → (whole : Description) → Option Root → Option Beginning
area_on [] (described.Area bytes) root = option_and_then beginning_of root
area_on path whole root = None

-- the same of a variable of its own, or a member of it on this way
abbrev pub area_in : (greatest : ℕ) → ResolvedUnit → (blocks : List ℕ) → SymbolKey → (path : List ℕ)
    → Option Symbol → Option Beginning
area_in greatest r blocks key path None = None
area_in greatest r blocks key path (Some s) = of_kind s.kind
  where
    of_kind : SymbolKind → Option Beginning
    of_kind (Variable description class scope initial area) =
        area_on path description (root_of greatest r blocks key class description)
    of_kind other = None

-- where the area begins that a symbol is
abbrev pub area_at : (greatest : ℕ) → ResolvedUnit → (blocks : List ℕ) → SymbolKey → Option Symbol
    → Option Beginning
area_at greatest r blocks key None = None
area_at greatest r blocks key (Some s) = of_kind s.kind
  where
    of_kind : SymbolKind → Option Beginning
    of_kind (Member root path initial area) =
        area_in greatest r blocks (record { block = key.block; number = root }) path
        (slice_get (block_symbols r key.block) root)
    of_kind other = area_in greatest r blocks key [] (Some s)

-- the area that OFFSET names, seen from the blocks around; none where it names none
abbrev pub area_named : (greatest : ℕ) → ResolvedUnit → (blocks : List ℕ) → Option SymbolKey
    → Option Beginning
area_named greatest r blocks None = None
area_named greatest r blocks (Some key) = area_at greatest r blocks key (symbol_at r key)

-- where storage is

-- a locator without dimensions, of this area if it is an OFFSET
abbrev pub locator_part : Root → (path : List ℕ) → (area : Option Beginning) → Option StridedPart
    → Option LocatorVariable
locator_part root path area None = None
locator_part root path area (Some p) =
    if nat_eq (length p.strides) 0 then locator_at (reference_to root path p []) (Stated p.description) area
    else None

-- the same, if the variable begins somewhere, of this description, or a member of it on this way
abbrev pub locator_on : Option Root → (whole : Description) → (path : List ℕ) → (area : Option Beginning)
    → Option LocatorVariable
locator_on None whole path area = None
locator_on (Some root) whole path area = locator_part root path area (part_on (whole_part whole) path)

-- the same of a variable of its own, or a member of it on this way; one that is BASED begins nowhere
abbrev pub locator_in : (greatest : ℕ) → ResolvedUnit → (blocks : List ℕ) → SymbolKey → (path : List ℕ)
    → (area : Option Beginning) → Option Symbol → Option LocatorVariable
locator_in greatest r blocks key path area None = None
locator_in greatest r blocks key path area (Some s) = of_kind s.kind
  where
    of_kind : SymbolKind → Option LocatorVariable
    of_kind (Variable description class scope initial named) =
        locator_on (root_of greatest r blocks key class description) description path area
    of_kind other = None

-- the locator that a symbol is
abbrev pub locator_meant : (greatest : ℕ) → ResolvedUnit → (blocks : List ℕ) → SymbolKey → Option Symbol
    → Option LocatorVariable
locator_meant greatest r blocks key None = None
locator_meant greatest r blocks key (Some s) = of_kind s.kind
  where
    of_kind : SymbolKind → Option LocatorVariable
    of_kind (Member root path initial area) =
        locator_in greatest r blocks (record { block = key.block; number = root }) path
        (area_named greatest r blocks area) (slice_get (block_symbols r key.block) root)
    of_kind (Variable description class scope initial area) =
        locator_in greatest r blocks key [] (area_named greatest r blocks area) (Some s)
    of_kind other = None

-- the locator that BASED names, seen from the blocks around; none where it names none, or what leads nowhere
abbrev pub locator_named : (greatest : ℕ) → ResolvedUnit → (blocks : List ℕ) → Option SymbolKey
    → Option LocatorVariable
locator_named greatest r blocks None = None
locator_named greatest r blocks (Some key) = locator_meant greatest r blocks key (symbol_at r key)

-- its slot is a parameter's
abbrev pub is_passed_class : StorageClass → Bool
is_passed_class (classes.Parameter slot) = true
is_passed_class class = false

-- the storage of a variable, if there is one: a BASED variable has its number among those of its block
abbrev pub storage_of : (greatest : ℕ) → ResolvedUnit → (blocks : List ℕ) → SymbolKey → StorageClass
    → Description → Option NamedStorage
storage_of greatest r blocks key (classes.Based locator) d =
    if is_valued greatest d
    then Some (IsBased key.block
    (such_before (is_based greatest) (block_symbols r key.block) key.number)
    (locator_named greatest r blocks locator))
    else None
storage_of greatest r blocks key class d =
    option_map (λ root. Begins root (is_passed_class class)) (root_of greatest r blocks key class d)

-- what names mean

-- a variable, or a member of it, where it has storage; and the area that its OFFSET names
abbrev pub variable_from : Option NamedStorage → (whole : ParameterType) → (path : List ℕ)
    → (area : Option Beginning) → NamedAs
variable_from None whole path area = Untyped
variable_from (Some storage) whole path area =
    AVariable (record { storage = storage; whole = whole; path = path; area = area })

-- a variable of its own, or its member on this way
abbrev pub variable_at : (greatest : ℕ) → ResolvedUnit → (blocks : List ℕ) → SymbolKey → (path : List ℕ)
    → (area : Option Beginning) → Option Symbol → NamedAs
variable_at greatest r blocks key path area None = Untyped
variable_at greatest r blocks key path area (Some s) = of_kind s.kind
  where
    of_kind : SymbolKind → NamedAs
    of_kind (Variable description class scope initial named) =
        variable_from (storage_of greatest r blocks key class description) (Stated description) path area
    of_kind other = Untyped

-- what stands directly in a block around, or in none
abbrev pub stands_around : (blocks : List ℕ) → Option ℕ → Bool
stands_around blocks None = true
stands_around blocks (Some outer) = not_none (outward_to blocks outer)
  where
    not_none : Option ℕ → Bool
    not_none None = false
    not_none (Some outward) = true

-- a procedure is reached that stands directly in a block around; so is the external one
abbrev pub is_reached : (blocks : List ℕ) → Option ResolvedBlock → Bool
is_reached blocks None = false
is_reached blocks (Some b) = is_procedure b.kind && stands_around blocks b.outer

-- a procedure gives nothing, or values that a variable could hold
abbrev pub gives_stored : (greatest : ℕ) → Option Description → Bool
gives_stored greatest None = true
gives_stored greatest (Some d) = is_valued greatest d

-- the procedure that is this block, with what it takes and gives, seen from the blocks around
abbrev pub named_procedure : (greatest : ℕ) → ResolvedUnit → (blocks : List ℕ) → (block : ℕ)
    → NamedProcedure
named_procedure greatest r blocks block = record {
  callee = OfBlock block;
  parameters = parameters_of r block;
  returned = returned_of r block;
  area = area_named greatest r blocks (returned_area_of r block);
}

-- its name means it where it is reached and gives what a variable could hold
abbrev pub procedure_named : (greatest : ℕ) → ResolvedUnit → (blocks : List ℕ) → (block : ℕ) → NamedAs
procedure_named greatest r blocks block =
    if is_reached blocks (slice_get r.blocks block) && gives_stored greatest (returned_of r block)
    then AProcedure (named_procedure greatest r blocks block) else Untyped

-- an external procedure, by its entry, with the area that its RETURNS names
abbrev pub entry_named : (greatest : ℕ) → (number : ℕ) → List ParameterType → Option Description
    → (area : Option Beginning) → NamedAs
entry_named greatest number parameters returned area =
    if gives_stored greatest returned
    then AProcedure (record {
      callee = OfEntry number;
      parameters = parameters;
      returned = returned;
      area = area;
    })
    else Untyped

-- the storage of a parameter in which a `*` stands
abbrev pub open_storage : Option Root → Option NamedStorage
open_storage root = option_map (λ root. Begins root true) root

-- what a name means, by what its symbol is
abbrev pub symbol_meant : (greatest : ℕ) → ResolvedUnit → (blocks : List ℕ) → SymbolKey → SymbolKind → NamedAs
symbol_meant greatest r blocks key (Variable description class scope initial area) =
    variable_from (storage_of greatest r blocks key class description) (Stated description) []
    (area_named greatest r blocks area)
symbol_meant greatest r blocks key (OpenParameter type slot area) =
    variable_from (open_storage (open_root greatest r blocks key slot type)) type []
    (area_named greatest r blocks area)
symbol_meant greatest r blocks key (Member root path initial area) =
    variable_at greatest r blocks (record { block = key.block; number = root }) path
    (area_named greatest r blocks area) (slice_get (block_symbols r key.block) root)
symbol_meant greatest r blocks key (Label statement) = ALabel statement
symbol_meant greatest r blocks key (Procedure block returned area) = procedure_named greatest r blocks block
symbol_meant greatest r blocks key (Entry parameters returned area) =
    entry_named greatest (global_number greatest r key) parameters returned
    (area_named greatest r blocks area)
symbol_meant greatest r blocks key BuiltIn = Untyped

-- what a declared name means, by its symbol
abbrev pub declared_as : (greatest : ℕ) → ResolvedUnit → (blocks : List ℕ) → SymbolKey → NamedAs
declared_as greatest r blocks key = of_symbol (symbol_at r key)
  where
    of_symbol : Option Symbol → NamedAs
    of_symbol None = Untyped
    of_symbol (Some s) = symbol_meant greatest r blocks key s.kind

-- what a name means that is declared, or is that of a built-in function
abbrev pub named_as : (greatest : ℕ) → ResolvedUnit → (blocks : List ℕ) → Option NameMeaning → NamedAs
named_as greatest r blocks None = Untyped
named_as greatest r blocks (Some (meanings.BuiltIn function)) = AFunction function
named_as greatest r blocks (Some (meanings.Symbol key)) = declared_as greatest r blocks key

-- storage is that of a BASED variable, and no member stands on the way
abbrev pub is_based_whole : NamedStorage → (path : List ℕ) → Bool
is_based_whole (IsBased block number implied) [] = true
is_based_whole storage path = false

-- a name is that of a BASED variable, and of no member
abbrev pub names_based : NamedAs → Bool
names_based (AVariable v) = is_based_whole v.storage v.path
names_based meant = false

-- which names are those of BASED variables; the blocks around say nothing of that
abbrev pub based_of : (greatest : ℕ) → ResolvedUnit → (at : ℕ) → Bool
based_of greatest r at = names_based (named_as greatest r [] (meaning_at r at))

-- what variables are made from

-- the members with INITIAL of the variable of this number
abbrev pub member_items : (root : ℕ) → List Symbol → List InitialItem
member_items root [] = []
member_items root (s ∷ ss) = of_kind s.kind ++ member_items root ss
  where
    of_kind : SymbolKind → List InitialItem
    of_kind (Member owner path initial area) =
        if nat_eq owner root then record { path = path; values = initial } ∷ [] else []
    of_kind other = []

-- the variable itself, where it is of such a class
abbrev pub template_at : (StorageClass → Description → Bool) → List Symbol → (number : ℕ) → SymbolKind
    → List Template
template_at is_such symbols number (Variable description class scope initial area) =
    if is_such class description
    then template_of description (record { path = []; values = initial } ∷ member_items number symbols) ∷ []
    else []
template_at is_such symbols number kind = []

-- those among symbols, the first of which has this number; all are the symbols of the block
abbrev pub templates_from : (StorageClass → Description → Bool) → (all : List Symbol) → (number : ℕ)
    → List Symbol → List Template
templates_from is_such all number [] = []
templates_from is_such all number (s ∷ ss) =
    template_at is_such all number s.kind ++ templates_from is_such all (suc number) ss

-- what the variables of such a class among the symbols of a block are made from
abbrev pub templates_of : (StorageClass → Description → Bool) → List Symbol → List Template
templates_of is_such symbols = templates_from is_such symbols 0 symbols

-- what names mean, seen from the blocks around
abbrev pub naming_of : (greatest : ℕ) → ResolvedUnit → (blocks : List ℕ) → Naming
naming_of greatest r blocks = record {
  greatest = greatest;
  based = λ block. templates_of (is_based greatest) (block_symbols r block);
  returned_area = λ block. area_named greatest r blocks (returned_area_of r block);
  meaning = λ at. named_as greatest r blocks (meaning_at r at);
}

-- the unit

-- a variable by its scope
abbrev pub global_of : ScopeAttribute → VariableKind → Name → Template → Global
global_of scopes.Internal kind name template = OwnVariable kind template
global_of scopes.External kind name template = ExternalVariable name kind template

-- the global that a symbol is, if it is one: a STATIC or CONTROLLED variable, or an entry
abbrev pub global_with : (greatest : ℕ) → (all : List Symbol) → (number : ℕ) → Name → SymbolKind
    → List Global
global_with greatest all number name (Variable description class scope initial area) =
    map (global_of scope (kind_of_class class) name)
    (template_at (is_global greatest) all number (Variable description class scope initial area))
global_with greatest all number name (Entry parameters returned area) =
    EntryPoint name (record { parameters = parameters; result = returned }) ∷ []
global_with greatest all number name kind = []

-- a global, and the token of its name
pub record PlacedGlobal : Type 0 where
  pub at : ℕ
  pub global : Global

-- a global, with the token of its name
abbrev pub placed : (at : ℕ) → Global → PlacedGlobal
placed at global = record { at = at; global = global }

-- the global that a symbol is, if it is one, with the token of its name
abbrev pub global_at : (greatest : ℕ) → (all : List Symbol) → (number : ℕ) → Symbol → List PlacedGlobal
global_at greatest all number s =
    map (placed s.identifier.at) (global_with greatest all number s.identifier.name s.kind)

-- the globals among symbols, the first of which has this number; all are the symbols of the block
abbrev pub globals_from : (greatest : ℕ) → (all : List Symbol) → (number : ℕ) → List Symbol
    → List PlacedGlobal
globals_from greatest all number [] = []
globals_from greatest all number (s ∷ ss) =
    global_at greatest all number s ++ globals_from greatest all (suc number) ss

-- the globals among the symbols of a block
abbrev pub globals_of : (greatest : ℕ) → List Symbol → List PlacedGlobal
globals_of greatest symbols = globals_from greatest symbols 0 symbols

-- those of blocks, block after block
abbrev pub block_globals : (greatest : ℕ) → List (List Symbol) → List PlacedGlobal
block_globals greatest blocks = flat_map (globals_of greatest) blocks

-- the globals of blocks, in the order of their names in the text
abbrev pub all_globals : (greatest : ℕ) → List (List Symbol) → List Global
all_globals greatest blocks =
    map (λ p. p.global) (in_order (λ p. p.at) (block_globals greatest blocks))

-- the unit as types see it, numbers having at most so many binary digits
abbrev pub named_unit : (greatest : ℕ) → ResolvedUnit → NamedUnit
named_unit greatest r = record {
  tree = r.tree;
  is_based = based_of greatest r;
  naming = naming_of greatest r;
  parameters = parameters_of r;
  returned = returned_of r;
  automatic = λ block. templates_of (is_automatic greatest) (block_symbols r block);
  globals = all_globals greatest (all_symbols r);
}

-- what `check` answers for a resolved unit, where numbers have at most 63 binary digits
unfoldable pub checked_unit : ResolvedUnit → Result TypedUnit (List Fault)
checked_unit r = checked (named_unit 63 r)

-- A resolved unit as types see it: where its variables begin, what its names mean, and what its variables are
-- made from. A name is looked at from where it is used: what the blocks around are says how many static links
-- outward a variable is. What has a number has that of its place: it says how many others stand before it.
use Rattle.std.specs.Prelude.{ℕ, suc, ◌+◌, nat_eq, nat_le, Bool, true, false, not, ◌&&◌, ◌||◌}
use Rattle.std.specs.Prelude.{Option, Some, None, option_map, List, [], ◌∷◌, ◌++◌, map}
use Rattle.std.specs.Prelude.{filter}
use Rattle.std.specs.Prelude.{length, get_or, slice_get, if◌then◌else◌}
use Rattle.std.specs.List.{flat_map, list_any}
use Rattle.std.specs.Option.{unwrap_or}
use Rattle.std.specs.Ordering.{nat_cmp}
use Rattle.pli_base.specs.Name.{Name}
use Rattle.pli_base.specs.declared.declaration.InitialValue.{InitialValue}
use Rattle.pli_declare.specs.declared.completed.ScopeAttribute.{ScopeAttribute}
use Rattle.pli_declare.specs.declared.completed.ScopeAttribute.TheVariants as scopes
use Rattle.pli_map.specs.Description as described
use Rattle.pli_map.specs.Description.{Description, Array, Structure, Members, NoMembers, MemberThen}
use Rattle.pli_map.specs.ParameterTypes.{ParameterType, Stated, stated, is_stated}
use Rattle.pli_map.specs.Scalars.{is_area}
use Rattle.pli_map.specs.Sizes.{size_of}
use Rattle.pli_program.specs.declared.kind.VariableKind.{VariableKind}
use Rattle.pli_program.specs.declared.kind.VariableKind.TheVariants as generations
use Rattle.pli_declare.specs.ResolvedUnits.{ResolvedUnit, ResolvedBlock, all_symbols, symbol_at}
use Rattle.pli_declare.specs.Symbols.{Symbol, SymbolKind, Variable, OpenParameter, Member, Label, Procedure}
use Rattle.pli_declare.specs.Symbols.{Entry, BuiltIn}
use Rattle.pli_declare.specs.declared.block_numbers.ResolvedBlockKind.{ResolvedBlockKind}
use Rattle.pli_declare.specs.declared.block_numbers.ResolvedBlockKind.TheVariants as kinds
use Rattle.pli_declare.specs.declared.symbol.NameMeaning.{NameMeaning}
use Rattle.pli_declare.specs.declared.symbol.NameMeaning.TheVariants as meanings
use Rattle.pli_declare.specs.declared.symbol.StorageClass.{StorageClass}
use Rattle.pli_declare.specs.declared.symbol.StorageClass.TheVariants as classes
use Rattle.pli_declare.specs.declared.symbol.SymbolKey.{SymbolKey}
use Rattle.pli_sort.specs.Sorting.{in_order}
use Rattle.pli_type_rules.specs.Beginnings.{area_meant}
use Rattle.pli_type_rules.specs.InitialScalars.{InitialItem, template_of}
use Rattle.pli_type_rules.specs.Names.{NamedAs, AVariable, AFunction, AProcedure, ALabel, Untyped}
use Rattle.pli_type_rules.specs.Names.{NamedStorage, Begins, IsBased, LocatorVariable}
use Rattle.pli_type_rules.specs.References.{part_on, locator_at, reference_to, whole_part}
use Rattle.pli_type_rules.specs.declared.beginning.Beginning.{Beginning}
use Rattle.pli_type_tree.specs.Templates.{Template}
use Rattle.pli_type_tree.specs.TypedTree.{Callee, OfBlock, OfEntry, Global, OwnVariable, ExternalVariable}
use Rattle.pli_type_tree.specs.TypedTree.{EntryPoint, Root, InSlot, OfProgram, NewestOf, TypedReference}
pub use Rattle.pli_type_unit.specs.Found.{◌>>=◌, where_holds}

-- symbols

-- the symbols that the block of a number declares
abbrev pub block_symbols : ResolvedUnit → (block : ℕ) → List Symbol
block_symbols r block = get_or (all_symbols r) block []

-- what the name under a key is declared as; where none stands, as what means nothing here
abbrev pub kind_at : ResolvedUnit → SymbolKey → SymbolKind
kind_at r key = unwrap_or (option_map (λ s. s.kind) (symbol_at r key)) BuiltIn

-- a symbol, with its block and its number there
pub record PlacedSymbol : Type 0 where
  pub key : SymbolKey
  pub symbol : Symbol

-- symbols of a block, the first of which has this number
abbrev pub numbered : (block number : ℕ) → List Symbol → List PlacedSymbol
numbered block number [] = []
numbered block number (s ∷ ss) =
    record { key = record { block = block; number = number }; symbol = s }
    ∷ numbered block (suc number) ss

-- those of blocks, the first of which has this number
abbrev pub numbered_in : (block : ℕ) → List (List Symbol) → List PlacedSymbol
numbered_in block [] = []
numbered_in block (ss ∷ more) = numbered block 0 ss ++ numbered_in (suc block) more

-- how many of these stand before the one under a key
abbrev pub count_before : SymbolKey → List PlacedSymbol → ℕ
count_before key [] = 0
count_before key (p ∷ ps) =
    if nat_eq p.key.block key.block && nat_eq p.key.number key.number then 0 else suc (count_before key ps)

-- variables

abbrev mutual
  -- an area is this, or stands in it
  pub has_area : Description → Bool
  has_area (described.Area bytes) = true
  has_area (Array bounds element) = has_area element
  has_area (Structure members) = have_area members
  has_area other = false

  -- one stands in these members
  pub have_area : Members → Bool
  have_area NoMembers = false
  have_area (MemberThen d ds) = has_area d || have_area ds

-- an area stands by itself, and in no BASED variable
abbrev pub may_stand : StorageClass → Description → Bool
may_stand (classes.Based locator) d = not (has_area d)
may_stand class d = is_area d || not (has_area d)

-- AUTOMATIC
abbrev pub is_automatic : StorageClass → Bool
is_automatic classes.Automatic = true
is_automatic class = false

-- BASED
abbrev pub is_based : StorageClass → Bool
is_based (classes.Based locator) = true
is_based class = false

-- there for the whole program: STATIC or CONTROLLED
abbrev pub is_lasting : StorageClass → Bool
is_lasting classes.Static = true
is_lasting classes.Controlled = true
is_lasting class = false

-- a variable of its own of such a class
abbrev pub is_variable : (StorageClass → Bool) → SymbolKind → Bool
is_variable is_such (Variable description class scope initial area) =
    is_such class && may_stand class description
is_variable is_such kind = false

-- a global: such a variable that is there for the whole program, or an external procedure
abbrev pub is_global : SymbolKind → Bool
is_global (Entry parameters returned area) = true
is_global kind = is_variable is_lasting kind

-- the variables of such a class that a block declares
abbrev pub variables_in : ResolvedUnit → (StorageClass → Bool) → (block : ℕ) → List PlacedSymbol
variables_in r is_such block =
    filter (λ p. is_variable is_such p.symbol.kind) (numbered block 0 (block_symbols r block))

-- the globals of a unit, in the order of their names in its text
abbrev pub globals_in : ResolvedUnit → List PlacedSymbol
globals_in r =
    in_order (λ p. p.symbol.identifier.at) nat_cmp
    (filter (λ p. is_global p.symbol.kind) (numbered_in 0 (all_symbols r)))

-- the number of a global
abbrev pub global_number : ResolvedUnit → SymbolKey → ℕ
global_number r key = count_before key (globals_in r)

-- what a name of a variable means: a variable of its own, a parameter in which a `*` stands being one with a
-- slot, or a member of one on this way; and the area that OFFSET in the name's declaration names
pub record VariableName : Type 0 where
  pub key : SymbolKey
  pub class : StorageClass
  pub whole : ParameterType
  pub path : List ℕ
  pub area : Option SymbolKey

-- the name of a variable that is declared as this, or of a member of it on this way
abbrev pub name_within : SymbolKey → (path : List ℕ) → (area : Option SymbolKey) → SymbolKind
    → Option VariableName
name_within key path area (Variable description class scope initial own) =
    where_holds (may_stand class description)
    (record { key = key; class = class; whole = Stated description; path = path; area = area })
name_within key path area kind = None

-- the name of a variable that a symbol is
abbrev pub name_under : ResolvedUnit → SymbolKey → SymbolKind → Option VariableName
name_under r key (Variable description class scope initial area) =
    name_within key [] area (Variable description class scope initial area)
name_under r key (OpenParameter type slot area) =
    where_holds (not (is_stated type))
    (record { key = key; class = classes.Parameter slot; whole = type; path = []; area = area })
name_under r key (Member root path initial area) =
    name_within (record { block = key.block; number = root }) path area
    (kind_at r (record { block = key.block; number = root }))
name_under r key kind = None

-- procedures

-- the block is a procedure
abbrev pub is_procedure : ResolvedBlockKind → Bool
is_procedure kinds.Procedure = true
is_procedure other = false

-- the block of this number, if it is a procedure
abbrev pub procedure_at : ResolvedUnit → (block : ℕ) → Option ResolvedBlock
procedure_at r block = slice_get r.blocks block >>= λ b. where_holds (is_procedure b.kind) b

-- the numbers of its parameters among its symbols, each under its slot
abbrev pub parameter_numbers : ResolvedUnit → (block : ℕ) → List ℕ
parameter_numbers r block = unwrap_or (option_map (λ b. b.parameters) (procedure_at r block)) []

-- what a parameter is, which is a variable of its own
abbrev pub type_in : SymbolKind → ParameterType
type_in (Variable description class scope initial area) = Stated description
type_in (OpenParameter type slot area) = type
type_in other = Stated described.Pointer

-- what the parameters of a procedure are
abbrev pub parameters_of : ResolvedUnit → (block : ℕ) → List ParameterType
parameters_of r block =
    map (λ number. type_in (kind_at r (record { block = block; number = number })))
    (parameter_numbers r block)

-- what the procedure that is a name gives, and the area that OFFSET in its RETURNS names
abbrev pub returns_of : SymbolKind → Option Description × Option SymbolKey
returns_of (Procedure block returned area) = (returned, area)
returns_of other = (None, None)

-- what the procedure that is a block gives, by the symbol of its name
abbrev pub returns_at : ResolvedUnit → (block : ℕ) → Option Description × Option SymbolKey
returns_at r block =
    returns_of (unwrap_or (option_map (kind_at r) (procedure_at r block >>= λ b. b.name)) BuiltIn)

-- where variables begin

-- how many static links outward a block is, if it stands around
abbrev pub outward_to : (blocks : List ℕ) → (block : ℕ) → Option ℕ
outward_to [] block = None
outward_to (b ∷ bs) block = if nat_eq b block then Some 0 else option_map suc (outward_to bs block)

-- a slot of a block, if the block stands around
abbrev pub in_slot : (blocks : List ℕ) → (block slot : ℕ) → Option Root
in_slot blocks block slot = option_map (λ outward. InSlot outward slot) (outward_to blocks block)

-- the parameter in a slot is the symbol of this number
abbrev pub is_in_slot : (numbers : List ℕ) → (slot number : ℕ) → Bool
is_in_slot numbers slot number =
    unwrap_or (option_map (λ n. nat_eq n number) (slice_get numbers slot)) false

-- Parameters stand in slots, each in its own, and the AUTOMATIC variables of the block after them; STATIC and
-- CONTROLLED variables are globals. BASED variables begin nowhere
abbrev pub root_of : ResolvedUnit → (blocks : List ℕ) → SymbolKey → StorageClass → Option Root
root_of r blocks key classes.Automatic =
    in_slot blocks key.block
    (length (parameter_numbers r key.block) + count_before key (variables_in r is_automatic key.block))
root_of r blocks key (classes.Parameter slot) =
    if is_in_slot (parameter_numbers r key.block) slot key.number then in_slot blocks key.block slot else None
root_of r blocks key classes.Static = Some (OfProgram (global_number r key))
root_of r blocks key classes.Controlled = Some (NewestOf (global_number r key))
root_of r blocks key (classes.Based locator) = None

-- a reference without subscripts to what begins somewhere and stands in no array, of this type; and the area
-- that its declaration names
pub record PlainReference : Type 0 where
  pub reference : TypedReference
  pub type : ParameterType
  pub area : Option SymbolKey

-- the one to what a name means
abbrev pub plain_reference : ResolvedUnit → (blocks : List ℕ) → SymbolKey → Option PlainReference
plain_reference r blocks key = do
  v ← name_under r key (kind_at r key)
  d ← stated v.whole
  root ← root_of r blocks v.key v.class
  p ← part_on (whole_part d) v.path
  where_holds (nat_eq (length p.strides) 0) (record {
    reference = reference_to root v.path p [];
    type = Stated p.description;
    area = v.area;
  })

-- the area that OFFSET names, seen from the blocks around; none where it names none
abbrev pub area_named : ResolvedUnit → (blocks : List ℕ) → Option SymbolKey → Option Beginning
area_named r blocks named = do
  key ← named
  p ← plain_reference r blocks key
  area_meant p.reference p.type

-- the locator that BASED names, seen from the blocks around; none where it names none, or what leads nowhere
abbrev pub locator_named : ResolvedUnit → (blocks : List ℕ) → Option SymbolKey → Option LocatorVariable
locator_named r blocks named = do
  key ← named
  p ← plain_reference r blocks key
  locator_at p.reference p.type (area_named r blocks p.area)

-- the storage of a variable, if there is one; a BASED variable has its number among those of its block
abbrev pub storage_of : ResolvedUnit → (blocks : List ℕ) → SymbolKey → StorageClass → Option NamedStorage
storage_of r blocks key (classes.Based locator) =
    Some (IsBased key.block (count_before key (variables_in r is_based key.block))
    (locator_named r blocks locator))
storage_of r blocks key (classes.Parameter slot) =
    option_map (λ root. Begins root true) (root_of r blocks key (classes.Parameter slot))
storage_of r blocks key class = option_map (λ root. Begins root false) (root_of r blocks key class)

-- what names mean

-- a variable, where it has storage
abbrev pub variable_named : ResolvedUnit → (blocks : List ℕ) → VariableName → Option NamedAs
variable_named r blocks v = do
  storage ← storage_of r blocks v.key v.class
  Some (AVariable (record {
    storage = storage;
    whole = v.whole;
    path = v.path;
    area = area_named r blocks v.area;
  }))

-- what is returned are values that a variable could hold, of at most 1,000,000 bytes
abbrev pub is_returned : Description → Bool
is_returned d = not (has_area d) && nat_le (size_of d) 1000000

-- a procedure that gives nothing, or such values
abbrev pub procedure_as : Callee → List ParameterType → Option Description → (area : Option Beginning)
    → Option NamedAs
procedure_as callee parameters returned area =
    where_holds (unwrap_or (option_map is_returned returned) true)
    (AProcedure (record { callee = callee; parameters = parameters; returned = returned; area = area }))

-- what stands directly in a block around, or in none
abbrev pub stands_around : (blocks : List ℕ) → (outer : Option ℕ) → Bool
stands_around blocks None = true
stands_around blocks (Some outer) = list_any (λ b. nat_eq b outer) blocks

-- the procedure that is this block, where it stands directly in a block around; so is the external one
abbrev pub block_named : ResolvedUnit → (blocks : List ℕ) → (block : ℕ) → Option NamedAs
block_named r blocks block = do
  b ← procedure_at r block
  reached ← where_holds (stands_around blocks b.outer) b
  procedure_as (OfBlock block) (parameters_of r block) (returns_at r block).0
      (area_named r blocks (returns_at r block).1)

-- what a declared name means, by what it is declared as, if it has a type
abbrev pub declared_as : ResolvedUnit → (blocks : List ℕ) → SymbolKey → SymbolKind → Option NamedAs
declared_as r blocks key (Label statement) = Some (ALabel statement)
declared_as r blocks key (Procedure block returned area) = block_named r blocks block
declared_as r blocks key (Entry parameters returned area) =
    procedure_as (OfEntry (global_number r key)) parameters returned (area_named r blocks area)
declared_as r blocks key kind = name_under r key kind >>= variable_named r blocks

-- what a name means that is declared, or is that of a built-in function
abbrev pub named_as : ResolvedUnit → (blocks : List ℕ) → Option NameMeaning → NamedAs
named_as r blocks None = Untyped
named_as r blocks (Some (meanings.BuiltIn function)) = AFunction function
named_as r blocks (Some (meanings.Symbol key)) = unwrap_or (declared_as r blocks key (kind_at r key)) Untyped

-- the name of a BASED variable, and of no member
abbrev pub names_based : ResolvedUnit → Option NameMeaning → Bool
names_based r (Some (meanings.Symbol key)) =
    unwrap_or (option_map (λ v. is_based v.class && nat_eq (length v.path) 0)
    (name_under r key (kind_at r key))) false
names_based r other = false

-- what variables are made from

-- a member with INITIAL of the variable of this number
abbrev pub member_item : (root : ℕ) → SymbolKind → List InitialItem
member_item root (Member owner path initial area) =
    if nat_eq owner root then record { path = path; values = initial } ∷ [] else []
member_item root kind = []

-- what the variable of this number among the symbols of a block is made from
abbrev pub made_from : List Symbol → (number : ℕ) → Description → List InitialValue → Template
made_from symbols number description initial =
    template_of description
    (record { path = []; values = initial } ∷ flat_map (λ s. member_item number s.kind) symbols)

-- the same, where the symbol is one
abbrev pub templates_at : List Symbol → (number : ℕ) → SymbolKind → List Template
templates_at symbols number (Variable description class scope initial area) =
    made_from symbols number description initial ∷ []
templates_at symbols number kind = []

-- what the variables of such a class are made from that a block declares
abbrev pub templates_in : ResolvedUnit → (StorageClass → Bool) → (block : ℕ) → List Template
templates_in r is_such block =
    flat_map (λ p. templates_at (block_symbols r block) p.key.number p.symbol.kind)
    (variables_in r is_such block)

-- a variable by its scope
abbrev pub global_of : ScopeAttribute → VariableKind → Name → Template → Global
global_of scopes.Internal kind name template = OwnVariable kind template
global_of scopes.External kind name template = ExternalVariable name kind template

-- how the generations of such a variable come
abbrev pub kind_of_class : StorageClass → VariableKind
kind_of_class classes.Controlled = generations.Controlled
kind_of_class class = generations.Static

-- the global that a symbol is: a variable, or an entry
abbrev pub global_at : List Symbol → (number : ℕ) → Name → SymbolKind → List Global
global_at symbols number name (Variable description class scope initial area) =
    global_of scope (kind_of_class class) name (made_from symbols number description initial) ∷ []
global_at symbols number name (Entry parameters returned area) =
    EntryPoint name (record { parameters = parameters; result = returned }) ∷ []
global_at symbols number name kind = []

-- the globals of a unit
abbrev pub globals_of : ResolvedUnit → List Global
globals_of r =
    flat_map (λ p. global_at (block_symbols r p.key.block) p.key.number p.symbol.identifier.name p.symbol.kind)
    (globals_in r)

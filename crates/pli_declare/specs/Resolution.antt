-- The faults of the declarations of a unit: for each declared name and each reference the least code, in the
-- order of their tokens.
use Rattle.std.specs.Prelude.{ℕ, ◌+◌, Bool, true, false, not, ◌&&◌, ◌||◌, ◌==◌, nat_lt, Option, Some, None}
use Rattle.std.specs.Prelude.{List, [], ◌∷◌, ◌++◌, map, length, get_or, if◌then◌else◌}
use Rattle.std.specs.List.{flat_map, list_any, list_all}
use Rattle.pli_base.specs.Name.{Name}
use Rattle.pli_base.specs.Words.{same_name}
use Rattle.pli_base.specs.declared.code.Code.{Code}
use Rattle.pli_base.specs.declared.code.Code.TheVariants.{NotDeclared, DeclaredTwice, AttributesConflict}
use Rattle.pli_base.specs.declared.code.Code.TheVariants.{AttributesMissing, BadLevel, Ambiguous, BadGoto}
use Rattle.pli_base.specs.declared.code.Code.TheVariants.{BadLocatorOrAreaName, TooManyParameters}
use Rattle.pli_base.specs.declared.code.Code.TheVariants.{GenerationTooLarge}
use Rattle.pli_base.specs.declared.syntax.Identifier.{Identifier}
use Rattle.pli_base.specs.declared.token.Fault.{Fault}
use Rattle.pli_base.specs.Declarations.{SimpleAttribute, Offset, Based, DescribedAttribute, Plain}
use Rattle.pli_base.specs.Declarations.{ParameterDescription, Attribute, Simple, Entry, Returns}
use Rattle.pli_base.specs.Statements as options
use Rattle.pli_base.specs.Statements.{Heading, ProcedureOption, ExternalProcedure}
use Rattle.pli_declare_outline.specs.Outlines.{Mark, Entered, Used, Jumped, PlacedMark, Outline, outline_of}
use Rattle.pli_declare.specs.Faults.{first_of, lesser, result_fault}
use Rattle.pli_declare_scopes.specs.Scopes.{meant}
use Rattle.pli_declare_scopes.specs.declared.found.ReferenceMeaning.{ReferenceMeaning}
use Rattle.pli_declare_scopes.specs.declared.found.ReferenceMeaning.TheVariants.{Item as Means}
use Rattle.pli_declare_scopes.specs.declared.found.ReferenceMeaning.TheVariants.{Ambiguous as Several}
use Rattle.pli_declare_scopes.specs.declared.found.ReferenceMeaning.TheVariants.{NotDeclared as Nothing}
use Rattle.pli_declare_scopes.specs.declared.repeat.Verdict.{Verdict}
use Rattle.pli_declare_scopes.specs.declared.repeat.Verdict.TheVariants.{Counts, Twice, Beneath}
use Rattle.pli_declare.specs.Tables as tables
use Rattle.pli_declare_constructs.specs.Regions.{block_of}
use Rattle.pli_declare.specs.Tables.{Entity, AsItem, AsLabel, AsProcedure, no_entry, entries_in}
use Rattle.pli_declare.specs.Tables.{entries_of, verdicts_in, scope_of, tables_of, entry_at}
use Rattle.pli_declare_constructs.specs.Reach.{reaches}
use Rattle.pli_declare.specs.Places.{stands_alone, is_built_in, own_code, is_locator, is_area}
use Rattle.pli_declare.specs.Descriptions.{is_too_large_variable}
use Rattle.pli_declare.specs.Declarations.{returned_by}

-- a code at a token, if there is one
abbrev pub at_token : ℕ → Option Code → List Fault
at_token at None = []
at_token at (Some code) = record { code = code; at = at } ∷ []

-- references

-- the names without their tokens
abbrev pub names_of : List Identifier → List Name
names_of identifiers = map (λ i. i.name) identifiers

-- one name that is a built-in function's
abbrev pub is_function : List Identifier → Bool
is_function (i ∷ []) = is_built_in i.name
is_function others = false

-- the code of a reference: A1 where it means nothing, save a built-in function; A10 where it is ambiguous
abbrev pub reference_code : List Identifier → ReferenceMeaning → Option Code
reference_code names (Means number block) = None
reference_code names Several = Some Ambiguous
reference_code names Nothing = if is_function names then None else Some NotDeclared

-- a code at the first of these names
abbrev pub at_first : List Identifier → Option Code → List Fault
at_first [] code = []
at_first (i ∷ is) code = at_token i.at code

-- a GOTO reaches a label; any other name is no target
abbrev pub target_code : Outline → (here : ℕ) → Entity → Option Code
target_code o here (AsLabel region) = if reaches o.regions here region then None else Some BadGoto
target_code o here (AsItem item is_bad) = Some BadGoto
target_code o here (AsProcedure heading region) = Some BadGoto

-- the code of a GOTO's label
abbrev pub jump_code : Outline → (here : ℕ) → ReferenceMeaning → Option Code
jump_code o here (Means number block) = target_code o here (entry_at o here block number).entity
jump_code o here Several = Some Ambiguous
jump_code o here Nothing = Some NotDeclared

-- names of locators and areas in declarations, looked up from a block

-- what names mean is an item that fits
abbrev pub names_fit : Outline → (block : ℕ) → (List tables.Entry → ℕ → Bool) → List Name
    → ReferenceMeaning → Bool
names_fit o block fits names (Means number out) = fits (get_or (tables_of o block) out []) number
names_fit o block fits names Several = false
names_fit o block fits names Nothing = false

-- names mean, from a block, an item that fits
abbrev pub is_good : Outline → (block : ℕ) → (List tables.Entry → ℕ → Bool) → List Name → Bool
is_good o block fits names = names_fit o block fits names (meant (scope_of o block) names)

-- OFFSET names an area, BASED a locator
abbrev pub simple_is_good : Outline → (block : ℕ) → SimpleAttribute → Bool
simple_is_good o block (Offset (Some name)) = is_good o block is_area (name ∷ [])
simple_is_good o block (Based (Some names)) = is_good o block is_locator names
simple_is_good o block attribute = true

-- so does an attribute of a description
abbrev pub described_is_good : Outline → (block : ℕ) → DescribedAttribute → Bool
described_is_good o block (Plain attribute) = simple_is_good o block attribute
described_is_good o block attribute = true

-- so do all attributes of ENTRY's parameter descriptions
abbrev pub descriptions_are_good : Outline → (block : ℕ) → Option (List ParameterDescription) → Bool
descriptions_are_good o block None = true
descriptions_are_good o block (Some ds) = list_all (λ d. list_all (described_is_good o block) d.attributes) ds

-- so does an attribute of an item, with all in it
abbrev pub attribute_is_good : Outline → (block : ℕ) → Attribute → Bool
attribute_is_good o block (Simple attribute) = simple_is_good o block attribute
attribute_is_good o block (Entry parameters) = descriptions_are_good o block parameters
attribute_is_good o block (Returns attributes) = list_all (described_is_good o block) attributes

-- declared names

-- A2 for a name that is declared twice
abbrev pub twice_code : Verdict → Option Code
twice_code Counts = None
twice_code Twice = Some DeclaredTwice
twice_code Beneath = None

-- whether the attributes in each RETURNS are good
abbrev pub returned_are : (List DescribedAttribute → Bool) → Heading → Bool
returned_are good h = list_all good (returned_by h.options)

-- OPTIONS(MAIN)
abbrev pub is_main : ProcedureOption → Bool
is_main options.Main = true
is_main option = false

-- the least of codes
abbrev pub least : List (Option Code) → Option Code
least [] = None
least (c ∷ cs) = lesser c (least cs)

-- RETURNS stands once; MAIN, which has no effect on an internal procedure, stands without parameters and
-- without RETURNS; the result; names of areas in it, which are good or not; at most 64 parameters
abbrev pub heading_code : (are_good : Bool) → Heading → Option Code
heading_code are_good h =
    let returned = returned_by h.options in
    least (
    first_of ((nat_lt 1 (length returned), AttributesConflict) ∷ [])
    ∷ first_of ((
      list_any is_main h.options
          && (nat_lt 0 (length h.parameters) || nat_lt 0 (length returned)),
      AttributesConflict,
    ) ∷ [])
    ∷ least (map result_fault returned)
    ∷ first_of ((not are_good, BadLocatorOrAreaName) ∷ [])
    ∷ first_of ((nat_lt 64 (length h.parameters), TooManyParameters) ∷ []) ∷ [])

-- the parameters of the procedure that is a block; a BEGIN block has none
abbrev pub headed : ℕ → Mark → List Name
headed block (Entered heading region) = if region == block then map (λ i. i.name) heading.parameters else []
headed block mark = []

-- the names of the parameters of a block
abbrev pub parameters_of : Outline → ℕ → List Name
parameters_of o block = flat_map (λ p. headed block p.mark) o.marks

-- the codes of a name that is declared as an entity, apart from A2: for an item those of its own attributes,
-- of its level, of the names in them and of the size of the whole variable; for a procedure those of its
-- heading
abbrev pub entity_codes : Outline → (block : ℕ) → (own : Option Code) → (is_too_large : Bool) → Entity
    → List (Option Code)
entity_codes o block own is_too_large (AsItem item is_bad) =
    own
    ∷ first_of ((is_bad, BadLevel) ∷ [])
    ∷ first_of ((not (list_all (attribute_is_good o block) item.attributes), BadLocatorOrAreaName) ∷ [])
    ∷ first_of ((is_too_large, GenerationTooLarge) ∷ []) ∷ []
entity_codes o block own is_too_large (AsLabel region) = []
entity_codes o block own is_too_large (AsProcedure heading region) =
    heading_code (returned_are (list_all (described_is_good o block)) heading) heading ∷ []

-- the least code of the name that has this number in a block
abbrev pub item_code : Outline → (block number : ℕ) → Option Code
item_code o block number =
    let entries = entries_in o block in
    let parameters = parameters_of o block in
    least (
    twice_code (get_or (verdicts_in o block) number Counts)
    ∷ entity_codes o block (own_code entries parameters number)
    (is_too_large_variable entries parameters number) (get_or entries number no_entry).entity)

-- the names that a mark declares have these numbers in its block, from the first on
abbrev pub codes_from : Outline → (block number : ℕ) → List tables.Entry → List Fault
codes_from o block number [] = []
codes_from o block number (e ∷ es) =
    at_token e.identifier.at (item_code o block number) ++ codes_from o block (number + 1) es

-- an item
abbrev pub is_item : Entity → Bool
is_item (AsItem item is_bad) = true
is_item (AsLabel region) = false
is_item (AsProcedure heading region) = false

-- an item of this name that belongs to no other
abbrev pub is_item_named : Name → tables.Entry → Bool
is_item_named name e = same_name e.identifier.name name && stands_alone e && is_item e.entity

-- the code of a parameter in its list: A2 where one before has its name, A4 where its block declares no item
-- of it that belongs to no item
abbrev pub parameter_code : Outline → (block : ℕ) → (before : List Name) → Name → Option Code
parameter_code o block before name =
    first_of ((list_any (same_name name) before, DeclaredTwice)
    ∷ (not (list_any (is_item_named name) (entries_in o block)), AttributesMissing) ∷ [])

-- the codes of parameters, one after another
abbrev pub parameter_codes : Outline → (block : ℕ) → (before : List Name) → List Identifier → List Fault
parameter_codes o block before [] = []
parameter_codes o block before (p ∷ ps) =
    at_token p.at (parameter_code o block before p.name) ++ parameter_codes o block (before ++ p.name ∷ []) ps

-- the parameters of a procedure, by its mark
abbrev pub parameter_faults : Outline → Mark → List Fault
parameter_faults o (Entered heading region) = parameter_codes o region [] heading.parameters
parameter_faults o mark = []

-- marks, in the order of the text

-- the fault of a reference or a GOTO
abbrev pub used_faults : Outline → (here : ℕ) → Mark → List Fault
used_faults o here (Used names) =
    at_first names (reference_code names (meant (scope_of o here) (names_of names)))
used_faults o here (Jumped label) =
    at_token label.at (jump_code o here (meant (scope_of o here) (label.name ∷ [])))
used_faults o here mark = []

-- the faults of a mark, of which the first name that it declares has this number in its block
abbrev pub mark_faults : Outline → (number : ℕ) → PlacedMark → List Fault
mark_faults o number p =
    codes_from o (block_of o.regions p.region) number (entries_of number p.region p.mark)
    ++ parameter_faults o p.mark ++ used_faults o p.region p.mark

-- how many names a block declares in some marks
abbrev pub declared_by : Outline → (block : ℕ) → List PlacedMark → ℕ
declared_by o block marks = length (tables.entries_after o.regions block [] marks)

-- the faults of marks, one after another, after others
abbrev pub faults_after : Outline → (before : List PlacedMark) → List PlacedMark → List Fault
faults_after o before [] = []
faults_after o before (p ∷ ps) =
    mark_faults o (declared_by o (block_of o.regions p.region) before) p
    ++ faults_after o (before ++ p ∷ []) ps

-- an attribute names no area: the one that the RETURNS of the unit's own heading names is found nowhere
abbrev pub names_nothing : DescribedAttribute → Bool
names_nothing (Plain (Offset (Some name))) = false
names_nothing attribute = true

-- the fault of the unit's own name, from its heading
abbrev pub heading_faults : Mark → List Fault
heading_faults (Entered heading region) =
    at_token heading.name.at (heading_code (returned_are (list_all names_nothing) heading) heading)
heading_faults mark = []

-- the faults of the unit's name and of its parameters
abbrev pub unit_faults : Outline → PlacedMark → List Fault
unit_faults o p = heading_faults p.mark ++ parameter_faults o p.mark

-- the faults of all marks, the unit's own first
abbrev pub outline_faults : Outline → List PlacedMark → List Fault
outline_faults o [] = []
outline_faults o (p ∷ ps) = unit_faults o p ++ faults_after o [] ps

-- all faults of a unit's declarations and uses
unfoldable pub resolution_faults : ExternalProcedure → List Fault
resolution_faults u = let o = outline_of u in outline_faults o o.marks

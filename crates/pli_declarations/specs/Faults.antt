-- The faults of the declarations of a unit: for each declared name and each reference the least code, in the
-- order of their tokens.
use Rattle.std.specs.Prelude.{ℕ, Bool, true, false, not, ◌&&◌, ◌||◌, nat_lt, Option, Some, None, List, []}
use Rattle.std.specs.Prelude.{◌∷◌}
use Rattle.std.specs.Prelude.{◌++◌, map, length, get_or, if◌then◌else◌}
use Rattle.std.specs.List.{flat_map, list_any, list_all, enumerate_from}
use Rattle.std.specs.Option.{unwrap_or}
use Rattle.pli_base.specs.Name.{Name}
use Rattle.pli_base.specs.Words.{same_name}
use Rattle.pli_base.specs.declared.code.Code.{Code}
use Rattle.pli_base.specs.declared.code.Code.TheVariants.{NotDeclared, DeclaredTwice, AttributesConflict}
use Rattle.pli_base.specs.declared.code.Code.TheVariants.{AttributesMissing, BadLevel, Ambiguous, BadGoto}
use Rattle.pli_base.specs.declared.code.Code.TheVariants.{BadLocatorOrAreaName, TooManyParameters}
use Rattle.pli_base.specs.declared.code.Code.TheVariants.{GenerationTooLarge}
use Rattle.pli_base.specs.declared.syntax.Identifier.{Identifier}
use Rattle.pli_base.specs.declared.token.Fault.{Fault}
use Rattle.pli_base.specs.Declarations.{SimpleAttribute, Offset, Based, Attribute, Simple, Entry, Returns}
use Rattle.pli_base.specs.Statements.{Heading}
use Rattle.pli_declare_outline.specs.Outlines.{Mark, Entered, Used, Jumped, PlacedMark, Outline}
use Rattle.pli_declare_scopes.specs.declared.found.ReferenceMeaning.{ReferenceMeaning}
use Rattle.pli_declare_scopes.specs.declared.found.ReferenceMeaning.TheVariants.{Item as Means}
use Rattle.pli_declare_scopes.specs.declared.found.ReferenceMeaning.TheVariants.{Ambiguous as Several}
use Rattle.pli_declare_scopes.specs.declared.found.ReferenceMeaning.TheVariants.{NotDeclared as Nothing}
use Rattle.pli_declare_scopes.specs.declared.repeat.Verdict.{Verdict}
use Rattle.pli_declare_scopes.specs.declared.repeat.Verdict.TheVariants.{Counts, Twice}
use Rattle.pli_declare.specs.Tables as tables
use Rattle.pli_declare.specs.Tables.{Entity, AsItem, AsLabel, AsProcedure, no_entry}
use Rattle.pli_declare.specs.AttributeNames.{plain_of}
use Rattle.pli_declare.specs.Places.{stands_alone}
use Rattle.pli_declare.specs.Declarations.{returned_by}
use Rattle.pli_declare.specs.Resolution.{at_token, is_main, parameters_of}
use Rattle.pli_declarations.specs.Items.{first_fault, least, result_fault}
use Rattle.pli_declarations.specs.Regions.{block_of, reaches}
use Rattle.pli_declarations.specs.Scopes.{meant}
use Rattle.pli_declarations.specs.Tables.{entries_in, entries_of, verdicts_in, scope_of, tables_of, entry_at}
use Rattle.pli_declarations.specs.Tables.{entries_among}
use Rattle.pli_declarations.specs.Variables.{is_built_in, own_code, is_locator, is_area}
use Rattle.pli_declarations.specs.Variables.{is_too_large_variable}

-- a code where a test holds
abbrev pub code_if : Bool → Code → Option Code
code_if test code = if test then Some code else None

-- names in attributes

-- names mean, from a block, an item that fits
abbrev pub mean_fitting : Outline → (block : ℕ) → (List tables.Entry → ℕ → Bool) → List Name → Bool
mean_fitting o block fits names = fit (meant (scope_of o block) names)
  where
    fit : ReferenceMeaning → Bool
    fit (Means number out) = fits (get_or (tables_of o block) out []) number
    fit other = false

-- OFFSET names an area, BASED a locator
abbrev pub is_good : Outline → (block : ℕ) → SimpleAttribute → Bool
is_good o block (Offset (Some name)) = mean_fitting o block is_area (name ∷ [])
is_good o block (Based (Some names)) = mean_fitting o block is_locator names
is_good o block attribute = true

-- an attribute names no area: the one that the RETURNS of the unit's own heading names is found nowhere
abbrev pub names_no_area : SimpleAttribute → Bool
names_no_area (Offset (Some name)) = false
names_no_area attribute = true

-- an attribute of an item, with those of the parameters and results that it describes
abbrev pub simple_in : Attribute → List SimpleAttribute
simple_in (Simple attribute) = attribute ∷ []
simple_in (Entry parameters) = flat_map (λ d. flat_map plain_of d.attributes) (unwrap_or parameters [])
simple_in (Returns attributes) = flat_map plain_of attributes

-- declared names

-- A2 for a name that is declared twice
abbrev pub twice_code : Verdict → Option Code
twice_code Twice = Some DeclaredTwice
twice_code other = None

-- RETURNS stands once; MAIN, which has no effect on an internal procedure, stands without parameters and
-- without RETURNS; the result; the names in it are good; at most 64 parameters
abbrev pub heading_code : (SimpleAttribute → Bool) → Heading → Option Code
heading_code good h =
    let returned = returned_by h.options in
    least (code_if (nat_lt 1 (length returned)
    || list_any is_main h.options && (nat_lt 0 (length h.parameters) || nat_lt 0 (length returned)))
    AttributesConflict
    ∷ least (map result_fault returned)
    ∷ code_if (not (list_all (λ attributes. list_all good (flat_map plain_of attributes)) returned))
    BadLocatorOrAreaName
    ∷ code_if (nat_lt 64 (length h.parameters)) TooManyParameters ∷ [])

-- the codes of a name that is declared as an entity, apart from A2: for an item those of its own attributes,
-- of its level, of the names in them and of the size of the whole variable; for a procedure those of its
-- heading
abbrev pub entity_codes : Outline → (block number : ℕ) → Entity → List (Option Code)
entity_codes o block number (AsItem item is_bad) =
    let entries = entries_in o block in
    own_code entries (parameters_of o block) number
    ∷ code_if is_bad BadLevel
    ∷ code_if (not (list_all (is_good o block) (flat_map simple_in item.attributes))) BadLocatorOrAreaName
    ∷ code_if (is_too_large_variable entries (parameters_of o block) number) GenerationTooLarge ∷ []
entity_codes o block number (AsLabel region) = []
entity_codes o block number (AsProcedure heading region) = heading_code (is_good o block) heading ∷ []

-- the least code of the name that has this number in a block
abbrev pub item_code : Outline → (block number : ℕ) → Option Code
item_code o block number =
    least (twice_code (get_or (verdicts_in o block) number Counts)
    ∷ entity_codes o block number (get_or (entries_in o block) number no_entry).entity)

-- an item
abbrev pub is_item : Entity → Bool
is_item (AsItem item is_bad) = true
is_item other = false

-- the code of a parameter in its list: A2 where one before has its name, A4 where its block declares no item
-- of it that belongs to no item
abbrev pub parameter_code : Outline → (block : ℕ) → (before : List Name) → Name → Option Code
parameter_code o block before name =
    first_fault ((list_any (same_name name) before, DeclaredTwice)
    ∷ (
      not (list_any (λ e. same_name e.identifier.name name && stands_alone e && is_item e.entity)
          (entries_in o block)),
      AttributesMissing,
    ) ∷ [])

-- the codes of parameters, one after another
abbrev pub parameter_codes : Outline → (block : ℕ) → (before : List Name) → List Identifier → List Fault
parameter_codes o block before [] = []
parameter_codes o block before (p ∷ ps) =
    at_token p.at (parameter_code o block before p.name) ++ parameter_codes o block (before ++ p.name ∷ []) ps

-- the parameters of a procedure, by its mark
abbrev pub parameter_faults : Outline → Mark → List Fault
parameter_faults o (Entered heading region) = parameter_codes o region [] heading.parameters
parameter_faults o mark = []

-- uses

-- the code of names that mean an item, or several, or nothing
abbrev pub meaning_code : (item : ℕ → ℕ → Option Code) → (nothing : Option Code) → ReferenceMeaning
    → Option Code
meaning_code item nothing (Means number block) = item number block
meaning_code item nothing Several = Some Ambiguous
meaning_code item nothing Nothing = nothing

-- a GOTO reaches a label; any other name is no target
abbrev pub target_code : Outline → (here : ℕ) → Entity → Option Code
target_code o here (AsLabel region) = code_if (not (reaches o.regions here region)) BadGoto
target_code o here other = Some BadGoto

-- one name that is a built-in function's
abbrev pub is_function : List Identifier → Bool
is_function (i ∷ []) = is_built_in i.name
is_function others = false

-- the fault of a reference, which may mean a built-in function that is not declared, or of a GOTO
abbrev pub used_faults : Outline → (here : ℕ) → Mark → List Fault
used_faults o here (Used (i ∷ more)) =
    at_token i.at
    (meaning_code (λ number block. None) (code_if (not (is_function (i ∷ more))) NotDeclared)
    (meant (scope_of o here) (map (λ i. i.name) (i ∷ more))))
used_faults o here (Jumped label) =
    at_token label.at
    (meaning_code (λ number block. target_code o here (entry_at o here block number).entity) (Some NotDeclared)
    (meant (scope_of o here) (label.name ∷ [])))
used_faults o here mark = []

-- marks, in the order of the text

-- the faults of a mark, of which the first name that it declares has this number in its block
abbrev pub mark_faults : Outline → (number : ℕ) → PlacedMark → List Fault
mark_faults o number p =
    flat_map (λ e. at_token e.1.identifier.at (item_code o (block_of o.regions p.region) e.0))
    (enumerate_from number (entries_of number p.region p.mark))
    ++ parameter_faults o p.mark ++ used_faults o p.region p.mark

-- the faults of marks, one after another, after others, which have declared names before them
abbrev pub faults_after : Outline → (before : List PlacedMark) → List PlacedMark → List Fault
faults_after o before [] = []
faults_after o before (p ∷ ps) =
    mark_faults o (length (entries_among o.regions (block_of o.regions p.region) before)) p
    ++ faults_after o (before ++ p ∷ []) ps

-- the faults of the unit's own name, from its heading, and of its parameters
abbrev pub unit_faults : Outline → Mark → List Fault
unit_faults o (Entered heading region) =
    at_token heading.name.at (heading_code names_no_area heading)
    ++ parameter_codes o region [] heading.parameters
unit_faults o mark = []

-- the faults of all marks, the unit's own first
abbrev pub outline_faults : Outline → List PlacedMark → List Fault
outline_faults o [] = []
outline_faults o (p ∷ ps) = unit_faults o p.mark ++ faults_after o [] ps

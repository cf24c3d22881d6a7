-- The variables of their own among the symbols of a block: where each has its storage.
use Rattle.std.specs.Prelude.{ℕ, ◌+◌, Bool, ◌&&◌, Option, Some, None, List, get_or, length, if◌then◌else◌}
use Rattle.pli_map.specs.Description.{Description}
use Rattle.pli_declare.specs.Symbols.{SymbolKind, Variable}
use Rattle.pli_declare.specs.declared.symbol.StorageClass.{StorageClass}
use Rattle.pli_declare.specs.declared.symbol.StorageClass.TheVariants as classes
use Rattle.pli_type_rules.specs.NamedUnits.{globals_before, is_automatic, is_based, is_parameter, is_stored}
use Rattle.pli_type_rules.specs.NamedUnits.{is_valued, such_before}
use Rattle.pli_type_names.specs.BlockFacts.{BlockFacts}
use Rattle.pli_type_names.specs.Numbered.{each_from}
use Rattle.pli_type_names.specs.declared.place.Location.{Location}
use Rattle.pli_type_names.specs.declared.place.Location.TheVariants.{InBlock, Passed, BeforeProgram}
use Rattle.pli_type_names.specs.declared.place.Location.TheVariants.{NewestOf, Based}

-- where it begins, seen from its own block, and the description of the whole variable
pub record OwnVariable : Type 0 where
  pub begins : Location
  pub whole : Description

-- one that begins here, or nowhere
abbrev pub begun : Option Location → Description → Option OwnVariable
begun None description = None
begun (Some place) description = Some (record { begins = place; whole = description })

-- the number that the symbol of this number has among the globals of the unit, if it is one
abbrev pub global_at : BlockFacts → (number : ℕ) → ℕ
global_at f number = get_or f.places (f.globals + globals_before 63 f.symbols number) 0

-- where a variable of a block begins: parameters have slots of their own, AUTOMATIC variables those after
-- them, and STATIC and CONTROLLED variables are globals; BASED variables have numbers of their own
abbrev pub place_at : BlockFacts → (number : ℕ) → StorageClass → Description → Option Location
place_at f number classes.Automatic d =
    if is_stored 63 d
    then Some (InBlock (length f.parameters + such_before (is_automatic 63) f.symbols number)) else None
place_at f number (classes.Parameter slot) d =
    if is_stored 63 d && is_parameter f.parameters slot number then Some (Passed slot) else None
place_at f number classes.Static d =
    if is_stored 63 d then Some (BeforeProgram (global_at f number)) else None
place_at f number classes.Controlled d =
    if is_stored 63 d then Some (NewestOf (global_at f number)) else None
place_at f number (classes.Based locator) d =
    if is_valued 63 d then Some (Based (such_before (is_based 63) f.symbols number) locator) else None

-- the variable that is the symbol of this number, if it is one that is compiled; a member is none of its own
abbrev pub own_at : BlockFacts → (number : ℕ) → SymbolKind → Option OwnVariable
own_at f number (Variable description class scope initial area) =
    begun (place_at f number class description) description
own_at f number other = None

-- for each symbol the variable that it is
abbrev pub own_variables : BlockFacts → List (Option OwnVariable)
own_variables f = each_from (λ number s. own_at f number s.kind) 0 f.symbols

-- counting

-- where one of this class begins, which has this number, where so many slots are taken, the next global has
-- this number, and there are so many BASED variables
abbrev pub place_after : (parameters : List ℕ) → (slots global based number : ℕ) → StorageClass
    → Option Location
place_after parameters slots global based number classes.Automatic = Some (InBlock slots)
place_after parameters slots global based number (classes.Parameter slot) =
    if is_parameter parameters slot number then Some (Passed slot) else None
place_after parameters slots global based number classes.Static = Some (BeforeProgram global)
place_after parameters slots global based number classes.Controlled = Some (NewestOf global)
place_after parameters slots global based number (classes.Based locator) = Some (Based based locator)

-- a variable of this class is compiled: a BASED one is no area
abbrev pub is_kept : StorageClass → Description → Bool
is_kept (classes.Based locator) d = is_valued 63 d
is_kept class d = is_stored 63 d

-- the variable that a symbol is, there
abbrev pub own_after : (parameters : List ℕ) → (slots global based number : ℕ) → SymbolKind
    → Option OwnVariable
own_after parameters slots global based number (Variable description class scope initial area) =
    if is_kept class description
    then begun (place_after parameters slots global based number class) description else None
own_after parameters slots global based number other = None

-- how many slots after the parameters a variable of this class takes
abbrev pub slots_of : StorageClass → ℕ
slots_of classes.Automatic = 1
slots_of class = 0

-- how many BASED variables it is
abbrev pub based_of : StorageClass → ℕ
based_of (classes.Based locator) = 1
based_of class = 0

-- how many globals it is
abbrev pub globals_of : StorageClass → ℕ
globals_of classes.Static = 1
globals_of classes.Controlled = 1
globals_of class = 0

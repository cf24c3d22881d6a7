-- What the types of the program say of a unit, whatever it was compiled from: its names are names, and its
-- characters are bytes.
use Rattle.std.specs.Prelude.{◌≡◌, ℕ, ◌<◌, Some}
use Rattle.std.specs.List.{AllByRecursion}
use Rattle.pli_base.specs.Name.{Name, name_of}
use Rattle.pli_type_tree.specs.Templates.{InitialScalar}
use Rattle.pli_code.specs.CodeTables.{Code, CodedTemplate, CodedGlobal, OwnVariable, ExternalVariable}
use Rattle.pli_code.specs.CodeTables.{EntryPoint, Deck}
use Rattle.pli_code.specs.Modules.{Member}
use Rattle.pli_value.specs.Value.{Value, Characters}

-- a name as it is written in upper case
abbrev pub IsName : Name → Type 0
IsName n = name_of n ≡ Some n

-- a character that is a byte
abbrev pub IsByte : ℕ → Type 0
IsByte c = c < 256

-- the characters of a value
abbrev pub HasBytes : Value → Type 0
HasBytes (Characters text) = AllByRecursion IsByte text
HasBytes v = Unit {0}

-- the values that a variable begins with
abbrev pub BeginsWithBytes : CodedTemplate → Type 0
BeginsWithBytes t = AllByRecursion (λ (i : InitialScalar). HasBytes i.value) t.initial

-- the name of a global that has one
abbrev pub HasName : CodedGlobal → Type 0
HasName (OwnVariable kind t) = Unit {0}
HasName (ExternalVariable name kind t) = IsName name
HasName (EntryPoint name s) = IsName name

-- names are names in the code of a unit, and characters are bytes
pub record IsTypedCode (c : Code) : Type 0 where
  pub globals : AllByRecursion HasName c.globals
  pub values : AllByRecursion HasBytes c.values
  pub templates : AllByRecursion BeginsWithBytes c.templates

-- the same of a deck, with its procedure's name
pub record IsTypedDeck (d : Deck) : Type 0 where
  pub name : IsName d.name
  pub code : IsTypedCode d.code

-- the same of a unit of a module, with its member's name
pub record IsTypedUnit (m : Member) : Type 0 where
  pub name : IsName m.name
  pub deck : IsTypedDeck m.deck

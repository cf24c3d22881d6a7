-- The module of compiled units (own): external variables in the order of their names, and what the external
-- globals of each unit stand for.
use Rattle.std.specs.Prelude.{ℕ, ◌+◌, min, Option, Some, None, unwrap_or, List, [], ◌∷◌, map}
use Rattle.std.specs.Prelude.{if◌then◌else◌}
use Rattle.std.specs.List.{flat_map}
use Rattle.std.specs.Map.{keys_of}
use Rattle.pli_base.specs.Name.{Name}
use Rattle.pli_base.specs.Words.{same_name}
use Rattle.pli_code.specs.Decks.{CodedGlobal, OwnVariable, ExternalVariable, EntryPoint}
use Rattle.pli_code.specs.ModuleParts.{External, Member, Module, kind_number}
use Rattle.pli_code.specs.Versions.{written}
use Rattle.pli_link.specs.Names.{Declaration, externals, meant, procedures}
use Rattle.pli_link.specs.Units.{Compiled}

-- a number in a field of two bytes: the greatest that it holds stands for every greater one, which no module
-- within its limits has
abbrev pub short : ℕ → ℕ
short n = min n 65535

-- an external variable with its first declaration
abbrev pub external_of : Name × Declaration → External
external_of d = record {
  name = d.0;
  kind = kind_number d.1.kind;
  unit = short d.1.unit;
  global = short d.1.global;
}

-- the number of a name among these, which have numbers from this one on
abbrev pub number_of : (number : ℕ) → List Name → Name → Option ℕ
number_of number [] name = None
number_of number (n ∷ ns) name =
    if same_name n name then Some (short number) else number_of (number + 1) ns name

-- the number of one of these external variables; each one of a module has one
abbrev pub number_in : (names : List Name) → Name → ℕ
number_in names name = unwrap_or (number_of 0 names name) 0

-- the unit that has an external procedure; each entry of a module has one
abbrev pub unit_in : (procedures : List (Name × ℕ)) → Name → ℕ
unit_in procedures name = unwrap_or (meant procedures name) 0

-- what a global stands for that other units know: the number of an external variable or, for an entry, of its
-- unit
abbrev pub link_in : (names : List Name) → (procedures : List (Name × ℕ)) → CodedGlobal → List ℕ
link_in names procedures (OwnVariable kind t) = []
link_in names procedures (ExternalVariable name kind t) = number_in names name ∷ []
link_in names procedures (EntryPoint name signature) = unit_in procedures name ∷ []

-- what all such globals stand for, in their order
abbrev pub links_of : (names : List Name) → (procedures : List (Name × ℕ)) → List CodedGlobal → List ℕ
links_of names procedures gs = flat_map (link_in names procedures) gs

-- a unit in a module
abbrev pub linked_unit : (names : List Name) → (procedures : List (Name × ℕ)) → Compiled → Member
linked_unit names procedures c = record {
  name = c.unit;
  deck = c.deck;
  links = links_of names procedures c.deck.code.globals;
}

-- the module of all units, of which this is the main one, in the version in which modules are written
abbrev pub module_of : List Compiled → (main : ℕ) → Module
module_of cs main = record {
  version = written;
  main = main;
  externals = map external_of (externals cs);
  units = map (linked_unit (keys_of (externals cs)) (procedures cs)) cs;
}

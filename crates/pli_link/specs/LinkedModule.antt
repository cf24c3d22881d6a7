-- Linking (own): the module of the units, or the faults.
use Rattle.std.specs.Prelude.{ℕ, Option, Some, option_map, unwrap_or, Result, Ok, Err, List, [], ◌∷◌, map}
use Rattle.std.specs.Prelude.{position}
use Rattle.std.specs.List.{flat_map, position_from}
use Rattle.std.specs.Map.{keys_of}
use Rattle.pli_base.specs.Words.{same_name}
use Rattle.pli_code.specs.Decks.{CodedGlobal, OwnVariable, ExternalVariable, EntryPoint}
use Rattle.pli_code.specs.ModuleParts.{Member, Module}
use Rattle.pli_code.specs.Versions.{written}
use Rattle.pli_link.specs.LinkFaults.{link_faults}
use Rattle.pli_link.specs.Links.{short, external_of}
use Rattle.pli_link.specs.Shared.{externals}
use Rattle.pli_link.specs.Units.{Compiled}
use Rattle.pli_link.specs.declared.linking.LinkFault.{LinkFault}

-- what a global stands for that other units know: the number of an external variable or, for an entry, that
-- of the first unit with its procedure; each one of a module has one
abbrev pub link_in : List Compiled → CodedGlobal → List ℕ
link_in cs (OwnVariable kind t) = []
link_in cs (ExternalVariable name kind t) =
    unwrap_or (option_map short (position_from (λ n. same_name n name) 0 (keys_of (externals cs)))) 0 ∷ []
link_in cs (EntryPoint name signature) =
    unwrap_or (position_from (λ c. same_name name c.deck.name) 0 cs) 0 ∷ []

-- a unit in the module of all
abbrev pub linked_unit : List Compiled → Compiled → Member
linked_unit cs c = record {
  name = c.unit;
  deck = c.deck;
  links = flat_map (link_in cs) c.deck.code.globals;
}

-- the module of all units, of which this is the main one, in the version in which modules are written
abbrev pub module_of : List Compiled → (main : ℕ) → Module
module_of cs main = record {
  version = written;
  main = main;
  externals = map external_of (externals cs);
  units = map (linked_unit cs) cs;
}

-- the module, where there are no faults and a main procedure
abbrev pub module_or : List LinkFault → (main : Option ℕ) → List Compiled → Result Module (List LinkFault)
module_or [] (Some main) cs = Ok (module_of cs main)
module_or faults main cs = Err faults

-- from units in the order of their names: the module of all, with the first one that has a main procedure as
-- its main unit, or the faults
abbrev pub link_of : List Compiled → Result Module (List LinkFault)
link_of cs = module_or (link_faults cs) (position (λ c. c.deck.is_main) cs) cs

-- What storage of variables says, apart from where it lies in memory.
use Rattle.std.specs.Prelude.{option_map}
use Rattle.pli_type_rules.specs.Beginnings.{root_at}
use Rattle.pli_type_rules.specs.Names as plain
use Rattle.pli_type_names.specs.LocatorReferences.{described_by, locating, locator_reference}
use Rattle.pli_type_names.specs.declared.storage.NamedLocator.{NamedLocator}
use Rattle.pli_type_names.specs.declared.storage.NamedStorage.{NamedStorage}
use Rattle.pli_type_names.specs.declared.storage.NamedStorage.TheVariants as storages

-- a locator: a POINTER, or an OFFSET with its area
abbrev pub locator_view : NamedLocator → plain.LocatorVariable
locator_view l = locating l.area (locator_reference (root_at l.begins) l.offset (described_by l.area))

-- the storage of a variable
abbrev pub storage_view : NamedStorage → plain.NamedStorage
storage_view (storages.Begins begins is_parameter) = plain.Begins (root_at begins) is_parameter
storage_view (storages.Based block number implied) =
    plain.IsBased block number (option_map locator_view implied)

-- The bytes of a module, as they are written (own): PLIM, its version, how many units there are, the number of
-- the main one, the externals in the order of their names, and the units.
use Rattle.std.specs.Prelude.{ℕ, List, ◌∷◌, ◌++◌, length, codes}
use Rattle.std.specs.List.{flat_map}
use Rattle.pli_code.specs.Modules.{External, Member, Module}
use Rattle.pli_code.specs.Versions.{version_number}
use Rattle.pli_deck_write.specs.InstructionBytes.{two, four}
use Rattle.pli_deck_write.specs.DeckBytes.{counted, name_bytes, deck_written}

-- an external: its name, its kind, and the unit and the global of its first declaration
abbrev pub external_written : External → List ℕ
external_written e = name_bytes e.name ++ (e.kind ∷ two e.unit ++ two e.global)

-- a unit: its name, its deck after the count of its bytes, and what its external globals stand for
abbrev pub member_written : Member → List ℕ
member_written m =
    name_bytes m.name ++ (four (length (deck_written m.deck)) ++ deck_written m.deck) ++ counted two m.links

-- a module
abbrev pub module_written : Module → List ℕ
module_written m =
    codes "PLIM" ++ version_number m.version
    ∷ (two (length m.units) ++ two m.main ++ counted external_written m.externals)
    ++ flat_map member_written m.units

-- Worked examples: modules, each with its bytes, and faults of modules.
use Rattle.std.specs.Prelude.{◌≡◌, ℕ, List, [], ◌∷◌, Ok, Err, take, ◌++◌, slice_set}
use Rattle.pli_code.specs.declared.fault.DeckFault.TheVariants.{BadMagic, BadVersion, Truncated}
use Rattle.pli_code.specs.declared.fault.DeckFault.TheVariants.{Trailing, OutOfRange, BadNumber}
use Rattle.pli_code.specs.Modules.{Module}
use Rattle.pli_deck_write.specs.ModuleSpelling.{module_bytes, module_read}
use Rattle.pli_code.specs.declared.version.Version.TheVariants.{First, Third}
use Rattle.pli_deck_write.specs.examples.DeckExamples.{smallest, smallest_before, calling, called}

-- one unit
abbrev pub one_unit : Module
one_unit = record {
  version = Third;
  main = 0;
  externals = [];
  units = record { name = 77 ∷ []; deck = smallest; links = [] } ∷ [];
}

-- its bytes
abbrev pub one_unit_bytes : List ℕ
one_unit_bytes =
    80 ∷ 76 ∷ 73 ∷ 77 ∷ 3 ∷ 0 ∷ 1 ∷ 0 ∷ 0 ∷ 0 ∷ 0 ∷ 1 ∷ 77 ∷ 0 ∷ 0 ∷ 0 ∷ 39 ∷ 80 ∷ 76 ∷ 73 ∷ 68 ∷ 3 ∷ 1 ∷
    77 ∷ 1 ∷ 0 ∷ 255 ∷ 255 ∷ 0 ∷ 0 ∷ 0 ∷ 0 ∷ 0 ∷ 0 ∷ 0 ∷ 0 ∷ 0 ∷ 1 ∷ 0 ∷ 255 ∷ 255 ∷ 0 ∷ 0 ∷ 0 ∷ 0 ∷ 0 ∷
    0 ∷ 0 ∷ 0 ∷ 0 ∷ 0 ∷ 1 ∷ 0 ∷ 1 ∷ 9 ∷ 0 ∷ 0 ∷ 0 ∷ []

-- two units that share X, the first of which calls the second
abbrev pub two_units : Module
two_units = record {
  version = Third;
  main = 0;
  externals = record { name = 88 ∷ []; kind = 2; unit = 0; global = 0 } ∷ [];
  units = record { name = 77 ∷ []; deck = calling; links = 0 ∷ 1 ∷ [] }
      ∷ record { name = 81 ∷ []; deck = called; links = 0 ∷ [] } ∷ [];
}

-- its bytes
abbrev pub two_unit_bytes : List ℕ
two_unit_bytes =
    80 ∷ 76 ∷ 73 ∷ 77 ∷ 3 ∷ 0 ∷ 2 ∷ 0 ∷ 0 ∷ 0 ∷ 1 ∷ 1 ∷ 88 ∷ 2 ∷ 0 ∷ 0 ∷ 0 ∷ 0 ∷ 1 ∷ 77 ∷ 0 ∷ 0 ∷ 0 ∷
    73 ∷ 80 ∷ 76 ∷ 73 ∷ 68 ∷ 3 ∷ 1 ∷ 77 ∷ 1 ∷ 0 ∷ 255 ∷ 255 ∷ 0 ∷ 1 ∷ 4 ∷ 0 ∷ 1 ∷ 0 ∷ 1 ∷ 0 ∷ 0 ∷ 0 ∷ 0 ∷
    0 ∷ 0 ∷ 0 ∷ 0 ∷ 0 ∷ 2 ∷ 2 ∷ 1 ∷ 88 ∷ 0 ∷ 0 ∷ 4 ∷ 1 ∷ 81 ∷ 1 ∷ 0 ∷ 0 ∷ 255 ∷ 255 ∷ 0 ∷ 1 ∷ 0 ∷ 255 ∷
    255 ∷ 0 ∷ 0 ∷ 0 ∷ 0 ∷ 0 ∷ 0 ∷ 0 ∷ 0 ∷ 0 ∷ 0 ∷ 1 ∷ 0 ∷ 4 ∷ 1 ∷ 0 ∷ 0 ∷ 0 ∷ 3 ∷ 14 ∷ 0 ∷ 0 ∷ 7 ∷ 0 ∷
    1 ∷ 1 ∷ 9 ∷ 0 ∷ 0 ∷ 2 ∷ 0 ∷ 0 ∷ 0 ∷ 1 ∷ 1 ∷ 81 ∷ 0 ∷ 0 ∷ 0 ∷ 72 ∷ 80 ∷ 76 ∷ 73 ∷ 68 ∷ 3 ∷ 1 ∷ 81 ∷
    0 ∷ 1 ∷ 0 ∷ 0 ∷ 255 ∷ 255 ∷ 0 ∷ 1 ∷ 4 ∷ 0 ∷ 1 ∷ 0 ∷ 1 ∷ 0 ∷ 0 ∷ 0 ∷ 0 ∷ 0 ∷ 0 ∷ 0 ∷ 0 ∷ 0 ∷ 1 ∷ 2 ∷
    1 ∷ 88 ∷ 0 ∷ 0 ∷ 0 ∷ 1 ∷ 0 ∷ 255 ∷ 255 ∷ 1 ∷ 0 ∷ 0 ∷ 0 ∷ 0 ∷ 0 ∷ 0 ∷ 0 ∷ 0 ∷ 0 ∷ 1 ∷ 0 ∷ 7 ∷ 1 ∷ 0 ∷
    0 ∷ 0 ∷ 3 ∷ 14 ∷ 0 ∷ 0 ∷ 13 ∷ 0 ∷ 0 ∷ 0 ∷ 19 ∷ 23 ∷ 0 ∷ 0 ∷ 20 ∷ 9 ∷ 0 ∷ 0 ∷ 1 ∷ 0 ∷ 0 ∷ []

-- one unit in the first version
abbrev pub one_before : Module
one_before = record {
  version = First;
  main = 0;
  externals = [];
  units = record { name = 77 ∷ []; deck = smallest_before; links = [] } ∷ [];
}

-- its bytes
abbrev pub one_before_bytes : List ℕ
one_before_bytes = slice_set (slice_set one_unit_bytes 4 1) 21 1

-- how they are written
abbrev pub ModulesWrittenSo : Type 0
ModulesWrittenSo =
    (module_bytes one_unit ≡ one_unit_bytes) × (module_bytes two_units ≡ two_unit_bytes)
    × (module_bytes one_before ≡ one_before_bytes)

-- how they are read
abbrev pub ModulesReadSo : Type 0
ModulesReadSo =
    (module_read one_unit_bytes ≡ Ok one_unit) × (module_read two_unit_bytes ≡ Ok two_units)
    × (module_read one_before_bytes ≡ Ok one_before)

-- bytes missing, one byte more, another version, a deck of another version than its module's, an unknown
-- instruction, a block that begins at none
abbrev pub ModuleFaultsAre : Type 0
ModuleFaultsAre =
    (module_read (take 3 one_unit_bytes) ≡ Err BadMagic)
    × (module_read (take 4 one_unit_bytes) ≡ Err Truncated)
    × (module_read (take 57 one_unit_bytes) ≡ Err Truncated)
    × (module_read (one_unit_bytes ++ 0 ∷ []) ≡ Err Trailing)
    × (module_read (slice_set one_unit_bytes 4 4) ≡ Err BadVersion)
    × (module_read (slice_set one_unit_bytes 4 1) ≡ Err BadVersion)
    × (module_read (slice_set one_unit_bytes 4 2) ≡ Err BadVersion)
    × (module_read (slice_set one_unit_bytes 54 68) ≡ Err OutOfRange)
    × (module_read (slice_set one_unit_bytes 46 1) ≡ Err BadNumber)

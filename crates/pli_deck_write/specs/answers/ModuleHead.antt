-- What stands before the units in the bytes of a module.
use Rattle.std.specs.Prelude.{ℕ, List, ◌∷◌, ◌++◌, None, length}
use Rattle.byteorder.specs.Endian.{big_bytes}
use Rattle.pli_code.specs.Modules.{Module}
use Rattle.pli_code.specs.Versions.{version_number}
use Rattle.pli_deck_write.specs.ModuleFields.{bytes_after, external_after}

-- PLIM and the version, a count of units, the main one, and externals with their count
abbrev pub head_of : (version : ℕ) → (units main externals : List ℕ) → List ℕ
head_of version units main externals = 80 ∷ 76 ∷ 73 ∷ 77 ∷ version ∷ (units ++ (main ++ externals))

-- those of a module
abbrev pub head_bytes : Module → List ℕ
head_bytes m =
    head_of (version_number m.version) (big_bytes 2 (length m.units)) (big_bytes 2 m.main)
    (big_bytes 2 (length m.externals) ++ bytes_after external_after None m.externals)

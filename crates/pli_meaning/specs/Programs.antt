-- The program that units are (own).
use Rattle.std.specs.Prelude.{ℕ, ◌+◌, List, [], ◌∷◌, if◌then◌else◌}
use Rattle.pli_base.specs.Name.{Name}
use Rattle.pli_type_tree.specs.TypedTree.{TypedUnit}
use Rattle.pli_code.specs.Versions.{greatest_precision, written}
use Rattle.pli_meaning_tree.specs.ProgramMeaning.{TypedProgram}

-- a unit has the name of its member, whatever its procedure is called
abbrev pub of_member : (unit : Name) → TypedUnit → TypedUnit
of_member unit u = record u { name = unit }

-- the program of units, with the one of this number as its main unit
abbrev pub program_of_units : List TypedUnit → (main : ℕ) → TypedProgram
program_of_units us main = record { units = us; main = main; greatest = greatest_precision written }

-- the numbers, from this one on, of the units whose procedures are main procedures
abbrev pub main_numbers : (number : ℕ) → List TypedUnit → List ℕ
main_numbers number [] = []
main_numbers number (u ∷ us) =
    if u.is_main then number ∷ main_numbers (number + 1) us else main_numbers (number + 1) us

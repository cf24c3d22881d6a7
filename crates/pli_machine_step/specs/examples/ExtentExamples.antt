-- Worked examples of extents that are those of the argument: subscripts and bounds of the array that a place is,
-- dummy arguments as long as their strings, and strings fitted to a place.
use Rattle.std.specs.Prelude.{◌≡◌, ℕ, Some, List, [], ◌∷◌, ◌++◌, codes}
use Rattle.pli_run.specs.declared.ending.Ending.TheVariants.{Ended, Error, MachineFault}
use Rattle.pli_run.specs.declared.ending.RunError.TheVariants.{SubscriptRange, DeadLocator}
use Rattle.pli_map.specs.Description.{FixedBinary}
use Rattle.pli_map.specs.declared.dimension.WhichBound.{WhichBound}
use Rattle.pli_map.specs.declared.dimension.WhichBound.TheVariants.{Low, High}
use Rattle.pli_map.specs.declared.parameter.StringForm.{StringForm}
use Rattle.pli_map.specs.declared.parameter.StringForm.TheVariants as forms
use Rattle.pli_operation.specs.declared.operation.Operation.TheVariants.{ToCharacters, LengthOf}
use Rattle.pli_program.specs.Program.{Instruction}
use Rattle.pli_program.specs.declared.instruction.Instruction.TheVariants.{Line, Return, Local, AddressOf}
use Rattle.pli_program.specs.declared.instruction.Instruction.TheVariants.{Based, Load, Operate, Put, Skip}
use Rattle.pli_program.specs.declared.instruction.Instruction.TheVariants.{SubscriptIn, BoundOf}
use Rattle.pli_program.specs.declared.instruction.Instruction.TheVariants.{MakeStringDummy, FitToPlace}
use Rattle.pli_program.specs.Program.{Program}
use Rattle.pli_machine_step.specs.examples.MachineExamples.{gives, after, program, text, number, with_dummy}
use Rattle.pli_machine_step.specs.examples.MachineExamples.{with_variable, row}

-- a number of one digit is printed, and the run ends
abbrev pub print_number : List Instruction
print_number = Operate (ToCharacters 1) ∷ Put ∷ Return 0 ∷ []

-- an element of an array (3) by a subscript of a dimension of it, and what comes then
abbrev pub element_in : (dimension subscript : ℕ) → List Instruction → Program
element_in k subscript more =
    with_variable row (Line 2 ∷ Local 0 0 ∷ number subscript ∷ SubscriptIn k ∷ more)

-- element 3 holds 0, and there is no element 4
abbrev pub DimensionLeads : Type 0
DimensionLeads =
    (after (element_in 1 3 (Load ∷ print_number)) 1 8 ≡ Some (gives (codes "0 ") Ended 3))
    × (after (element_in 1 4 []) 1 4 ≡ Some (gives [] (Error SubscriptRange (codes "M") 2) 1))

-- the array has no second dimension, whatever the subscript is; a number's place has none
abbrev pub NoDimensionFaults : Type 0
NoDimensionFaults =
    (after (element_in 2 9 []) 1 4 ≡ Some (gives [] MachineFault 1))
    × (after (program [] (with_dummy (number 1 ∷ SubscriptIn 1 ∷ []))) 1 4 ≡ Some (gives [] MachineFault 1))

-- a bound of the array, printed
abbrev pub bound : WhichBound → (dimension : ℕ) → Program
bound which k = with_variable row (Local 0 0 ∷ BoundOf which k ∷ print_number)

-- they are 1 and 3; there is no second dimension
abbrev pub BoundsPrint : Type 0
BoundsPrint =
    (after (bound Low 1) 1 5 ≡ Some (gives (codes "1 ") Ended 3))
    × (after (bound High 1) 1 5 ≡ Some (gives (codes "3 ") Ended 3))
    × (after (bound Low 2) 1 2 ≡ Some (gives [] MachineFault 1))

-- the length of what a dummy argument for a string holds, printed
abbrev pub dummy_of_string : StringForm → List ℕ → Program
dummy_of_string form characters =
    program [] (text characters ∷ MakeStringDummy form ∷ Load ∷ Operate LengthOf ∷ print_number)

-- it is the string's; that of an empty one is 1, and that of an empty VARYING one 0
abbrev pub StringDummyHolds : Type 0
StringDummyHolds =
    (after (dummy_of_string forms.Character (codes "AB")) 1 7 ≡ Some (gives (codes "2 ") Ended 3))
    × (after (dummy_of_string forms.Character []) 1 7 ≡ Some (gives (codes "1 ") Ended 3))
    × (after (dummy_of_string forms.Varying []) 1 7 ≡ Some (gives (codes "0 ") Ended 3))

-- there is none for a number, nor one of bits for characters
abbrev pub StringDummyFaults : Type 0
StringDummyFaults =
    (after (program [] (number 1 ∷ MakeStringDummy forms.Character ∷ [])) 1 2
    ≡ Some (gives [] MachineFault 1))
    × (after (dummy_of_string forms.Bit (codes "1")) 1 2 ≡ Some (gives [] MachineFault 1))

-- a string is fitted to the place below it, whose dummy argument lives on
abbrev pub FitsToPlace : Type 0
FitsToPlace =
    after
    (program []
    (text (codes "AB") ∷ MakeStringDummy forms.Character ∷ text (codes "XYZ") ∷ FitToPlace ∷ Put ∷ Skip
    ∷ Load ∷ Put ∷ Return 0 ∷ [])) 1 9
    ≡ Some (gives (codes "XY " ++ 10 ∷ codes "AB ") Ended 4)

-- a number's place takes no string, and a value is no place
abbrev pub FittingFaults : Type 0
FittingFaults =
    (after (program [] (with_dummy (text (codes "A") ∷ FitToPlace ∷ []))) 1 4
    ≡ Some (gives [] MachineFault 1))
    × (after (program [] (text (codes "A") ∷ text (codes "B") ∷ FitToPlace ∷ [])) 1 3
    ≡ Some (gives [] MachineFault 1))

-- the address of such a dummy argument leads nowhere, as it has ended
abbrev pub StringDummyIsDead : Type 0
StringDummyIsDead =
    after
    (program []
    (Line 2 ∷ text (codes "AB") ∷ MakeStringDummy forms.Character ∷ AddressOf ∷ Based (FixedBinary 15) ∷ []))
    1 5
    ≡ Some (gives [] (Error DeadLocator (codes "M") 2) 1)

-- Worked examples of words.
use Rattle.std.specs.Prelude.{◌≡◌, [], ◌∷◌, codes, Some}
use Rattle.clap.specs.declared.error.kind.ErrorKind.TheVariants as kind
use Rattle.pli_bench.specs.CommandLine.{faults, steps_text}

-- without words a bare RUN has a million steps
abbrev pub NoWords : Type 0
NoWords = (faults [] ≡ []) × (steps_text [] ≡ Some (codes "1000000"))

-- `--steps 5` names five
abbrev pub FiveSteps : Type 0
FiveSteps =
    (faults (codes "--steps" ∷ codes "5" ∷ []) ≡ [])
    × (steps_text (codes "--steps" ∷ codes "5" ∷ []) ≡ Some (codes "5"))

-- `--steps=x` names no number
abbrev pub StepsAreNoNumber : Type 0
StepsAreNoNumber = faults (codes "--steps=x" ∷ []) ≡ kind.ValueValidation ∷ []

-- `FILE` is no word of the program
abbrev pub FileIsNoWord : Type 0
FileIsNoWord = faults (codes "FILE" ∷ []) ≡ kind.UnknownArgument ∷ []

-- `--help` asks for the text about the words
abbrev pub HelpIsAsked : Type 0
HelpIsAsked = faults (codes "--help" ∷ []) ≡ kind.DisplayHelp ∷ []

-- The faults of what compiling gives.
use Rattle.std.specs.Prelude.{Result, Ok, Err, List, []}
use Rattle.pli_base.specs.declared.token.Fault.{Fault}
use Rattle.pli_type_rules.specs.laws.Laws.{IsFault}

-- all faults; none where there is a deck
abbrev pub faults_of : {A : Type 0} → Result A (List Fault) → List Fault
faults_of (Ok deck) = []
faults_of (Err faults) = faults

-- a deck, or one fault at least
abbrev pub IsDeckOrFaults : {A : Type 0} → Result A (List Fault) → Type 0
IsDeckOrFaults (Ok deck) = Unit {0}
IsDeckOrFaults (Err faults) = IsFault faults

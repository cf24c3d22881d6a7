-- What the passes of the compiler answer, apart from where it lies in memory.
use Rattle.std.specs.Prelude.{◌≡◌, List, [], ◌∷◌, Result, Ok, Err}
use Rattle.std.specs.Global.{Vec}
use Rattle.pli_base.specs.declared.token.Fault as fault
use Rattle.pli_base.specs.declared.failure.Failure.{Failure}
use Rattle.pli_base.specs.declared.failure.Failure.TheVariants as failures
use Rattle.pli_gen.specs.declared.generating.GenerateError.{GenerateError}
use Rattle.pli_gen.specs.declared.generating.GenerateError.TheVariants as generating
use Rattle.pli_code.specs.CodeTables as plain
use Rattle.pli_code.specs.views.CodeView.{deck_view}
use Rattle.pli_code.specs.declared.code.Deck.{Deck}
use Rattle.pli_meaning.specs.Scratch.{too_long}
use Rattle.pli_deck.specs.declared.passes.CompileError.{CompileError}
use Rattle.pli_deck.specs.declared.passes.CompileError.TheVariants.{Fault, Faults, OutOfMemory}

-- the errors of the passes, as errors of compiling

-- what reading has told
abbrev pub of_fault : Failure fault.Fault → CompileError
of_fault (failures.Fault f) = Fault f
of_fault failures.OutOfMemory = OutOfMemory

-- what declarations, or types, have told
abbrev pub of_faults : Failure (Vec fault.Fault) → CompileError
of_faults (failures.Fault faults) = Faults faults
of_faults failures.OutOfMemory = OutOfMemory

-- what code has told
abbrev pub of_generating : GenerateError → CompileError
of_generating generating.TooLong = Fault too_long
of_generating generating.OutOfMemory = OutOfMemory

-- the deck of the unit, or its faults, unless memory runs out
abbrev pub Compiles : Result Deck CompileError → Result plain.Deck (List fault.Fault) → Type 0
Compiles (Ok d) compiled = compiled ≡ Ok (deck_view d)
Compiles (Err (Fault f)) compiled = compiled ≡ Err (f ∷ [])
Compiles (Err (Faults fs)) compiled = compiled ≡ Err fs.items
Compiles (Err OutOfMemory) compiled = Unit {0}

-- The errors that end a run: each with its label and its text (own).
use Rattle.std.specs.Prelude.{ℕ, List, ◌∷◌, ◌++◌, codes}
use Rattle.pli_run.specs.declared.ending.RunError.{RunError}
use Rattle.pli_run.specs.declared.ending.RunError.TheVariants.{SubscriptRange, StringRange, NullLocator}
use Rattle.pli_run.specs.declared.ending.RunError.TheVariants.{DeadLocator, DescriptionMismatch}
use Rattle.pli_run.specs.declared.ending.RunError.TheVariants.{NoGeneration, OutsideArea, NoReturnedValue}
use Rattle.pli_run.specs.declared.ending.RunError.TheVariants.{FixedOverflow, ZeroDivide, Area, StorageLimit}
use Rattle.pli_run.specs.declared.ending.RunError.TheVariants.{TooManyActivations}

-- the table: of each error its label and its text
abbrev pub error_entry : RunError → List ℕ × List ℕ
error_entry SubscriptRange = (codes "E1", codes "SUBSCRIPT RANGE")
error_entry StringRange = (codes "E2", codes "STRING RANGE")
error_entry NullLocator = (codes "E3", codes "NULL LOCATOR")
error_entry DeadLocator = (codes "E4", codes "DEAD LOCATOR")
error_entry DescriptionMismatch = (codes "E5", codes "DESCRIPTION MISMATCH")
error_entry NoGeneration = (codes "E6", codes "NO GENERATION")
error_entry OutsideArea = (codes "E7", codes "OUTSIDE AREA")
error_entry NoReturnedValue = (codes "E8", codes "NO RETURNED VALUE")
error_entry FixedOverflow = (codes "E9", codes "FIXEDOVERFLOW")
error_entry ZeroDivide = (codes "E10", codes "ZERODIVIDE")
error_entry Area = (codes "E11", codes "AREA")
error_entry StorageLimit = (codes "E12", codes "STORAGE LIMIT")
error_entry TooManyActivations = (codes "E13", codes "TOO MANY ACTIVATIONS")

-- its label
abbrev pub error_label : RunError → List ℕ
error_label e = (error_entry e).0

-- its text
abbrev pub error_text : RunError → List ℕ
error_text e = (error_entry e).1

-- an error as it is shown: its label, a blank and its text
abbrev pub error_shown : RunError → List ℕ
error_shown e = error_label e ++ 32 ∷ error_text e

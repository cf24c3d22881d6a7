-- How runs end. In a world a unit has its number alone; its name is looked up where an end is told.
use Rattle.std.specs.Prelude.{ℕ, Option, Some, None, List, slice_get}
use Rattle.pli_base.specs.Name.{Name}
use Rattle.pli_run.specs.declared.ending.Ending.{Ending}
use Rattle.pli_run.specs.declared.ending.Ending.TheVariants as ending
use Rattle.pli_run.specs.declared.ending.RunError.{RunError}

-- by the end of the main procedure; where the next step would be one too many; by an error at a statement of
-- the unit of a number; or where no rule of the machine fits
pub data RunEnd : Type 0 where
  Ended : RunEnd
  OutOfSteps : RunEnd
  Error : (error : RunError) (unit statement : ℕ) → RunEnd
  MachineFault : RunEnd

-- an error as it is told, by the name of its unit; there is such a unit wherever one is raised
abbrev pub error_told : RunError → (unit : Option Name) → (statement : ℕ) → Ending
error_told e None statement = ending.MachineFault
error_told e (Some unit) statement = ending.Error e unit statement

-- an end as it is told, where the units have these names
abbrev pub told : (names : List Name) → RunEnd → Ending
told names Ended = ending.Ended
told names OutOfSteps = ending.OutOfSteps
told names (Error e unit statement) = error_told e (slice_get names unit) statement
told names MachineFault = ending.MachineFault

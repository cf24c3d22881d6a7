-- Conditions (X3.74): the errors that an ON-unit may take, which unit takes one, and how units are established
-- and removed.
use Rattle.std.specs.Prelude.{ℕ, suc, Bool, false, Option, Some, None, List, [], ◌∷◌, length}
use Rattle.std.specs.Prelude.{if◌then◌else◌}
use Rattle.pli_base.specs.declared.statement.Condition.{Condition}
use Rattle.pli_base.specs.declared.statement.Condition.TheVariants as conditions
use Rattle.pli_run.specs.declared.ending.RunError.{RunError}
use Rattle.pli_run.specs.declared.ending.RunError.TheVariants as errors
use Rattle.pli_world.specs.Activations.{Activation, is_of, on_unit_for, with_on_unit}
use Rattle.pli_world.specs.World.{World, Answer, Yields, Raises, Wrong, in_newest}

-- the condition that an error is, if units may take it
abbrev pub condition_of : RunError → Option Condition
condition_of errors.FixedOverflow = Some conditions.FixedOverflow
condition_of errors.ZeroDivide = Some conditions.ZeroDivide
condition_of errors.Area = Some conditions.Area
condition_of error = None

-- the error that ends the run where no unit takes a condition
abbrev pub error_of : Condition → RunError
error_of conditions.FixedOverflow = errors.FixedOverflow
error_of conditions.ZeroDivide = errors.ZeroDivide
error_of conditions.Area = errors.Area

-- the ON-unit that takes a condition: the number of its unit and that of its block, and the height of the
-- activation that established it, which its outer names mean
pub record Handler : Type 0 where
  pub unit : ℕ
  pub block : ℕ
  pub link : ℕ

-- the ON-unit of an activation of a unit and a height, if it has one, else that of an older one
abbrev pub or_older : Option ℕ → (unit height : ℕ) → (older : Option Handler) → Option Handler
or_older None unit height older = older
or_older (Some block) unit height older = Some (record { unit = unit; block = block; link = height })

-- the one of the newest activation that has one for the condition
abbrev pub handler : Condition → List Activation → Option Handler
handler c [] = None
handler c (a ∷ older) = or_older (on_unit_for c a.on_units) a.unit (suc (length older)) (handler c older)

-- the newest activation is one of this block
abbrev pub is_newest : (unit : ℕ) → (block : Option ℕ) → List Activation → Bool
is_newest unit (Some block) (a ∷ older) = is_of unit block a
is_newest unit block activations = false

-- ON: the newest activation has this unit for the condition, in the place of one that it had; it is one of the
-- block in which the unit stands
unfoldable pub established : (unit : ℕ) → (parent : Option ℕ) → Condition → (block : ℕ) → World
    → Answer Unit
established unit parent c block w =
    if is_newest unit parent w.activations
    then Yields tt
    (in_newest (λ a. record a { on_units = with_on_unit c (Some block) a.on_units }) w)
    else Wrong

-- REVERT: the newest activation has none for the condition
unfoldable pub reverted : Condition → World → World
reverted c w = in_newest (λ a. record a { on_units = with_on_unit c None a.on_units }) w

-- SIGNAL: the condition is raised
abbrev pub signalled : Condition → World → Answer Unit
signalled c w = Raises (error_of c) w

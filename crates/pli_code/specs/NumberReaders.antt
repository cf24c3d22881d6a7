-- What the numbers of errors, relations, conditions, bounds and forms of strings stand for (own).
use Rattle.std.specs.Prelude.{ℕ, [], ◌∷◌, get_or}
use Rattle.pli_base.specs.declared.statement.Condition.{Condition}
use Rattle.pli_base.specs.declared.statement.Condition.TheVariants as conditions
use Rattle.pli_map.specs.declared.dimension.WhichBound.{WhichBound}
use Rattle.pli_map.specs.declared.dimension.WhichBound.TheVariants as bounds
use Rattle.pli_map.specs.declared.parameter.StringForm.{StringForm}
use Rattle.pli_map.specs.declared.parameter.StringForm.TheVariants as forms
use Rattle.pli_run.specs.declared.ending.RunError.{RunError}
use Rattle.pli_run.specs.declared.ending.RunError.TheVariants as errors
use Rattle.pli_operation.specs.declared.operation.Relation.{Relation}
use Rattle.pli_operation.specs.declared.operation.Relation.TheVariants as relations

-- the error of a number from 1 to 13; a number that no error has is not asked for
abbrev pub error_of : ℕ → RunError
error_of n =
    get_or (errors.TooManyActivations ∷ errors.SubscriptRange ∷ errors.StringRange ∷ errors.NullLocator
    ∷ errors.DeadLocator ∷ errors.DescriptionMismatch ∷ errors.NoGeneration ∷ errors.OutsideArea
    ∷ errors.NoReturnedValue ∷ errors.FixedOverflow ∷ errors.ZeroDivide ∷ errors.Area
    ∷ errors.StorageLimit ∷ []) n errors.TooManyActivations

-- the relation of a number from 0 to 5
abbrev pub relation_of : ℕ → Relation
relation_of n =
    get_or (relations.Equal ∷ relations.Unequal ∷ relations.Less ∷ relations.AtMost ∷ relations.Greater
    ∷ []) n relations.AtLeast

-- the condition of a number from 0 to 2
abbrev pub condition_of : ℕ → Condition
condition_of n = get_or (conditions.FixedOverflow ∷ conditions.ZeroDivide ∷ []) n conditions.Area

-- the bound of a number, 0 or 1
abbrev pub which_of : ℕ → WhichBound
which_of n = get_or (bounds.Low ∷ []) n bounds.High

-- the form of a number from 2 to 4
abbrev pub string_form_of : ℕ → StringForm
string_form_of n =
    get_or (forms.Bit ∷ forms.Bit ∷ forms.Character ∷ forms.Varying ∷ []) n forms.Bit

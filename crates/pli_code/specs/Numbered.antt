-- The numbers that stand in bytes for errors, relations, conditions, bounds and forms of strings (own).
use Rattle.std.specs.Prelude.{ℕ}
use Rattle.pli_base.specs.declared.statement.Condition.{Condition}
use Rattle.pli_base.specs.declared.statement.Condition.TheVariants as conditions
use Rattle.pli_map.specs.declared.dimension.WhichBound.{WhichBound}
use Rattle.pli_map.specs.declared.dimension.WhichBound.TheVariants as bounds
use Rattle.pli_map.specs.declared.parameter.StringForm.{StringForm}
use Rattle.pli_map.specs.declared.parameter.StringForm.TheVariants as forms
use Rattle.pli_run.specs.declared.ending.RunError.{RunError}
use Rattle.pli_run.specs.declared.ending.RunError.TheVariants as errors
use Rattle.pli_operation.specs.declared.operation.Relation.{Relation}
use Rattle.pli_operation.specs.declared.operation.Relation.TheVariants as relations
use Rattle.pli_program.specs.Program.{BlockKind, Procedure, BeginBlock, OnUnit}

-- the number of an error, from 1 to 13
abbrev pub error_number : RunError → ℕ
error_number errors.SubscriptRange = 1
error_number errors.StringRange = 2
error_number errors.NullLocator = 3
error_number errors.DeadLocator = 4
error_number errors.DescriptionMismatch = 5
error_number errors.NoGeneration = 6
error_number errors.OutsideArea = 7
error_number errors.NoReturnedValue = 8
error_number errors.FixedOverflow = 9
error_number errors.ZeroDivide = 10
error_number errors.Area = 11
error_number errors.StorageLimit = 12
error_number errors.TooManyActivations = 13

-- the number of a relation, from 0 to 5
abbrev pub relation_number : Relation → ℕ
relation_number relations.Equal = 0
relation_number relations.Unequal = 1
relation_number relations.Less = 2
relation_number relations.AtMost = 3
relation_number relations.Greater = 4
relation_number relations.AtLeast = 5

-- the number of a condition, from 0 to 2
abbrev pub condition_number : Condition → ℕ
condition_number conditions.FixedOverflow = 0
condition_number conditions.ZeroDivide = 1
condition_number conditions.Area = 2

-- the number of a bound, 0 or 1
abbrev pub bound_number : WhichBound → ℕ
bound_number bounds.Low = 0
bound_number bounds.High = 1

-- the number of a form of strings, from 2 to 4: the tag of its descriptions
abbrev pub string_number : StringForm → ℕ
string_number forms.Character = 2
string_number forms.Varying = 3
string_number forms.Bit = 4

-- the number of a block's kind: 0 for a procedure, 1 for a BEGIN block and 2 for an ON-unit
abbrev pub kind_number : BlockKind → ℕ
kind_number Procedure = 0
kind_number BeginBlock = 1
kind_number OnUnit = 2

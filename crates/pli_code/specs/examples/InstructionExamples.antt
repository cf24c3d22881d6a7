-- Worked examples: instructions, each with its bytes, in any version and in one.
use Rattle.std.specs.Prelude.{◌≡◌, [], ◌∷◌, Ok, Err}
use Rattle.pli_base.specs.declared.statement.Condition.TheVariants as conditions
use Rattle.pli_run.specs.declared.ending.RunError.TheVariants as errors
use Rattle.pli_operation.specs.declared.operation.Operation.TheVariants.{Compare, Divide}
use Rattle.pli_operation.specs.declared.operation.Relation.TheVariants as relations
use Rattle.pli_map.specs.declared.dimension.WhichBound.TheVariants as bounds
use Rattle.pli_map.specs.declared.parameter.StringForm.TheVariants as forms
use Rattle.pli_code.specs.declared.fault.DeckFault.TheVariants.{OutOfRange, Truncated}
use Rattle.pli_program.specs.declared.instruction.Instruction.TheVariants as op
use Rattle.pli_code.specs.declared.version.Version.TheVariants.{First, Second, Third}
use Rattle.pli_code.specs.Instructions.{instruction, instruction_in}

-- instructions with an error, a relation and a condition; the first and the last number of each; the
-- precision of a quotient in each version
abbrev pub NumberedSo : Type 0
NumberedSo =
    (instruction.bytes_of (op.Raise errors.SubscriptRange) ≡ 11 ∷ 1 ∷ [])
    × (instruction.bytes_of (op.Raise errors.TooManyActivations) ≡ 11 ∷ 13 ∷ [])
    × (instruction.bytes_of (op.Operate (Compare relations.Equal)) ≡ 36 ∷ 0 ∷ [])
    × (instruction.bytes_of (op.Operate (Compare relations.AtLeast)) ≡ 36 ∷ 5 ∷ [])
    × (instruction.bytes_of (op.On conditions.FixedOverflow 7) ≡ 56 ∷ 0 ∷ 0 ∷ 7 ∷ [])
    × (instruction.bytes_of (op.Signal conditions.Area) ≡ 58 ∷ 2 ∷ [])
    × (instruction.read (11 ∷ 10 ∷ 60 ∷ []) ≡ Ok (op.Raise errors.ZeroDivide, 60 ∷ []))
    × (instruction.read (11 ∷ 0 ∷ []) ≡ Err OutOfRange) × (instruction.read (11 ∷ 14 ∷ []) ≡ Err OutOfRange)
    × (instruction.read (36 ∷ 6 ∷ []) ≡ Err OutOfRange) × (instruction.read (57 ∷ 3 ∷ []) ≡ Err OutOfRange)
    × ((instruction_in First).read (30 ∷ 31 ∷ []) ≡ Ok (op.Operate (Divide 31), []))
    × ((instruction_in First).read (30 ∷ 32 ∷ []) ≡ Err OutOfRange)
    × ((instruction_in Second).read (30 ∷ 63 ∷ []) ≡ Ok (op.Operate (Divide 63), []))
    × ((instruction_in Second).read (30 ∷ 64 ∷ []) ≡ Err OutOfRange)
    × ((instruction_in Third).read (30 ∷ 63 ∷ []) ≡ Ok (op.Operate (Divide 63), []))

-- instructions for types with a `*`; dimensions, bounds and forms of strings that there are not; and that in
-- older versions nothing stands after such an opcode
abbrev pub StarredSo : Type 0
StarredSo =
    (instruction.bytes_of (op.SubscriptIn 1) ≡ 64 ∷ 1 ∷ [])
    × (instruction.bytes_of (op.BoundOf bounds.High 8) ≡ 65 ∷ 1 ∷ 8 ∷ [])
    × (instruction.bytes_of (op.MakeStringDummy forms.Varying) ≡ 66 ∷ 3 ∷ [])
    × ((instruction_in Third).read (64 ∷ 8 ∷ 60 ∷ []) ≡ Ok (op.SubscriptIn 8, 60 ∷ []))
    × ((instruction_in Third).read (65 ∷ 0 ∷ 1 ∷ []) ≡ Ok (op.BoundOf bounds.Low 1, []))
    × ((instruction_in Third).read (66 ∷ 2 ∷ []) ≡ Ok (op.MakeStringDummy forms.Character, []))
    × ((instruction_in Third).read (67 ∷ 60 ∷ []) ≡ Ok (op.FitToPlace, 60 ∷ []))
    × (instruction.read (64 ∷ 0 ∷ []) ≡ Err OutOfRange) × (instruction.read (64 ∷ 9 ∷ []) ≡ Err OutOfRange)
    × (instruction.read (65 ∷ 2 ∷ 1 ∷ []) ≡ Err OutOfRange)
    × (instruction.read (66 ∷ 1 ∷ []) ≡ Err OutOfRange) × (instruction.read (66 ∷ 5 ∷ []) ≡ Err OutOfRange)
    × (instruction.read (68 ∷ []) ≡ Err OutOfRange)
    × ((instruction_in Third).read (64 ∷ []) ≡ Err Truncated)
    × ((instruction_in Second).read (64 ∷ []) ≡ Err OutOfRange)
    × ((instruction_in First).read (67 ∷ []) ≡ Err OutOfRange)

-- The bytes of instructions, as they are written (own): a byte that says which, and its operands. A number of
-- more bytes than one has its highest byte first.
use Rattle.std.specs.Prelude.{ℕ, ℤ, List, [], ◌∷◌, ◌++◌}
use Rattle.std.specs.Int.{w32, cast_unsigned}
use Rattle.byteorder.specs.Endian.{big_bytes}
use Rattle.pli_operation.specs.declared.operation.Operation.{Operation}
use Rattle.pli_operation.specs.declared.operation.Operation.TheVariants as calculate
use Rattle.pli_code.specs.CodedInstruction.{Instruction}
use Rattle.pli_program.specs.declared.instruction.Instruction.TheVariants as op
use Rattle.pli_code.specs.Numbered.{error_number, relation_number, condition_number, bound_number}
use Rattle.pli_code.specs.Numbered.{string_number}

-- a number in two bytes
abbrev pub two : ℕ → List ℕ
two n = big_bytes 2 n

-- a number in four
abbrev pub four : ℕ → List ℕ
four n = big_bytes 4 n

-- a bound of a dimension in four, in two's complement
abbrev pub bound_bytes : ℤ → List ℕ
bound_bytes z = four (cast_unsigned w32 z)

-- an operation: its opcode, and its width, its precision or its relation
abbrev pub operation_bytes : Operation → List ℕ
operation_bytes (calculate.ToCharacters width) = 24 ∷ width ∷ []
operation_bytes calculate.FromBits = 25 ∷ []
operation_bytes calculate.Add = 26 ∷ []
operation_bytes calculate.Subtract = 27 ∷ []
operation_bytes calculate.Multiply = 28 ∷ []
operation_bytes calculate.Negate = 29 ∷ []
operation_bytes (calculate.Divide precision) = 30 ∷ precision ∷ []
operation_bytes calculate.Modulo = 31 ∷ []
operation_bytes calculate.Absolute = 32 ∷ []
operation_bytes calculate.Sign = 33 ∷ []
operation_bytes calculate.Greatest = 34 ∷ []
operation_bytes calculate.Least = 35 ∷ []
operation_bytes (calculate.Compare relation) = 36 ∷ relation_number relation ∷ []
operation_bytes calculate.Concatenate = 37 ∷ []
operation_bytes calculate.And = 38 ∷ []
operation_bytes calculate.Or = 39 ∷ []
operation_bytes calculate.Not = 40 ∷ []
operation_bytes calculate.LengthOf = 41 ∷ []
operation_bytes calculate.Index = 42 ∷ []
operation_bytes calculate.Substring = 43 ∷ []
operation_bytes calculate.Rest = 44 ∷ []
operation_bytes calculate.Within = 63 ∷ []

-- an instruction
abbrev pub instruction_bytes : Instruction → List ℕ
instruction_bytes (op.Step statement) = 1 ∷ four statement
instruction_bytes (op.Line statement) = 2 ∷ four statement
instruction_bytes (op.Jump target) = 3 ∷ two target
instruction_bytes (op.JumpUnless target) = 4 ∷ two target
instruction_bytes (op.Goto outward target) = 5 ∷ outward ∷ two target
instruction_bytes (op.Call block arguments) = 6 ∷ two block ++ arguments ∷ []
instruction_bytes (op.CallExternal global arguments) = 7 ∷ two global ++ arguments ∷ []
instruction_bytes (op.Begin block) = 8 ∷ two block
instruction_bytes (op.Return outward) = 9 ∷ outward ∷ []
instruction_bytes (op.ReturnValue outward) = 10 ∷ outward ∷ []
instruction_bytes (op.Raise error) = 11 ∷ error_number error ∷ []
instruction_bytes op.Stop = 12 ∷ []
instruction_bytes (op.Local outward slot) = 13 ∷ outward ∷ two slot
instruction_bytes (op.Global number) = 14 ∷ two number
instruction_bytes (op.Based description) = 15 ∷ two description
instruction_bytes (op.Field offset description) = 16 ∷ four offset ++ two description
instruction_bytes (op.Subscript low high multiplier) =
    17 ∷ bound_bytes low ++ bound_bytes high ++ four multiplier
instruction_bytes (op.Constant value) = 18 ∷ two value
instruction_bytes op.Load = 19 ∷ []
instruction_bytes op.Store = 20 ∷ []
instruction_bytes op.Copy = 21 ∷ []
instruction_bytes (op.MakeDummy template) = 22 ∷ two template
instruction_bytes (op.Fit description) = 23 ∷ two description
instruction_bytes (op.Operate operation) = operation_bytes operation
instruction_bytes op.AddressOf = 45 ∷ []
instruction_bytes op.ToPointer = 46 ∷ []
instruction_bytes op.ToOffset = 47 ∷ []
instruction_bytes (op.AllocateControlled global) = 48 ∷ two global
instruction_bytes (op.FreeControlled global) = 49 ∷ two global
instruction_bytes (op.CountGenerations global) = 50 ∷ two global
instruction_bytes (op.AllocateBased template) = 51 ∷ two template
instruction_bytes (op.AllocateInArea template target) = 52 ∷ two template ++ two target
instruction_bytes (op.FreeBased description) = 53 ∷ two description
instruction_bytes op.AssignArea = 54 ∷ []
instruction_bytes op.EmptyArea = 55 ∷ []
instruction_bytes (op.On condition block) = 56 ∷ condition_number condition ∷ two block
instruction_bytes (op.Revert condition) = 57 ∷ condition_number condition ∷ []
instruction_bytes (op.Signal condition) = 58 ∷ condition_number condition ∷ []
instruction_bytes op.Put = 59 ∷ []
instruction_bytes op.Skip = 60 ∷ []
instruction_bytes (op.SetTemporary number) = 61 ∷ two number
instruction_bytes (op.TakeTemporary number) = 62 ∷ two number
instruction_bytes (op.SubscriptIn dimension) = 64 ∷ dimension ∷ []
instruction_bytes (op.BoundOf which dimension) = 65 ∷ bound_number which ∷ dimension ∷ []
instruction_bytes (op.MakeStringDummy strings) = 66 ∷ string_number strings ∷ []
instruction_bytes op.FitToPlace = 67 ∷ []

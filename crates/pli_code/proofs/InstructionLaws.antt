-- The laws of the field of instructions.
use Rattle.std.proofs.Common.{◌≡◌, ℕ, true, List, ◌++◌, get_or, Ok, refl, arith}
use Rattle.std.proofs.lemmas.Bool.{and_parts}
use Rattle.pli_operation.specs.declared.operation.Operation.{Operation}
use Rattle.pli_operation.specs.declared.operation.Operation.TheVariants as calculate
use Rattle.pli_code.specs.CodedInstruction.{Instruction}
use Rattle.pli_program.specs.declared.instruction.Instruction.TheVariants as op
use Rattle.pli_code.specs.Fields.{BothWays, checked, nothing, ◌⊗◌, form, made, unknown, u1, u2, u4}
use Rattle.pli_code.specs.Versions.{greatest_precision}
use Rattle.pli_code.specs.declared.version.Version.{Version}
use Rattle.pli_code.specs.declared.version.Version.TheVariants.{Second}
use Rattle.pli_code.specs.Instructions.{precision, quotient_precision, bound, error, relation, condition, dimension_number, which_bound, string_form, operation_form, instruction_form, alone, instruction_readers, instruction, is_instruction_in, is_code_in, instruction_in}
use Rattle.pli_code.proofs.FieldLaws.{IsField, byte_law, u2_law, u4_law, nothing_law, pair_law, from_to_law, checked_law, opened_law, Opens, word_law, both_ways}
use Rattle.pli_code.proofs.FormLaws.{AllRead, Reads, unknown_reads, made_reads, made_again, tagged_law}
use Rattle.pli_code.proofs.NumberedLaws.{error_law, relation_law, condition_law, which_law, string_form_law}

pub precision_law : (v : Version) → IsField (precision v)
precision_law v = from_to_law 1 (greatest_precision v) u1 byte_law

quotient_law : IsField quotient_precision
quotient_law = precision_law Second

pub bound_law : IsField bound
bound_law = word_law 32767 (omega arith)

pub dimension_law : IsField dimension_number
dimension_law = from_to_law 1 8 u1 byte_law

-- what has no operand
bare : (i : Instruction) (tag : ℕ) → instruction_form i ≡ form tag nothing tt → Reads instruction_form tag (alone i)
bare i tag same = made_reads nothing nothing_law (λ (u : Unit {0}). i) instruction_form tag (λ x. same)

operated : (o : Operation) (tag : ℕ) → operation_form o ≡ form tag nothing tt → Reads instruction_form tag (alone (op.Operate o))
operated o tag same = bare (op.Operate o) tag same

-- what has one operand of two bytes
short : (to : ℕ → Instruction) (tag : ℕ) → ((n : ℕ) → instruction_form (to n) ≡ form tag u2 n) → Reads instruction_form tag (made to u2)
short to tag same = made_reads u2 u2_law to instruction_form tag same

-- each reader reads its form
infixr 30 ◌&◌
◌&◌ : {A B : Type 0} → A → B → A × B
a & b = (a, b)

forms_read : AllRead instruction_form 0 instruction_readers
forms_read =
    let f = instruction_form in
    unknown_reads f 0
    & made_reads u4 u4_law op.Step f 1 (λ x. refl)
    & made_reads u4 u4_law op.Line f 2 (λ x. refl)
    & short op.Jump 3 (λ n. refl)
    & short op.JumpUnless 4 (λ n. refl)
    & made_reads (u1 ⊗ u2) (pair_law u1 u2 byte_law u2_law) (λ p. op.Goto p.0 p.1) f 5 (λ x. refl)
    & made_reads (u2 ⊗ u1) (pair_law u2 u1 u2_law byte_law) (λ p. op.Call p.0 p.1) f 6 (λ x. refl)
    & made_reads (u2 ⊗ u1) (pair_law u2 u1 u2_law byte_law) (λ p. op.CallExternal p.0 p.1) f 7 (λ x. refl)
    & short op.Begin 8 (λ n. refl)
    & made_reads u1 byte_law op.Return f 9 (λ x. refl)
    & made_reads u1 byte_law op.ReturnValue f 10 (λ x. refl)
    & made_reads error error_law op.Raise f 11 (λ x. refl)
    & bare op.Stop 12 refl
    & made_reads (u1 ⊗ u2) (pair_law u1 u2 byte_law u2_law) (λ p. op.Local p.0 p.1) f 13 (λ x. refl)
    & short op.Global 14 (λ n. refl)
    & short op.Based 15 (λ n. refl)
    & made_reads (u4 ⊗ u2) (pair_law u4 u2 u4_law u2_law) (λ p. op.Field p.0 p.1) f 16 (λ x. refl)
    & made_reads (bound ⊗ bound ⊗ u4) (pair_law bound (bound ⊗ u4) bound_law (pair_law bound u4 bound_law u4_law)) (λ p. op.Subscript p.0 p.1.0 p.1.1) f 17 (λ x. refl)
    & short op.Constant 18 (λ n. refl)
    & bare op.Load 19 refl
    & bare op.Store 20 refl
    & bare op.Copy 21 refl
    & short op.MakeDummy 22 (λ n. refl)
    & short op.Fit 23 (λ n. refl)
    & made_reads u1 byte_law (λ width. op.Operate (calculate.ToCharacters width)) f 24 (λ x. refl)
    & operated calculate.FromBits 25 refl & operated calculate.Add 26 refl & operated calculate.Subtract 27 refl
    & operated calculate.Multiply 28 refl & operated calculate.Negate 29 refl
    & made_reads quotient_precision quotient_law (λ p. op.Operate (calculate.Divide p)) f 30 (λ x. refl)
    & operated calculate.Modulo 31 refl & operated calculate.Absolute 32 refl & operated calculate.Sign 33 refl
    & operated calculate.Greatest 34 refl & operated calculate.Least 35 refl
    & made_reads relation relation_law (λ k. op.Operate (calculate.Compare k)) f 36 (λ x. refl)
    & operated calculate.Concatenate 37 refl & operated calculate.And 38 refl & operated calculate.Or 39 refl
    & operated calculate.Not 40 refl & operated calculate.LengthOf 41 refl & operated calculate.Index 42 refl
    & operated calculate.Substring 43 refl & operated calculate.Rest 44 refl
    & bare op.AddressOf 45 refl
    & bare op.ToPointer 46 refl
    & bare op.ToOffset 47 refl
    & short op.AllocateControlled 48 (λ n. refl)
    & short op.FreeControlled 49 (λ n. refl)
    & short op.CountGenerations 50 (λ n. refl)
    & short op.AllocateBased 51 (λ n. refl)
    & made_reads (u2 ⊗ u2) (pair_law u2 u2 u2_law u2_law) (λ p. op.AllocateInArea p.0 p.1) f 52 (λ x. refl)
    & short op.FreeBased 53 (λ n. refl)
    & bare op.AssignArea 54 refl
    & bare op.EmptyArea 55 refl
    & made_reads (condition ⊗ u2) (pair_law condition u2 condition_law u2_law) (λ p. op.On p.0 p.1) f 56 (λ x. refl)
    & made_reads condition condition_law op.Revert f 57 (λ x. refl)
    & made_reads condition condition_law op.Signal f 58 (λ x. refl)
    & bare op.Put 59 refl
    & bare op.Skip 60 refl
    & short op.SetTemporary 61 (λ n. refl)
    & short op.TakeTemporary 62 (λ n. refl)
    & operated calculate.Within 63 refl
    & made_reads dimension_number dimension_law op.SubscriptIn f 64 (λ x. refl)
    & made_reads (which_bound ⊗ dimension_number) (pair_law which_bound dimension_number which_law dimension_law) (λ p. op.BoundOf p.0 p.1) f 65 (λ x. refl)
    & made_reads string_form string_form_law op.MakeStringDummy f 66 (λ x. refl)
    & bare op.FitToPlace 67 refl
    & tt

operation_again : (o : Operation) (rest : List ℕ) → (operation_form o).fits ≡ true → get_or instruction_readers (operation_form o).tag unknown ((operation_form o).bytes ++ rest) ≡ Ok (op.Operate o, rest)
operation_again (calculate.ToCharacters width) rest h = made_again u1 byte_law (λ w. op.Operate (calculate.ToCharacters w)) width rest h
operation_again (calculate.Divide p) rest h = made_again quotient_precision quotient_law (λ p. op.Operate (calculate.Divide p)) p rest h
operation_again (calculate.Compare k) rest h = made_again relation relation_law (λ k. op.Operate (calculate.Compare k)) k rest h
operation_again plain rest h = refl

again : (i : Instruction) (rest : List ℕ) → (instruction_form i).fits ≡ true → get_or instruction_readers (instruction_form i).tag unknown ((instruction_form i).bytes ++ rest) ≡ Ok (i, rest)
again (op.Step statement) rest h = made_again u4 u4_law op.Step statement rest h
again (op.Line statement) rest h = made_again u4 u4_law op.Line statement rest h
again (op.Jump target) rest h = made_again u2 u2_law op.Jump target rest h
again (op.JumpUnless target) rest h = made_again u2 u2_law op.JumpUnless target rest h
again (op.Goto outward target) rest h = made_again (u1 ⊗ u2) (pair_law u1 u2 byte_law u2_law) (λ p. op.Goto p.0 p.1) (outward, target) rest h
again (op.Call block arguments) rest h = made_again (u2 ⊗ u1) (pair_law u2 u1 u2_law byte_law) (λ p. op.Call p.0 p.1) (block, arguments) rest h
again (op.CallExternal global arguments) rest h = made_again (u2 ⊗ u1) (pair_law u2 u1 u2_law byte_law) (λ p. op.CallExternal p.0 p.1) (global, arguments) rest h
again (op.Begin block) rest h = made_again u2 u2_law op.Begin block rest h
again (op.Return outward) rest h = made_again u1 byte_law op.Return outward rest h
again (op.ReturnValue outward) rest h = made_again u1 byte_law op.ReturnValue outward rest h
again (op.Raise e) rest h = made_again error error_law op.Raise e rest h
again (op.Local outward slot) rest h = made_again (u1 ⊗ u2) (pair_law u1 u2 byte_law u2_law) (λ p. op.Local p.0 p.1) (outward, slot) rest h
again (op.Global global) rest h = made_again u2 u2_law op.Global global rest h
again (op.Based description) rest h = made_again u2 u2_law op.Based description rest h
again (op.Field offset description) rest h = made_again (u4 ⊗ u2) (pair_law u4 u2 u4_law u2_law) (λ p. op.Field p.0 p.1) (offset, description) rest h
again (op.Subscript low high multiplier) rest h = made_again (bound ⊗ bound ⊗ u4) (pair_law bound (bound ⊗ u4) bound_law (pair_law bound u4 bound_law u4_law)) (λ p. op.Subscript p.0 p.1.0 p.1.1) (low, (high, multiplier)) rest h
again (op.Constant value) rest h = made_again u2 u2_law op.Constant value rest h
again (op.MakeDummy template) rest h = made_again u2 u2_law op.MakeDummy template rest h
again (op.Fit description) rest h = made_again u2 u2_law op.Fit description rest h
again (op.Operate o) rest h = operation_again o rest h
again (op.AllocateControlled global) rest h = made_again u2 u2_law op.AllocateControlled global rest h
again (op.FreeControlled global) rest h = made_again u2 u2_law op.FreeControlled global rest h
again (op.CountGenerations global) rest h = made_again u2 u2_law op.CountGenerations global rest h
again (op.AllocateBased template) rest h = made_again u2 u2_law op.AllocateBased template rest h
again (op.AllocateInArea template target) rest h = made_again (u2 ⊗ u2) (pair_law u2 u2 u2_law u2_law) (λ p. op.AllocateInArea p.0 p.1) (template, target) rest h
again (op.FreeBased description) rest h = made_again u2 u2_law op.FreeBased description rest h
again (op.On c block) rest h = made_again (condition ⊗ u2) (pair_law condition u2 condition_law u2_law) (λ p. op.On p.0 p.1) (c, block) rest h
again (op.Revert c) rest h = made_again condition condition_law op.Revert c rest h
again (op.Signal c) rest h = made_again condition condition_law op.Signal c rest h
again (op.SetTemporary number) rest h = made_again u2 u2_law op.SetTemporary number rest h
again (op.TakeTemporary number) rest h = made_again u2 u2_law op.TakeTemporary number rest h
again (op.SubscriptIn dimension) rest h = made_again dimension_number dimension_law op.SubscriptIn dimension rest h
again (op.BoundOf which dimension) rest h = made_again (which_bound ⊗ dimension_number) (pair_law which_bound dimension_number which_law dimension_law) (λ p. op.BoundOf p.0 p.1) (which, dimension) rest h
again (op.MakeStringDummy strings) rest h = made_again string_form string_form_law op.MakeStringDummy strings rest h
again plain rest h = refl

pub instruction_law : IsField instruction
unfolding instruction
instruction_law = tagged_law instruction_form instruction_readers forms_read again

operation_opens : (v : Version) (o : Operation) → is_code_in v (operation_form o).tag ≡ true
operation_opens v (calculate.Divide p) = refl
operation_opens v other = refl

-- what may stand in a version has an opcode that may
opens_there : (v : Version) (i : Instruction) → is_instruction_in v i ≡ true → Opens (is_code_in v) (instruction.bytes_of i)
unfolding instruction
opens_there v (op.Operate o) h = operation_opens v o
opens_there v (op.SubscriptIn dimension) h = h
opens_there v (op.BoundOf which dimension) h = h
opens_there v (op.MakeStringDummy strings) h = h
opens_there v op.FitToPlace h = h
opens_there v other h = refl

pub instruction_in_law : (v : Version) → IsField (instruction_in v)
instruction_in_law v =
    opened_law (is_code_in v) (checked (is_instruction_in v) instruction) (checked_law (is_instruction_in v) instruction instruction_law)
    (λ i h. opens_there v i (and_parts (instruction.fits i) (is_instruction_in v i) h).1)

pub instructions_both_ways : BothWays instruction
instructions_both_ways = both_ways instruction instruction_law

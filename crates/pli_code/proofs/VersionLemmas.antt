-- Operations and instructions that may stand in every version, and those that may in the written one.
use Rattle.std.proofs.Common.{◌≡◌, ℕ, nat_le, true, refl}
use Rattle.std.specs.Int.{is_in_range}
use Rattle.std.proofs.lemmas.Bool.{and_parts}
use Rattle.pli_map.specs.declared.dimension.WhichBound.{WhichBound}
use Rattle.pli_map.specs.declared.parameter.StringForm.{StringForm}
use Rattle.pli_operation.specs.declared.operation.Operation.{Operation}
use Rattle.pli_operation.specs.declared.operation.Operation.TheVariants as calculate
use Rattle.pli_code.specs.CodedInstruction.{Instruction}
use Rattle.pli_program.specs.declared.instruction.Instruction.TheVariants as op
use Rattle.pli_code.specs.declared.version.Version.{Version}
use Rattle.pli_code.specs.Fields.{u1}
use Rattle.pli_code.specs.Instructions.{instruction, instruction_in, is_instruction_in, is_operation_in}
use Rattle.pli_code.specs.Versions.{written}
use Rattle.pli_code.proofs.FieldLaws.{both_true}

pub no_quotient : (v : Version) (o : Operation) → ((p : ℕ) → o ≡ calculate.Divide p → ⊥) → is_operation_in v o ≡ true
no_quotient v (calculate.Divide p) h = absurd (h p refl)
no_quotient v other h = refl

-- what is no operation, and is not for types with a `*`
pub stands_everywhere : (v : Version) (i : Instruction) → ((o : Operation) → i ≡ op.Operate o → ⊥)
    → ((k : ℕ) → i ≡ op.SubscriptIn k → ⊥) → ((w : WhichBound) (k : ℕ) → i ≡ op.BoundOf w k → ⊥)
    → ((f : StringForm) → i ≡ op.MakeStringDummy f → ⊥) → (i ≡ op.FitToPlace → ⊥) → is_instruction_in v i ≡ true
stands_everywhere v (op.Operate o) a b c d e = absurd (a o refl)
stands_everywhere v (op.SubscriptIn k) a b c d e = absurd (b k refl)
stands_everywhere v (op.BoundOf w k) a b c d e = absurd (c w k refl)
stands_everywhere v (op.MakeStringDummy f) a b c d e = absurd (d f refl)
stands_everywhere v op.FitToPlace a b c d e = absurd (e refl)
stands_everywhere v other a b c d e = refl

-- no instruction that has bytes names a greater precision than the written version has
stands_written : (i : Instruction) → instruction.fits i ≡ true → is_instruction_in written i ≡ true
unfolding instruction
stands_written (op.Operate (calculate.Divide p)) h = (and_parts (nat_le 1 p) (nat_le p 63) (and_parts (u1.fits p) (is_in_range 1 63 p) h).1).1
stands_written other h = refl

pub fits_written : (i : Instruction) → instruction.fits i ≡ true → (instruction_in written).fits i ≡ true
fits_written i h = both_true (instruction.fits i) (is_instruction_in written i) h (stands_written i h)

-- Instructions that name nothing, and those that do not jump.
use Rattle.std.proofs.Common.{◌≡◌, ℕ, [], refl}
use Rattle.pli_base.specs.declared.statement.Condition.{Condition}
use Rattle.pli_code.specs.CodedInstruction.{Instruction}
use Rattle.pli_program.specs.declared.instruction.Instruction.TheVariants as op
use Rattle.pli_deck_write.specs.DeckFaults.{named_by_instruction, targets_of}

pub names_nothing : (i : Instruction) → ((x0 x1 : ℕ) → i ≡ op.Call x0 x1 → ⊥)
    → ((x0 x1 : ℕ) → i ≡ op.CallExternal x0 x1 → ⊥)
    → ((x0 : ℕ) → i ≡ op.Begin x0 → ⊥)
    → ((x0 : ℕ) → i ≡ op.Global x0 → ⊥)
    → ((x0 : ℕ) → i ≡ op.Based x0 → ⊥)
    → ((x0 x1 : ℕ) → i ≡ op.Field x0 x1 → ⊥)
    → ((x0 : ℕ) → i ≡ op.Constant x0 → ⊥)
    → ((x0 : ℕ) → i ≡ op.MakeDummy x0 → ⊥)
    → ((x0 : ℕ) → i ≡ op.Fit x0 → ⊥)
    → ((x0 : ℕ) → i ≡ op.AllocateControlled x0 → ⊥)
    → ((x0 : ℕ) → i ≡ op.FreeControlled x0 → ⊥)
    → ((x0 : ℕ) → i ≡ op.CountGenerations x0 → ⊥)
    → ((x0 : ℕ) → i ≡ op.AllocateBased x0 → ⊥)
    → ((x0 x1 : ℕ) → i ≡ op.AllocateInArea x0 x1 → ⊥)
    → ((x0 : ℕ) → i ≡ op.FreeBased x0 → ⊥)
    → ((x0 : Condition) (x1 : ℕ) → i ≡ op.On x0 x1 → ⊥)
    → named_by_instruction i ≡ []
names_nothing (op.Call x0 x1) h0 _ _ _ _ _ _ _ _ _ _ _ _ _ _ _ = absurd (h0 x0 x1 refl)
names_nothing (op.CallExternal x0 x1) _ h1 _ _ _ _ _ _ _ _ _ _ _ _ _ _ = absurd (h1 x0 x1 refl)
names_nothing (op.Begin x0) _ _ h2 _ _ _ _ _ _ _ _ _ _ _ _ _ = absurd (h2 x0 refl)
names_nothing (op.Global x0) _ _ _ h3 _ _ _ _ _ _ _ _ _ _ _ _ = absurd (h3 x0 refl)
names_nothing (op.Based x0) _ _ _ _ h4 _ _ _ _ _ _ _ _ _ _ _ = absurd (h4 x0 refl)
names_nothing (op.Field x0 x1) _ _ _ _ _ h5 _ _ _ _ _ _ _ _ _ _ = absurd (h5 x0 x1 refl)
names_nothing (op.Constant x0) _ _ _ _ _ _ h6 _ _ _ _ _ _ _ _ _ = absurd (h6 x0 refl)
names_nothing (op.MakeDummy x0) _ _ _ _ _ _ _ h7 _ _ _ _ _ _ _ _ = absurd (h7 x0 refl)
names_nothing (op.Fit x0) _ _ _ _ _ _ _ _ h8 _ _ _ _ _ _ _ = absurd (h8 x0 refl)
names_nothing (op.AllocateControlled x0) _ _ _ _ _ _ _ _ _ h9 _ _ _ _ _ _ = absurd (h9 x0 refl)
names_nothing (op.FreeControlled x0) _ _ _ _ _ _ _ _ _ _ h10 _ _ _ _ _ = absurd (h10 x0 refl)
names_nothing (op.CountGenerations x0) _ _ _ _ _ _ _ _ _ _ _ h11 _ _ _ _ = absurd (h11 x0 refl)
names_nothing (op.AllocateBased x0) _ _ _ _ _ _ _ _ _ _ _ _ h12 _ _ _ = absurd (h12 x0 refl)
names_nothing (op.AllocateInArea x0 x1) _ _ _ _ _ _ _ _ _ _ _ _ _ h13 _ _ = absurd (h13 x0 x1 refl)
names_nothing (op.FreeBased x0) _ _ _ _ _ _ _ _ _ _ _ _ _ _ h14 _ = absurd (h14 x0 refl)
names_nothing (op.On x0 x1) _ _ _ _ _ _ _ _ _ _ _ _ _ _ _ h15 = absurd (h15 x0 x1 refl)
names_nothing other _ _ _ _ _ _ _ _ _ _ _ _ _ _ _ _ = refl

pub jumps_nowhere : (i : Instruction) → ((x0 : ℕ) → i ≡ op.Jump x0 → ⊥)
    → ((x0 : ℕ) → i ≡ op.JumpUnless x0 → ⊥)
    → ((x0 x1 : ℕ) → i ≡ op.Goto x0 x1 → ⊥)
    → ((x0 x1 : ℕ) → i ≡ op.AllocateInArea x0 x1 → ⊥)
    → targets_of i ≡ []
jumps_nowhere (op.Jump x0) h0 _ _ _ = absurd (h0 x0 refl)
jumps_nowhere (op.JumpUnless x0) _ h1 _ _ = absurd (h1 x0 refl)
jumps_nowhere (op.Goto x0 x1) _ _ h2 _ = absurd (h2 x0 x1 refl)
jumps_nowhere (op.AllocateInArea x0 x1) _ _ _ h3 = absurd (h3 x0 x1 refl)
jumps_nowhere other _ _ _ _ = refl

-- Forms of strings for which a module's instructions make dummy arguments.
use Rattle.std.specs.Prelude.{◌≡◌, ◌<◌, ℕ, Bool, true, Some, List, slice_get}
use Rattle.pli_code.specs.CodedInstruction.{Instruction}
use Rattle.pli_program.specs.declared.instruction.Instruction.TheVariants as op
use Rattle.pli_code.specs.declared.module.Member.{Member}
use Rattle.pli_map.specs.declared.parameter.StringForm.{StringForm}
use Rattle.pli_store.specs.answers.Strings.{asks_for}
use Rattle.pli_store.specs.declared.strings.StringForms.{StringForms}

-- the form of an instruction is one of these, if it has one
abbrev pub is_asked : StringForms → Instruction → Bool
is_asked f (op.MakeStringDummy form) = asks_for f form
is_asked f other = true

-- the same of the first so many instructions
abbrev pub AreAskedTo : (count : ℕ) → List Instruction → StringForms → Type 0
AreAskedTo count instructions f =
    (k : ℕ) (i : Instruction) → k < count → slice_get instructions k ≡ Some i → is_asked f i ≡ true

-- of all
abbrev pub AreAsked : List Instruction → StringForms → Type 0
AreAsked instructions f =
    (k : ℕ) (i : Instruction) → slice_get instructions k ≡ Some i → is_asked f i ≡ true

-- and of all of the first so many units
abbrev pub UnitsAskedTo : (count : ℕ) → List Member → StringForms → Type 0
UnitsAskedTo count units f =
    (number : ℕ) (u : Member) → number < count → slice_get units number ≡ Some u
    → AreAsked u.deck.code.instructions.items f

-- of all units
abbrev pub UnitsAsked : List Member → StringForms → Type 0
UnitsAsked units f =
    (number : ℕ) (u : Member) → slice_get units number ≡ Some u
    → AreAsked u.deck.code.instructions.items f

-- these forms are among those
abbrev pub AreAmong : StringForms → StringForms → Type 0
AreAmong f g = (form : StringForm) → asks_for f form ≡ true → asks_for g form ≡ true

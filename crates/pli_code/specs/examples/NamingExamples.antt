-- Worked examples: instructions that name something else, and instructions by the tables of a unit.
use Rattle.std.specs.Prelude.{◌≡◌, ℕ, ◌+◌, pos, Some, None, [], ◌∷◌}
use Rattle.pli_map.specs.Description.{FixedBinary}
use Rattle.pli_map.specs.declared.parameter.StringForm.TheVariants as forms
use Rattle.pli_map.specs.ParameterTypes.{Stated, AnyString}
use Rattle.pli_value.specs.Value.{Number}
use Rattle.pli_program.specs.Naming.{named}
use Rattle.pli_program.specs.Templates.{dummy}
use Rattle.pli_program.specs.declared.instruction.Instruction.TheVariants as op
use Rattle.pli_code.specs.CodedInstruction.{Instruction}
use Rattle.pli_code.specs.CodeTables.{looked_up}
use Rattle.pli_code.specs.Decks.{Code}

-- one entry further in each table: by 1 in the descriptions, by 2 in the templates, by 3 in the values
abbrev pub moved : Instruction → Instruction
moved = named (λ X. X) (λ i. i) (λ X f n. f n) (λ (d : ℕ). d + 1) (λ (t : ℕ). t + 2) (λ (v : ℕ). v + 3)

-- what names a description, a template, a value; and nothing
abbrev pub MovedSo : Type 0
MovedSo =
    (moved (op.Field 4 5) ≡ op.Field 4 6) × (moved (op.MakeDummy 5) ≡ op.MakeDummy 7)
    × (moved (op.Constant 5) ≡ op.Constant 8) × (moved (op.Call 5 1) ≡ op.Call 5 1)

-- a unit with a description and a type in which a `*` stands, a template of each, and two values
abbrev pub tables : Code
tables = record {
  signature = record { parameters = []; result = None };
  descriptions = Stated (FixedBinary 31) ∷ AnyString forms.Varying ∷ [];
  templates = record { description = 0; initial = [] } ∷ record { description = 1; initial = [] } ∷ [];
  values = Number (pos 7) ∷ Number (pos 8) ∷ [];
  globals = [];
  blocks = [];
  instructions = [];
}

-- what is found in its table, and what is not: there is no such entry, or it has a `*`. What names no entry
-- is always found
abbrev pub LookedUpSo : Type 0
LookedUpSo =
    (looked_up tables (op.Field 4 0) ≡ Some (op.Field 4 (FixedBinary 31)))
    × (looked_up tables (op.Field 4 1) ≡ None) × (looked_up tables (op.Field 4 2) ≡ None)
    × (looked_up tables (op.Constant 1) ≡ Some (op.Constant (Number (pos 8))))
    × (looked_up tables (op.Constant 2) ≡ None)
    × (looked_up tables (op.MakeDummy 0) ≡ Some (op.MakeDummy (dummy (FixedBinary 31))))
    × (looked_up tables (op.MakeDummy 1) ≡ None) × (looked_up tables (op.MakeDummy 2) ≡ None)
    × (looked_up tables (op.AllocateInArea 0 9) ≡ Some (op.AllocateInArea (dummy (FixedBinary 31)) 9))
    × (looked_up tables (op.Call 5 1) ≡ Some (op.Call 5 1))

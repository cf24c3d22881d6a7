-- Worked examples: which fault a deck as a whole has.
use Rattle.std.specs.Prelude.{◌≡◌, ℕ, List, [], ◌∷◌, Some, None, pos, negsuc}
use Rattle.pli_map.specs.declared.description.Bounds.{Bounds}
use Rattle.pli_map.specs.Description.{Description, Character, Array, FixedBinary}
use Rattle.pli_code.specs.declared.fault.DeckFault.TheVariants.{BadJump, BadNumber, OverLimit}
use Rattle.pli_code.specs.CodedInstruction.{Instruction}
use Rattle.pli_program.specs.declared.instruction.Instruction.TheVariants as op
use Rattle.pli_code.specs.CodeTables.{CodedTemplate, CodedSignature, Deck}
use Rattle.pli_map.specs.ParameterTypes.{ParameterType, Stated, AnyString, AnyArray}
use Rattle.pli_map.specs.declared.parameter.StringForm.TheVariants as forms
use Rattle.pli_value.specs.Value.{Value, Number, Located}
use Rattle.pli_value.specs.declared.locator.Locator.TheVariants as locators
use Rattle.pli_deck_write.specs.DeckFaults.{fault_of}
use Rattle.pli_deck_write.specs.examples.DeckExamples.{smallest, smallest_code}
use Rattle.pli_deck_write.specs.examples.DeckExamples.{without_parameters, with_parameter}
use Rattle.pli_deck_write.specs.examples.TypeExamples.{two_strings}

-- the smallest deck with other instructions
abbrev pub with_code : List Instruction → Deck
with_code code = record smallest { code = record smallest_code { instructions = code } }

-- the smallest deck with a variable of a description
abbrev pub with_variable : Description → CodedTemplate → Deck
with_variable d t =
    record smallest { code = record smallest_code { descriptions = Stated d ∷ []; templates = t ∷ [] } }

-- the smallest deck with a type, with this signature, templates and instructions
abbrev pub with_type :
    ParameterType → CodedSignature → List CodedTemplate → List Instruction → Deck
with_type t signature templates code = record smallest {
  code = record smallest_code {
    signature = signature;
    descriptions = t ∷ [];
    templates = templates;
    instructions = code;
  };
}

-- a signature whose result is of the first description
abbrev pub gives_first : CodedSignature
gives_first = record { parameters = []; result = Some 0 }

-- -32,767 to 32,767
abbrev pub widest : Bounds
widest = record { low = negsuc 32766; high = pos 32767 }

-- a template without initial values
abbrev pub plain : CodedTemplate
plain = record { description = 0; initial = [] }

-- a template with one initial value, on this byte
abbrev pub begins_as : (offset : ℕ) → Value → CodedTemplate
begins_as offset v =
    record { description = 0; initial = record { offset = offset; value = v } ∷ [] }

-- an array of two numbers
abbrev pub pair_of_numbers : Description
pair_of_numbers = Array (record { low = pos 1; high = pos 2 } ∷ []) (FixedBinary 15)

-- a jump to an instruction and to none; an unknown value, a variable to be counted that is unknown, an
-- unknown description and template of a BASED variable, and one of an area, which leads to no instruction
-- either; one that is too large; initial values at elements, beside them, and beyond a precision
abbrev pub DeckFaultsAre : Type 0
DeckFaultsAre =
    (fault_of smallest ≡ None) × (fault_of (with_code (op.Jump 0 ∷ [])) ≡ None)
    × (fault_of (with_code (op.Jump 2 ∷ [])) ≡ Some BadJump)
    × (fault_of (with_code (op.Constant 0 ∷ [])) ≡ Some BadNumber)
    × (fault_of (with_code (op.CountGenerations 0 ∷ [])) ≡ Some BadNumber)
    × (fault_of (with_code (op.Based 0 ∷ [])) ≡ Some BadNumber)
    × (fault_of (with_code (op.AllocateBased 0 ∷ [])) ≡ Some BadNumber)
    × (fault_of (with_code (op.AllocateInArea 0 0 ∷ [])) ≡ Some BadNumber)
    × (fault_of (with_code (op.AllocateInArea 0 1 ∷ [])) ≡ Some BadJump)
    × (fault_of (with_variable (Array (widest ∷ []) (Character 32767)) plain) ≡ Some OverLimit)
    × (fault_of (with_variable pair_of_numbers (begins_as 2 (Number (pos 32767)))) ≡ None)
    × (fault_of (with_variable pair_of_numbers (begins_as 1 (Number (pos 5)))) ≡ Some OverLimit)
    × (fault_of (with_variable pair_of_numbers (begins_as 4 (Number (pos 5)))) ≡ Some OverLimit)
    × (fault_of (with_variable pair_of_numbers (begins_as 2 (Number (pos 32768)))) ≡ Some OverLimit)
    × (fault_of (with_variable pair_of_numbers (begins_as 0 (Located locators.Null))) ≡ Some OverLimit)

-- an array of numbers, whatever its bounds
abbrev pub numbers : ParameterType
numbers = AnyArray 1 (Stated (FixedBinary 15))

-- a type with a `*`, which a parameter may have, but no result, no template and no instruction; no more may
-- an array have it of which the element alone is open
abbrev pub StarFaultsAre : Type 0
StarFaultsAre =
    (fault_of (with_type (AnyString forms.Character) with_parameter [] (op.Return 0 ∷ [])) ≡ None)
    × (fault_of (with_type two_strings with_parameter [] (op.Return 0 ∷ [])) ≡ None)
    × (fault_of (with_type (AnyString forms.Character) gives_first [] (op.Return 0 ∷ [])) ≡ Some BadNumber)
    × (fault_of (with_type numbers without_parameters (plain ∷ []) (op.Return 0 ∷ [])) ≡ Some BadNumber)
    × (fault_of (with_type two_strings without_parameters [] (op.Field 0 0 ∷ [])) ≡ Some BadNumber)
    × (fault_of (with_type (AnyString forms.Varying) without_parameters [] (op.Fit 0 ∷ [])) ≡ Some BadNumber)
    × (fault_of (with_type (Stated (FixedBinary 15)) gives_first (plain ∷ []) (op.Fit 0 ∷ [])) ≡ None)

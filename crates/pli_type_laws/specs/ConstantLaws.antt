-- The law of constants: the constants of texts are typed as they are written.
use Rattle.std.specs.Prelude.{◌≡◌, ◌<◌, ◌≤◌, ◌^◌, pos, length}
use Rattle.pli_base.specs.declared.syntax.ConstantValue.{ConstantValue}
use Rattle.pli_base.specs.declared.syntax.ConstantValue.TheVariants as constants
use Rattle.pli_type_rules.specs.ExpressionTypes.{literal_value}
use Rattle.pli_type_tree.specs.ValueTypes.{longest}
use Rattle.pli_value.specs.Value.{Value, Number, Characters, Bits}

-- a constant within the limits of the language, as each of a text is: a number of at most 63 binary digits, and
-- of no more digits than are written, or a string of at most 32,767 elements
abbrev pub IsWithinLimits : ConstantValue → Type 0
IsWithinLimits (constants.Decimal value digits) = (value < 2 ^ 63) × (value < 10 ^ digits)
IsWithinLimits (constants.Binary value digits) = (value < 2 ^ digits) × (digits ≤ 63)
IsWithinLimits (constants.Characters text) = length text ≤ longest
IsWithinLimits (constants.Bits bits) = length bits ≤ longest

-- what is written
abbrev pub written_value : ConstantValue → Value
written_value (constants.Decimal value digits) = Number (pos value)
written_value (constants.Binary value digits) = Number (pos value)
written_value (constants.Characters text) = Characters text
written_value (constants.Bits bits) = Bits bits

-- the value of such a constant is what is written
abbrev pub ConstantsAreAsWritten : Type 0
ConstantsAreAsWritten =
    (value : ConstantValue) → IsWithinLimits value → literal_value 63 value ≡ written_value value

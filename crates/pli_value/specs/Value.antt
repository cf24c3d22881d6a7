-- A value of the language, apart from where it lies in memory (X3.74). An area is none: what it holds is
-- storage.
use Rattle.std.specs.Prelude.{ℕ, Bool, ℤ, List}
use Rattle.pli_value.specs.declared.locator.Locator.{Locator}
use Rattle.pli_value.specs.declared.value.Value as code
use Rattle.pli_value.specs.declared.value.Value.TheVariants as variants

-- a number, the codes of characters, bits, or a locator
pub data Value : Type 0 where
  Number : ℤ → Value
  Characters : List ℕ → Value
  Bits : List Bool → Value
  Located : Locator → Value

-- what a value of the program says
abbrev pub value_view : code.Value → Value
value_view (variants.Number x) = Number x
value_view (variants.Characters s) = Characters s.items
value_view (variants.Bits s) = Bits s
value_view (variants.Locator l) = Located l

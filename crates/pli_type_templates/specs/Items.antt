-- Items with INITIAL: which initial values their scalars have.
use Rattle.std.specs.Prelude.{ℕ, Option, Some, None, List, map}
use Rattle.pli_base.specs.declared.declaration.InitialValue.{InitialValue}
use Rattle.pli_base.specs.declared.declaration.InitialValue.TheVariants as initial
use Rattle.pli_base.specs.Declarations.{integer_of}
use Rattle.pli_type_rules.specs.InitialScalars.{InitialItem, each_with, values_written}
use Rattle.pli_type_templates.specs.Plans.{Plan, scalars_planned}
use Rattle.pli_type_tree.specs.Templates.{InitialScalar}
use Rattle.pli_value.specs.Value.{Value, Number, Characters, Bits, Located}
use Rattle.pli_value.specs.declared.locator.Locator.TheVariants as locators

-- for how many elements a value with this factor stands
abbrev pub factor_of : Option ℕ → ℕ
factor_of None = 1
factor_of (Some factor) = factor

-- for how many elements a value stands
abbrev pub elements_of : InitialValue → ℕ
elements_of (initial.Integer factor value) = factor_of factor
elements_of (initial.Characters text) = 1
elements_of (initial.Bits bits) = 1
elements_of initial.Null = 1

-- the value of each of them; null stands as that of pointers
abbrev pub value_of : InitialValue → Value
value_of (initial.Integer factor value) = Number (integer_of value)
value_of (initial.Characters text) = Characters text
value_of (initial.Bits bits) = Bits bits
value_of initial.Null = Located locators.Null

-- scalars on these bytes, each with this value
abbrev pub all_with : Value → List ℕ → List InitialScalar
all_with v ns = map (λ n. record { offset = n; value = v }) ns

-- the initial values of an item of the variable that has this plan
abbrev pub item_scalars : Plan → InitialItem → List InitialScalar
item_scalars p i = each_with (scalars_planned p i.path) (values_written i.values)

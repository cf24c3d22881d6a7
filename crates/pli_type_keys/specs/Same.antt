-- When values and templates are equal, by a test (own).
use Rattle.std.specs.Prelude.{nat_eq, Bool, false, ◌&&◌}
use Rattle.std.specs.Bool.{beq}
use Rattle.std.specs.Cmp.Lexicographic.{pointwise}
use Rattle.std.specs.Ordering.{int_eq}
use Rattle.pli_map.specs.Same.{same}
use Rattle.pli_value.specs.Locators.{same_locator}
use Rattle.pli_value.specs.Value.{Value, Number, Characters, Bits, Located}
use Rattle.pli_type_tree.specs.Templates.{InitialScalar, Template}

-- equal values
abbrev pub same_value : Value → Value → Bool
same_value (Number x) (Number y) = int_eq x y
same_value (Characters s) (Characters t) = pointwise nat_eq s t
same_value (Bits s) (Bits t) = pointwise beq s t
same_value (Located a) (Located b) = same_locator a b
same_value v w = false

-- equal initial values, of the same scalar
abbrev pub same_initial : InitialScalar → InitialScalar → Bool
same_initial a b = nat_eq a.offset b.offset && same_value a.value b.value

-- templates: of one description, with the same initial values
abbrev pub same_template : Template → Template → Bool
same_template a b = same a.description b.description && pointwise same_initial a.initial b.initial

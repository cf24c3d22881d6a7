-- DIVIDE, by the values of its first two arguments.
use Rattle.std.specs.Prelude.{ℕ, Option, Some, None, List, [], ◌∷◌}
use Rattle.pli_type_rules.specs.ExpressionTypes.{TypedValue}
use Rattle.pli_type_rules.specs.FunctionCalls.{Argument, the_quotient}

-- the number that the third of three arguments is, if it is one
abbrev pub precision_written : List Argument → Option (Option ℕ)
precision_written (x ∷ y ∷ p ∷ []) = Some p.written
precision_written arguments = None

-- the quotient of the first two values
abbrev pub quotient_of : (greatest : ℕ) → List TypedValue → (written : Option ℕ) → Option TypedValue
quotient_of greatest (x ∷ y ∷ more) written = the_quotient greatest x y written
quotient_of greatest values written = None

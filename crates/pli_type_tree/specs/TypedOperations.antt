-- Operations of expressions: how many operands they have, and what they come to.
use Rattle.std.specs.Prelude.{ℕ, List, [], ◌∷◌}
use Rattle.pli_operation.specs.Operations.{Calculation, Misfits, arity, calculated, fitted_to}
use Rattle.pli_type_tree.specs.TypedTree.{TypedOperation, Fit, Operate}
use Rattle.pli_value.specs.Value.{Value}

-- how many operands it has
abbrev pub operands_of : TypedOperation → ℕ
operands_of (Fit description) = 1
operands_of (Operate operation) = arity operation

-- what it comes to on its operands, from left to right; numbers have at most so many binary digits
abbrev pub comes_to : (greatest : ℕ) → TypedOperation → List Value → Calculation
comes_to n (Fit description) (v ∷ []) = fitted_to description v
comes_to n (Fit description) other = Misfits
comes_to n (Operate operation) vs = calculated n operation vs

-- The built-in functions and their names (X3.74).
use Rattle.std.specs.Prelude.{Option, Some, None, List, [], ◌∷◌, if◌then◌else◌, codes}
use Rattle.pli_base.specs.Name.{Name}
use Rattle.pli_base.specs.Words.{same_name}
use Rattle.pli_declare.specs.declared.built_in.BuiltInFunction.{BuiltInFunction}
use Rattle.pli_declare.specs.declared.built_in.BuiltInFunction.TheVariants as functions

-- each with its name
abbrev pub built_in_functions : List (Name × BuiltInFunction)
built_in_functions =
    (codes "ABS", functions.Abs) ∷ (codes "MAX", functions.Max) ∷ (codes "MIN", functions.Min)
    ∷ (codes "MOD", functions.Mod) ∷ (codes "DIVIDE", functions.Divide) ∷ (codes "SIGN", functions.Sign)
    ∷ (codes "LENGTH", functions.Length) ∷ (codes "INDEX", functions.Index)
    ∷ (codes "ALLOCATION", functions.Allocation) ∷ (codes "LBOUND", functions.LowBound)
    ∷ (codes "HBOUND", functions.HighBound) ∷ (codes "SUBSTR", functions.Substring)
    ∷ (codes "ADDR", functions.Address) ∷ (codes "NULL", functions.Null) ∷ (codes "EMPTY", functions.Empty)
    ∷ (codes "POINTER", functions.Pointer) ∷ (codes "OFFSET", functions.Offset) ∷ []

-- the first that has this name
abbrev pub function_among : List (Name × BuiltInFunction) → Name → Option BuiltInFunction
function_among [] name = None
function_among (f ∷ fs) name = if same_name name f.0 then Some f.1 else function_among fs name

-- the built-in function of this name
unfoldable pub function_named : Name → Option BuiltInFunction
function_named name = function_among built_in_functions name

-- Built-in functions without the first groups of their list, each with its name.
use Rattle.std.specs.Prelude.{List, [], ◌∷◌, codes}
use Rattle.pli_base.specs.Name.{Name}
use Rattle.pli_declare.specs.declared.built_in.BuiltInFunction.{BuiltInFunction}
use Rattle.pli_declare.specs.declared.built_in.BuiltInFunction.TheVariants as functions

-- SUBSTR and the functions of storage
abbrev pub storage_functions : List (Name × BuiltInFunction)
storage_functions =
    (codes "SUBSTR", functions.Substring) ∷ (codes "ADDR", functions.Address) ∷ (codes "NULL", functions.Null)
    ∷ (codes "EMPTY", functions.Empty) ∷ (codes "POINTER", functions.Pointer)
    ∷ (codes "OFFSET", functions.Offset) ∷ []

-- those, and before them the functions that tell of strings, arrays and controlled variables
abbrev pub further_functions : List (Name × BuiltInFunction)
further_functions =
    (codes "LENGTH", functions.Length) ∷ (codes "INDEX", functions.Index)
    ∷ (codes "ALLOCATION", functions.Allocation) ∷ (codes "LBOUND", functions.LowBound)
    ∷ (codes "HBOUND", functions.HighBound) ∷ storage_functions

-- What the definitions of attributes amount to.
use Rattle.std.specs.Prelude.{◌≡◌, ℕ, ◌^◌, ◌≤◌, Some, None, List}
use Rattle.std.specs.List.{list_any}
use Rattle.pli_base.specs.Declarations as tree
use Rattle.pli_map.specs.Description.{Description, FixedBinary, Character, Varying, Bit, Pointer, Offset}
use Rattle.pli_map.specs.Description.{Area, Array, Structure}
use Rattle.pli_declare.specs.Sets.{has, kind_of, set_of}
use Rattle.pli_declare.specs.Faults.{item_fault, result_fault, parameter_fault, described_scalar}
use Rattle.pli_declare.specs.Completed.{Variable, OfVariable, completed_of}
use Rattle.pli_declare.specs.declared.place.ItemPlace.{ItemPlace}

-- an attribute is in the set exactly where it stands
abbrev pub SetsAreOfWhatStands : Type 0
SetsAreOfWhatStands =
    (attributes : List tree.DescribedAttribute) (i : ℕ) → has (set_of attributes) (2 ^ i)
    ≡ list_any (λ a. has (kind_of a) (2 ^ i)) attributes

-- a type that is neither an array nor a structure, with its number within the limits
abbrev pub IsScalar : Description → Type 0
IsScalar (FixedBinary p) = (1 ≤ p) × (p ≤ 63)
IsScalar (Character n) = (1 ≤ n) × (n ≤ 32767)
IsScalar (Varying n) = (1 ≤ n) × (n ≤ 32767)
IsScalar (Bit n) = (1 ≤ n) × (n ≤ 32767)
IsScalar Pointer = Unit {0}
IsScalar Offset = Unit {0}
IsScalar (Area n) = (1 ≤ n) × (n ≤ 1000000)
IsScalar (Array bounds element) = ⊥
IsScalar (Structure ds) = ⊥

-- a result without a fault has such a type
abbrev pub ResultsAreScalars : Type 0
ResultsAreScalars =
    (attributes : List tree.DescribedAttribute) → result_fault attributes ≡ None
    → IsScalar (described_scalar attributes)

-- and so has a parameter in ENTRY, apart from its dimensions
abbrev pub ParametersAreOfScalars : Type 0
ParametersAreOfScalars =
    (d : tree.ParameterDescription) → parameter_fault d ≡ None → IsScalar (described_scalar d.attributes)

-- and a variable, apart from its dimensions
abbrev pub VariablesAreOfScalars : Type 0
VariablesAreOfScalars =
    (p : ItemPlace) (i : tree.Item) (v : Variable) (d : Description) → item_fault p i ≡ None
    → completed_of p i
    ≡ OfVariable v → v.description ≡ Some d → IsScalar d

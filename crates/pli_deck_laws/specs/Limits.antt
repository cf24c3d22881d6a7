-- What is within the limits of the language: names, descriptions, types of parameters, values, what variables
-- are made from, operations, and what procedures take and give.
use Rattle.std.specs.Prelude.{◌≡◌, ℕ, zero, suc, ◌≤◌, ◌<◌, ◌%◌, ℤ, unsigned_abs, int_le, IsTrue, Option}
use Rattle.std.specs.Prelude.{Some, None, length, true}
use Rattle.std.specs.List.{AllByRecursion}
use Rattle.pli_map.specs.declared.description.Bounds.{Bounds}
use Rattle.pli_map.specs.Description.{Description, FixedBinary, Character, Varying, Bit, Pointer, Offset}
use Rattle.pli_map.specs.Description.{Area, Array, Structure, Members, NoMembers, MemberThen}
use Rattle.pli_map.specs.ParameterTypes.{ParameterType, Stated, AnyString, AnyArray, ArrayOf, StructureOf}
use Rattle.pli_map.specs.Sizes.{size_of}
use Rattle.pli_map.specs.Values.{holds}
use Rattle.pli_operation.specs.declared.operation.Operation.TheVariants.{ToCharacters, Divide}
use Rattle.pli_type_tree.specs.Templates.{InitialScalar, Template}
use Rattle.pli_type_tree.specs.TypedTree.{Stride, Signature, Global, OwnVariable, ExternalVariable}
use Rattle.pli_type_tree.specs.TypedTree.{EntryPoint, TypedOperation, Fit, Operate}
use Rattle.pli_bytes.specs.Contents.{scalar_on, scalars_at}
use Rattle.pli_map.specs.Parts.{PlacedPart}
use Rattle.pli_value.specs.Value.{Value, Number, Characters, Bits, Located}
use Rattle.pli_value.specs.Locators.{is_null}

-- an activation is at most so many static links outward
abbrev pub link_limit : ℕ
link_limit = 64

-- there are at most so many parameters and arguments
abbrev pub parameter_limit : ℕ
parameter_limit = 64

-- a description has at most so many levels
abbrev pub level_limit : ℕ
level_limit = 512

-- numbers of statements, offsets and multipliers are less than this, and so is how many initial values a
-- variable has
abbrev pub word_limit : ℕ
word_limit = 4294967296

-- it holds of what is there, if anything is
abbrev pub IfThere : {X : Type 0} → (X → Type 0) → Option X → Type 0
IfThere Holds None = Unit {0}
IfThere Holds (Some x) = Holds x

-- descriptions

-- a length of 1 to 32,767
abbrev pub IsLength : ℕ → Type 0
IsLength n = (1 ≤ n) × (n ≤ 32767)

-- a precision of 1 to 63
abbrev pub IsPrecision : ℕ → Type 0
IsPrecision p = (1 ≤ p) × (p ≤ 63)

-- a bound is at most 32,767 from 0
abbrev pub IsBound : ℤ → Type 0
IsBound x = unsigned_abs x ≤ 32767

-- the bounds of a dimension: no low one is over its high one
abbrev pub AreBounds : Bounds → Type 0
AreBounds b = IsTrue (int_le b.low b.high) × IsBound b.low × IsBound b.high

-- one to eight dimensions, and one member or more; in at most so many levels
abbrev mutual
  pub IsDescribed : (levels : ℕ) → Description → Type 0
  IsDescribed zero d = ⊥
  IsDescribed (suc n) (FixedBinary p) = IsPrecision p
  IsDescribed (suc n) (Character k) = IsLength k
  IsDescribed (suc n) (Varying k) = IsLength k
  IsDescribed (suc n) (Bit k) = IsLength k
  IsDescribed (suc n) Pointer = Unit {0}
  IsDescribed (suc n) Offset = Unit {0}
  IsDescribed (suc n) (Area k) = (1 ≤ k) × (k ≤ 1000000) × (k % 8 ≡ 0)
  IsDescribed (suc n) (Array bounds element) =
      (1 ≤ length bounds) × (length bounds ≤ 8) × AllByRecursion AreBounds bounds × IsDescribed n element
  IsDescribed (suc n) (Structure NoMembers) = ⊥
  IsDescribed (suc n) (Structure (MemberThen d ds)) = IsDescribed n d × AreDescribed n ds

  -- each member is so
  pub AreDescribed : (levels : ℕ) → Members → Type 0
  AreDescribed n NoMembers = Unit {0}
  AreDescribed n (MemberThen d ds) = IsDescribed n d × AreDescribed n ds

-- a description within the limits
abbrev pub IsDescription : Description → Type 0
IsDescription d = IsDescribed level_limit d

-- types of parameters

-- a number of a dimension, or of dimensions
abbrev pub IsDimension : ℕ → Type 0
IsDimension k = (1 ≤ k) × (k ≤ 8)

-- a scalar within the limits that is no area
abbrev pub IsElement : Description → Type 0
IsElement (FixedBinary p) = IsPrecision p
IsElement (Character n) = IsLength n
IsElement (Varying n) = IsLength n
IsElement (Bit n) = IsLength n
IsElement Pointer = Unit {0}
IsElement Offset = Unit {0}
IsElement d = ⊥

-- a string of any length
abbrev pub IsAnyString : ParameterType → Type 0
IsAnyString (AnyString form) = Unit {0}
IsAnyString type = ⊥

-- an element of an array whose bounds are all `*`: such a scalar, or a string of any length
abbrev pub IsOpenElement : ParameterType → Type 0
IsOpenElement (Stated d) = IsElement d
IsOpenElement type = IsAnyString type

-- what a parameter may be: of a description within the limits; a string of any length; an array whose bounds
-- are all `*`; one of bounds within the limits, of strings of any length
abbrev pub IsParameterType : ParameterType → Type 0
IsParameterType (Stated d) = IsDescription d
IsParameterType (AnyString form) = Unit {0}
IsParameterType (AnyArray k element) = IsDimension k × IsOpenElement element
IsParameterType (ArrayOf bounds element) =
    IsDimension (length bounds) × AllByRecursion AreBounds bounds × IsAnyString element
IsParameterType (StructureOf types) = ⊥

-- values

-- a number of at most 63 binary digits, a string of at most 32,767 elements, or null
abbrev pub IsConstant : Value → Type 0
IsConstant (Number x) = unsigned_abs x ≤ 9223372036854775807
IsConstant (Characters text) = length text ≤ 32767
IsConstant (Bits bits) = length bits ≤ 32767
IsConstant (Located l) = is_null l ≡ true

-- variables

-- what is made of a description takes at most 1,000,000 bytes
abbrev pub IsMade : Description → Type 0
IsMade d = IsDescription d × (size_of d ≤ 1000000)

-- an initial value is one that the scalar may hold which begins on its byte
abbrev pub IsInitial : Description → InitialScalar → Type 0
IsInitial d i =
    ((s : PlacedPart) × (scalar_on i.offset (scalars_at d) ≡ Some s) × IsTrue (holds s.description i.value))
    × IsConstant i.value

-- what a variable is made from, with fewer than 2^32 initial values
abbrev pub IsTemplate : Template → Type 0
IsTemplate t =
    IsMade t.description × AllByRecursion (IsInitial t.description) t.initial
    × (length t.initial < word_limit)

-- operations and subscripts

-- what an operation has beside its operands is within the limits
abbrev pub IsOperation : TypedOperation → Type 0
IsOperation (Fit d) = IsDescription d
IsOperation (Operate (ToCharacters width)) = width ≤ 255
IsOperation (Operate (Divide precision)) = IsPrecision precision
IsOperation operation = Unit {0}

-- bounds of a subscript, and a multiplier of less than 2^32
abbrev pub IsStride : Stride → Type 0
IsStride s = IsBound s.low × IsBound s.high × (s.multiplier < word_limit)

-- what a procedure takes and gives
abbrev pub IsSignature : Signature → Type 0
IsSignature s =
    (length s.parameters ≤ parameter_limit) × AllByRecursion IsParameterType s.parameters
    × IfThere IsDescription s.result

-- what a unit names that is there for the whole program
abbrev pub IsGlobal : Global → Type 0
IsGlobal (OwnVariable kind v) = IsTemplate v
IsGlobal (ExternalVariable name kind v) = IsTemplate v
IsGlobal (EntryPoint name s) = IsSignature s

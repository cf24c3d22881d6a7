-- The attributes that stand beside a name, as a set (X3.74, the rule own). A set is the sum of its
-- attributes' numbers, each a power of 2.
use Rattle.std.specs.Prelude.{ℕ, ◌+◌, Bool, true, ◌==◌, ◌&&◌, List, [], ◌∷◌, Option, Some, None}
use Rattle.std.specs.Int.RustNames.{bit_and, bit_or}
use Rattle.std.specs.List.{list_any}
use Rattle.pli_base.specs.Declarations as tree

-- FIXED, a data attribute as the seven after it
abbrev pub fixed : ℕ
fixed = 1

-- BINARY
abbrev pub binary : ℕ
binary = 2

-- CHARACTER
abbrev pub character : ℕ
character = 4

-- VARYING
abbrev pub varying : ℕ
varying = 8

-- BIT
abbrev pub bit : ℕ
bit = 16

-- POINTER
abbrev pub pointer : ℕ
pointer = 32

-- OFFSET
abbrev pub offset : ℕ
offset = 64

-- AREA
abbrev pub area : ℕ
area = 128

-- AUTOMATIC, a storage class as the three after it
abbrev pub automatic : ℕ
automatic = 256

-- STATIC
abbrev pub static : ℕ
static = 512

-- BASED
abbrev pub based : ℕ
based = 1024

-- CONTROLLED
abbrev pub controlled : ℕ
controlled = 2048

-- INTERNAL, a scope as the one after it
abbrev pub internal : ℕ
internal = 4096

-- EXTERNAL
abbrev pub external : ℕ
external = 8192

-- INITIAL
abbrev pub initial : ℕ
initial = 16384

-- BUILTIN
abbrev pub built_in : ℕ
built_in = 32768

-- ENTRY
abbrev pub entry : ℕ
entry = 65536

-- RETURNS
abbrev pub returns : ℕ
returns = 131072

-- a precision, which counts as an attribute beside FIXED or BINARY
abbrev pub precision : ℕ
precision = 262144

-- those that say a type
abbrev pub data_attributes : ℕ
data_attributes = fixed + binary + character + varying + bit + pointer + offset + area

-- those that say a storage class
abbrev pub storage_attributes : ℕ
storage_attributes = automatic + static + based + controlled

-- those that say a scope
abbrev pub scope_attributes : ℕ
scope_attributes = internal + external

-- these attributes stand
abbrev pub has : ℕ → ℕ → Bool
has s attributes = bit_and s attributes == attributes

-- none of these attributes stands
abbrev pub none_of : ℕ → ℕ → Bool
none_of s attributes = bit_and s attributes == 0

-- no other than these stands
abbrev pub within : ℕ → ℕ → Bool
within s attributes = bit_and s attributes == s

-- it is one of these sets
abbrev pub is_one_of : ℕ → List ℕ → Bool
is_one_of s sets = list_any (λ other. other == s) sets

-- the number of an attribute: of FIXED and BINARY with that of a precision, if there is one
abbrev pub number_with : ℕ → Option ℕ → ℕ
number_with attribute None = attribute
number_with attribute (Some n) = attribute + precision

-- the sets of simple attributes
abbrev pub simple_kind : tree.SimpleAttribute → ℕ
simple_kind (tree.Fixed n) = number_with fixed n
simple_kind (tree.Binary n) = number_with binary n
simple_kind (tree.Character n) = character
simple_kind (tree.Bit n) = bit
simple_kind tree.Varying = varying
simple_kind tree.Pointer = pointer
simple_kind (tree.Offset name) = offset
simple_kind (tree.Area n) = area
simple_kind (tree.Based locator) = based
simple_kind tree.Controlled = controlled
simple_kind tree.Static = static
simple_kind tree.Automatic = automatic
simple_kind tree.External = external
simple_kind tree.Internal = internal
simple_kind tree.Builtin = built_in
simple_kind (tree.Initial values) = initial

-- the sets of attributes in a description
abbrev pub kind_of : tree.DescribedAttribute → ℕ
kind_of (tree.Plain a) = simple_kind a
kind_of tree.AnyEntry = entry
kind_of tree.AnyReturns = returns

-- an attribute of an item without what ENTRY or RETURNS holds in parentheses
abbrev pub outermost : tree.Attribute → tree.DescribedAttribute
outermost (tree.Simple a) = tree.Plain a
outermost (tree.Entry parameters) = tree.AnyEntry
outermost (tree.Returns attributes) = tree.AnyReturns

-- the set of these attributes and of those in s
abbrev pub set_with : ℕ → List tree.DescribedAttribute → ℕ
set_with s [] = s
set_with s (a ∷ attributes) = set_with (bit_or s (kind_of a)) attributes

-- each of these stands once, and none of them in s; a precision stands once too
abbrev pub each_once : ℕ → List tree.DescribedAttribute → Bool
each_once s [] = true
each_once s (a ∷ attributes) = none_of s (kind_of a) && each_once (bit_or s (kind_of a)) attributes

-- the set of all
abbrev pub set_of : List tree.DescribedAttribute → ℕ
set_of attributes = set_with 0 attributes

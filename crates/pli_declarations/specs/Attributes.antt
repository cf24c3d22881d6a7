-- The attributes that stand beside a name, as a set, and which agree (X3.74, the rule own).
use Rattle.std.specs.Prelude.{ℕ, ◌+◌, Bool, true, false, not, ◌==◌, ◌&&◌, ◌||◌, if◌then◌else◌, bit_and}
use Rattle.std.specs.Prelude.{bit_or, Option, None, is_none, List, [], ◌∷◌, ◌++◌, map}
use Rattle.std.specs.List.{list_any, fold}
use Rattle.pli_base.specs.Declarations.{DescribedAttribute, Plain, AnyEntry, AnyReturns}
use Rattle.pli_base.specs.Declarations.{Fixed, Binary, Character, Bit, Varying, Pointer, Offset, Area, Based}
use Rattle.pli_base.specs.Declarations.{Controlled, Static, Automatic, External, Internal, Builtin, Initial}
use Rattle.pli_declare.specs.declared.place.ItemPlace.{ItemPlace}
use Rattle.pli_declare.specs.declared.place.Position.{Position}
use Rattle.pli_declare.specs.declared.place.Position.TheVariants.{AtLevelOne, Member, Parameter}
use Rattle.pli_declare.specs.declared.place.Position.TheVariants.{Result}

-- sets

-- what a precision counts as: an attribute beside FIXED or BINARY
abbrev pub precision_kind : Option ℕ → ℕ
precision_kind n = if is_none n then 0 else 262144

-- the kind of an attribute, a power of 2, so that a sum of kinds is a set of them
abbrev pub kind_of : DescribedAttribute → ℕ
kind_of (Plain (Fixed n)) = 1 + precision_kind n
kind_of (Plain (Binary n)) = 2 + precision_kind n
kind_of (Plain (Character n)) = 4
kind_of (Plain Varying) = 8
kind_of (Plain (Bit n)) = 16
kind_of (Plain Pointer) = 32
kind_of (Plain (Offset area)) = 64
kind_of (Plain (Area n)) = 128
kind_of (Plain Automatic) = 256
kind_of (Plain Static) = 512
kind_of (Plain (Based locator)) = 1024
kind_of (Plain Controlled) = 2048
kind_of (Plain Internal) = 4096
kind_of (Plain External) = 8192
kind_of (Plain (Initial values)) = 16384
kind_of (Plain Builtin) = 32768
kind_of AnyEntry = 65536
kind_of AnyReturns = 131072

-- the set of these attributes
abbrev pub set_of : List DescribedAttribute → ℕ
set_of attributes = fold (λ s a. bit_or s (kind_of a)) 0 attributes

-- each of these stands once, and none of them in the set before; a precision stands once too
abbrev pub each_once : (before : ℕ) → List DescribedAttribute → Bool
each_once before [] = true
each_once before (a ∷ more) =
    bit_and before (kind_of a) == 0 && each_once (bit_or before (kind_of a)) more

-- an attribute of this kind stands
abbrev pub has : List DescribedAttribute → DescribedAttribute → Bool
has attributes a = bit_and (set_of attributes) (kind_of a) == kind_of a

-- none of these kinds stands
abbrev pub has_none : (attributes others : List DescribedAttribute) → Bool
has_none attributes others = bit_and (set_of attributes) (set_of others) == 0

-- what stands of a group is one of these sets
abbrev pub has_one_of : (attributes group : List DescribedAttribute) → List (List DescribedAttribute) → Bool
has_one_of attributes group sets =
    list_any (λ set. set_of set == bit_and (set_of attributes) (set_of group)) sets

-- at most one of a group stands
abbrev pub has_one_at_most : (attributes group : List DescribedAttribute) → Bool
has_one_at_most attributes group = has_one_of attributes group ([] ∷ map (λ a. a ∷ []) group)

-- which agree

-- those that say a type
abbrev pub data_attributes : List DescribedAttribute
data_attributes =
    map Plain (Fixed None ∷ Binary None ∷ Character None ∷ Varying ∷ Bit None ∷ Pointer ∷ Offset None
    ∷ Area None ∷ [])

-- those of one data type; of FIXED and BINARY one may be missing, and so may all, which are faults of their
-- own
abbrev pub data_types : List (List DescribedAttribute)
data_types =
    map (map Plain) ([] ∷ (Fixed None ∷ []) ∷ (Binary None ∷ []) ∷ (Fixed None ∷ Binary None ∷ [])
    ∷ (Character None ∷ []) ∷ (Character None ∷ Varying ∷ []) ∷ (Bit None ∷ []) ∷ (Pointer ∷ [])
    ∷ (Offset None ∷ []) ∷ (Area None ∷ []) ∷ [])

-- those that say a storage class
abbrev pub storage_attributes : List DescribedAttribute
storage_attributes = map Plain (Automatic ∷ Static ∷ Based None ∷ Controlled ∷ [])

-- those that say a scope
abbrev pub scope_attributes : List DescribedAttribute
scope_attributes = map Plain (Internal ∷ External ∷ [])

-- two positions are one
abbrev pub is_at : Position → Position → Bool
is_at AtLevelOne AtLevelOne = true
is_at Member Member = true
is_at Parameter Parameter = true
is_at Result Result = true
is_at position other = false

-- what may not stand there: storage and scope stand at level 1 only, parameters and results begin with no
-- value, and no function returns an area
abbrev pub excluded_at : Position → List DescribedAttribute
excluded_at AtLevelOne = []
excluded_at Member = storage_attributes ++ scope_attributes
excluded_at Parameter = storage_attributes ++ scope_attributes ++ map Plain (Initial [] ∷ [])
excluded_at Result = storage_attributes ++ scope_attributes ++ map Plain (Initial [] ∷ Area None ∷ [])

-- a `*` may stand in it: a parameter without members
abbrev pub may_be_open : ItemPlace → Bool
may_be_open p = is_at Parameter p.position && not p.has_members

-- no entry and no built-in function
abbrev pub is_variable : List DescribedAttribute → Bool
is_variable attributes = has_none attributes (AnyEntry ∷ Plain Builtin ∷ [])

-- ENTRY with RETURNS and EXTERNAL only, or BUILTIN alone on the name of a built-in function, at what is at
-- level 1 and neither an array nor a structure
abbrev pub agree_as_other : ItemPlace → (is_array : Bool) → List DescribedAttribute → Bool
agree_as_other p is_array attributes =
    (is_at AtLevelOne p.position && not p.has_members && not is_array)
    && (has attributes AnyEntry
    && bit_and (set_of attributes) (set_of (AnyEntry ∷ AnyReturns ∷ Plain External ∷ [])) == set_of attributes
    || p.built_in_name && set_of attributes == kind_of (Plain Builtin))

-- one data type, at most one storage class and one scope, EXTERNAL without AUTOMATIC and BASED, RETURNS
-- without ENTRY beside no data attribute and no members, what may stand at its place, and no data attribute
-- beside members, which parameters and results have not
abbrev pub agree_as_variable : ItemPlace → List DescribedAttribute → Bool
agree_as_variable p attributes =
    is_variable attributes
    && has_one_of attributes data_attributes data_types
    && has_one_at_most attributes storage_attributes
    && has_one_at_most attributes scope_attributes
    && (has_none attributes (Plain External ∷ [])
    || has_none attributes (map Plain (Automatic ∷ Based None ∷ [])))
    && (has_none attributes (AnyReturns ∷ []) || has_none attributes data_attributes && not p.has_members)
    && has_none attributes (excluded_at p.position)
    && (not p.has_members
    || (is_at AtLevelOne p.position || is_at Member p.position) && has_none attributes data_attributes)

-- an attribute is missing: RETURNS stands without ENTRY; or no data attribute or only one of FIXED and BINARY
-- stands where there are neither members nor ENTRY nor BUILTIN
abbrev pub is_missing : ItemPlace → List DescribedAttribute → Bool
is_missing p attributes =
    has attributes AnyReturns && has_none attributes (AnyEntry ∷ [])
    || not p.has_members && is_variable attributes
    && has_one_of attributes data_attributes ([] ∷ map (λ a. Plain a ∷ []) (Fixed None ∷ Binary None ∷ []))
